use Rattle.host_builtins.proofs.Pushing.{pushing_appends}
use Rattle.host_builtins.proofs.laws.pushing.Goals as goal

pub returns : goal.returns
returns c = pushing_appends
