use Rattle.host_laws.proofs.Changing.{steps_change}
use Rattle.host_laws.proofs.laws.steps_change.Goals as goal

pub returns : goal.returns
returns c = steps_change
