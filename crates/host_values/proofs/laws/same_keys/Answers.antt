use Rattle.host_values.specs.SameKeys.{same_key-equal}
use Rattle.host_values.proofs.laws.same_keys.Goals as goal

pub returns : goal.returns
returns c = same_key-equal
