use Rattle.host_values.proofs.LawLemmas.{added_is_fresh, adding_keeps_objects}
use Rattle.host_values.proofs.laws.adding.Goals as goal

pub returns-clause-fresh : goal.returns-clause-fresh
returns-clause-fresh c = added_is_fresh

pub returns-clause-keeps_objects : goal.returns-clause-keeps_objects
returns-clause-keeps_objects c = adding_keeps_objects
