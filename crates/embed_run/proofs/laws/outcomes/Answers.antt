use Rattle.embed_run.proofs.Once.{one_outcome, ends_stay}
use Rattle.embed_run.proofs.laws.outcomes.Goals as goal

pub returns-clause-one : goal.returns-clause-one
returns-clause-one c = one_outcome

pub returns-clause-stay : goal.returns-clause-stay
returns-clause-stay c = ends_stay
