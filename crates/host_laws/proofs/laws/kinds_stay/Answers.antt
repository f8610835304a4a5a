use Rattle.host_laws.proofs.KeptKinds.{kinds_stay, new_kinds_are_own}
use Rattle.host_laws.proofs.laws.kinds_stay.Goals as goal

pub returns-clause-stay : goal.returns-clause-stay
returns-clause-stay c = kinds_stay c.writing.ensures.keeps_kinds

pub returns-clause-own : goal.returns-clause-own
returns-clause-own c = new_kinds_are_own c.writing.ensures.keeps_kinds
