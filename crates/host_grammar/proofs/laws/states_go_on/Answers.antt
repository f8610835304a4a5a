use Rattle.std.specs.Prelude.{refl}
use Rattle.host_grammar.proofs.Main.{reached_begins, begins_reached, run_next}
use Rattle.host_grammar.proofs.laws.states_go_on.Goals as goal

pub returns-clause-viable : goal.returns-clause-viable
returns-clause-viable c = reached_begins

pub returns-clause-reached : goal.returns-clause-reached
returns-clause-reached c = begins_reached

pub returns-clause-next : goal.returns-clause-next
returns-clause-next c = λ ts k s t h g. run_next ts k s t _ h g refl
