use Rattle.host_grammar.proofs.One.{one_reading}
use Rattle.host_grammar.proofs.laws.readings_are_one.Goals as goal

pub returns : goal.returns
returns c = one_reading
