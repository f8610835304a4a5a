use Rattle.host_grammar.proofs.Closing.{expr_of_then}
use Rattle.host_grammar.proofs.laws.expressions_close.Goals as goal

pub returns : goal.returns
returns c = expr_of_then
