use Rattle.wasm_grammar.proofs.Passing.{last_is}
use Rattle.wasm_grammar.proofs.expressions.ends_all.Goals as goal

pub returns-in-End : goal.returns-in-End
returns-in-End c = rw c.in-End.is (last_is c.args.so_far.now.levels c.is_empty.result c.is_empty.ensures)
