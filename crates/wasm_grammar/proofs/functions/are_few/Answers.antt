use Rattle.wasm_grammar.proofs.Joining.{few_at_end}
use Rattle.wasm_grammar.proofs.functions.are_few.Goals as goal

pub returns : goal.returns
returns c = few_at_end c.args.runs.now c.loop-count.count-index c.loop-count.sum c.loop-count.invariant.small c.loop-count-test.false c.loop-count.invariant.counted
