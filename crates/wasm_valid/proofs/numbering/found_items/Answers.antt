use Rattle.wasm_valid.proofs.NumberLaws.{then_unfound, last_taken}
use Rattle.wasm_valid.proofs.numbering.found_items.Goals as goal

pub returns-in-None : goal.returns-in-None
returns-in-None c =
    then_unfound c.args.«module».now c.args.from _ c.loop-at.left _ _ _ c.loop-at.invariant.leaves
    (last_taken c.args.ids.now c.loop-at.at _ c.loop-at-test.true c.loop-at.invariant.within)
    (rw c.in-None.is at c.in_ok-fewer.ensures)
