use Rattle.wasm_syntax.specs.declared.module.Func.{Func}
use Rattle.wasm_valid.proofs.NumberLaws.{then_unfound, last_mapped}
use Rattle.wasm_valid.proofs.numbering.found_funcs.Goals as goal

pub returns-in-None : goal.returns-in-None
returns-in-None c =
    then_unfound c.args.«module».now c.args.from _ c.loop-at.left _ _ _ c.loop-at.invariant.leaves
    (last_mapped (λ (f : Func). f.body) c.args.funcs.now c.loop-at.at _ c.loop-at-test.true c.loop-at.invariant.within)
    (rw c.in-None.is at c.in_ok-fewer.ensures)
