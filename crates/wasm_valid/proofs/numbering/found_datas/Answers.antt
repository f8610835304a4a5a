use Rattle.std.proofs.Common.{arith}
use Rattle.wasm_syntax.specs.declared.module.Data.{Data}
use Rattle.wasm_syntax.specs.Numbering.{offset_of}
use Rattle.wasm_valid.proofs.NumberLaws.{then_found, then_unfound, last_parts}
use Rattle.wasm_valid.proofs.numbering.found_datas.Goals as goal

pub loop-at-preserved : goal.loop-at-preserved
loop-at-preserved c = record {
  leaves =
      then_found c.args.«module».now c.args.from _ c.loop-at.left _ _ _ _ c.loop-at.invariant.leaves
      (last_parts (λ (segment : Data). offset_of segment.mode) c.args.datas.now c.loop-at.at _ c.loop-at-test.true c.loop-at.invariant.within)
      (rw c.in-Some.is at c.in_ok-fewer.ensures);
  within = omega (arith, c.loop-at.invariant.within);
}

pub returns-in-None : goal.returns-in-None
returns-in-None c =
    then_unfound c.args.«module».now c.args.from _ c.loop-at.left _ _ _ c.loop-at.invariant.leaves
    (last_parts (λ (segment : Data). offset_of segment.mode) c.args.datas.now c.loop-at.at _ c.loop-at-test.true c.loop-at.invariant.within)
    (rw c.in-None.is at c.in_ok-fewer.ensures)
