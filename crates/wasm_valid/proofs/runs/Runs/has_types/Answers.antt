use Rattle.std.proofs.Common.{◌∙◌, sym, arith}
use Rattle.wasm_syntax.specs.declared.types.ValType.TheVariants.{I32}
use Rattle.wasm_valid.proofs.RunLaws.{no_more, one_less, one_shorter}
use Rattle.wasm_valid.proofs.runs.Runs.has_types.Goals as goal

pub returns-then-at-base : goal.returns-then-at-base
returns-then-at-base c =
    sym (c.loop-left.invariant.left ∙ no_more _ _ I32 _ _ _ _ c.loop-left-test.true c.loop-left.invariant.within c.loop-left.invariant.at c.if-at-base.true)

pub loop-left-preserved : goal.loop-left-preserved
loop-left-preserved c = record {
  left = c.loop-left.invariant.left
      ∙ one_less _ _ _ _ _ _ _ _ _ _ c.loop-left-test.true c.loop-left.invariant.within c.next-operand.ensures c.loop-left.invariant.at c.if-at-base.false
      (sym c.type_fits.ensures ∙ c.if-not-type_fits.false);
  within = omega arith;
  at = one_shorter _ _ _ _ c.next-operand.ensures c.loop-left.invariant.at;
}
