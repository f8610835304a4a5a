use Rattle.std.proofs.Common.{arith, length}
use Rattle.wasm_syntax.specs.declared.types.ValType.TheVariants.{I32}
use Rattle.wasm_valid.specs.Typing.{most_locals}
use Rattle.wasm_valid.proofs.LocalLaws.{overrun, count_more, ends_more}
use Rattle.wasm_valid.proofs.locals.Locals.new.Goals as goal

pub returns-then-run-end-clause-few : goal.returns-then-run-end-clause-few
unfolding most_locals
returns-then-run-end-clause-few c =
    overrun c.args.params.now c.args.runs.now c.loop-run.run-index _ c.loop-run.end 50000 c.loop-run-test.true
    c.loop-run.invariant.count c.if-run-end.true

pub loop-run-preserved : goal.loop-run-preserved
loop-run-preserved c = record {
  ends = cc (
    c.in_ok-push.ensures.items,
    c.loop-run.invariant.ends,
    ends_more (length c.args.params.now) c.args.runs.now c.loop-run.run-index (0, I32) c.loop-run.end c.loop-run-test.true c.loop-run.invariant.count,
  );
  count = omega (arith, c.loop-run.invariant.count, count_more c.args.runs.now c.loop-run.run-index (0, I32) c.loop-run-test.true);
  few = omega (arith, c.loop-run.invariant.few, c.if-run-end.false);
}
