use Rattle.std.proofs.Common.{arith}
use Rattle.host_lexer.proofs.Numbered.{too_great, digits_more, value_step}
use Rattle.host_lexer.proofs.numbers.digits_value.Goals as goal

pub returns-in_err-value-clause-value : goal.returns-in_err-value-clause-value
returns-in_err-value-clause-value c =
    rw c.from_residual-in_err-value.ensures
    (too_great c.args.radix c.args.greatest c.args.digits.now c.loop-c.c-index c.loop-c.value c.c-item.result c.in_ok-digit.digit c.requires.low c.loop-c-test.true
    c.loop-c.invariant.so_far c.c-item.is c.in_ok-digit.ensures.value.1 (let h = c.ranges.greatest.fits in omega (arith, h, c.in_err-value.ensures)))

pub returns-then-value-greatest-clause-value : goal.returns-then-value-greatest-clause-value
returns-then-value-greatest-clause-value c =
    too_great c.args.radix c.args.greatest c.args.digits.now c.loop-c.c-index c.loop-c.value c.c-item.result c.in_ok-digit.digit c.requires.low c.loop-c-test.true
    c.loop-c.invariant.so_far c.c-item.is c.in_ok-digit.ensures.value.1 (omega (arith, c.in_ok-value.ensures, c.if-value-greatest.true))

pub loop-c-preserved : goal.loop-c-preserved
loop-c-preserved c = record {
  so_far = value_step c.args.radix c.args.digits.now c.loop-c.c-index c.loop-c.value c.c-item.result c.in_ok-digit.digit c.in_ok-value.value c.loop-c-test.true
      c.loop-c.invariant.so_far c.c-item.is c.in_ok-digit.ensures.value.1 c.in_ok-value.ensures;
  are_digits = digits_more c.args.radix c.args.digits.now c.loop-c.c-index c.c-item.result c.loop-c-test.true c.loop-c.invariant.are_digits c.c-item.is c.in_ok-digit.ensures.value.0;
  small = c.if-value-greatest.false;
}
