use Rattle.small_lexer.proofs.Numbers.{value_of_front, value_of_more}
use Rattle.std.proofs.Common.{arith, ◌+◌}
use Rattle.small_lexer.proofs.number.number_value.Goals as goal

-- src/number.rt:41:13
pub returns-then-value-gt-GREATEST_NUMBER-clause-value :
    goal.returns-then-value-gt-GREATEST_NUMBER-clause-value
returns-then-value-gt-GREATEST_NUMBER-clause-value c = λ (h, small).
    let more = value_of_more c.args.digits.now c.loop-digit.digit-index c.loop-digit-test.true in
    let front = value_of_front c.args.digits.now (c.loop-digit.digit-index + 1) in
    omega (arith, more, front, small)
