use Rattle.std.proofs.Common.{sym, ◌∙◌, arith, length}
use Rattle.small_lexer.proofs.Fronts.{digits}
use Rattle.small_lexer.proofs.Numbers.{above_zero, decimal}
use Rattle.small_lexer.proofs.number.is_decimal.Goals as goal
use Rattle.small_lexer.proofs.number.is_decimal.Goals.{else-digits-gt1-via-then-digits-gt1+else-digits-eq48, else-digits-gt1-via-else-digits-gt1}

pub returns : goal.returns
returns c = (
  λ h. decimal c.args.digits.now (above_zero (length c.args.digits.now) (sym c.is_empty.ensures ∙ c.if-is_empty.false)) (elim c.else-digits-gt1.branch [ else-digits-gt1-via-then-digits-gt1+else-digits-eq48 w ↦ λ _. w.if-digits-eq48.false | else-digits-gt1-via-else-digits-gt1 w ↦ λ more _. omega arith ]) (c.are_digits.ensures.0 h),
  λ h. c.are_digits.ensures.1 (digits c.args.digits.now h),
)
