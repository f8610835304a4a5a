use Rattle.host_lexer.proofs.Numbered.{as_decimal, zero_numeral, zero_goes_on}
use Rattle.host_lexer.proofs.numbers.numeral_value.Goals as goal

pub returns-then-chars-ne48 : goal.returns-then-chars-ne48
returns-then-chars-ne48 c =
    as_decimal c.args.chars.now c.args.greatest c.index-chars-0.result c.digits_value.result c.requires c.index-chars-0.is c.if-chars-ne48.true c.digits_value.ensures.value
    c.digits_value.ensures.some

pub returns-then-chars-eq1 : goal.returns-then-chars-eq1
returns-then-chars-eq1 c = zero_numeral c.args.chars.now c.args.greatest c.index-chars-0.result c.if-chars-eq1.true c.index-chars-0.is c.if-chars-ne48.false

pub after_zero-requires : goal.after_zero-requires
after_zero-requires c = zero_goes_on c.args.chars.now c.index-chars-0.result c.requires c.index-chars-0.is c.if-chars-ne48.false c.if-chars-eq1.false
