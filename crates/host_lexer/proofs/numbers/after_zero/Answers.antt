use Rattle.host_lexer.proofs.Numbered.{as_hexadecimal}
use Rattle.host_lexer.proofs.numbers.after_zero.Goals as goal

pub returns : goal.returns
returns c =
    as_hexadecimal c.args.chars.now c.args.greatest c.index-chars-1.result c.digits_value.result c.requires c.index-chars-1.is c.if-chars-ne120.false
    c.if-chars-eq2.false c.digits_value.ensures.value c.digits_value.ensures.some
