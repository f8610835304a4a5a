use Rattle.host_lexer.proofs.Numbered.{no_big_int, is_big_int}
use Rattle.host_lexer.proofs.numbers.big_int.Goals as goal

pub returns-in_default : goal.returns-in_default
returns-in_default c = no_big_int c.args.chars.now c.requires c.in_default.ensures

pub returns : goal.returns
returns c = is_big_int c.args.chars.now c.in-Some.value c.requires c.in-Some.ensures
