use Rattle.host_lexer.proofs.Quoted.{letter_piece}
use Rattle.host_lexer.proofs.texts.short.Goals as goal

pub returns : goal.returns
returns c = λ q. letter_piece q c.args.chars.now c.index-chars-1.result c.in-Some.code c.requires.begins c.index-chars-1.is c.in-Some.ensures.0 c.in-Some.ensures.1
