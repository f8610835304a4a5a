use Rattle.std.proofs.Common.{◌∙◌, sym}
use Rattle.host_lexer.proofs.Quoted.{plain_piece}
use Rattle.host_lexer.proofs.texts.read_piece.Goals as goal

pub returns : goal.returns
returns c = λ q n. plain_piece q c.args.chars.now c.index-chars-0.result c.requires c.index-chars-0.is c.if-first-eq92.false (sym c.is_line_end.ensures ∙ c.if-is_line_end.false) n
