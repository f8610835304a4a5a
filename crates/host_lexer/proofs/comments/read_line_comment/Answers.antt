use Rattle.host_lexer.proofs.Commented.{line_reads}
use Rattle.host_lexer.proofs.comments.read_line_comment.Goals as goal

pub returns : goal.returns
returns c = rw (c.blank.ensures.len, c.blank.ensures.kind, c.blank.ensures.line_end) (line_reads c.args.chars.now c.comment_len.result c.requires c.comment_len.ensures.len)
