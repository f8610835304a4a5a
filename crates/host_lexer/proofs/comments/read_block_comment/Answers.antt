use Rattle.host_lexer.proofs.Commented.{no_block, block_reads, block_separator}
use Rattle.host_lexer.proofs.comments.read_block_comment.Goals as goal

pub returns-in_default-clause-refused : goal.returns-in_default-clause-refused
returns-in_default-clause-refused c = no_block c.args.chars.now c.requires c.in_default.ensures

pub returns-then-before-len-clause-refused : goal.returns-then-before-len-clause-refused
returns-then-before-len-clause-refused c =
    block_separator c.args.chars.now c.in-Some.len c.clean_len-before.result c.requires c.in-Some.ensures c.clean_len-before.ensures.len c.if-before-len.true

pub returns-clause-found : goal.returns-clause-found
returns-clause-found c =
    rw (c.blank.ensures.len, c.blank.ensures.kind, c.blank.ensures.line_end)
    (block_reads c.args.chars.now c.in-Some.len c.clean_len-before.result c.has_line_end.result c.requires c.in-Some.ensures c.clean_len-before.ensures.len c.if-before-len.false
    c.has_line_end.ensures)
