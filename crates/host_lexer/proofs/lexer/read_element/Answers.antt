use Rattle.std.proofs.Common.{◌∙◌, sym}
use Rattle.host_lexer.proofs.Named.{space_reads, line_end_reads}
use Rattle.host_lexer.proofs.lexer.read_element.Goals as goal

pub returns-then-is_space-clause-found : goal.returns-then-is_space-clause-found
returns-then-is_space-clause-found c =
    rw (c.blank.ensures.len, c.blank.ensures.kind, c.blank.ensures.line_end)
    (space_reads c.args.chars.now c.index-chars-0.result c.requires c.index-chars-0.is (sym c.is_space.ensures ∙ c.if-is_space.true))

pub returns-then-is_line_end-clause-found : goal.returns-then-is_line_end-clause-found
returns-then-is_line_end-clause-found c =
    rw (c.blank-then-is_line_end.ensures.len, c.blank-then-is_line_end.ensures.kind, c.blank-then-is_line_end.ensures.line_end)
    (line_end_reads c.args.chars.now c.index-chars-0.result c.requires c.index-chars-0.is (sym c.is_line_end.ensures ∙ c.if-is_line_end.true))
