use Rattle.std.proofs.Common.{◌∙◌, sym}
use Rattle.host_lexer.proofs.Marked.{mark_reads_at, no_mark_at}
use Rattle.host_lexer.proofs.lexer.read_mark.Goals as goal

pub returns-in_default-clause-refused : goal.returns-in_default-clause-refused
returns-in_default-clause-refused c =
    no_mark_at c.args.chars.now c.index-chars-0.result c.char_or_null.result c.char_or_null-2.result c.requires.some c.requires.other c.index-chars-0.is c.char_or_null.ensures
    c.char_or_null-2.ensures (sym c.in_default.is ∙ c.mark_of.ensures.value)

pub returns-clause-found : goal.returns-clause-found
returns-clause-found c =
    rw (c.token.ensures.len, c.token.ensures.kind, c.token.ensures.line_end)
    (mark_reads_at c.args.chars.now c.in-Some.mark c.mark_len.result c.index-chars-0.result c.char_or_null.result c.char_or_null-2.result c.requires.some c.requires.other
    c.index-chars-0.is c.char_or_null.ensures c.char_or_null-2.ensures c.in-Some.ensures.spelt c.mark_len.ensures)
