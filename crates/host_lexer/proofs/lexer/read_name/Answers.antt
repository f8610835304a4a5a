use Rattle.std.proofs.Common.{◌∙◌, sym}
use Rattle.host_lexer.proofs.Named.{name_reads, word_reads}
use Rattle.host_lexer.proofs.lexer.read_name.Goals as goal

pub returns-in-Some-clause-found : goal.returns-in-Some-clause-found
returns-in-Some-clause-found c =
    rw (c.token.ensures.len, c.token.ensures.kind, c.token.ensures.line_end)
    (word_reads c.args.chars.now c.name_len-len.result c.in-Some.word c.name_len-len.ensures.len (c.in-Some.ensures ∙ c.as_str.ensures ∙ c.in_ok-name.ensures))

pub returns-clause-found : goal.returns-clause-found
returns-clause-found c =
    rw (c.token-2.ensures.len, c.token-2.ensures.kind, c.token-2.ensures.line_end, c.in_ok-name.ensures)
    (name_reads c.args.chars.now c.name_len-len.result c.requires c.name_len-len.ensures.len (λ w e. c.in_default.ensures w (e ∙ sym c.in_ok-name.ensures ∙ sym c.as_str.ensures)))
