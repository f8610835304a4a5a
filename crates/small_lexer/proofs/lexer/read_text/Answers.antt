use Rattle.std.proofs.Common.{◌+◌, ◌∙◌}
use Rattle.small_lexer.specs.Tokens.{is_text_part}
use Rattle.small_lexer.proofs.Classes.{part_is, len_is, text_reads, text_open, text_bad}
use Rattle.small_lexer.proofs.lexer.read_text.Goals as goal

pub returns-then-end-bytes-clause-refused : goal.returns-then-end-bytes-clause-refused
returns-then-end-bytes-clause-refused c =
    text_open c.args.text.now c.args.from c.text_len.result c.requires.within c.requires.starts
    (len_is c.args.text.now (c.args.from + 1) c.text_len.result is_text_part (rw c.as_bytes-bytes.ensures.value at c.text_len.ensures.len))
    (rw c.as_bytes-bytes.ensures.value at c.if-end-bytes.true)

pub returns-then-bytes-end-ne34-clause-refused : goal.returns-then-bytes-end-ne34-clause-refused
returns-then-bytes-end-ne34-clause-refused c =
    text_bad c.args.text.now c.args.from c.text_len.result c.requires.within c.requires.starts
    (len_is c.args.text.now (c.args.from + 1) c.text_len.result is_text_part (rw c.as_bytes-bytes.ensures.value at c.text_len.ensures.len))
    (rw c.as_bytes-bytes.ensures.value at c.if-end-bytes.false)
    (rw c.as_bytes-bytes.ensures.value at c.if-bytes-end-ne34.true)

pub returns-clause-found : goal.returns-clause-found
returns-clause-found c =
    text_reads c.args.text.now c.args.from c.text_len.result c.in_ok-inside.inside c.requires.within c.requires.starts
    (len_is c.args.text.now (c.args.from + 1) c.text_len.result is_text_part (rw c.as_bytes-bytes.ensures.value at c.text_len.ensures.len))
    (rw c.as_bytes-bytes.ensures.value at c.if-end-bytes.false)
    (rw c.as_bytes-bytes.ensures.value at c.if-bytes-end-ne34.false)
    (c.in_ok-inside.ensures ∙ (c.range.ensures.value ∙ part_is c.args.text.now (c.args.from + 1) c.text_len.result is_text_part (rw c.as_bytes-bytes.ensures.value at c.text_len.ensures.len)))
