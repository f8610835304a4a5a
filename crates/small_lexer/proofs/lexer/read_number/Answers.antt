use Rattle.std.proofs.Common.{ap, subst, ◌∙◌}
use Rattle.small_lexer.specs.Tokens.{number, is_number_part, IsElement, value_of}
use Rattle.small_lexer.proofs.Classes.{part_is, len_is, number_reads, no_number}
use Rattle.small_lexer.proofs.lexer.read_number.Goals as goal

pub returns-in_default-clause-refused : goal.returns-in_default-clause-refused
returns-in_default-clause-refused c =
    no_number c.args.text.now c.args.from c.requires.within c.requires.starts
    (subst (λ ds. IsElement (number ds) → ⊥) (part_is c.args.text.now c.args.from c.number_len.result is_number_part (rw c.as_bytes-bytes.ensures.value at c.number_len.ensures.len)) (rw c.as_bytes-bytes.ensures.value at c.in_default.ensures.value))

pub returns-clause-found : goal.returns-clause-found
returns-clause-found c =
    let digits = part_is c.args.text.now c.args.from c.number_len.result is_number_part (rw c.as_bytes-bytes.ensures.value at c.number_len.ensures.len) in
    number_reads c.args.text.now c.args.from c.number_len.result c.in-Some.value c.requires.within
    (len_is c.args.text.now c.args.from c.number_len.result is_number_part (rw c.as_bytes-bytes.ensures.value at c.number_len.ensures.len))
    (rw c.as_bytes-bytes.ensures.value at c.in-Some.ensures.value ∙ ap value_of digits)
    (subst (λ ds. IsElement (number ds)) digits (rw c.as_bytes-bytes.ensures.value at c.in-Some.ensures.some))
