use Rattle.std.proofs.Common.{sym, ap, subst, ◌∙◌, get_or}
use Rattle.std.proofs.lemmas.Result.{err_from_is_err_and}
use Rattle.small_lexer.specs.Steps.{NoElement}
use Rattle.small_lexer.specs.Tokens.{name, is_name_part, IsIdentifier, IsElement, kind_of_name}
use Rattle.small_lexer.proofs.Fronts.{part_from_start}
use Rattle.small_lexer.proofs.Classes.{part_is, len_is, part_ascii, cut_after, name_identifier, name_reads, no_name, on_not_yet}
use Rattle.small_lexer.proofs.lexer.read_name.Goals as goal

pub range-requires-clause-end_boundary : goal.range-requires-clause-end_boundary
range-requires-clause-end_boundary c =
    cut_after is_name_part part_ascii c.args.text.now c.args.from c.name_len.result c.utf8.text c.requires.within (part_from_start (get_or c.args.text.now c.args.from 0) c.requires.starts)
    (len_is c.args.text.now c.args.from c.name_len.result is_name_part (rw c.as_bytes.ensures.value at c.name_len.ensures.len))

pub name_kind-requires : goal.name_kind-requires
name_kind-requires c =
    subst IsIdentifier (sym (c.range.ensures.value ∙ part_is c.args.text.now c.args.from c.name_len.result is_name_part (rw c.as_bytes.ensures.value at c.name_len.ensures.len)))
    (name_identifier c.args.text.now c.args.from c.requires.within c.requires.starts)

pub returns-in_err-kind-clause-refused : goal.returns-in_err-kind-clause-refused
returns-in_err-kind-clause-refused c =
    let p = err_from_is_err_and c.from_residual.result c.from_residual.ensures.1 in
    let word = c.range.ensures.value ∙ part_is c.args.text.now c.args.from c.name_len.result is_name_part (rw c.as_bytes.ensures.value at c.name_len.ensures.len) in
    rw (p.1, p.2) (on_not_yet c.in_err-kind.field-0.0 (IsElement (name c.range.result.now) → ⊥) (NoElement c.args.text.now c.args.from)
    (λ n. no_name c.args.text.now c.args.from c.requires.within c.requires.starts (subst (λ w. IsElement (name w) → ⊥) word n))
    c.in_err-kind.ensures.err)

pub returns-clause-found : goal.returns-clause-found
returns-clause-found c =
    let word = c.range.ensures.value ∙ part_is c.args.text.now c.args.from c.name_len.result is_name_part (rw c.as_bytes.ensures.value at c.name_len.ensures.len) in
    name_reads c.args.text.now c.args.from c.name_len.result c.in_ok-kind.kind c.requires.within
    (len_is c.args.text.now c.args.from c.name_len.result is_name_part (rw c.as_bytes.ensures.value at c.name_len.ensures.len))
    (c.in_ok-kind.ensures.kind ∙ ap kind_of_name word)
    (subst (λ w. IsElement (name w)) word c.in_ok-kind.ensures.ok)
