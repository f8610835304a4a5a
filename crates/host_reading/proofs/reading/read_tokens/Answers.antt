use Rattle.std.proofs.Common.{ap, subst, refl, Err}
use Rattle.host_parser.specs.Parsing.{IsAnswer}
use Rattle.host_grammar.specs.Refusals.{tree, unexpected, too_deep}
use Rattle.host_reading.specs.declared.reading.Read.TheVariants as answers
use Rattle.host_reading.proofs.Told.{told_twice}
use Rattle.host_reading.proofs.reading.read_tokens.Goals as goal

pub returns-in-Ok-clause-told : goal.returns-in-Ok-clause-told
returns-in-Ok-clause-told c = let h = c.in-Ok.ensures.told in (tree h.0, h.1, ap (λ t. answers.Script t) h.2)

pub returns-in-Err-Unexpected-clause-told : goal.returns-in-Err-Unexpected-clause-told
returns-in-Err-Unexpected-clause-told c =
    (unexpected c.in-Err-Unexpected.place, subst (λ e. IsAnswer c.args.found.now c.args.len (Err e)) c.in-Err-Unexpected.field-0-is c.in-Err-Unexpected.ensures.told, refl)

pub returns-in-Err-TooDeep-clause-told : goal.returns-in-Err-TooDeep-clause-told
returns-in-Err-TooDeep-clause-told c =
    (too_deep c.in-Err-TooDeep.place, subst (λ e. IsAnswer c.args.found.now c.args.len (Err e)) c.in-Err-TooDeep.field-0-is c.in-Err-TooDeep.ensures.told, refl)

pub returns-in-Err-Early-clause-told : goal.returns-in-Err-Early-clause-told
returns-in-Err-Early-clause-told c =
    told_twice c.args.found.now c.args.len c.in-Err-Early.place c.in-Err-Early.name c.as_str.result.now c.declared_twice.result
    (subst (λ e. IsAnswer c.args.found.now c.args.len (Err e)) c.in-Err-Early.field-0-is c.in-Err-Early.ensures.told) c.as_str.ensures c.declared_twice.ensures
