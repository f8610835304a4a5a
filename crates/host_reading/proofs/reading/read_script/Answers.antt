use Rattle.std.proofs.Common.{◌∙◌, ap}
use Rattle.host_reading.specs.declared.reading.Read.TheVariants as answers
use Rattle.host_reading.specs.declared.refusal.Refusal.TheVariants as reasons
use Rattle.host_reading.proofs.Told.{script_only, refused_only}
use Rattle.host_reading.proofs.reading.read_script.Goals as goal

pub returns-in-Ok-clause-only : goal.returns-in-Ok-clause-only
returns-in-Ok-clause-only c =
    script_only c.args.bytes.now c.in-Ok.text.now c.read_text.result c.in-Ok.ensures.cases.0 c.in-Ok.ensures.cases.1 c.read_text.ensures.only

pub returns-in-Err-clause-only : goal.returns-in-Err-clause-only
returns-in-Err-clause-only c = λ a h.
    ap (λ p. answers.Refused (reasons.NotUtf8 p)) c.valid_up_to.ensures ∙ refused_only c.args.bytes.now _ c.in-Err.ensures.cases.1 a h
