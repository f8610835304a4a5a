use Rattle.std.proofs.Common.{◌≡◌, ◌∙◌, ap, subst, Err, IfSome}
use Rattle.host_lexer.specs.Tokens as lexed
use Rattle.host_lexer.specs.Tokens.{Reading, IsRead, told}
use Rattle.host_reading.specs.declared.reading.Read.TheVariants as answers
use Rattle.host_reading.specs.declared.refusal.Refusal.TheVariants as reasons
use Rattle.host_reading.proofs.Told.{text_only, bad_only, outside_only}
use Rattle.host_reading.proofs.reading.read_text.Goals as goal

pub returns-in-Ok-clause-only : goal.returns-in-Ok-clause-only
returns-in-Ok-clause-only c =
    text_only c.args.text.now (lexed.tokens c.as_slice.result.now) c.read_tokens.result (λ other h. ap (λ ts. lexed.tokens ts) c.as_slice.ensures.value ∙ c.in-Ok.ensures.only other h)
    c.read_tokens.ensures.only

pub returns-in-Err-BadToken-clause-only : goal.returns-in-Err-BadToken-clause-only
returns-in-Err-BadToken-clause-only c = λ a h.
    ap (λ p. answers.Refused (reasons.BadToken p)) c.in-Err-BadToken.place-is
    ∙ bad_only c.args.text.now c.in-Err-BadToken.place
    (subst (λ e. (other : Reading) → IsRead c.args.text.now other → IfSome (told (Err e)) (λ r. r ≡ other)) c.in-Err-BadToken.field-0-is c.in-Err-BadToken.ensures.only) a h

pub returns-in-Err-NumberOutside-clause-only : goal.returns-in-Err-NumberOutside-clause-only
returns-in-Err-NumberOutside-clause-only c = λ a h.
    ap (λ p. answers.Refused (reasons.NumberOutside p)) c.in-Err-NumberOutside.place-is
    ∙ outside_only c.args.text.now c.in-Err-NumberOutside.place
    (subst (λ e. (other : Reading) → IsRead c.args.text.now other → IfSome (told (Err e)) (λ r. r ≡ other)) c.in-Err-NumberOutside.field-0-is c.in-Err-NumberOutside.ensures.only) a h
