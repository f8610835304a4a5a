-- A run has one outcome.
use Rattle.std.proofs.Common.{◌≡◌, List, refl, sym, ap, ◌∙◌, subst, Option, Some, None}
use Rattle.embed_run.specs.declared.end.End.{End}
use Rattle.embed_run.specs.Configurations.{Program, Configuration}
use Rattle.embed_run.specs.Rules.{next_of, next}
use Rattle.embed_run.specs.Outcomes.{Leads, here, onward, Outcome, OneOutcome, EndsStay}

pub ends_stay : EndsStay
ends_stay p c e h = ap (next_of p c) h

-- from an end nothing else is reached
stays_put : (p : Program) (c x f : Configuration) (e : End) → Leads p x f → x ≡ c → c.ended ≡ Some e → f ≡ c
stays_put p c x f e (here q y) i h = i
stays_put p c x f e (onward q y z l) i h = stays_put p c (next p x) f e l (ap (next p) i ∙ ends_stay p c e h) h

same_last : (p : Program) (c d f : Configuration) (e g : End) → Leads p c d → Leads p c f → d.ended ≡ Some e → f.ended ≡ Some g → d ≡ f
same_last p c d f e g (here q y) l h k = sym (stays_put p c c f e l refl h)
same_last p c d f e g (onward q y z l) (here r w) h k = stays_put p c (next p c) d g l (ends_stay p c g k) k
same_last p c d f e g (onward q y z l) (onward r w v m) h k = same_last p (next p c) d f e g l m h k

same_end : (e f : End) → Some e ≡ Some f → e ≡ f
same_end e f h = cc

pub one_outcome : OneOutcome
one_outcome p c ls ms e f a b =
    let same = same_last p c a.last b.last e f a.leads b.leads a.ended b.ended in
    (sym a.lines_are ∙ ap (λ (x : Configuration). x.lines) same ∙ b.lines_are, same_end e f (sym a.ended ∙ ap (λ (x : Configuration). x.ended) same ∙ b.ended))
