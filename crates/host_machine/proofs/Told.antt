-- What a result becomes for the item that waits innermost is one rewriting of the whole term.
use Rattle.std.proofs.Common.{◌≡◌, ◌∷◌, Some, sym, ap, subst, inl, inr, ◌∙◌, IfOk, Result, Ok, Err}
use Rattle.host_parser.specs.Trees.{Tree}
use Rattle.host_values.specs.Objects.{HostHeap}
use Rattle.host_machine.specs.declared.completion.Completion.TheVariants as completions
use Rattle.host_machine.specs.declared.effect.HostEffect.{HostEffect}
use Rattle.host_machine.specs.declared.effect.HostEffect.TheVariants as effects
use Rattle.host_machine.specs.declared.focus.Focus.{Focus}
use Rattle.host_machine.specs.declared.focus.Focus.TheVariants as focus
use Rattle.host_machine.specs.declared.item.Item.{Item}
use Rattle.host_machine.specs.Terms.{HostTerm, at, round, close_items, Frame, State, Rewritten, now, state_of, term_of}
use Rattle.host_machine.specs.Rewriting.{Does, rewrites, gives_value, refers_to, ends, leaves, hole, does, rewrite, charge_of}
use Rattle.host_machine.specs.Frames.{Told, Makes, Later, here, freely, end_of}
use Rattle.host_machine.specs.Moves.{Moved, set_to}
use Rattle.host_machine.proofs.Terms.{moved}

-- a rewriting of a term within the items of a frame
pub told : (s : Tree) (st : State) (t : HostTerm) (r : Rewritten) (old : Frame) (e : HostEffect) (h : HostHeap) (new : Frame) → rewrite s st t ≡ does r → Moved r old e h new
    → Told s st (close_items old.items t) e (state_of h new) (term_of new)
told s st t r old e h new step m = inl (moved s st t r old e h new step m)

-- the same of what a function answers, where an item was taken off
pub in_item_told : {E : Type 0} (x : Result HostEffect E) (s : Tree) (h g : HostHeap) (i : Item) (f : Focus) (r : State → Rewritten) (old mid new : Frame)
    → old ≡ record { items = i ∷ mid.items; focus = mid.focus; locals = mid.locals }
    → rewrite s (state_of h mid) (round i (at f)) ≡ does (r (state_of h mid))
    → IfOk x (λ e. Moved (r (state_of h mid)) mid e g new)
    → IfOk x (λ e. Told s (state_of h old) (close_items old.items (at f)) e (state_of g new) (term_of new))
in_item_told (Ok e) s h g i f r old mid new is step m =
    subst (λ o. Told s (state_of h o) (close_items o.items (at f)) e (state_of g new) (term_of new)) (sym is)
    (told s (state_of h mid) (round i (at f)) (r (state_of h mid)) mid e g new step m)
in_item_told (Err x) s h g i f r old mid new is step m = m

-- the same of the place at work itself, which was taken out
pub at_work_told : {E : Type 0} (x : Result HostEffect E) (s : Tree) (h g : HostHeap) (f : Focus) (r : State → Rewritten) (old mid new : Frame) → f ≡ old.focus
    → mid ≡ set_to (now focus.Done) old → rewrite s (state_of h old) (at f) ≡ does (r (state_of h old))
    → IfOk x (λ e. Moved (r (state_of h mid)) mid e g new)
    → IfOk x (λ e. Told s (state_of h old) (term_of old) e (state_of g new) (term_of new))
at_work_told (Ok e) s h g f r old mid new is taken step m =
    subst (λ x. Told s (state_of h old) (close_items old.items (at x)) e (state_of g new) (term_of new)) is
    (told s (state_of h old) (at f) (r (state_of h old)) (set_to (now focus.Done) old) e g new step (subst (λ o. Moved (r (state_of h o)) o e g new) taken m))
at_work_told (Err x) s h g f r old mid new is taken step m = m

-- a result is never `Went`
never_went : (d : Does) → end_of d ≡ Some effects.Went → ⊥
never_went (rewrites e st t) h = absurd cc
never_went (gives_value v) h = absurd cc
never_went (refers_to r place) h = absurd cc
never_went ends h = absurd cc
never_went (leaves completions.Break) h = absurd cc
never_went (leaves completions.Continue) h = absurd cc
never_went (leaves (completions.Return v)) h = absurd cc
never_went (leaves (completions.Throw v)) h = absurd cc
never_went hole h = absurd cc

-- one more rewriting, which takes nothing
pub one_more : (s : Tree) (st : State) (t : HostTerm) (e f : HostEffect) (r : State) (u : HostTerm) (q : State) (w : HostTerm) → e ≡ effects.Went → Makes s st t e r u → charge_of s u ≡ 0
    → Told s r u f q w → Makes s st t f q w
one_more s st t e f r u q w went (inl (inl h)) free told =
    inr (record {
      first_state = r;
      first_term = u;
      first = h ∙ ap (λ x. rewrites x r u) went;
      last_state = r;
      last_term = u;
      between = here s r u;
      free = free;
      told = told;
    })
one_more s st t e f r u q w went (inl (inr h)) free told = absurd (never_went (rewrite s st t) (h.0 ∙ ap (λ x. Some x) went))
one_more s st t e f r u q w went (inr l) free told = inr (later_more s st t e f r u q w went l l.told free told)
  where
    later_more : (s : Tree) (st : State) (t : HostTerm) (e f : HostEffect) (r : State) (u : HostTerm) (q : State) (w : HostTerm) → e ≡ effects.Went → (l : Later s st t e r u)
        → Told s l.last_state l.last_term e r u → charge_of s u ≡ 0 → Told s r u f q w → Later s st t f q w
    later_more s st t e f r u q w went l (inl h) free told = record {
      first_state = l.first_state;
      first_term = l.first_term;
      first = l.first;
      last_state = r;
      last_term = u;
      between = freely s l.first_state l.first_term l.last_state l.last_term r u l.between l.free (h ∙ ap (λ x. rewrites x r u) went);
      free = free;
      told = told;
    }
    later_more s st t e f r u q w went l (inr h) free told = absurd (never_went (rewrite s l.last_state l.last_term) (h.0 ∙ ap (λ x. Some x) went))
