-- Rewritings of a configuration whose term stands within entries.
use Rattle.std.proofs.Common.{◌≡◌, ℕ, ◌+◌, ◌-◌, ◌≤◌, List, [], ◌∷◌, ◌++◌, refl, sym, ap, ◌∙◌, subst, arith, Option, Some, None, true}
use Rattle.std.specs.Prelude.{nat_le, cond}
use Rattle.std.proofs.lemmas.Bool.{le-leb}
use Rattle.iface_objects.specs.declared.realm.Realm.{Realm}
use Rattle.jspi_stacks.specs.declared.frame.Frame.{Frame}
use Rattle.jspi_stacks.specs.Whole.{Whole, idle, hole, host, core, thrown, around, fold, whole_of}
use Rattle.wasm_store.specs.Store.{Store}
use Rattle.embed_run.specs.declared.end.End.TheVariants as ends
use Rattle.embed_run.specs.declared.end.Turn.TheVariants as turns
use Rattle.embed_run.specs.declared.machine.Machine.{Machine}
use Rattle.embed_run.specs.Configurations.{Program, Configuration}
use Rattle.embed_run.specs.Rules.{Does, goes, gives, throws, results, traps, refuses, refuses_call, does, charge_of, activations_in, after, by_term, charged, with_left, next}
use Rattle.embed_run.specs.Outcomes.{Freely, stays, freely}
use Rattle.embed_run.specs.Worlds.{configuration_of, IsOf}
use Rattle.embed_run.specs.Answering.{in_entries, Shows}
use Rattle.embed_run.proofs.Folding.{does_fold, IsWork, work_fold, charge_fold}

-- a machine's configuration with this realm and this term
abbrev pub with_term : Machine → Realm → Whole → List (List ℕ) → Configuration
with_term m r w lines = record { realm = r; promises = m.promises; captured = []; term = w; left = m.left; lines = lines; ended = None }

-- the machine with less of its budget
abbrev pub paid : ℕ → Machine → Machine
paid k m = record m { left = m.left - k }

-- what comes of a term doesn't hang on the realm and the term before
pub after_any : (p : Program) (m : Machine) (r q : Realm) (w u : Whole) (lines : List (List ℕ)) (d : Does) → after p (with_term m r w lines) d ≡ after p (with_term m q u lines) d
after_any p m r q w u lines (goes s ls x) = refl
after_any p m r q w u lines (gives s v) = refl
after_any p m r q w u lines (throws s v) = refl
after_any p m r q w u lines (results s vs) = refl
after_any p m r q w u lines (traps s cause) = refl
after_any p m r q w u lines (refuses s o) = refl
after_any p m r q w u lines (refuses_call s kind) = refl

by_work : (p : Program) (c : Configuration) (w : Whole) → IsWork w → by_term p c w ≡ after p c (does p c.realm (activations_in w) w)
by_work p c idle h = absurd h
by_work p c hole h = refl
by_work p c (host locals t) h = refl
by_work p c (core t) h = refl
by_work p c (thrown v) h = refl
by_work p c (around f w) h = refl

next_at : (p : Program) (m : Machine) (r : Realm) (w : Whole) (lines : List (List ℕ)) (k : ℕ) → IsWork w → charge_of p w ≡ k → k ≤ m.left
    → next p (with_term m r w lines) ≡ after p (with_term (paid k m) r w lines) (does p r (activations_in w) w)
next_at p m r w lines k h e le =
    let c = with_term m r w lines in
    let pays : nat_le (charge_of p w) m.left ≡ true = le-leb (charge_of p w) m.left (omega (arith, e, le)) in
    ap (λ b. cond b (by_term p (with_left (m.left - charge_of p w) c) w) (record c { ended = Some (ends.Budget (charge_of p w) m.left) })) pays
    ∙ ap (λ n. by_term p (with_left (m.left - n) c) w) e ∙ by_work p (with_term (paid k m) r w lines) w h

-- a rewriting of a term that stands within entries
pub next_within : (p : Program) (m : Machine) (r : Realm) (s : Store) (es : List Frame) (w : Whole) (lines : List (List ℕ)) (k n : ℕ) (d : Does)
    → IsWork w → charge_of p w ≡ k → k ≤ m.left → activations_in (fold s es w) ≡ n → does p r n w ≡ d
    → (q : Realm) (u : Whole) → next p (with_term m r (fold s es w) lines) ≡ after p (with_term (paid k m) q u lines) (in_entries s es d)
next_within p m r s es w lines k n d h e le act does_it q u =
    next_at p m r (fold s es w) lines k (work_fold s es w h) (charge_fold p s es w ∙ e) le
    ∙ ap (after p (with_term (paid k m) r (fold s es w) lines)) (does_fold p r (activations_in (fold s es w)) s es w ∙ ap (λ j. in_entries s es (does p r j w)) act ∙ ap (in_entries s es) does_it)
    ∙ after_any p (paid k m) r q (fold s es w) u lines (in_entries s es d)

unpaid : (m : Machine) → paid 0 m ≡ m
unpaid m = let z : m.left - 0 ≡ m.left = omega arith in ap (λ k. record m { left = k }) z

-- one that takes nothing
pub free_within : (p : Program) (m : Machine) (r : Realm) (s : Store) (es : List Frame) (w : Whole) (lines : List (List ℕ)) (n : ℕ) (d : Does)
    → IsWork w → charge_of p w ≡ 0 → activations_in (fold s es w) ≡ n → does p r n w ≡ d
    → (q : Realm) (u : Whole) → next p (with_term m r (fold s es w) lines) ≡ after p (with_term m q u lines) (in_entries s es d)
free_within p m r s es w lines n d h e act does_it q u =
    next_within p m r s es w lines 0 n d h e (omega arith) act does_it q u ∙ ap (λ x. after p (with_term x q u lines) (in_entries s es d)) (unpaid m)

pub freely_is : (p : Program) (c d : Configuration) → c ≡ d → Freely p c d
freely_is p c d e = subst (λ x. Freely p c x) e (stays p c)

-- such a rewriting before others
pub free_first : (p : Program) (m : Machine) (r : Realm) (s : Store) (es : List Frame) (w : Whole) (lines : List (List ℕ)) (n : ℕ) (d : Does) (q : Realm) (u : Whole) (end : Configuration)
    → IsWork w → charge_of p w ≡ 0 → activations_in (fold s es w) ≡ n → does p r n w ≡ d
    → Freely p (after p (with_term m q u lines) (in_entries s es d)) end → Freely p (with_term m r (fold s es w) lines) end
free_first p m r s es w lines n d q u end h e act does_it rest =
    freely p (with_term m r (fold s es w) lines) end (charge_fold p s es w ∙ e)
    (subst (λ x. Freely p x end) (sym (free_within p m r s es w lines n d h e act does_it q u)) rest)

pub nil_right : {A : Type 0} (xs : List A) → xs ++ [] ≡ xs
nil_right [] = refl
nil_right (x ∷ xs) = ap (λ ys. x ∷ ys) (nil_right xs)

-- after a rewriting that printed nothing
pub went : (p : Program) (m : Machine) (r q : Realm) (w u : Whole) (lines : List (List ℕ)) → after p (with_term m q u lines) (goes r [] w) ≡ with_term m r w lines
went p m r q w u lines = ap (λ ls. with_term m r w ls) (nil_right lines)
