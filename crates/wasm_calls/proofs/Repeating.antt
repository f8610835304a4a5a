-- A run ends within its bound, and what has ended stays.
use Rattle.std.proofs.Common.{◌≡◌, ℕ, zero, suc, ◌+◌, ◌*◌, ◌-◌, ◌≤◌, ◌<◌, List, [], ◌∷◌, refl, sym, ap, ◌∙◌, subst, arith, Option, Some, None, Bool, true, false, cond}
use Rattle.std.specs.Prelude.{nat_le, nat_lt, slice_get}
use Rattle.std.proofs.lemmas.Bool.{leb-true}
use Rattle.std.proofs.lemmas.Option.{same_Some}
use Rattle.wasm_valid.specs.Spaces.{then_}
use Rattle.wasm_syntax.specs.declared.value.Value.{Value}
use Rattle.wasm_syntax.specs.declared.addresses.FuncAddr.{FuncAddr}
use Rattle.wasm_store.specs.declared.instances.FuncInst.{FuncInst}
use Rattle.wasm_store.specs.declared.instances.FuncInst.TheVariants as f
use Rattle.wasm_syntax.specs.declared.module.Func.{Func}
use Rattle.wasm_store.specs.Store.{Store, module_at, instance_at, function_at}
use Rattle.wasm_machine.specs.Terms.{Term, throw, with_form}
use Rattle.wasm_machine.specs.Charges.{charge_of}
use Rattle.wasm_machine.specs.Reduction.{Does, asks, rewrites, gives, breaks, leaves, calls, traps, throws, stuck, reduce, frame_of, frame_for}
use Rattle.wasm_calls.specs.Calls.{Configuration, Outcome, past_budget, running, ended, most_frames, stack_exhausted, frames_in, entered, after, outermost, next, repeated, weight, most_rewritings, end_of}
use Rattle.wasm_calls.specs.Laws.{HasEnded, RunsEnd, EndsStay}
use Rattle.wasm_calls.specs.Activations.{Reaches, Leads}
use Rattle.wasm_calls.proofs.Weights.{IsFine, fine}

light_of : (make : Func → Term) (o : Option Func) (body : Term) → ((own : Func) → weight (make own) ≡ 2) → then_ o (λ own. Some (make own)) ≡ Some body → weight body ≡ 2
light_of make None body h e = absurd (let k : ◌≡◌ None (Some body) = e in cc)
light_of make (Some own) body h e = ap weight (sym (same_Some (make own) body e)) ∙ h own

-- a called function's frame is lighter than its call
frame_light : (s : Store) (g : FuncInst) (args : List Value) (body : Term) → frame_of s g args ≡ Some body → weight body ≡ 2
frame_light s (f.Wasm g a x) args body e = light_of _ (slice_get (module_at s (instance_at s a).module).funcs x) body (λ own. refl) e
frame_light s (f.Host g callee) args body e = absurd (let h : ◌≡◌ None (Some body) = e in cc)
frame_light s (f.Suspending g callee) args body e = absurd (let h : ◌≡◌ None (Some body) = e in cc)

module _ (s : Store) where
  entered_less : (t : Term) (left k : ℕ) (o : Option Term) → ((body : Term) → o ≡ Some body → weight (with_form body t) < k) → most_rewritings (entered s t left o) < 4 * left + k + 1
  entered_less t left k None h = omega arith
  entered_less t left k (Some body) h = omega (arith, h body refl)

  called_less : (t : Term) (left : ℕ) (a : FuncAddr) (args : List Value) → ((u : Term) → weight (with_form u t) + 3 ≡ weight t + weight u) → (b : Bool)
      → most_rewritings (cond b (entered s t left (frame_for s a args)) (running s (with_form (throw stack_exhausted) t) left)) < 4 * left + weight t + 1
  called_less t left a args h true = entered_less t left (weight t) (frame_for s a args) (λ body e. omega (arith, h body, frame_light s (function_at s a) args body e))
  called_less t left a args h false = omega (arith, h (throw stack_exhausted))

  after_less : (t : Term) (left c : ℕ) (d : Does) → IsFine s t d → charge_of t ≡ c → c ≤ left → most_rewritings (after s t (left - c) d) < 4 * left + weight t + 1
  after_less t left c (rewrites r F u) h e le = omega (arith, h.less, e, le)
  after_less t left c (gives vs []) h e le = omega arith
  after_less t left c (gives vs (i ∷ is)) h e le = omega arith
  after_less t left c (calls a args) h e le =
      let lt = called_less t (left - c) a args h (nat_lt (frames_in t) most_frames) in
      omega (arith, lt)
  after_less t left c (traps cause) h e le = omega arith
  after_less t left c (throws v) h e le = omega arith
  after_less t left c asks h e le = omega arith
  after_less t left c (breaks l vs) h e le = omega arith
  after_less t left c (leaves vs) h e le = omega arith
  after_less t left c stuck h e le = omega arith

  next_less : (t : Term) (left : ℕ) (b : Bool) → nat_le (charge_of t) left ≡ b
      → most_rewritings (cond b (after s t (left - charge_of t) (reduce s outermost t)) (ended s (past_budget (charge_of t)) left)) < most_rewritings (running s t left)
  next_less t left true e = after_less t left (charge_of t) (reduce s outermost t) (fine s outermost t) refl (leb-true (charge_of t) left e)
  next_less t left false e = omega arith

pub less : (s : Store) (t : Term) (left : ℕ) → most_rewritings (next (running s t left)) < most_rewritings (running s t left)
less s t left = next_less s t left (nat_le (charge_of t) left) refl

-- Repetitions.

stays : (n : ℕ) (s : Store) (o : Outcome) (left : ℕ) → repeated n (ended s o left) ≡ ended s o left
stays zero s o left = refl
stays (suc n) s o left = stays n s o left

steady : (j k : ℕ) (c : Configuration) → most_rewritings c ≤ j → most_rewritings c ≤ k → repeated j c ≡ repeated k c
steady j k (ended s o left) a b = stays j s o left ∙ sym (stays k s o left)
steady zero k (running s t left) a b = absurd (omega arith)
steady (suc j) zero (running s t left) a b = absurd (omega arith)
steady (suc j) (suc k) (running s t left) a b = let l = less s t left in steady j k (next (running s t left)) (omega (arith, l)) (omega (arith, l))

pub ends_stay : EndsStay
ends_stay c n h = steady n (most_rewritings c) c h (omega arith)

has_ended : (n : ℕ) (c : Configuration) → most_rewritings c ≤ n → HasEnded (repeated n c)
has_ended n (ended s o left) h = subst HasEnded (sym (stays n s o left)) tt
has_ended zero (running s t left) h = absurd (omega arith)
has_ended (suc n) (running s t left) h = has_ended n (next (running s t left)) (omega (arith, less s t left))

pub runs_end : RunsEnd
runs_end c = has_ended (most_rewritings c) c (omega arith)

-- A run and a later place of it.

next_same : (n : ℕ) (c : Configuration) → most_rewritings c ≡ suc n → most_rewritings (next c) ≤ n → end_of c ≡ end_of (next c)
next_same n c e h = ap (λ k. repeated k c) e ∙ ends_stay (next c) n h

pub leads : (s : Store) (t : Term) (left : ℕ) (d : Configuration) → next (running s t left) ≡ d → Leads (running s t left) d
leads s t left d e =
    let l = less s t left in
    subst (Leads (running s t left)) e (record { same = next_same (4 * left + weight t) (running s t left) (omega arith) (omega (arith, l)); less = l })

pub there : (c : Configuration) → Reaches c c
there c = record { same = refl; no_more = omega arith }

pub leads_on : (c d e : Configuration) → Leads c d → Reaches d e → Leads c e
leads_on c d e a b = record { same = a.same ∙ b.same; less = omega (arith, a.less, b.no_more) }

pub reaches : (c d : Configuration) → Leads c d → Reaches c d
reaches c d a = record { same = a.same; no_more = omega (arith, a.less) }

pub leads_to : (c d e : Configuration) → Leads c d → Leads d e → Leads c e
leads_to c d e a b = leads_on c d e a (reaches d e b)
