-- What a step of the innermost frame makes of the whole run.
use Rattle.std.proofs.Common.{◌≡◌, inl, inr, ℕ, ◌-◌, ◌≤◌, ◌<◌, false, List, [], ◌∷◌, refl, sym, ap, ◌∙◌, subst, arith}
use Rattle.std.specs.Prelude.{reverse, slice_index_or, nat_le, cond}
use Rattle.std.proofs.lemmas.Bool.{lt-leb}
use Rattle.std.specs.List.{All}
use Rattle.std.proofs.lemmas.List.Elements.{All-weaker}
use Rattle.wasm_syntax.specs.declared.types.ValType.{ValType}
use Rattle.wasm_syntax.specs.declared.value.Value.{Value}
use Rattle.wasm_syntax.specs.declared.trap.Trap.{Trap}
use Rattle.wasm_store.specs.declared.instances.FuncInst.{FuncInst}
use Rattle.wasm_store.specs.declared.instances.FuncInst.TheVariants as f
use Rattle.wasm_store.specs.declared.instances.Instance.{Instance}
use Rattle.wasm_store.specs.Store.{Store, blank}
use Rattle.wasm_store.specs.Whole.{IsBlank, IsLater, AllHaveCode, HasSameCode}
use Rattle.wasm_machine.specs.Terms.{FrameState, Term, here, invoke, trap, throw, inside}
use Rattle.wasm_machine.specs.Charges.{charge_of}
use Rattle.wasm_machine.specs.Reduction.{asks, rewrites, gives, reduce}
use Rattle.wasm_machine.specs.View.{View, module_for, term_round, term_of}
use Rattle.wasm_machine.specs.Fits.{WaitingStays, Fits}
use Rattle.wasm_machine.specs.Entering.{HasCode}
use Rattle.wasm_machine.specs.Steps.{EndsIn, TrapsIn, Makes, LeavesFit}
use Rattle.wasm_machine.specs.declared.frame.Effect.{Effect}
use Rattle.wasm_machine.specs.declared.frame.Effect.TheVariants.{Went, Call, Returned, Trapped, Grew}
use Rattle.wasm_calls.specs.declared.activations.Activations.{Activations}
use Rattle.wasm_calls.specs.Calls.{Configuration, running, ended, trapped, past_budget, after, outermost}
use Rattle.wasm_calls.specs.Activations.{frames_round, outer_of, configuration_of, calling, given, pending, Leads, AreWaiting, IsRound, Works, IsPending}
use Rattle.wasm_calls.proofs.Keeping.{same}
use Rattle.wasm_calls.proofs.Weights.{IsFine, fine}
use Rattle.wasm_calls.proofs.Repeating.{leads, leads_to}
use Rattle.wasm_calls.proofs.Frames.{IsSteady, charge_all, moved, goes_under, state_round, gives_under, goes_next, free_next, unwind_trap}

-- a form that becomes something is a list at work
steady_gives : (s : Store) (F : FrameState) (u : Term) (ws : List Value) → reduce s F u ≡ gives ws [] → IsSteady u
steady_gives s F here ws e = absurd (let h : ◌≡◌ asks (gives ws []) = e in cc)
steady_gives s F (invoke a args) ws e = λ vs is. refl
steady_gives s F (trap cause) ws e = λ vs is. refl
steady_gives s F (throw n) ws e = λ vs is. refl
steady_gives s F (inside l t) ws e = λ vs is. refl

steady_goes : (s : Store) (F : FrameState) (u : Term) (r : Store) (G : FrameState) (t : Term) → reduce s F u ≡ rewrites r G t → IsSteady u
steady_goes s F here r G t e = absurd (let h : ◌≡◌ asks (rewrites r G t) = e in cc)
steady_goes s F (invoke a args) r G t e = λ vs is. refl
steady_goes s F (trap cause) r G t e = λ vs is. refl
steady_goes s F (throw n) r G t e = λ vs is. refl
steady_goes s F (inside l u) r G t e = λ vs is. refl

-- What stays.

pub code_of_rewriting : (s : Store) (F : FrameState) (t : Term) (r : Store) (G : FrameState) (u : Term) → reduce s F t ≡ rewrites r G u → HasSameCode s r
code_of_rewriting s F t r G u e = (subst (IsFine s t) e (fine s F t)).code

pub same_code : (s : Store) (t : Term) (e : Effect) (r : Store) (w : View) → Makes s t e r w → HasSameCode s r
same_code s t Went r w h = code_of_rewriting s outermost t r outermost (term_of r w) (h outermost)
same_code s t (Call func args) r w h = subst (HasSameCode s) (sym h.0) (same s)
same_code s t (Returned values) r w h = subst (HasSameCode s) (sym h.0) (same s)
same_code s t (Trapped cause) r w h = subst (HasSameCode s) (sym h.0) (same s)
same_code s t (Grew memory) r w h = code_of_rewriting s outermost t r outermost (term_of r w) (h outermost)

pub codes : (s t u : Store) → HasSameCode s t → HasSameCode t u → HasSameCode s u
codes s t u a b = record { modules = b.modules ∙ a.modules; instances = b.instances ∙ a.instances; functions = b.functions ∙ a.functions }

has_code : (s r : Store) → HasSameCode s r → (g : FuncInst) → HasCode s g → HasCode r g
has_code s r c (f.Wasm ty i x) h =
    subst (λ (j : Instance). IsBlank j → ⊥) (sym (ap (λ (xs : List Instance). slice_index_or xs i.0 (blank (record { 0 = 0 }))) c.instances)) h
has_code s r c (f.Host ty callee) h = h
has_code s r c (f.Suspending ty callee) h = h

pub have_code : (s r : Store) → HasSameCode s r → AllHaveCode s → AllHaveCode r
have_code s r c h = subst (All (HasCode r)) (sym c.functions) (All-weaker (HasCode s) (HasCode r) (has_code s r c) s.functions h)

waiting_later : WaitingStays → (s r : Store) (R : List ValType) → IsLater s r → (vs : List View) (types : List ValType) → AreWaiting s R vs types → AreWaiting r R vs types
waiting_later stay s r R l [] types h = h
waiting_later stay s r R l (v ∷ vs) types h = (h.0, stay s r h.0 types v l h.1, waiting_later stay s r R l vs h.0 h.2)

pub round_later : WaitingStays → (s r : Store) (R own : List ValType) (a : Activations) → IsLater s r → HasSameCode s r → IsRound s R own a → IsRound r R own a
round_later stay s r R own a l c h = record { waiting = waiting_later stay s r R l (outer_of a) own h.waiting; few = h.few; code = have_code s r c h.code }

-- A step.

module _ (s : Store) (vs : List View) (t : Term) (left c : ℕ) (steady : IsSteady t) (charge : charge_of t ≡ c) (enough : c ≤ left) where
  abbrev whole : Configuration
  whole = running s (frames_round s vs t) left

  charge_is : charge_of (frames_round s vs t) ≡ c
  charge_is = charge_all s vs t steady ∙ charge

  step_goes : (r : Store) (u : Term) → reduce s (state_round s vs) t ≡ rewrites r (state_round s vs) u → Leads whole (running r (frames_round s vs u) (left - c))
  step_goes r u e = leads s (frames_round s vs t) left _ (goes_next s (frames_round s vs t) left c (rewrites r outermost (frames_round s vs u)) charge_is enough (goes_under s vs t r u e))

  step_went : (r : Store) (w : View) → ((F : FrameState) → reduce s F t ≡ rewrites r F (term_of r w)) → Leads whole (running r (frames_round r vs (term_of r w)) (left - c))
  step_went r w h =
      let k = code_of_rewriting s outermost t r outermost (term_of r w) (h outermost) in
      subst (λ (u : Term). Leads whole (running r u (left - c))) (sym (moved s r k.modules vs (term_of r w))) (step_goes r (term_of r w) (h (state_round s vs)))

  step_gives : (ws : List Value) → EndsIn s (state_round s vs) t ws → Leads whole (given s vs ws (left - c))
  step_gives ws (inl e) = leads s (frames_round s vs t) left _ (gives_under s vs t ws left c steady charge enough e)
  step_gives ws (inr h) =
      let u = h.0 in
      let b : Leads (running s (frames_round s vs u) (left - c)) (given s vs ws (left - c)) =
      leads s (frames_round s vs u) (left - c) _ (gives_under s vs u ws (left - c) 0 (steady_gives s (state_round s vs) u ws h.3) h.2 (omega arith) h.3 ∙ ap (given s vs ws) (let z : left - c - 0 ≡ left - c = omega arith in z)) in
      leads_to _ _ _ (step_goes s u h.1) b

  step_traps : (cause : Trap) → TrapsIn s (state_round s vs) t cause → Leads whole (ended s (trapped cause) (left - c))
  step_traps cause h =
      let u = h.0 in
      let free : charge_of (frames_round s vs u) ≡ 0 = charge_all s vs u (steady_goes s (state_round s vs) u s (state_round s vs) (trap cause) h.3) ∙ h.2 in
      let b : Leads (running s (frames_round s vs u) (left - c)) (running s (frames_round s vs (trap cause)) (left - c)) =
      leads s (frames_round s vs u) (left - c) _ (free_next s (frames_round s vs u) (left - c) (rewrites s outermost (frames_round s vs (trap cause))) free (goes_under s vs u s (trap cause) h.3)) in
      leads_to _ _ _ (step_goes s u h.1) (leads_to _ _ _ b (unwind_trap s vs cause (left - c)))

-- the frames after a step of the innermost one
abbrev pub stepped : Activations → View → ℕ → Activations
stepped a w left = record a { top = w; left = left }

pub step_leads : (s : Store) (a : Activations) (e : Effect) (r : Store) (w : View) (c : ℕ) → c ≡ charge_of (term_of s a.top) → c ≤ a.left → Makes s (term_of s a.top) e r w
    → Leads (configuration_of s a) (pending r e (stepped a w (a.left - c)))
step_leads s a Went r w c e le h = step_went s (outer_of a) (term_of s a.top) a.left c (λ vs is. refl) (sym e) le r w h
step_leads s a (Call func args) r w c e le h =
    subst (λ (x : Store). Leads (configuration_of s a) (calling x func args.items (stepped a w (a.left - c)))) (sym h.0)
    (step_goes s (outer_of a) (term_of s a.top) a.left c (λ vs is. refl) (sym e) le s (term_round (module_for s w) w (invoke func args.items)) (h.1 (state_round s (outer_of a))))
step_leads s a (Returned values) r w c e le h =
    subst (λ (x : Store). Leads (configuration_of s a) (given x (outer_of a) (reverse values.items) (a.left - c))) (sym h.0)
    (step_gives s (outer_of a) (term_of s a.top) a.left c (λ vs is. refl) (sym e) le (reverse values.items) (h.1 (state_round s (outer_of a))))
step_leads s a (Trapped cause) r w c e le h =
    subst (λ (x : Store). Leads (configuration_of s a) (ended x (trapped cause) (a.left - c))) (sym h.0)
    (step_traps s (outer_of a) (term_of s a.top) a.left c (λ vs is. refl) (sym e) le cause (h.1 (state_round s (outer_of a))))
step_leads s a (Grew memory) r w c e le h = step_went s (outer_of a) (term_of s a.top) a.left c (λ vs is. refl) (sym e) le r w h

pub step_leaves : WaitingStays → (s : Store) (a : Activations) (e : Effect) (r : Store) (w : View) (left : ℕ) → IsLater s r → Makes s (term_of s a.top) e r w → ((R : List ValType) → Fits s R a.top → LeavesFit R e r w)
    → (R : List ValType) → Works s R a → IsPending r R e (stepped a w left)
step_leaves stay s a e r w left l m f R h =
    let c = same_code s (term_of s a.top) e r w m in
    let k = round_later stay s r R h.own a l c h.round in
    record { own = h.own; round = record { waiting = k.waiting; few = k.few; code = k.code }; leaves = f h.own h.fits }

-- a step that takes more than is left
pub step_past : (s : Store) (a : Activations) (needs : ℕ) → needs ≡ charge_of (term_of s a.top) → a.left < needs → Leads (configuration_of s a) (ended s (past_budget needs) a.left)
step_past s a needs e lt =
    let t = frames_round s (outer_of a) (term_of s a.top) in
    let k : charge_of t ≡ needs = charge_all s (outer_of a) (term_of s a.top) (λ vs is. refl) ∙ sym e in
    let over : nat_le (charge_of t) a.left ≡ false = lt-leb (charge_of t) a.left (omega (arith, k, lt)) in
    leads s t a.left _
    (ap (λ b. cond b (after s t (a.left - charge_of t) (reduce s outermost t)) (ended s (past_budget (charge_of t)) a.left)) over ∙ ap (λ n. ended s (past_budget n) a.left) k)
