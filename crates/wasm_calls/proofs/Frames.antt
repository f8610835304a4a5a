-- A rewriting of the innermost frame's term is one of the whole term, with the same charge.
use Rattle.std.proofs.Common.{◌≡◌, ℕ, suc, ◌+◌, ◌-◌, ◌≤◌, List, [], ◌∷◌, ◌++◌, length, refl, ap, ◌∙◌, arith, true}
use Rattle.std.specs.Prelude.{slice_index_or, nat_le, cond}
use Rattle.std.proofs.lemmas.Bool.{le-leb}
use Rattle.wasm_syntax.specs.declared.instructions.Instr.{Instr}
use Rattle.wasm_syntax.specs.declared.module.Module.{Module}
use Rattle.wasm_syntax.specs.declared.value.Value.{Value}
use Rattle.wasm_syntax.specs.declared.trap.Trap.{Trap}
use Rattle.wasm_syntax.specs.declared.addresses.FuncAddr.{FuncAddr}
use Rattle.wasm_store.specs.Store.{Store, no_module}
use Rattle.wasm_machine.specs.Terms.{FrameState, Term, here, invoke, trap, throw, inside, with_form}
use Rattle.wasm_machine.specs.Charges.{charge_in, charge_of}
use Rattle.wasm_machine.specs.Reduction.{Does, rewrites, gives, calls, traps, throws, in_level, reduce}
use Rattle.wasm_machine.specs.View.{View, Open, values_of, with_values, code_at, level_of, close, state_of, frame_level, term_round, module_for, term_of}
use Rattle.wasm_calls.specs.Calls.{past_budget, running, ended, trapped, thrown, frames_in, after, outermost, next}
use Rattle.wasm_calls.specs.Activations.{frames_round, given, Leads}
use Rattle.wasm_calls.proofs.Repeating.{leads, leads_to}

-- Charges.

-- its charge is its own in every list
abbrev pub IsSteady : Term → Type 0
IsSteady t = (vs : List Value) (is : List Instr) → charge_in vs is t ≡ charge_of t

charge_close : (m : Module) (os : List Open) (t : Term) → IsSteady t → charge_of (close m os t) ≡ charge_of t
charge_close m [] t h = refl
charge_close m (o ∷ os) t h = charge_close m os (inside (level_of m o) t) (λ vs is. refl) ∙ h o.values (code_at m o)

charge_round : (m : Module) (v : View) (t : Term) → IsSteady t → charge_of (term_round m v t) ≡ charge_of t
charge_round m v t h = charge_close m (v.top ∷ v.outer) t h

pub charge_all : (s : Store) (vs : List View) (t : Term) → IsSteady t → charge_of (frames_round s vs t) ≡ charge_of t
charge_all s [] t h = refl
charge_all s (v ∷ vs) t h = charge_all s vs (term_round (module_for s v) v t) (λ us is. refl) ∙ charge_round (module_for s v) v t h

-- Frames and forms.

frames_close : (m : Module) (os : List Open) (t : Term) → frames_in (close m os t) ≡ frames_in t
frames_close m [] t = refl
frames_close m (o ∷ os) t = frames_close m os (inside (level_of m o) t)

frames_once : (m : Module) (v : View) (t : Term) → frames_in (term_round m v t) ≡ suc (frames_in t)
frames_once m v t = ap suc (frames_close m (v.top ∷ v.outer) t)

pub frames_all : (s : Store) (vs : List View) (t : Term) → frames_in (frames_round s vs t) ≡ length vs + frames_in t
frames_all s [] t = omega arith
frames_all s (v ∷ vs) t = omega (arith, frames_all s vs (term_round (module_for s v) v t), frames_once (module_for s v) v t)

form_close : (u : Term) (m : Module) (os : List Open) (t : Term) → with_form u (close m os t) ≡ close m os (with_form u t)
form_close u m [] t = refl
form_close u m (o ∷ os) t = form_close u m os (inside (level_of m o) t)

form_round : (u : Term) (m : Module) (v : View) (t : Term) → with_form u (term_round m v t) ≡ term_round m v (with_form u t)
form_round u m v t = ap (inside (frame_level v)) (form_close u m (v.top ∷ v.outer) t)

pub form_all : (s : Store) (u : Term) (vs : List View) (t : Term) → with_form u (frames_round s vs t) ≡ frames_round s vs (with_form u t)
form_all s u [] t = refl
form_all s u (v ∷ vs) t = form_all s u vs (term_round (module_for s v) v t) ∙ ap (frames_round s vs) (form_round u (module_for s v) v t)

-- with the same modules frames stand for the same
pub moved : (s r : Store) → r.modules ≡ s.modules → (vs : List View) (t : Term) → frames_round r vs t ≡ frames_round s vs t
moved s r e [] t = refl
moved s r e (v ∷ vs) t =
    ap (λ ms. frames_round r vs (term_round (slice_index_or ms v.module.0 no_module) v t)) e ∙ moved s r e vs (term_round (module_for s v) v t)

module _ (s : Store) where
  -- Rewritings.

  close_goes : (F : FrameState) (m : Module) (os : List Open) (t : Term) (r : Store) (G : FrameState) (u : Term) → reduce s F t ≡ rewrites r G u → reduce s F (close m os t) ≡ rewrites r G (close m os u)
  close_goes F m [] t r G u e = e
  close_goes F m (o ∷ os) t r G u e = close_goes F m os (inside (level_of m o) t) r G (inside (level_of m o) u) (ap (in_level s F (level_of m o)) e)

  round_goes : (v : View) (t : Term) (r : Store) (u : Term) → reduce s (state_of v) t ≡ rewrites r (state_of v) u → (F : FrameState) → reduce s F (term_round (module_for s v) v t) ≡ rewrites r F (term_round (module_for s v) v u)
  round_goes v t r u e F = ap (in_level s F (frame_level v)) (close_goes (state_of v) (module_for s v) (v.top ∷ v.outer) t r (state_of v) u e)

  pub all_goes : (vs : List View) (t : Term) (r : Store) (u : Term) → ((F : FrameState) → reduce s F t ≡ rewrites r F u) → (F : FrameState) → reduce s F (frames_round s vs t) ≡ rewrites r F (frames_round s vs u)
  all_goes [] t r u h = h
  all_goes (v ∷ vs) t r u h = all_goes vs (term_round (module_for s v) v t) r (term_round (module_for s v) v u) (round_goes v t r u (h (state_of v)))

  -- the state of the frame round a form
  abbrev pub state_round : List View → FrameState
  state_round [] = outermost
  state_round (v ∷ vs) = state_of v

  pub goes_under : (vs : List View) (t : Term) (r : Store) (u : Term) → reduce s (state_round vs) t ≡ rewrites r (state_round vs) u → reduce s outermost (frames_round s vs t) ≡ rewrites r outermost (frames_round s vs u)
  goes_under [] t r u e = e
  goes_under (v ∷ vs) t r u e = all_goes vs (term_round (module_for s v) v t) r (term_round (module_for s v) v u) (round_goes v t r u e) outermost

  -- the frame becomes values, which go to the innermost list of the one round it
  round_gives : (v : View) (t : Term) (ws : List Value) → reduce s (state_of v) t ≡ gives ws [] → (F : FrameState) → reduce s F (term_round (module_for s v) v t) ≡ rewrites s F (term_of s (with_values (ws ++ values_of v) v))
  round_gives v t ws e F =
      let m = module_for s v in
      let a : reduce s (state_of v) (inside (level_of m v.top) t) ≡ rewrites s (state_of v) (inside (level_of m (record v.top { values = ws ++ values_of v })) here) = ap (in_level s (state_of v) (level_of m v.top)) e in
      ap (in_level s F (frame_level v)) (close_goes (state_of v) m v.outer (inside (level_of m v.top) t) s (state_of v) (inside (level_of m (record v.top { values = ws ++ values_of v })) here) a)

  -- Forms that no level ends.

  close_calls : (F : FrameState) (m : Module) (os : List Open) (t : Term) (a : FuncAddr) (args : List Value) → reduce s F t ≡ calls a args → reduce s F (close m os t) ≡ calls a args
  close_calls F m [] t a args e = e
  close_calls F m (o ∷ os) t a args e = close_calls F m os (inside (level_of m o) t) a args (ap (in_level s F (level_of m o)) e)

  all_calls : (vs : List View) (t : Term) (a : FuncAddr) (args : List Value) → ((F : FrameState) → reduce s F t ≡ calls a args) → (F : FrameState) → reduce s F (frames_round s vs t) ≡ calls a args
  all_calls [] t a args h = h
  all_calls (v ∷ vs) t a args h =
      all_calls vs (term_round (module_for s v) v t) a args (λ F. ap (in_level s F (frame_level v)) (close_calls (state_of v) (module_for s v) (v.top ∷ v.outer) t a args (h (state_of v))))

  pub call_at_work : (vs : List View) (v : View) (a : FuncAddr) (args : List Value) → reduce s outermost (frames_round s vs (term_round (module_for s v) v (invoke a args))) ≡ calls a args
  call_at_work vs v a args = all_calls (v ∷ vs) (invoke a args) a args (λ F. refl) outermost

  close_traps : (F : FrameState) (m : Module) (os : List Open) (t : Term) (cause : Trap) → reduce s F t ≡ traps cause → reduce s F (close m os t) ≡ traps cause
  close_traps F m [] t cause e = e
  close_traps F m (o ∷ os) t cause e = close_traps F m os (inside (level_of m o) t) cause (ap (in_level s F (level_of m o)) e)

  close_throws : (F : FrameState) (m : Module) (os : List Open) (t : Term) (n : ℕ) → reduce s F t ≡ throws n → reduce s F (close m os t) ≡ throws n
  close_throws F m [] t n e = e
  close_throws F m (o ∷ os) t n e = close_throws F m os (inside (level_of m o) t) n (ap (in_level s F (level_of m o)) e)

  -- Configurations.

  pub goes_next : (t : Term) (left c : ℕ) (d : Does) → charge_of t ≡ c → c ≤ left → reduce s outermost t ≡ d → next (running s t left) ≡ after s t (left - c) d
  goes_next t left c d e le r =
      let pays : nat_le (charge_of t) left ≡ true = le-leb (charge_of t) left (omega (arith, e, le)) in
      ap (λ b. cond b (after s t (left - charge_of t) (reduce s outermost t)) (ended s (past_budget (charge_of t)) left)) pays
      ∙ ap (λ k. after s t (left - k) (reduce s outermost t)) e ∙ ap (after s t (left - c)) r

  pub free_next : (t : Term) (left : ℕ) (d : Does) → charge_of t ≡ 0 → reduce s outermost t ≡ d → next (running s t left) ≡ after s t left d
  free_next t left d e r = goes_next t left 0 d e (omega arith) r ∙ ap (λ k. after s t k d) (let z : left - 0 ≡ left = omega arith in z)

  -- a trap leaves all frames
  pub unwind_trap : (vs : List View) (cause : Trap) (left : ℕ) → Leads (running s (frames_round s vs (trap cause)) left) (ended s (trapped cause) left)
  unwind_trap [] cause left = leads s (trap cause) left _ (free_next (trap cause) left (traps cause) refl refl)
  unwind_trap (v ∷ vs) cause left =
      let m = module_for s v in
      let leaves : (F : FrameState) → reduce s F (term_round m v (trap cause)) ≡ rewrites s F (trap cause) = λ F. ap (in_level s F (frame_level v)) (close_traps (state_of v) m (v.top ∷ v.outer) (trap cause) cause refl) in
      let whole = frames_round s (v ∷ vs) (trap cause) in
      leads_to _ _ _
      (leads s whole left (running s (frames_round s vs (trap cause)) left) (free_next whole left (rewrites s outermost (frames_round s vs (trap cause))) (charge_all s (v ∷ vs) (trap cause) (λ us is. refl)) (all_goes vs (term_round m v (trap cause)) s (trap cause) leaves outermost)))
      (unwind_trap vs cause left)

  -- so does an exception
  pub unwind_throw : (vs : List View) (n left : ℕ) → Leads (running s (frames_round s vs (throw n)) left) (ended s (thrown n) left)
  unwind_throw [] n left = leads s (throw n) left _ (free_next (throw n) left (throws n) refl refl)
  unwind_throw (v ∷ vs) n left =
      let m = module_for s v in
      let leaves : (F : FrameState) → reduce s F (term_round m v (throw n)) ≡ rewrites s F (throw n) = λ F. ap (in_level s F (frame_level v)) (close_throws (state_of v) m (v.top ∷ v.outer) (throw n) n refl) in
      let whole = frames_round s (v ∷ vs) (throw n) in
      leads_to _ _ _
      (leads s whole left (running s (frames_round s vs (throw n)) left) (free_next whole left (rewrites s outermost (frames_round s vs (throw n))) (charge_all s (v ∷ vs) (throw n) (λ us is. refl)) (all_goes vs (term_round m v (throw n)) s (throw n) leaves outermost)))
      (unwind_throw vs n left)

  -- values given under frames
  pub gives_under : (vs : List View) (t : Term) (ws : List Value) (left c : ℕ) → IsSteady t → charge_of t ≡ c → c ≤ left → reduce s (state_round vs) t ≡ gives ws [] → next (running s (frames_round s vs t) left) ≡ given s vs ws (left - c)
  gives_under [] t ws left c h e le r = goes_next t left c (gives ws []) e le r
  gives_under (v ∷ vs) t ws left c h e le r =
      goes_next (frames_round s (v ∷ vs) t) left c (rewrites s outermost (frames_round s vs (term_of s (with_values (ws ++ values_of v) v)))) (charge_all s (v ∷ vs) t h ∙ e) le
      (all_goes vs (term_round (module_for s v) v t) s (term_of s (with_values (ws ++ values_of v) v)) (round_gives v t ws r) outermost)
