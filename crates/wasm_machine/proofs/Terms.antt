-- A rewriting of the form at work is one of the whole term.
use Rattle.std.specs.Prelude.{reverse}
use Rattle.std.proofs.lemmas.List.{append-nil, take_all, length-take-le}
use Rattle.std.proofs.lemmas.Bool.{le-leb}
use Rattle.std.proofs.Common.{◌≡◌, inl, inr, ℕ, zero, suc, ◌≤◌, ◌<◌, List, [], ◌∷◌, ◌++◌, length, take, refl, sym, ap, ◌∙◌, subst, arith, Some, eq-eqb, cond}
use Rattle.wasm_syntax.specs.declared.instructions.Instr.{Instr}
use Rattle.wasm_syntax.specs.declared.module.Module.{Module}
use Rattle.wasm_syntax.specs.declared.value.Value.{Value}
use Rattle.wasm_syntax.specs.declared.trap.Trap.{Trap}
use Rattle.wasm_valid.specs.Spaces.{when}
use Rattle.wasm_store.specs.Store.{Store}
use Rattle.wasm_machine.specs.Terms.{FrameState, label, frame, Term, here, trap, inside}
use Rattle.wasm_machine.specs.Performing.{Performed}
use Rattle.wasm_machine.specs.Reduction.{goes, branches, returns, act, acted, topmost, rewrites, gives, leaves, traps, stuck, gives_some, breaks_from, in_level, next_in, reduce, of_performed}
use Rattle.wasm_machine.specs.View.{View, Open, with_values, with_locals, advanced, rest_of, code_at, next_code, level_of, close, state_of, frame_level, term_round, left, resumed, with_labels, branched, arity_in, IsLinked}
use Rattle.wasm_machine.specs.Charges.{charge_in, charge_of}
use Rattle.wasm_machine.specs.Steps.{EndsIn, TrapsIn, term_before, Performs}

pub topmost_is : (n : ℕ) (vs : List Value) → n ≤ length vs → topmost n vs ≡ Some (take n vs)
topmost_is n vs le = ap (λ b. when b (Some (take n vs))) (le-leb n (length vs) le)

take_long : (n : ℕ) (vs : List Value) → n ≤ length vs → length (take n vs) ≡ n
take_long n vs le = length-take-le n vs le

module _ (s : Store) (m : Module) where
  pub reduce_close : (F : FrameState) (os : List Open) (t : Term) (r : Store) (G : FrameState) (t' : Term)
      → reduce s F t ≡ rewrites r G t' → reduce s F (close m os t) ≡ rewrites r G (close m os t')
  reduce_close F [] t r G t' e = e
  reduce_close F (o ∷ os) t r G t' e =
      reduce_close F os (inside (level_of m o) t) r G (inside (level_of m o) t') (ap (in_level s F (level_of m o)) e)

  -- a rewriting in the innermost list
  pub reduce_frame : (v : View) (t : Term) (r : Store) (G : FrameState) (t' : Term) (os : List Open)
      → reduce s (state_of v) (close m (v.top ∷ v.outer) t) ≡ rewrites r G (close m os t')
      → (F : FrameState) → reduce s F (term_round m v t) ≡ rewrites r F (inside (record { kind = frame v.results G; values = []; rest = [] }) (close m os t'))
  reduce_frame v t r G t' os e F = ap (in_level s F (frame_level v)) e

  -- an instruction that goes on
  pub before_goes : (v : View) (i : Instr) (r : Store) (locals vs : List Value) (form : Term)
      → act s (state_of v) i v.top.values ≡ goes r locals vs form
      → (F : FrameState) → reduce s F (term_before m i v) ≡ rewrites r F (term_round m (with_locals locals (with_values vs v)) form)
  before_goes v i r locals vs form a F =
      let k = label v.top.arity (next_code v.top.block v.top.again) in
      let G : FrameState = record (state_of v) { locals = locals } in
      let e : reduce s (state_of v) (inside (record { kind = k; values = v.top.values; rest = i ∷ rest_of m v }) here) ≡ rewrites r G (inside (record { kind = k; values = vs; rest = rest_of m v }) form) =
      ap (acted k (state_of v) (rest_of m v)) a in
      ap (in_level s F (frame_level v)) (reduce_close (state_of v) v.outer _ r G _ e)

  -- an instruction that does so in the innermost list alone
  pub before_performs : (v w : View) (i : Instr) (r : Store) (d : Performed) → act s (state_of v) i v.top.values ≡ of_performed s (state_of v) v.top.values d → Performs d r v w
      → (F : FrameState) → reduce s F (term_before m i v) ≡ rewrites r F (term_round m w here)
  before_performs v w i r d a p F =
      before_goes v i r w.locals w.top.values here (a ∙ ap (of_performed s (state_of v) v.top.values) p.acts) F
      ∙ ap (λ u. rewrites r F (term_round m u here)) (sym p.rest)

  -- a trap in the innermost list leaves the frame
  traps_out : (F : FrameState) (os : List Open) (t : Term) (cause : Trap) → reduce s F t ≡ traps cause → reduce s F (close m os t) ≡ traps cause
  traps_out F [] t cause e = e
  traps_out F (o ∷ os) t cause e = traps_out F os (inside (level_of m o) t) cause (ap (in_level s F (level_of m o)) e)

  pub trap_leaves : (v : View) (cause : Trap) (F : FrameState) → reduce s F (term_round m v (trap cause)) ≡ rewrites s F (trap cause)
  trap_leaves v cause F = ap (in_level s F (frame_level v)) (traps_out (state_of v) (v.top ∷ v.outer) (trap cause) cause refl)

  -- a form that takes nothing of the budget takes nothing under these labels
  charge_out : (os : List Open) (t : Term) → ((vs : List Value) (is : List Instr) → charge_in vs is t ≡ 0) → (vs : List Value) (is : List Instr) → charge_in vs is (close m os t) ≡ 0
  charge_out [] t h = h
  charge_out (o ∷ os) t h = charge_out os (inside (level_of m o) t) (λ vs is. h o.values (code_at m o))

  trap_free : (v : View) (cause : Trap) → charge_of (term_round m v (trap cause)) ≡ 0
  trap_free v cause = charge_out (v.top ∷ v.outer) (trap cause) (λ vs is. refl) [] []

  -- an instruction that traps
  pub before_traps : (v : View) (i : Instr) (locals vs : List Value) (cause : Trap) → act s (state_of v) i v.top.values ≡ goes s locals vs (trap cause)
      → (F : FrameState) → TrapsIn s F (term_before m i v) cause
  before_traps v i locals vs cause a F =
      (term_round m (with_locals locals (with_values vs v)) (trap cause), before_goes v i s locals vs (trap cause) a F, trap_free (with_locals locals (with_values vs v)) cause, trap_leaves (with_locals locals (with_values vs v)) cause F)

  -- the term of a frame whose next instruction was fetched
  pub before_is : (v : View) (i : Instr) → rest_of m v ≡ i ∷ rest_of m (advanced v) → term_round m v here ≡ term_before m i (advanced v)
  before_is v i e = ap (λ is. inside (frame_level v) (close m v.outer (inside (record { kind = label v.top.arity (next_code v.top.block v.top.again); values = v.top.values; rest = is }) here))) e

  -- a label that has ended, in a list with a label round it
  leave_to : (v : View) (o : Open) (os : List Open) → code_at m v.top ≡ []
      → (F : FrameState) → reduce s F (term_round m (with_labels v.top (o ∷ os) v) here) ≡ rewrites s F (term_round m (left (with_labels v.top (o ∷ os) v)) here)
  leave_to v o os r F =
      let k = label v.top.arity (next_code v.top.block v.top.again) in
      let G = state_of v in
      let e1 : reduce s G (inside (level_of m v.top) here) ≡ gives v.top.values [] = ap (next_in s k G v.top.values) r in
      let e2 : reduce s G (inside (level_of m o) (inside (level_of m v.top) here)) ≡ rewrites s G (inside (level_of m (record o { values = v.top.values ++ o.values })) here) =
      ap (in_level s G (level_of m o)) e1 in
      reduce_frame (with_labels v.top (o ∷ os) v) here s G here (record o { values = v.top.values ++ o.values } ∷ os) (reduce_close G os _ s G _ e2) F

  pub step_leaves : (v : View) (os : List Open) → v.outer ≡ os → rest_of m v ≡ [] → 0 < length os
      → (F : FrameState) → reduce s F (term_round m v here) ≡ rewrites s F (term_round m (left v) here)
  step_leaves v [] e r lt F = absurd (omega arith)
  step_leaves v (o ∷ os) e r lt F =
      subst (λ xs. reduce s F (term_round m (with_labels v.top xs v) here) ≡ rewrites s F (term_round m (left (with_labels v.top xs v)) here)) (sym e) (leave_to v o os r F)

  -- the frame with these values alone
  abbrev finished : View → List Value → Term
  finished v vs = inside (record (frame_level v) { values = vs }) here

  finished_gives : (v : View) (vs : List Value) → length vs ≡ v.results → (F : FrameState) → reduce s F (finished v vs) ≡ gives vs []
  finished_gives v vs e F = ap (λ b. cond b (gives vs []) stuck) (eq-eqb (length vs) v.results e)

  -- the outermost label has ended
  end_to : (v : View) → rest_of m v ≡ [] → (F : FrameState) → reduce s F (term_round m (with_labels v.top [] v) here) ≡ rewrites s F (finished v (v.top.values ++ []))
  end_to v r F =
      let k = label v.top.arity (next_code v.top.block v.top.again) in
      let e1 : reduce s (state_of v) (inside (level_of m v.top) here) ≡ gives v.top.values [] = ap (next_in s k (state_of v) v.top.values) r in
      ap (in_level s F (frame_level v)) e1

  pub step_ends : (v : View) (values : List Value) → rest_of m v ≡ [] → v.outer ≡ [] → length v.top.values ≡ v.results → reverse values ≡ take v.results v.top.values
      → (F : FrameState) → EndsIn s F (term_round m v here) (reverse values)
  step_ends v values r e n h F =
      let all : v.top.values ≡ reverse values = sym (h ∙ take_all v.results v.top.values (omega (arith, n))) in
      let a : reduce s F (term_round m v here) ≡ rewrites s F (finished v (v.top.values ++ [])) =
      subst (λ xs. reduce s F (term_round m (with_labels v.top xs v) here) ≡ rewrites s F (finished v (v.top.values ++ []))) (sym e) (end_to v r F) in
      let b : finished v (v.top.values ++ []) ≡ finished v (reverse values) = ap (finished v) (append-nil v.top.values ∙ all) in
      inr (finished v (reverse values), a ∙ ap (rewrites s F) b, refl, finished_gives v (reverse values) (ap length (sym all) ∙ n) F)

  -- a branch out of a label that stands in a list of another label, found outward from the innermost one, whose form breaks
  breaks_out_of : (F : FrameState) (vs : List Value) (l : ℕ) (o : Open) (os : List Open) (v : View) (t : Term)
      → reduce s F t ≡ breaks_from (label o.arity (next_code o.block o.again)) l vs
      → l < length os → arity_in l o os ≤ length vs → IsLinked m o os
      → reduce s F (close m os t) ≡ rewrites s F (close m ((branched l vs o os v).top ∷ (branched l vs o os v).outer) here)
  breaks_out_of F vs l o [] v t e lt le h = absurd (omega arith)
  breaks_out_of F vs zero o (q ∷ os) v t e lt le h =
      let e1 : reduce s F t ≡ gives (take o.arity vs) (next_code o.block o.again) = e ∙ ap (λ x. gives_some x (next_code o.block o.again)) (topmost_is o.arity vs le) in
      let e2 : reduce s F (inside (level_of m q) t) ≡ rewrites s F (inside (level_of m (resumed o vs q)) here) =
      ap (in_level s F (level_of m q)) e1
      ∙ ap (λ is. rewrites s F (inside (record { kind = label q.arity (next_code q.block q.again); values = take o.arity vs ++ q.values; rest = is }) here)) (sym h.0) in
      reduce_close F os _ s F _ e2
  breaks_out_of F vs (suc l) o (q ∷ os) v t e lt le h =
      breaks_out_of F vs l q os v (inside (level_of m q) t) (ap (in_level s F (level_of m q)) e) (omega arith) le h.1

  branched-state : (l : ℕ) (vs : List Value) (o : Open) (os : List Open) (v : View) → frame_level (branched l vs o os v) ≡ frame_level v
  branched-state zero vs o [] v = refl
  branched-state zero vs o (q ∷ os) v = refl
  branched-state (suc l) vs o [] v = refl
  branched-state (suc l) vs o (q ∷ os) v = branched-state l vs q os v

  -- an instruction at the values ws that branches with the frame's
  pub before_branches : (v : View) (i : Instr) (ws : List Value) (l : ℕ)
      → act s (state_of v) i ws ≡ branches l v.top.values → l < length v.outer → arity_in l v.top v.outer ≤ length v.top.values → IsLinked m v.top v.outer
      → (F : FrameState) → reduce s F (term_before m i (with_values ws v)) ≡ rewrites s F (term_round m (branched l v.top.values v.top v.outer v) here)
  before_branches v i ws l a lt le h F =
      let d = label v.top.arity (next_code v.top.block v.top.again) in
      let t : Term = inside (record { kind = d; values = ws; rest = i ∷ rest_of m v }) here in
      let e : reduce s (state_of v) t ≡ breaks_from d l v.top.values = ap (acted d (state_of v) (rest_of m v)) a in
      ap (in_level s F (frame_level v)) (breaks_out_of (state_of v) v.top.values l v.top v.outer v t e lt le h)
      ∙ ap (λ k. rewrites s F (inside k (close m ((branched l v.top.values v.top v.outer v).top ∷ (branched l v.top.values v.top v.outer v).outer) here))) (sym (branched-state l v.top.values v.top v.outer v))

  -- a form that returns, under these labels
  returns_out : (F : FrameState) (vs : List Value) (os : List Open) (t : Term) → reduce s F t ≡ leaves vs → reduce s F (close m os t) ≡ leaves vs
  returns_out F vs [] t e = e
  returns_out F vs (o ∷ os) t e = returns_out F vs os (inside (level_of m o) t) (ap (in_level s F (level_of m o)) e)

  pub before_returns : (v : View) (i : Instr) (ws values : List Value) → act s (state_of v) i ws ≡ returns v.top.values → v.results ≤ length v.top.values → reverse values ≡ take v.results v.top.values
      → (F : FrameState) → EndsIn s F (term_before m i (with_values ws v)) (reverse values)
  before_returns v i ws values a le h F =
      let d = label v.top.arity (next_code v.top.block v.top.again) in
      let e : reduce s (state_of v) (inside (record { kind = d; values = ws; rest = i ∷ rest_of m v }) here) ≡ leaves v.top.values = ap (acted d (state_of v) (rest_of m v)) a in
      inl (ap (in_level s F (frame_level v)) (returns_out (state_of v) v.top.values v.outer _ e) ∙ ap (λ x. gives_some x []) (topmost_is v.results v.top.values le) ∙ ap (λ xs. gives xs []) (sym h))

  gives_out : (F : FrameState) (vs : List Value) (o : Open) (os : List Open) (t : Term) → reduce s F t ≡ breaks_from (label o.arity (next_code o.block o.again)) (length os) vs → arity_in (length os) o os ≤ length vs → IsLinked m o os
      → reduce s F (close m os t) ≡ gives (take (arity_in (length os) o os) vs) []
  gives_out F vs o [] t e le h = e ∙ ap (λ x. gives_some x (next_code o.block o.again)) (topmost_is o.arity vs le) ∙ ap (λ g. gives (take o.arity vs) (next_code o.block g)) h
  gives_out F vs o (q ∷ os) t e le h = gives_out F vs q os (inside (level_of m q) t) (ap (in_level s F (level_of m q)) e) le h.1

  -- the outermost label is left by a branch
  pub before_leaves : (v : View) (i : Instr) (ws values : List Value) (l : ℕ) → act s (state_of v) i ws ≡ branches l v.top.values → l ≡ length v.outer → IsLinked m v.top v.outer → arity_in (length v.outer) v.top v.outer ≡ v.results → v.results ≤ length v.top.values → reverse values ≡ take v.results v.top.values
      → (F : FrameState) → EndsIn s F (term_before m i (with_values ws v)) (reverse values)
  before_leaves v i ws values l a f h n le g F =
      let d = label v.top.arity (next_code v.top.block v.top.again) in
      let a' : act s (state_of v) i ws ≡ branches (length v.outer) v.top.values = a ∙ ap (λ j. branches j v.top.values) f in
      let e : reduce s (state_of v) (inside (record { kind = d; values = ws; rest = i ∷ rest_of m v }) here) ≡ breaks_from d (length v.outer) v.top.values = ap (acted d (state_of v) (rest_of m v)) a' in
      let x = ap (in_level s F (frame_level v)) (gives_out (state_of v) v.top.values v.top v.outer _ e (omega (arith, n, le)) h) in
      let y : finished v (take (arity_in (length v.outer) v.top v.outer) v.top.values ++ []) ≡ finished v (reverse values) = ap (finished v) (append-nil (take (arity_in (length v.outer) v.top v.outer) v.top.values) ∙ ap (λ k. take k v.top.values) n ∙ sym g) in
      inr (finished v (reverse values), x ∙ ap (rewrites s F) y, refl, finished_gives v (reverse values) (ap length g ∙ take_long v.results v.top.values le) F)
