-- A call opens a frame, and a frame that has ended gives its values to the one round it.
use Rattle.std.proofs.Common.{◌≡◌, ℕ, suc, ◌+◌, ◌≤◌, ◌<◌, List, [], ◌∷◌, ◌++◌, length, refl, sym, ap, ◌∙◌, subst, arith, Some, true, false}
use Rattle.std.specs.Prelude.{reverse, cond, nat_lt}
use Rattle.std.specs.List.{AllZip}
use Rattle.std.proofs.lemmas.Bool.{le-leb, lt-leb}
use Rattle.std.proofs.lemmas.List.{reverse-append, length-reverse}
use Rattle.wasm_syntax.specs.declared.types.ValType.{ValType}
use Rattle.wasm_syntax.specs.declared.value.Value.{Value}
use Rattle.wasm_syntax.specs.declared.addresses.FuncAddr.{FuncAddr}
use Rattle.wasm_store.specs.Store.{Store, type_of, function_at}
use Rattle.wasm_store.specs.Whole.{HasType, AllHaveCode}
use Rattle.wasm_machine.specs.Terms.{Term, invoke, throw, with_form}
use Rattle.wasm_machine.specs.Reduction.{calls, frame_for}
use Rattle.wasm_machine.specs.View.{View, module_for, term_round, term_of}
use Rattle.wasm_machine.specs.Fits.{Waits, Fits}
use Rattle.wasm_calls.specs.Calls.{running, ended, thrown, stack_exhausted, most_frames, frames_in, entered, called, next}
use Rattle.std.specs.declared.alloc.Global.{Global}
use Rattle.std.specs.declared.vec.Vec.{Vec}
use Rattle.wasm_machine.specs.declared.frame.Effect.TheVariants.{Call, Returned}
use Rattle.wasm_calls.specs.declared.activations.Activations.{Activations}
use Rattle.wasm_calls.specs.Activations.{frames_round, Reaches, AreWaiting, IsPending, Works}
use Rattle.wasm_calls.proofs.Repeating.{leads, leads_to, reaches}
use Rattle.wasm_calls.proofs.Frames.{charge_all, frames_all, form_all, call_at_work, free_next, unwind_throw}

module _ (s : Store) (vs : List View) (v : View) (a : FuncAddr) (args : List Value) (left : ℕ) where
  abbrev whole : Term
  whole = frames_round s (v ∷ vs) (invoke a args)

  called_next : next (running s whole left) ≡ called s whole left a args
  called_next = free_next s whole left (calls a args) (charge_all s (v ∷ vs) (invoke a args) (λ us is. refl)) (call_at_work s vs v a args)

  many : frames_in whole ≡ suc (length vs) + 0
  many = frames_all s (v ∷ vs) (invoke a args)

  pub call_enters : (t : Term) → length vs + 1 < most_frames → frame_for s a args ≡ Some t → Reaches (running s whole left) (running s (frames_round s (v ∷ vs) t) left)
  call_enters t lt e =
      let few : nat_lt (frames_in whole) most_frames ≡ true = le-leb (suc (frames_in whole)) most_frames (omega (arith, many, lt)) in
      reaches _ _ (leads s whole left _
      (called_next
      ∙ ap (λ b. cond b (entered s whole left (frame_for s a args)) (running s (with_form (throw stack_exhausted) whole) left)) few
      ∙ ap (entered s whole left) e
      ∙ ap (λ u. running s u left) (form_all s t (v ∷ vs) (invoke a args))))

  pub call_throws : most_frames ≤ length vs + 1 → Reaches (running s whole left) (ended s (thrown stack_exhausted) left)
  call_throws le =
      let full : nat_lt (frames_in whole) most_frames ≡ false = lt-leb (suc (frames_in whole)) most_frames (omega (arith, many, le)) in
      reaches _ _ (leads_to _ _ _ (leads s whole left _
      (called_next
      ∙ ap (λ b. cond b (entered s whole left (frame_for s a args)) (running s (with_form (throw stack_exhausted) whole) left)) full
      ∙ ap (λ u. running s u left) (form_all s (throw stack_exhausted) (v ∷ vs) (invoke a args))))
      (unwind_throw s (v ∷ vs) stack_exhausted left))

-- The frames of a run.

-- one more waits
pub one_more : (outer outer' : List View) (v : View) → outer' ≡ outer ++ v ∷ [] → reverse outer' ≡ v ∷ reverse outer
one_more outer outer' v e = ap reverse e ∙ reverse-append outer (v ∷ [])

pub call_comes : (s : Store) (outer outer' : List View) (v v' w w' : View) (a : FuncAddr) (args args' : List Value) (left : ℕ)
    → length outer + 1 < most_frames → frame_for s a args' ≡ Some (term_of s w) → args' ≡ args → w' ≡ w → v' ≡ v → outer' ≡ outer ++ v' ∷ []
    → Reaches (running s (frames_round s (reverse outer) (term_round (module_for s v) v (invoke a args))) left) (running s (frames_round s (reverse outer') (term_of s w')) left)
call_comes s outer outer' v v' w w' a args args' left lt f g h k e =
    let b : frame_for s a args ≡ Some (term_of s w') = ap (frame_for s a) (sym g) ∙ f ∙ ap (λ u. Some (term_of s u)) (sym h) in
    let d : reverse outer' ≡ v ∷ reverse outer = one_more outer outer' v' e ∙ ap (λ u. u ∷ reverse outer) k in
    let r = call_enters s (reverse outer) v a args left (term_of s w') (omega (arith, length-reverse outer, lt)) b in
    subst (λ vs. Reaches (running s (frames_round s (reverse outer) (term_round (module_for s v) v (invoke a args))) left) (running s (frames_round s vs (term_of s w')) left)) (sym d) r

pub call_exhausts : (s : Store) (outer : List View) (v : View) (a : FuncAddr) (args : List Value) (left : ℕ) → most_frames ≤ length outer + 1
    → Reaches (running s (frames_round s (reverse outer) (term_round (module_for s v) v (invoke a args))) left) (ended s (thrown stack_exhausted) left)
call_exhausts s outer v a args left le = call_throws s (reverse outer) v a args left (omega (arith, length-reverse outer, le))

pub call_lasts : (s : Store) (R : List ValType) (a : Activations) (func : FuncAddr) (args : Vec Value Global) (w w' v' : View) (outer' : Vec View Global)
    → length a.outer.items + 1 < most_frames → w' ≡ w → v' ≡ a.top → outer'.items ≡ a.outer.items ++ v' ∷ [] → Fits s (type_of (function_at s func)).results w
    → IsPending s R (Call func args) a → Works s R (record { top = w'; outer = outer'; left = a.left })
call_lasts s R a func args w w' v' outer' lt g k e f h =
    let d : reverse outer'.items ≡ a.top ∷ reverse a.outer.items = one_more a.outer.items outer'.items v' e ∙ ap (λ u. u ∷ reverse a.outer.items) k in
    let own = (type_of (function_at s func)).results in
    let waiting : AreWaiting s R (a.top ∷ reverse a.outer.items) own = (h.own, h.leaves.2, h.round.waiting) in
    let few : length (a.top ∷ reverse a.outer.items) < most_frames = omega (arith, length-reverse a.outer.items, lt) in
    record {
      own = own;
      round = record {
        waiting = subst (λ vs. AreWaiting s R vs own) (sym d) waiting;
        few = subst (λ (vs : List View). length vs < most_frames) (sym d) few;
        code = h.round.code;
      };
      fits = subst (Fits s own) (sym g) f;
    }

-- A frame gives its values to the one round it.

-- the frame that waits
pub record IsNext (s : Store) (R : List ValType) (values : List Value) (v : View) (vs : List View) : Type 0 where
  pub own : List ValType
  pub types : List ValType
  pub waits : Waits s own types v
  pub typed : AllZip (HasType s) values types
  pub waiting : AreWaiting s R vs own
  pub few : length vs < most_frames
  pub code : AllHaveCode s

pub next_frame : (s : Store) (R : List ValType) (a : Activations) (values : Vec Value Global) (v : View) (outer' : List View) → a.outer.items ≡ outer' ++ v ∷ [] → IsPending s R (Returned values) a → IsNext s R values.items v (reverse outer')
next_frame s R a values v outer' e h =
    let d : reverse a.outer.items ≡ v ∷ reverse outer' = one_more outer' a.outer.items v e in
    let w : AreWaiting s R (v ∷ reverse outer') h.own = subst (λ vs. AreWaiting s R vs h.own) d h.round.waiting in
    let n : length (v ∷ reverse outer') < most_frames = subst (λ (vs : List View). length vs < most_frames) d h.round.few in
    record { own = w.0; types = h.own; waits = w.1; typed = h.leaves; waiting = w.2; few = omega (arith, n); code = h.round.code }

pub give_lasts : (s : Store) (R : List ValType) (values : List Value) (v w : View) (outer' : Vec View Global) (left : ℕ) → IsNext s R values v (reverse outer'.items)
    → ((own types : List ValType) → Waits s own types v → AllZip (HasType s) values types → Fits s own w) → Works s R (record { top = w; outer = outer'; left = left })
give_lasts s R values v w outer' left n f =
    record { own = n.own; round = record { waiting = n.waiting; few = n.few; code = n.code }; fits = f n.own n.types n.waits n.typed }
