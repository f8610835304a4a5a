-- Calls of functions of modules, and how traps and exceptions leave them.
use Rattle.std.proofs.Common.{◌≡◌, ℕ, suc, ◌≤◌, ◌<◌, List, [], ◌∷◌, ◌++◌, refl, sym, ap, ◌∙◌, subst, arith, Option, Some, None, true, false}
use Rattle.std.specs.Prelude.{nat_lt, cond, reverse}
use Rattle.host_values.specs.Heaps.{next_object}
use Rattle.host_values.specs.declared.values.ErrorClass.TheVariants as errors
use Rattle.host_values.specs.declared.values.HostValue.{HostValue}
use Rattle.host_values.specs.declared.values.HostValue.TheVariants as values
use Rattle.host_machine.specs.declared.completion.Completion.TheVariants as completions
use Rattle.host_machine.specs.declared.focus.Focus.TheVariants as focus
use Rattle.host_machine.specs.Frames.{thrown as thrown_frame}
use Rattle.host_machine.specs.Terms.{Frame as HostView, term_of as host_term_of}
use Rattle.iface_objects.specs.declared.realm.Realm.{Realm}
use Rattle.jspi_stacks.specs.declared.frame.Frame.{Frame}
use Rattle.jspi_stacks.specs.declared.frame.Frame.TheVariants as frames
use Rattle.jspi_stacks.specs.declared.mark.Mark.{Mark}
use Rattle.jspi_stacks.specs.declared.mark.Mark.TheVariants as marks
use Rattle.jspi_stacks.specs.Stacks.{activations_of}
use Rattle.jspi_stacks.specs.Whole.{Whole, host, core, thrown, around, host_round, core_round, mark_round, fold, form_of, whole_of}
use Rattle.wasm_syntax.specs.declared.addresses.FuncAddr.{FuncAddr}
use Rattle.wasm_syntax.specs.declared.instructions.Instr.{Instr}
use Rattle.wasm_syntax.specs.declared.module.Module.{Module}
use Rattle.wasm_syntax.specs.declared.trap.Trap.{Trap}
use Rattle.wasm_syntax.specs.declared.types.ValType.{ValType}
use Rattle.wasm_syntax.specs.declared.value.Value.{Value}
use Rattle.wasm_store.specs.Store.{Store}
use Rattle.wasm_machine.specs.Charges.{charge_in}
use Rattle.wasm_machine.specs.Reduction as reduction
use Rattle.wasm_machine.specs.Terms.{Term, here, invoke, trap, inside}
use Rattle.wasm_machine.specs.View.{View, Open, level_of, close, frame_level, module_for, term_round, term_of, values_of, with_values}
use Rattle.embed_run.specs.declared.machine.Machine.{Machine}
use Rattle.embed_run.specs.Configurations.{Program, Configuration}
use Rattle.embed_run.specs.Calls.{error_in, most_activations}
use Rattle.embed_run.specs.Rules.{Does, goes, throws, results, traps, does, by_core, called, entered, in_caller, outermost, filled, with_results, activations_in, after}
use Rattle.embed_run.specs.Outcomes.{Freely, stays}
use Rattle.embed_run.specs.Worlds.{configuration_of, AreWaiting, AwaitResults, TakesResults}
use Rattle.embed_run.specs.Answering.{in_entries, with_inner, below}
use Rattle.embed_run.proofs.Folding.{entries_go, count_core, count_mark, frames_round}
use Rattle.embed_run.proofs.Terms.{filled_frame, caller_frame, round_calls, results_frame}
use Rattle.embed_run.proofs.Nexts.{with_term, free_first, freely_is}
use Rattle.embed_run.proofs.CoreTurns.{goes_to}

-- the script has the exception
abbrev pub caught : HostValue → HostView → List Frame → List Frame
caught o f fs = frames.Host (thrown_frame o f) ∷ fs

-- an exception comes to the script
throw_reaches : (p : Program) (m : Machine) (lines : List (List ℕ)) (r q : Realm) (u : Whole) (o : HostValue) (f : HostView) (fs : List Frame)
    → after p (with_term m q u lines) (in_entries r.store (frames.Host f ∷ fs) (throws r o)) ≡ with_term m r (whole_of r.store (caught o f fs)) lines
throw_reaches p m lines r q u o f fs =
    ap (after p (with_term m q u lines)) (entries_go r.store fs r [] (host f.locals (filled (focus.Leaves (completions.Throw o)) (host_term_of f))))
    ∙ goes_once ∙ ap (λ t. with_term m r (fold r.store fs (host f.locals t)) lines) (filled_frame (focus.Leaves (completions.Throw o)) f)
  where
    goes_once : after p (with_term m q u lines) (goes r [] (fold r.store fs (host f.locals (filled (focus.Leaves (completions.Throw o)) (host_term_of f))))) ≡ with_term m r (fold r.store fs (host f.locals (filled (focus.Leaves (completions.Throw o)) (host_term_of f)))) lines
    goes_once = goes_to p m r.store [] lines r (fold r.store fs (host f.locals (filled (focus.Leaves (completions.Throw o)) (host_term_of f)))) u

-- through a mark
mark_throws : (p : Program) (m : Machine) (lines : List (List ℕ)) (types : List ValType) (r q : Realm) (u : Whole) (o : HostValue) (k : Mark) (f : HostView) (fs : List Frame) → TakesResults k types
    → after p (with_term m q u lines) (in_entries r.store (frames.Mark k ∷ frames.Host f ∷ fs) (throws r o)) ≡ with_term m r (whole_of r.store (caught o f fs)) lines
mark_throws p m lines types r q u o marks.Call f fs h = throw_reaches p m lines r q u o f fs
mark_throws p m lines types r q u o (marks.Start i) f fs h = throw_reaches p m lines r q u o f fs
mark_throws p m lines types r q u o (marks.Promising a b) f fs h = absurd h
mark_throws p m lines types r q u o (marks.HostIn ts) f fs h = absurd h
mark_throws p m lines types r q u o (marks.SuspendingIn ts) f fs h = absurd h
mark_throws p m lines types r q u o (marks.Executor a b) f fs h = absurd h
mark_throws p m lines types r q u o (marks.Thenable b) f fs h = absurd h
mark_throws p m lines types r q u o (marks.Job d) f fs h = absurd h

mark_traps : (p : Program) (m : Machine) (lines : List (List ℕ)) (types : List ValType) (r q : Realm) (u : Whole) (cause : Trap) (k : Mark) (f : HostView) (fs : List Frame) → TakesResults k types
    → after p (with_term m q u lines) (in_entries r.store (frames.Mark k ∷ frames.Host f ∷ fs) (traps r cause)) ≡ with_term m (error_in r errors.RuntimeError) (whole_of r.store (caught (values.Object (next_object r.heap)) f fs)) lines
mark_traps p m lines types r q u cause marks.Call f fs h = throw_reaches p m lines (error_in r errors.RuntimeError) q u (values.Object (next_object r.heap)) f fs
mark_traps p m lines types r q u cause (marks.Start i) f fs h = throw_reaches p m lines (error_in r errors.RuntimeError) q u (values.Object (next_object r.heap)) f fs
mark_traps p m lines types r q u cause (marks.Promising a b) f fs h = absurd h
mark_traps p m lines types r q u cause (marks.HostIn ts) f fs h = absurd h
mark_traps p m lines types r q u cause (marks.SuspendingIn ts) f fs h = absurd h
mark_traps p m lines types r q u cause (marks.Executor a b) f fs h = absurd h
mark_traps p m lines types r q u cause (marks.Thenable b) f fs h = absurd h
mark_traps p m lines types r q u cause (marks.Job d) f fs h = absurd h

-- an exception leaves all frames of the module
pub throw_leaves : (p : Program) (m : Machine) (lines : List (List ℕ)) (types : List ValType) (r : Realm) (es : List Frame) (o : HostValue) (f : HostView) (fs : List Frame) → AwaitResults r.store types es → below es ≡ frames.Host f ∷ fs
    → Freely p (with_term m r (fold r.store es (thrown o)) lines) (with_term m r (whole_of r.store (caught o f fs)) lines)
throw_leaves p m lines types r [] o f fs a e = absurd a
throw_leaves p m lines types r (frames.Host g ∷ es) o f fs a e = absurd a
throw_leaves p m lines types r (frames.Wasm v ∷ es) o f fs a e =
    free_first p m r r.store (frames.Wasm v ∷ es) (thrown o) lines _ (throws r o) r (thrown o) _ tt refl refl refl
    (subst (λ x. Freely p x (with_term m r (whole_of r.store (caught o f fs)) lines)) (sym (goes_to p m r.store es lines r (thrown o) (thrown o))) (throw_leaves p m lines a.0 r es o f fs a.2 e))
throw_leaves p m lines types r (frames.Mark k ∷ es) o f fs a e =
    free_first p m r r.store (frames.Mark k ∷ es) (thrown o) lines _ (throws r o) r (thrown o) _ tt refl refl refl
    (freely_is p _ _ (ap (λ xs. after p (with_term m r (thrown o) lines) (in_entries r.store (frames.Mark k ∷ xs) (throws r o))) e ∙ mark_throws p m lines types r r (thrown o) o k f fs a.0))

-- so does a trap
pub trap_leaves : (p : Program) (m : Machine) (lines : List (List ℕ)) (types : List ValType) (r : Realm) (es : List Frame) (cause : Trap) (f : HostView) (fs : List Frame) → AwaitResults r.store types es → below es ≡ frames.Host f ∷ fs
    → Freely p (with_term m r (fold r.store es (core (trap cause))) lines) (with_term m (error_in r errors.RuntimeError) (whole_of r.store (caught (values.Object (next_object r.heap)) f fs)) lines)
trap_leaves p m lines types r [] cause f fs a e = absurd a
trap_leaves p m lines types r (frames.Host g ∷ es) cause f fs a e = absurd a
trap_leaves p m lines types r (frames.Wasm v ∷ es) cause f fs a e =
    free_first p m r r.store (frames.Wasm v ∷ es) (core (trap cause)) lines _ (traps r cause) r (core (trap cause)) _ tt refl refl refl
    (subst (λ x. Freely p x (with_term m (error_in r errors.RuntimeError) (whole_of r.store (caught (values.Object (next_object r.heap)) f fs)) lines)) (sym (goes_to p m r.store es lines r (core (trap cause)) (core (trap cause))))
    (trap_leaves p m lines a.0 r es cause f fs a.2 e))
trap_leaves p m lines types r (frames.Mark k ∷ es) cause f fs a e =
    free_first p m r r.store (frames.Mark k ∷ es) (core (trap cause)) lines _ (traps r cause) r (core (trap cause)) _ tt refl refl refl
    (freely_is p _ _ (ap (λ xs. after p (with_term m r (core (trap cause)) lines) (in_entries r.store (frames.Mark k ∷ xs) (traps r cause))) e ∙ mark_traps p m lines types r r (core (trap cause)) cause k f fs a.0))

-- ---- calls

charge_close : (m : Module) (os : List Open) (t : Term) (vs : List Value) (is : List Instr) → ((us : List Value) (js : List Instr) → charge_in us js t ≡ 0) → charge_in vs is (close m os t) ≡ 0
charge_close m [] t vs is h = h vs is
charge_close m (o ∷ os) t vs is h = charge_close m os (inside (level_of m o) t) vs is (λ us js. h _ _)

-- a call within a frame takes nothing by itself
call_is_free : (m : Module) (v : View) (a : FuncAddr) (args : List Value) → charge_in [] [] (term_round m v (invoke a args)) ≡ 0
call_is_free m v a args = charge_close m (v.top ∷ v.outer) (invoke a args) [] [] (λ us js. refl)

module _ (p : Program) (m : Machine) (lines : List (List ℕ)) (r : Realm) (a : FuncAddr) (args : List Value) (n : ℕ) where
  -- a function of a module is called by another one
  module _ (es : List Frame) (v : View) (counts : activations_of (frames.Wasm v ∷ es) ≡ n) where
    abbrev calling : Term
    calling = term_round (module_for r.store v) v (invoke a args)

    count : activations_in (fold r.store es (core calling)) ≡ n
    count = count_core r.store es v calling (frames_round (module_for r.store v) v (invoke a args)) ∙ counts

    does_call : by_core r n calling (reduction.reduce r.store outermost calling) ≡ called r n calling a args
    does_call = ap (by_core r n calling) (round_calls r.store outermost v a args)

    pub call_enters : (w : View) → nat_lt n most_activations ≡ true → reduction.frame_for r.store a args ≡ Some (term_of r.store w)
        → Freely p (with_term m r (fold r.store es (core calling)) lines) (with_term m r (whole_of r.store (frames.Wasm w ∷ frames.Wasm v ∷ es)) lines)
    call_enters w lt e =
        let inner : Whole = around (core_round (term_of r.store v)) (core (term_of r.store w)) in
        free_first p m r r.store es (core calling) lines n (goes r [] inner) r inner _ tt (call_is_free (module_for r.store v) v a args) count
        (does_call
        ∙ ap (λ b. cond b (entered r calling (reduction.frame_for r.store a args)) (goes (error_in r errors.RangeError) [] (in_caller calling (thrown (values.Object (next_object r.heap)))))) lt
        ∙ ap (entered r calling) e ∙ ap (goes r []) (caller_frame (module_for r.store v) v a args (core (term_of r.store w))))
        (freely_is p _ _ (goes_to p m r.store es lines r inner inner))

    pub call_throws : (types : List ValType) (f : HostView) (fs : List Frame) → nat_lt n most_activations ≡ false → AwaitResults r.store types (frames.Wasm v ∷ es) → below es ≡ frames.Host f ∷ fs
        → Freely p (with_term m r (fold r.store es (core calling)) lines) (with_term m (error_in r errors.RangeError) (whole_of r.store (caught (values.Object (next_object r.heap)) f fs)) lines)
    call_throws types f fs lt await e =
        let o = values.Object (next_object r.heap) in
        let q = error_in r errors.RangeError in
        let inner : Whole = around (core_round (term_of r.store v)) (thrown o) in
        free_first p m r r.store es (core calling) lines n (goes q [] inner) q inner _ tt (call_is_free (module_for r.store v) v a args) count
        (does_call
        ∙ ap (λ b. cond b (entered r calling (reduction.frame_for r.store a args)) (goes q [] (in_caller calling (thrown o)))) lt
        ∙ ap (goes q []) (caller_frame (module_for r.store v) v a args (thrown o)))
        (subst (λ x. Freely p x (with_term m q (whole_of r.store (caught o f fs)) lines)) (sym (goes_to p m r.store es lines q inner inner)) (throw_leaves p m lines types q (frames.Wasm v ∷ es) o f fs await e))

  -- a function of a module is called by the script, above a mark
  module _ (es : List Frame) (f : HostView) (k : Mark) (counts : activations_of (frames.Host f ∷ es) ≡ n) where
    abbrev entries : List Frame
    entries = frames.Mark k ∷ frames.Host f ∷ es

    count_begin : activations_in (fold r.store entries (core (invoke a args))) ≡ n
    count_begin = count_mark r.store (frames.Mark k) (frames.Host f ∷ es) (core (invoke a args)) refl ∙ counts

    pub begin_enters : (w : View) → nat_lt n most_activations ≡ true → reduction.frame_for r.store a args ≡ Some (term_of r.store w)
        → Freely p (with_term m r (fold r.store entries (core (invoke a args))) lines) (with_term m r (whole_of r.store (frames.Wasm w ∷ entries)) lines)
    begin_enters w lt e =
        free_first p m r r.store entries (core (invoke a args)) lines n (goes r [] (core (term_of r.store w))) r (core (term_of r.store w)) _ tt refl count_begin
        (ap (λ b. cond b (entered r (invoke a args) (reduction.frame_for r.store a args)) (goes (error_in r errors.RangeError) [] (thrown (values.Object (next_object r.heap))))) lt
        ∙ ap (entered r (invoke a args)) e)
        (freely_is p _ _ (goes_to p m r.store entries lines r (core (term_of r.store w)) (core (term_of r.store w))))

    pub begin_throws : (types : List ValType) → nat_lt n most_activations ≡ false → TakesResults k types → AreWaiting (frames.Host f ∷ es)
        → Freely p (with_term m r (fold r.store entries (core (invoke a args))) lines) (with_term m (error_in r errors.RangeError) (whole_of r.store (caught (values.Object (next_object r.heap)) f es)) lines)
    begin_throws types lt takes waits =
        let o = values.Object (next_object r.heap) in
        let q = error_in r errors.RangeError in
        free_first p m r r.store entries (core (invoke a args)) lines n (goes q [] (thrown o)) q (thrown o) _ tt refl count_begin
        (ap (λ b. cond b (entered r (invoke a args) (reduction.frame_for r.store a args)) (goes q [] (thrown o))) lt)
        (subst (λ x. Freely p x (with_term m q (whole_of r.store (caught o f es)) lines)) (sym (goes_to p m r.store entries lines q (thrown o) (thrown o))) (throw_leaves p m lines types q entries o f es (takes, waits) refl))
