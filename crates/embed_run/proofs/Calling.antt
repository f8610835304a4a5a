-- Calls by the script, and what ends them.
use Rattle.std.proofs.Common.{◌≡◌, ℕ, suc, ◌≤◌, ◌<◌, List, [], ◌∷◌, ◌++◌, refl, sym, ap, ◌∙◌, subst, arith, Option, Some, None, true, false}
use Rattle.std.specs.Prelude.{nat_lt, cond, reverse}
use Rattle.std.proofs.lemmas.Bool.{le-leb, lt-leb}
use Rattle.embed_base.specs.declared.outside.OutsideKind.TheVariants as outside
use Rattle.host_values.specs.Heaps.{kind_at, next_object}
use Rattle.host_values.specs.declared.kinds.Callee.{Callee}
use Rattle.host_values.specs.declared.kinds.Callee.TheVariants as callees
use Rattle.host_values.specs.declared.kinds.Kind.{Kind}
use Rattle.host_values.specs.declared.kinds.Kind.TheVariants as kinds
use Rattle.host_values.specs.declared.values.ErrorClass.{ErrorClass}
use Rattle.host_values.specs.declared.values.ErrorClass.TheVariants as errors
use Rattle.host_values.specs.declared.values.HostValue.{HostValue}
use Rattle.host_values.specs.declared.values.HostValue.TheVariants as values
use Rattle.host_machine.specs.Frames.{thrown as thrown_frame}
use Rattle.host_machine.specs.Terms.{Frame as HostView, term_of as host_term_of}
use Rattle.iface_objects.specs.declared.realm.Realm.{Realm}
use Rattle.jspi_stacks.specs.declared.frame.Frame.{Frame}
use Rattle.jspi_stacks.specs.declared.frame.Frame.TheVariants as frames
use Rattle.jspi_stacks.specs.declared.mark.Mark.{Mark}
use Rattle.jspi_stacks.specs.Stacks.{activations_of, Thrown}
use Rattle.jspi_stacks.specs.Whole.{Whole, host, core, around, host_round, mark_round, fold, whole_of}
use Rattle.wasm_syntax.specs.declared.addresses.FuncAddr.{FuncAddr}
use Rattle.wasm_syntax.specs.declared.types.ValType.{ValType}
use Rattle.wasm_syntax.specs.declared.value.Value.{Value}
use Rattle.wasm_machine.specs.Reduction.{frame_for}
use Rattle.wasm_machine.specs.Terms.{invoke}
use Rattle.wasm_machine.specs.View.{View, term_of}
use Rattle.embed_run.specs.declared.end.Turn.{Turn}
use Rattle.embed_run.specs.declared.end.Turn.TheVariants as turns
use Rattle.embed_run.specs.declared.machine.Machine.{Machine}
use Rattle.embed_run.specs.Configurations.{Program, Configuration}
use Rattle.embed_run.specs.Calls.{Reply, value, exception, refusal, begins, throws, running, error_in, most_activations}
use Rattle.embed_run.specs.Rules.{Does, goes, replied, after}
use Rattle.embed_run.specs.Outcomes.{Freely}
use Rattle.embed_run.specs.Worlds.{configuration_of, IsOf, AreWaiting, TakesResults}
use Rattle.embed_run.specs.Answering.{in_entries, Shows, ShowsReply, AreSomeWaiting}
use Rattle.embed_run.proofs.Folding.{entries_go}
use Rattle.embed_run.proofs.Nexts.{with_term, freely_is, went, after_any}
use Rattle.embed_run.proofs.CoreTurns.{goes_to}
use Rattle.embed_run.proofs.Replies.{shows_went}
use Rattle.embed_run.proofs.Leaving.{begin_enters, begin_throws}

-- the function that a reply begins is running
pushed_at : (m : Machine) (f g : HostView) (es : List Frame) → Shows (record m { stack = frames.Host f ∷ es }) (λ p. in_entries m.realm.store es (replied f.locals (host_term_of f) (begins m.realm (running g)))) turns.Went (record m { stack = frames.Host g ∷ frames.Host f ∷ es })
pushed_at m f g es =
    shows_went (record m { stack = frames.Host f ∷ es }) m.realm (frames.Host g ∷ frames.Host f ∷ es) _ (fold m.realm.store es (around (host_round f.locals (host_term_of f)) (running g)))
    (λ p. entries_go m.realm.store es m.realm [] (around (host_round f.locals (host_term_of f)) (running g))) refl

pushed_on : (m : Machine) (st : List Frame) (g : HostView) → AreSomeWaiting st → ShowsReply (record m { stack = st }) (begins m.realm (running g)) turns.Went (record m { stack = frames.Host g ∷ st })
pushed_on m [] g h = absurd h
pushed_on m (frames.Host f ∷ es) g h = pushed_at m f g es
pushed_on m (frames.Wasm v ∷ es) g h = absurd h
pushed_on m (frames.Mark k ∷ es) g h = absurd h

-- a call of a function of the script: it begins
pub script_begins : (m : Machine) (n : ℕ) (g : HostView) → n < most_activations → AreSomeWaiting m.stack
    → ShowsReply m (cond (nat_lt n most_activations) (begins m.realm (running g)) (throws m.realm errors.RangeError)) turns.Went (record m { stack = frames.Host g ∷ m.stack })
script_begins m n g lt h =
    subst (λ b. ShowsReply m (cond b (begins m.realm (running g)) (throws m.realm errors.RangeError)) turns.Went (record m { stack = frames.Host g ∷ m.stack }))
    (sym (le-leb (suc n) most_activations lt)) (pushed_on m m.stack g h)

-- or there are too many
pub script_throws : (m : Machine) (n : ℕ) (g : HostView) (t : Turn) (new : Machine) → most_activations ≤ n → ShowsReply m (throws m.realm errors.RangeError) t new
    → ShowsReply m (cond (nat_lt n most_activations) (begins m.realm (running g)) (throws m.realm errors.RangeError)) t new
script_throws m n g t new le h =
    subst (λ b. ShowsReply m (cond b (begins m.realm (running g)) (throws m.realm errors.RangeError)) t new) (sym (lt-leb (suc n) most_activations (omega (arith, le)))) h

-- ---- a function of a module, above a mark

begins_first : (p : Program) (m : Machine) (f : HostView) (es : List Frame) (k : Mark) (w : Whole) (lines : List (List ℕ)) (q : Realm) (u : Whole)
    → after p (with_term m q u lines) (in_entries m.realm.store es (replied f.locals (host_term_of f) (begins m.realm (around (mark_round k) w)))) ≡ with_term m m.realm (fold m.realm.store (frames.Mark k ∷ frames.Host f ∷ es) w) lines
begins_first p m f es k w lines q u =
    ap (after p (with_term m q u lines)) (entries_go m.realm.store es m.realm [] (around (host_round f.locals (host_term_of f)) (around (mark_round k) w)))
    ∙ went p m m.realm q (fold m.realm.store (frames.Mark k ∷ frames.Host f ∷ es) w) u lines

core_begins_at : (m : Machine) (f : HostView) (es : List Frame) (k : Mark) (a : FuncAddr) (args : List Value) (w : View)
    → activations_of (frames.Host f ∷ es) < most_activations → frame_for m.realm.store a args ≡ Some (term_of m.realm.store w)
    → Shows (record m { stack = frames.Host f ∷ es }) (λ p. in_entries m.realm.store es (replied f.locals (host_term_of f) (begins m.realm (around (mark_round k) (core (invoke a args)))))) turns.Went (record m { stack = frames.Wasm w ∷ frames.Mark k ∷ frames.Host f ∷ es })
core_begins_at m f es k a args w lt e p o lines =
    subst (λ x. Freely p x (configuration_of (record m { stack = frames.Wasm w ∷ frames.Mark k ∷ frames.Host f ∷ es }) None lines)) (sym (begins_first p m f es k (core (invoke a args)) lines m.realm (whole_of m.realm.store (frames.Host f ∷ es))))
    (begin_enters p m lines m.realm a args (activations_of (frames.Host f ∷ es)) es f k refl w (le-leb (suc (activations_of (frames.Host f ∷ es))) most_activations lt) e)

core_begins_on : (m : Machine) (st : List Frame) (k : Mark) (a : FuncAddr) (args : List Value) (w : View) → AreSomeWaiting st
    → activations_of st < most_activations → frame_for m.realm.store a args ≡ Some (term_of m.realm.store w)
    → ShowsReply (record m { stack = st }) (begins m.realm (around (mark_round k) (core (invoke a args)))) turns.Went (record m { stack = frames.Wasm w ∷ frames.Mark k ∷ st })
core_begins_on m [] k a args w h lt e = absurd h
core_begins_on m (frames.Host f ∷ es) k a args w h lt e = core_begins_at m f es k a args w lt e
core_begins_on m (frames.Wasm v ∷ es) k a args w h lt e = absurd h
core_begins_on m (frames.Mark j ∷ es) k a args w h lt e = absurd h

pub core_begins : (m : Machine) (k : Mark) (a : FuncAddr) (args : List Value) (w : View) → AreSomeWaiting m.stack
    → activations_of m.stack < most_activations → frame_for m.realm.store a args ≡ Some (term_of m.realm.store w)
    → ShowsReply m (begins m.realm (around (mark_round k) (core (invoke a args)))) turns.Went (record m { stack = frames.Wasm w ∷ frames.Mark k ∷ m.stack })
core_begins m k a args w h lt e = core_begins_on m m.stack k a args w h lt e

core_throws_at : (m : Machine) (f : HostView) (es st' : List Frame) (k : Mark) (types : List ValType) (a : FuncAddr) (args : List Value) → AreWaiting (frames.Host f ∷ es) → TakesResults k types → most_activations ≤ activations_of (frames.Host f ∷ es)
    → st' ≡ frames.Host (thrown_frame (values.Object (next_object m.realm.heap)) f) ∷ es
    → Shows (record m { stack = frames.Host f ∷ es }) (λ p. in_entries m.realm.store es (replied f.locals (host_term_of f) (begins m.realm (around (mark_round k) (core (invoke a args)))))) turns.Went (record m { realm = error_in m.realm errors.RangeError; stack = st' })
core_throws_at m f es st' k types a args h takes le c p o lines =
    subst (λ x. Freely p x (configuration_of (record m { realm = error_in m.realm errors.RangeError; stack = st' }) None lines)) (sym (begins_first p m f es k (core (invoke a args)) lines m.realm (whole_of m.realm.store (frames.Host f ∷ es))))
    (subst (λ xs. Freely p (with_term m m.realm (fold m.realm.store (frames.Mark k ∷ frames.Host f ∷ es) (core (invoke a args))) lines) (configuration_of (record m { realm = error_in m.realm errors.RangeError; stack = xs }) None lines)) (sym c)
    (begin_throws p m lines m.realm a args (activations_of (frames.Host f ∷ es)) es f k refl types (lt-leb (suc (activations_of (frames.Host f ∷ es))) most_activations (omega (arith, le))) takes h))

core_throws_on : (m : Machine) (st st' : List Frame) (k : Mark) (types : List ValType) (a : FuncAddr) (args : List Value) → AreSomeWaiting st → TakesResults k types → most_activations ≤ activations_of st
    → Thrown (values.Object (next_object m.realm.heap)) st st'
    → ShowsReply (record m { stack = st }) (begins m.realm (around (mark_round k) (core (invoke a args)))) turns.Went (record m { realm = error_in m.realm errors.RangeError; stack = st' })
core_throws_on m [] st' k types a args h takes le c = absurd h
core_throws_on m (frames.Wasm v ∷ es) st' k types a args h takes le c = absurd h
core_throws_on m (frames.Mark j ∷ es) st' k types a args h takes le c = absurd h
core_throws_on m (frames.Host f ∷ es) st' k types a args h takes le c = core_throws_at m f es st' k types a args h takes le c

pub core_throws : (m : Machine) (st' : List Frame) (k : Mark) (types : List ValType) (a : FuncAddr) (args : List Value) → AreSomeWaiting m.stack → TakesResults k types → most_activations ≤ activations_of m.stack
    → Thrown (values.Object (next_object m.realm.heap)) m.stack st'
    → ShowsReply m (begins m.realm (around (mark_round k) (core (invoke a args)))) turns.Went (record m { realm = error_in m.realm errors.RangeError; stack = st' })
core_throws m st' k types a args h takes le c = core_throws_on m m.stack st' k types a args h takes le c
