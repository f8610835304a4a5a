-- A step of the module's frame on top is rewritings of the configuration.
use Rattle.std.proofs.Common.{◌≡◌, ◌⊎◌, inl, inr, ℕ, ◌≤◌, List, [], ◌∷◌, ◌++◌, refl, sym, ap, ◌∙◌, subst, arith, Option, Some, None}
use Rattle.std.specs.Prelude.{reverse}
use Rattle.std.proofs.lemmas.List.{reverse-reverse}
use Rattle.host_values.specs.Heaps.{next_object}
use Rattle.host_values.specs.declared.values.ErrorClass.TheVariants as errors
use Rattle.host_values.specs.declared.values.HostValue.{HostValue}
use Rattle.host_values.specs.declared.values.HostValue.TheVariants as values
use Rattle.host_machine.specs.Frames.{thrown as thrown_frame}
use Rattle.host_machine.specs.Terms.{Frame as HostView, term_of as host_term_of}
use Rattle.iface_objects.specs.declared.realm.Realm.{Realm}
use Rattle.iface_objects.specs.Realms.{with_store}
use Rattle.jspi_stacks.specs.declared.frame.Frame.{Frame}
use Rattle.jspi_stacks.specs.declared.frame.Frame.TheVariants as frames
use Rattle.jspi_stacks.specs.Stacks.{activations_of}
use Rattle.jspi_stacks.specs.Whole.{Whole, core, around, core_round, mark_round, fold, form_of, whole_of}
use Rattle.wasm_syntax.specs.declared.trap.Trap.{Trap}
use Rattle.wasm_syntax.specs.declared.types.ValType.{ValType}
use Rattle.wasm_syntax.specs.declared.value.Value.{Value}
use Rattle.wasm_store.specs.Store.{Store}
use Rattle.wasm_store.specs.Whole.{IsLater}
use Rattle.wasm_machine.specs.declared.frame.Effect.{Effect}
use Rattle.wasm_machine.specs.declared.frame.Effect.TheVariants as cores
use Rattle.wasm_machine.specs.Charges as charges
use Rattle.wasm_machine.specs.Fits.{CodeStays, WaitingStays}
use Rattle.wasm_machine.specs.Reduction as reduction
use Rattle.wasm_machine.specs.Steps.{Makes, EndsIn, TrapsIn}
use Rattle.wasm_machine.specs.Terms.{FrameState, Term, here, invoke, trap}
use Rattle.wasm_machine.specs.View.{View, module_for, term_round, term_of}
use Rattle.embed_run.specs.declared.machine.Machine.{Machine}
use Rattle.embed_run.specs.Configurations.{Program, Configuration}
use Rattle.embed_run.specs.Rules.{Does, goes, results, traps, does, by_core, outermost, in_form, activations_in, frames_in, after, next}
use Rattle.embed_run.specs.Outcomes.{Freely, stays, freely}
use Rattle.embed_run.specs.Worlds.{configuration_of, AreWaiting, AwaitResults, TakesResults}
use Rattle.embed_run.specs.Answering.{in_entries, with_inner, came}
use Rattle.embed_run.proofs.Folding.{entries_go, count_core, frames_round}
use Rattle.embed_run.proofs.Nexts.{with_term, paid, next_within, free_first, after_any, went}
use Rattle.embed_run.proofs.Replies.{fold_waiting, entries_waiting}

-- ---- later stores

module _ (codes : CodeStays) (waits : WaitingStays) where
  pub fold_later : (s q : Store) (types : List ValType) (es : List Frame) (w : Whole) → IsLater s q → AwaitResults s types es → fold s es w ≡ fold q es w
  fold_later s q types [] w l h = absurd h
  fold_later s q types (frames.Host f ∷ es) w l h = absurd h
  fold_later s q types (frames.Mark m ∷ es) w l h = fold_waiting s q es (around (mark_round m) w) h.1
  fold_later s q types (frames.Wasm v ∷ es) w l h =
      fold_later s q h.0 es (around (form_of s (frames.Wasm v)) w) l h.2
      ∙ ap (λ m. fold q es (around (core_round (term_round m v here)) w)) (sym (codes s q h.0 v _ _ l h.1))

  pub entries_later : (s q : Store) (types : List ValType) (es : List Frame) (d : Does) → IsLater s q → AwaitResults s types es → in_entries s es d ≡ in_entries q es d
  entries_later s q types [] d l h = absurd h
  entries_later s q types (frames.Host f ∷ es) d l h = absurd h
  entries_later s q types (frames.Mark m ∷ es) d l h = entries_waiting s q es (in_form (mark_round m) d) h.1
  entries_later s q types (frames.Wasm v ∷ es) d l h =
      entries_later s q h.0 es (in_form (form_of s (frames.Wasm v)) d) l h.2
      ∙ ap (λ m. in_entries q es (in_form (core_round (term_round m v here)) d)) (sym (codes s q h.0 v _ _ l h.1))

  pub await_later : (s q : Store) (types : List ValType) (es : List Frame) → IsLater s q → AwaitResults s types es → AwaitResults q types es
  await_later s q types [] l h = h
  await_later s q types (frames.Host f ∷ es) l h = h
  await_later s q types (frames.Mark m ∷ es) l h = h
  await_later s q types (frames.Wasm v ∷ es) l h = (h.0, waits s q h.0 types v l h.1, await_later s q h.0 es l h.2)

-- ---- a step

-- a core term is rewritten within entries
module _ (p : Program) (m : Machine) (r : Realm) (es : List Frame) (lines : List (List ℕ)) where
  -- at its first rewriting, with its charge
  first_within : (t : Term) (k : ℕ) (d : Does) → charges.charge_of t ≡ k → k ≤ m.left → ((n : ℕ) → by_core r n t (reduction.reduce r.store outermost t) ≡ d)
      → (q : Realm) (u : Whole) → next p (with_term m r (fold r.store es (core t)) lines) ≡ after p (with_term (paid k m) q u lines) (in_entries r.store es d)
  first_within t k d c le h q u = next_within p m r r.store es (core t) lines k (activations_in (fold r.store es (core t))) d tt c le refl (h (activations_in (fold r.store es (core t)))) q u

  -- and at one that takes nothing
  free_core : (t : Term) (d : Does) (q : Realm) (u : Whole) (end : Configuration) → charges.charge_of t ≡ 0 → ((n : ℕ) → by_core r n t (reduction.reduce r.store outermost t) ≡ d)
      → Freely p (after p (with_term m q u lines) (in_entries r.store es d)) end → Freely p (with_term m r (fold r.store es (core t)) lines) end
  free_core t d q u end c h rest = free_first p m r r.store es (core t) lines (activations_in (fold r.store es (core t))) d q u end tt c refl (h (activations_in (fold r.store es (core t)))) rest

-- what a rewriting that goes on leaves
pub goes_to : (p : Program) (m : Machine) (s : Store) (es : List Frame) (lines : List (List ℕ)) (q : Realm) (w u : Whole) → after p (with_term m q u lines) (in_entries s es (goes q [] w)) ≡ with_term m q (fold s es w) lines
goes_to p m s es lines q w u = ap (after p (with_term m q u lines)) (entries_go s es q [] w) ∙ went p m q q (fold s es w) u lines

-- it gives its results
step_returned : (p : Program) (m : Machine) (es : List Frame) (lines : List (List ℕ)) (v : View) (vs : List Value) (k : ℕ) (end : Configuration)
    → charges.charge_of (term_of m.realm.store v) ≡ k → k ≤ m.left → EndsIn m.realm.store outermost (term_of m.realm.store v) (reverse vs)
    → Freely p (after p (configuration_of (paid k m) None lines) (in_entries m.realm.store es (results m.realm vs))) end → Freely p (next p (with_inner m es (core (term_of m.realm.store v)) lines)) end
step_returned p m es lines v vs k end c le (inl g) rest =
    let s = m.realm.store in
    subst (λ x. Freely p x end)
    (sym (first_within p m m.realm es lines (term_of s v) k (results m.realm vs) c le (λ n. ap (by_core m.realm n (term_of s v)) g ∙ ap (results m.realm) (reverse-reverse vs)) m.realm (whole_of s m.stack))) rest
step_returned p m es lines v vs k end c le (inr g) rest =
    let s = m.realm.store in
    let w = core g.0 in
    subst (λ x. Freely p x end)
    (sym (first_within p m m.realm es lines (term_of s v) k (goes m.realm [] w) c le (λ n. ap (by_core m.realm n (term_of s v)) g.1) m.realm w ∙ goes_to p (paid k m) s es lines m.realm w w))
    (free_core p (paid k m) m.realm es lines g.0 (results m.realm vs) m.realm (whole_of s m.stack) end g.2 (λ n. ap (by_core m.realm n g.0) g.3 ∙ ap (results m.realm) (reverse-reverse vs)) rest)

-- it traps
step_trapped : (p : Program) (m : Machine) (es : List Frame) (lines : List (List ℕ)) (v : View) (cause : Trap) (k : ℕ) (end : Configuration)
    → charges.charge_of (term_of m.realm.store v) ≡ k → k ≤ m.left → TrapsIn m.realm.store outermost (term_of m.realm.store v) cause
    → Freely p (with_inner (paid k m) es (core (trap cause)) lines) end → Freely p (next p (with_inner m es (core (term_of m.realm.store v)) lines)) end
step_trapped p m es lines v cause k end c le g rest =
    let s = m.realm.store in
    let w = core g.0 in
    subst (λ x. Freely p x end)
    (sym (first_within p m m.realm es lines (term_of s v) k (goes m.realm [] w) c le (λ n. ap (by_core m.realm n (term_of s v)) g.1) m.realm w ∙ goes_to p (paid k m) s es lines m.realm w w))
    (free_core p (paid k m) m.realm es lines g.0 (goes m.realm [] (core (trap cause))) m.realm (core (trap cause)) end g.2 (λ n. ap (by_core m.realm n g.0) g.3)
    (subst (λ x. Freely p x end) (sym (goes_to p (paid k m) s es lines m.realm (core (trap cause)) (core (trap cause)))) rest))

pub core_step : (codes : CodeStays) (waits : WaitingStays) (p : Program) (m : Machine) (es : List Frame) (own : List ValType) (lines : List (List ℕ)) (v v' : View) (e : Effect) (q : Store) (k : ℕ) (end : Configuration)
    → charges.charge_of (term_of m.realm.store v) ≡ k → k ≤ m.left → Makes m.realm.store (term_of m.realm.store v) e q v' → IsLater m.realm.store q → AwaitResults m.realm.store own es
    → Freely p (came p (record (paid k m) { realm = with_store q m.realm }) e v' es lines) end → Freely p (next p (with_inner m es (core (term_of m.realm.store v)) lines)) end
core_step codes waits p m es own lines v v' cores.Went q k end c le h l a rest =
    let s = m.realm.store in
    let w = core (term_of q v') in
    subst (λ x. Freely p x end)
    (sym (first_within p m m.realm es lines (term_of s v) k (goes (with_store q m.realm) [] w) c le (λ n. ap (by_core m.realm n (term_of s v)) (h outermost)) (with_store q m.realm) w
    ∙ goes_to p (paid k m) s es lines (with_store q m.realm) w w ∙ ap (λ x. with_term (paid k m) (with_store q m.realm) x lines) (fold_later codes waits s q own es w l a))) rest
core_step codes waits p m es own lines v v' (cores.Grew memory) q k end c le h l a rest =
    let s = m.realm.store in
    let w = core (term_of q v') in
    subst (λ x. Freely p x end)
    (sym (first_within p m m.realm es lines (term_of s v) k (goes (with_store q m.realm) [] w) c le (λ n. ap (by_core m.realm n (term_of s v)) (h outermost)) (with_store q m.realm) w
    ∙ goes_to p (paid k m) s es lines (with_store q m.realm) w w ∙ ap (λ x. with_term (paid k m) (with_store q m.realm) x lines) (fold_later codes waits s q own es w l a))) rest
core_step codes waits p m es own lines v v' (cores.Call func args) q k end c le h l a rest =
    let s = m.realm.store in
    let w = core (term_round (module_for s v') v' (invoke func args.items)) in
    subst (λ x. Freely p x end)
    (sym (first_within p m m.realm es lines (term_of s v) k (goes m.realm [] w) c le (λ n. ap (by_core m.realm n (term_of s v)) (h.1 outermost)) m.realm w
    ∙ goes_to p (paid k m) s es lines m.realm w w
    ∙ ap (λ x. with_term (paid k m) (with_store x m.realm) (fold x es (core (term_round (module_for x v') v' (invoke func args.items)))) lines) (sym h.0))) rest
core_step codes waits p m es own lines v v' (cores.Returned vs) q k end c le h l a rest =
    step_returned p m es lines v vs.items k end c le (h.1 outermost)
    (subst (λ x. Freely p (after p (configuration_of (record (paid k m) { realm = with_store x m.realm }) None lines) (in_entries x es (results (with_store x m.realm) vs.items))) end) h.0 rest)
core_step codes waits p m es own lines v v' (cores.Trapped cause) q k end c le h l a rest =
    step_trapped p m es lines v cause k end c le (h.1 outermost) (subst (λ x. Freely p (with_term (paid k m) (with_store x m.realm) (fold x es (core (trap cause))) lines) end) h.0 rest)
