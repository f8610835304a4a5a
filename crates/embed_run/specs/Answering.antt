-- Private: words of the contracts of a turn's parts.
use Rattle.std.specs.Prelude.{◌≡◌, ◌<◌, ℕ, List, [], ◌∷◌, length, None}
use Rattle.std.specs.List.{AllZip}
use Rattle.host_machine.specs.declared.effect.HostEffect.{HostEffect}
use Rattle.host_machine.specs.Terms.{Frame as HostView, term_of as host_term_of}
use Rattle.host_laws.specs.Waiting.{LeavesAt}
use Rattle.iface_objects.specs.Sound.{IsSound}
use Rattle.jspi_stacks.specs.declared.frame.Frame.{Frame}
use Rattle.jspi_stacks.specs.declared.frame.Frame.TheVariants as frames
use Rattle.jspi_stacks.specs.Stacks.{activations_of, Thrown}
use Rattle.jspi_stacks.specs.Whole.{Whole, core, fold, form_of}
use Rattle.promise_jobs.specs.Promises.{no_promises}
use Rattle.host_values.specs.Heaps.{next_object}
use Rattle.host_values.specs.declared.values.ErrorClass.{ErrorClass}
use Rattle.host_values.specs.declared.values.HostValue.TheVariants as values
use Rattle.wasm_machine.specs.declared.frame.Effect.{Effect}
use Rattle.wasm_machine.specs.declared.frame.Effect.TheVariants as cores
use Rattle.wasm_machine.specs.Steps.{LeavesFit}
use Rattle.wasm_machine.specs.Terms.{invoke, trap}
use Rattle.wasm_machine.specs.View.{View, module_for, term_of, term_round}
use Rattle.wasm_syntax.specs.declared.types.ValType.{ValType}
use Rattle.wasm_syntax.specs.declared.value.Value.{Value}
use Rattle.wasm_syntax.specs.declared.addresses.FuncAddr.{FuncAddr}
use Rattle.wasm_store.specs.Store.{Store, function_at, type_of}
use Rattle.wasm_store.specs.Whole.{HasType}
use Rattle.embed_run.specs.declared.end.Turn.{Turn}
use Rattle.embed_run.specs.declared.machine.Machine.{Machine}
use Rattle.embed_run.specs.Configurations.{Program, Configuration}
use Rattle.embed_run.specs.Calls.{Reply, error_in}
use Rattle.embed_run.specs.Rules.{Does, results, in_form, replied, by_effect, after}
use Rattle.embed_run.specs.Outcomes.{Freely}
use Rattle.embed_run.specs.Worlds.{configuration_of, end_told, lines_after, IsOf, AreWaiting, AwaitResults}

-- what entries round a form do, the topmost one first
abbrev pub in_entries : Store → List Frame → Does → Does
in_entries s [] d = d
in_entries s (e ∷ es) d = in_entries s es (in_form (form_of s e) d)

-- a rewriting of the machine did this, and what comes after it takes nothing of the budget
abbrev pub Shows : Machine → (Program → Does) → Turn → Machine → Type 0
Shows old d t new = (p : Program) → IsOf old.script p → (lines : List (List ℕ))
    → Freely p (after p (configuration_of old None lines) (d p)) (configuration_of new (end_told t) (lines_after t lines))

-- the topmost entry is a frame of the script, over these
abbrev pub OnHost : List Frame → (HostView → List Frame → Type 0) → Type 0
OnHost (frames.Host f ∷ es) P = P f es
OnHost _ P = ⊥

-- an effect of the frame on top, where it waits, had this reply
abbrev pub ShowsReply : Machine → Reply → Turn → Machine → Type 0
ShowsReply old rep t new = OnHost old.stack (λ f es. Shows old (λ p. in_entries old.realm.store es (replied f.locals (host_term_of f) rep)) t new)

-- the frame on top came to this effect
abbrev pub ShowsEffect : Machine → HostEffect → Turn → Machine → Type 0
ShowsEffect old e t new =
    OnHost old.stack (λ f es. Shows old (λ p. in_entries old.realm.store es (by_effect p old.realm (activations_of old.stack) f.locals (host_term_of f) e)) t new)

-- what the entries do round an end of the other side
abbrev pub ShowsEnd : Machine → Does → Turn → Machine → Type 0
ShowsEnd old d t new = Shows old (λ p. in_entries old.realm.store old.stack d) t new

-- frames of the script wait, of which there is one at least
abbrev pub AreSomeWaiting : List Frame → Type 0
AreSomeWaiting [] = ⊥
AreSomeWaiting (e ∷ es) = AreWaiting (e ∷ es)

-- a machine whose effect waits for its answer
pub record Waiting (m : Machine) : Type 0 where
  pub sound : IsSound m.realm
  pub stack : AreSomeWaiting m.stack
  pub promises : m.promises ≡ no_promises

-- a machine whose entries wait for results of these types
pub record Awaiting (m : Machine) (types : List ValType) : Type 0 where
  pub sound : IsSound m.realm
  pub stack : AwaitResults m.realm.store types m.stack
  pub promises : m.promises ≡ no_promises

-- results of these types, which are live
abbrev pub AreResults : Store → List Value → List ValType → Type 0
AreResults s vs types = AllZip (HasType s) vs types

-- ---- of a module

-- the topmost entry is a frame of a module, over these
abbrev pub OnWasm : List Frame → (View → List Frame → Type 0) → Type 0
OnWasm (frames.Wasm v ∷ es) P = P v es
OnWasm _ P = ⊥

-- the configuration of a machine with this term within entries
abbrev pub with_inner : Machine → List Frame → Whole → List (List ℕ) → Configuration
with_inner m es w lines = record (configuration_of m None lines) { term = fold m.realm.store es w }

-- what comes of a step of the module's frame on top, which is then v over these entries
abbrev pub came : Program → Machine → Effect → View → List Frame → List (List ℕ) → Configuration
came p m cores.Went v es lines = with_inner m es (core (term_of m.realm.store v)) lines
came p m (cores.Grew memory) v es lines = with_inner m es (core (term_of m.realm.store v)) lines
came p m (cores.Call func args) v es lines = with_inner m es (core (term_round (module_for m.realm.store v) v (invoke func args.items))) lines
came p m (cores.Returned values) v es lines = after p (configuration_of m None lines) (in_entries m.realm.store es (results m.realm values.items))
came p m (cores.Trapped cause) v es lines = with_inner m es (core (trap cause)) lines

-- a turn goes on from there, and takes nothing more
abbrev pub ShowsFrom : Machine → (Program → List (List ℕ) → Configuration) → Turn → Machine → Type 0
ShowsFrom old c t new = (p : Program) → IsOf old.script p → (lines : List (List ℕ)) → Freely p (c p lines) (configuration_of new (end_told t) (lines_after t lines))

abbrev pub ShowsCame : Machine → Effect → Turn → Machine → Type 0
ShowsCame old e t new = OnWasm old.stack (λ v es. ShowsFrom old (λ p lines. came p old e v es lines) t new)

-- a machine whose module's frame on top came to this effect
pub record Came (m : Machine) (e : Effect) : Type 0 where
  pub sound : IsSound m.realm
  pub stack : OnWasm m.stack (λ v es. (own : List ValType) × LeavesFit own e m.realm.store v × AwaitResults m.realm.store own es)
  pub promises : m.promises ≡ no_promises

-- the entries below the frames of a module and the mark under them
abbrev pub below : List Frame → List Frame
below [] = []
below (frames.Host f ∷ es) = frames.Host f ∷ es
below (frames.Wasm v ∷ es) = below es
below (frames.Mark m ∷ es) = es

-- the frames of the module are left, and the script has a new error
abbrev pub Unwound : ErrorClass → Machine → Machine → Type 0
Unwound class old new =
    (new ≡ record old { realm = error_in old.realm class; stack = new.stack }) × Thrown (values.Object (next_object old.realm.heap)) (below old.stack) new.stack

-- a frame of a module is on top
abbrev pub IsModule : List Frame → Type 0
IsModule (frames.Wasm v ∷ es) = Unit {0}
IsModule _ = ⊥

-- a mark is on top
abbrev pub IsMarked : List Frame → Type 0
IsMarked (frames.Mark m ∷ es) = Unit {0}
IsMarked _ = ⊥

-- the module's frame on top waits for the results of a live function, which it calls with arguments of its types
pub record CallsFunc (m : Machine) (a : FuncAddr) (args : List Value) : Type 0 where
  pub sound : IsSound m.realm
  pub live : a.0 < length m.realm.store.functions
  pub typed : AllZip (HasType m.realm.store) args (type_of (function_at m.realm.store a)).params
  pub stack : IsModule m.stack
  pub awaits : AwaitResults m.realm.store (type_of (function_at m.realm.store a)).results m.stack
  pub promises : m.promises ≡ no_promises

-- ---- of the script

-- the script's frame on top has ended; those below it wait
pub record IsLeft (m : Machine) : Type 0 where
  pub sound : IsSound m.realm
  pub stack : OnHost m.stack (λ f es. AreWaiting es)
  pub promises : m.promises ≡ no_promises

-- what the entries below the frame on top do round its end
abbrev pub ShowsBelow : Machine → Does → Turn → Machine → Type 0
ShowsBelow old d t new = OnHost old.stack (λ f es. Shows old (λ p. in_entries old.realm.store es d) t new)

-- the script's frame on top came to this effect
pub record CameHost (m : Machine) (e : HostEffect) : Type 0 where
  pub sound : IsSound m.realm
  pub stack : OnHost m.stack (λ f es. LeavesAt e f.focus × AreWaiting es)
  pub promises : m.promises ≡ no_promises
