-- What a world stands for, and what its turns make of that.
use Rattle.std.specs.Prelude.{◌≡◌, ℕ, true, false, List, [], ◌∷◌, ◌++◌, Option, Some, None, Bool}
use Rattle.host_parser.specs.Trees.{Tree}
use Rattle.host_machine.specs.Frames.{IsAtWork, IsWaiting}
use Rattle.iface_objects.specs.declared.realm.Realm.{Realm}
use Rattle.iface_objects.specs.Loading.{IsLoading}
use Rattle.iface_objects.specs.Sound.{IsSound}
use Rattle.jspi_stacks.specs.declared.frame.Frame.{Frame}
use Rattle.jspi_stacks.specs.declared.frame.Frame.TheVariants as frames
use Rattle.jspi_stacks.specs.declared.mark.Mark.{Mark}
use Rattle.jspi_stacks.specs.declared.mark.Mark.TheVariants as marks
use Rattle.jspi_stacks.specs.Whole.{whole_of}
use Rattle.promise_jobs.specs.Promises.{no_promises}
use Rattle.promise_jobs.specs.Records.{HostPromises}
use Rattle.wasm_syntax.specs.declared.types.ValType.{ValType}
use Rattle.wasm_store.specs.Store.{Store}
use Rattle.wasm_machine.specs.Fits.{Fits, Waits}
use Rattle.embed_run.specs.declared.end.End.{End}
use Rattle.embed_run.specs.declared.end.Turn.{Turn}
use Rattle.embed_run.specs.declared.end.Turn.TheVariants as turns
use Rattle.embed_run.specs.declared.machine.Machine.{Machine}
use Rattle.embed_run.specs.Configurations.{Program, Configuration}
use Rattle.embed_run.specs.Outcomes.{Steps}

-- the configuration for which a machine stands that has printed these lines and ended so, if it has
abbrev pub configuration_of : Machine → Option End → List (List ℕ) → Configuration
configuration_of m ended lines = record {
  realm = m.realm;
  promises = m.promises;
  captured = [];
  term = whole_of m.realm.store m.stack;
  left = m.left;
  lines = lines;
  ended = ended;
}

-- the lines after a turn, and the end that it told
abbrev pub lines_after : Turn → List (List ℕ) → List (List ℕ)
lines_after (turns.Printed text) lines = lines ++ text ∷ []
lines_after _ lines = lines

abbrev pub end_told : Turn → Option End
end_told (turns.Ended e) = Some e
end_told _ = None

-- a program of this script, in which loading tells what bytes are
pub record IsOf (script : Tree) (p : Program) : Type 0 where
  pub script_is : p.script ≡ script
  pub load : IsLoading p.load

-- a turn of a machine
abbrev pub Turns : Machine → Turn → Machine → Type 0
Turns old t new = (p : Program) → IsOf old.script p → (lines : List (List ℕ))
    → Steps p (configuration_of old None lines) (configuration_of new (end_told t) (lines_after t lines))

-- ---- stacks that can go on

-- frames of the script that wait
abbrev pub AreWaiting : List Frame → Type 0
AreWaiting [] = Unit {0}
AreWaiting (frames.Host f ∷ es) = IsWaiting f.focus × AreWaiting es
AreWaiting (frames.Wasm v ∷ es) = ⊥
AreWaiting (frames.Mark m ∷ es) = ⊥

-- a mark below which the script waits, with results of these types for it
abbrev pub TakesResults : Mark → List ValType → Type 0
TakesResults marks.Call types = Unit {0}
TakesResults (marks.Start o) types = types ≡ []
TakesResults _ types = ⊥

-- entries that wait for results of these types
abbrev pub AwaitResults : Store → List ValType → List Frame → Type 0
AwaitResults s types [] = ⊥
AwaitResults s types (frames.Host f ∷ es) = ⊥
AwaitResults s types (frames.Wasm v ∷ es) = (own : List ValType) × Waits s own types v × AwaitResults s own es
AwaitResults s types (frames.Mark m ∷ es) = TakesResults m types × AreWaiting es

-- the topmost entry can go on, and those below wait for it
abbrev pub CanGoOn : Store → List Frame → Type 0
CanGoOn s [] = Unit {0}
CanGoOn s (frames.Host f ∷ es) = IsAtWork f.focus × AreWaiting es
CanGoOn s (frames.Wasm v ∷ es) = (own : List ValType) × Fits s own v × AwaitResults s own es
CanGoOn s (frames.Mark m ∷ es) = ⊥

pub record IsReady (m : Machine) : Type 0 where
  pub sound : IsSound m.realm
  pub stack : CanGoOn m.realm.store m.stack
  pub promises : m.promises ≡ no_promises
