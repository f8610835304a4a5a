-- What a stack is: its entries, the topmost one first.
use Rattle.std.specs.Prelude.{◌≡◌, ℕ, suc, Bool, true, false, List, [], ◌∷◌, ◌++◌, reverse, Option, Some, None}
use Rattle.host_parser.specs.Trees.{Tree}
use Rattle.host_values.specs.Objects.{HostHeap}
use Rattle.host_values.specs.declared.values.HostValue.{HostValue}
use Rattle.host_machine.specs.declared.effect.HostEffect.{HostEffect}
use Rattle.host_machine.specs.Terms.{Frame as HostView, state_of, term_of as host_term_of}
use Rattle.host_machine.specs.Frames.{Makes as HostMakes, supplied, thrown}
use Rattle.wasm_syntax.specs.declared.types.ValType.{ValType}
use Rattle.wasm_syntax.specs.declared.value.Value.{Value}
use Rattle.wasm_store.specs.Store.{Store}
use Rattle.wasm_machine.specs.declared.frame.Effect.{Effect}
use Rattle.wasm_machine.specs.Fits.{Fits}
use Rattle.wasm_machine.specs.Steps.{Makes as CoreMakes, LeavesFit}
use Rattle.wasm_machine.specs.View.{View, values_of, with_values, term_of as core_term_of}
use Rattle.jspi_stacks.specs.declared.frame.Frame.{Frame}
use Rattle.jspi_stacks.specs.declared.frame.Frame.TheVariants as frames

-- how many functions are running: of the script those that aren't the script itself, which is the outermost entry
abbrev pub activations_of : List Frame → ℕ
activations_of [] = 0
activations_of (frames.Host f ∷ []) = 0
activations_of (frames.Host f ∷ e ∷ es) = suc (activations_of (e ∷ es))
activations_of (frames.Wasm v ∷ es) = suc (activations_of es)
activations_of (frames.Mark m ∷ es) = activations_of es

-- one, where something holds
abbrev pub one_if : Bool → ℕ
one_if true = 1
one_if false = 0

-- the entry that was taken off, if any
abbrev pub Popped : Option Frame → List Frame → List Frame → Type 0
Popped None old new = (old ≡ []) × (new ≡ [])
Popped (Some e) old new = old ≡ e ∷ new

-- the topmost entry is a frame of the script, of which this holds
abbrev pub OnTopHost : List Frame → (HostView → Type 0) → Type 0
OnTopHost (frames.Host f ∷ es) P = P f
OnTopHost _ P = ⊥

-- the topmost entry is a frame of a module, of which this holds
abbrev pub OnTopWasm : List Frame → (View → Type 0) → Type 0
OnTopWasm (frames.Wasm v ∷ es) P = P v
OnTopWasm _ P = ⊥

-- the frame of the script on top makes a step, and what is below stays
pub record HostSteps (s : Tree) (h : HostHeap) (old : List Frame) (e : HostEffect) (g : HostHeap) (new : List Frame) : Type 0 where
  pub before : HostView
  pub after : HostView
  pub rest : List Frame
  pub old_is : old ≡ frames.Host before ∷ rest
  pub new_is : new ≡ frames.Host after ∷ rest
  pub makes : HostMakes s (state_of h before) (host_term_of before) e (state_of g after) (host_term_of after)

-- the frame of a module on top makes a step, and what is below stays
pub record CoreSteps (s : Store) (old : List Frame) (e : Effect) (r : Store) (new : List Frame) : Type 0 where
  pub before : View
  pub after : View
  pub rest : List Frame
  pub old_is : old ≡ frames.Wasm before ∷ rest
  pub new_is : new ≡ frames.Wasm after ∷ rest
  pub makes : CoreMakes s (core_term_of s before) e r after
  pub fits : (R : List ValType) → Fits s R before → LeavesFit R e r after

-- the effect of the frame of the script on top is answered: by a value, or by an exception
abbrev pub Supplied : HostValue → List Frame → List Frame → Type 0
Supplied v (frames.Host f ∷ es) new = new ≡ frames.Host (supplied v f) ∷ es
Supplied v _ new = ⊥

abbrev pub Thrown : HostValue → List Frame → List Frame → Type 0
Thrown v (frames.Host f ∷ es) new = new ≡ frames.Host (thrown v f) ∷ es
Thrown v _ new = ⊥

-- the frame of a module on top has the results for which it waited
abbrev pub HasResults : List Value → List Frame → List Frame → Type 0
HasResults results (frames.Wasm v ∷ es) new = new ≡ frames.Wasm (with_values (reverse results ++ values_of v) v) ∷ es
HasResults results _ new = ⊥
