-- Private: words of the contracts of frames at work: the innermost one over those that wait for it.
use Rattle.std.specs.Prelude.{◌≡◌, ℕ, ◌<◌, ◌≤◌, List, [], ◌∷◌, ◌++◌, Option, Some, None, length, reverse}
use Rattle.wasm_syntax.specs.declared.types.ValType.{ValType}
use Rattle.wasm_syntax.specs.declared.value.Value.{Value}
use Rattle.wasm_syntax.specs.declared.addresses.FuncAddr.{FuncAddr}
use Rattle.wasm_store.specs.Store.{Store}
use Rattle.wasm_machine.specs.Terms.{Term, invoke}
use Rattle.wasm_machine.specs.View.{View, values_of, with_values, module_for, term_round, term_of}
use Rattle.wasm_machine.specs.Fits.{Fits, Waits}
use Rattle.wasm_machine.specs.Steps.{LeavesFit}
use Rattle.wasm_machine.specs.declared.frame.Effect.{Effect}
use Rattle.wasm_machine.specs.declared.frame.Effect.TheVariants.{Went, Call, Returned, Trapped, Grew}
use Rattle.wasm_calls.specs.declared.ending.Ending.{Ending}
use Rattle.wasm_calls.specs.declared.activations.Activations.{Activations}
use Rattle.wasm_calls.specs.Calls.{Configuration, running, ended, returned, trapped, most_frames, most_rewritings, end_of}
use Rattle.wasm_calls.specs.Answers.{outcome_of, EndsTyped}
use Rattle.wasm_store.specs.Whole.{AllHaveCode}

-- frames round a term, the innermost first
abbrev pub frames_round : Store → List View → Term → Term
frames_round s [] t = t
frames_round s (v ∷ vs) t = frames_round s vs (term_round (module_for s v) v t)

-- those that wait, the innermost first
abbrev pub outer_of : Activations → List View
outer_of a = reverse a.outer.items

abbrev pub configuration_of : Store → Activations → Configuration
configuration_of s a = running s (frames_round s (outer_of a) (term_of s a.top)) a.left

-- a call at work in the innermost frame
abbrev pub calling : Store → FuncAddr → List Value → Activations → Configuration
calling s f args a = running s (frames_round s (outer_of a) (term_round (module_for s a.top) a.top (invoke f args))) a.left

-- the innermost frame has become these values, the topmost first
abbrev pub given : Store → List View → List Value → (left : ℕ) → Configuration
given s [] ws left = ended s (returned (reverse ws)) left
given s (v ∷ vs) ws left = running s (frames_round s vs (term_of s (with_values (ws ++ values_of v) v))) left

-- after a step with this effect
abbrev pub pending : Store → Effect → Activations → Configuration
pending s Went a = configuration_of s a
pending s (Grew memory) a = configuration_of s a
pending s (Call f args) a = calling s f args.items a
pending s (Returned values) a = given s (outer_of a) (reverse values.items) a.left
pending s (Trapped cause) a = ended s (trapped cause) a.left

-- one configuration comes to the other, so that both have one end
pub record Reaches (c d : Configuration) : Type 0 where
  pub same : end_of c ≡ end_of d
  pub no_more : most_rewritings d ≤ most_rewritings c

-- in one rewriting or more
pub record Leads (c d : Configuration) : Type 0 where
  pub same : end_of c ≡ end_of d
  pub less : most_rewritings d < most_rewritings c

-- these frames at work, or this end
abbrev pub place_of : Option Ending → Store → Activations → Configuration
place_of None s a = configuration_of s a
place_of (Some ending) s a = ended s (outcome_of ending) a.left

-- frames that wait, the innermost first: it waits for results of these types, and the outermost one gives values of the types R
abbrev pub AreWaiting : Store → List ValType → List View → List ValType → Type 0
AreWaiting s R [] types = types ≡ R
AreWaiting s R (v ∷ vs) types = (own : List ValType) × Waits s own types v × AreWaiting s R vs own

-- round an innermost frame that gives values of the types `own`
pub record IsRound (s : Store) (R own : List ValType) (a : Activations) : Type 0 where
  pub waiting : AreWaiting s R (outer_of a) own
  pub few : length (outer_of a) < most_frames
  pub code : AllHaveCode s

-- these frames fit, and give values of the types R
pub record Works (s : Store) (R : List ValType) (a : Activations) : Type 0 where
  pub own : List ValType
  pub round : IsRound s R own a
  pub fits : Fits s own a.top

-- so after a step with this effect
pub record IsPending (s : Store) (R : List ValType) (e : Effect) (a : Activations) : Type 0 where
  pub own : List ValType
  pub round : IsRound s R own a
  pub leaves : LeavesFit own e s a.top

-- they go on fitting, or end in values of these types
abbrev pub Lasts : List ValType → Option Ending → Store → Activations → Type 0
Lasts R None s a = Works s R a
Lasts R (Some ending) s a = EndsTyped s R ending
