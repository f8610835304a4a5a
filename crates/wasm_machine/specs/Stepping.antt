-- Private: words of the contracts of a step's parts.
use Rattle.std.specs.Prelude.{◌≡◌, ◌-◌, List, [], ◌∷◌, drop}
use Rattle.wasm_syntax.specs.Blocks.{block_of}
use Rattle.wasm_syntax.specs.Sorts.{sort_of}
use Rattle.wasm_syntax.specs.declared.types.ValType.{ValType}
use Rattle.wasm_syntax.specs.declared.sorts.Sort.{Sort}
use Rattle.wasm_syntax.specs.declared.instructions.Instr.{Instr}
use Rattle.wasm_store.specs.Store.{Store, instance_at}
use Rattle.wasm_machine.specs.declared.frame.Effect.{Effect}
use Rattle.wasm_machine.specs.View.{View, module_for, rest_of, last_instr}
use Rattle.wasm_machine.specs.Growth.{grown_in, growth_by}
use Rattle.wasm_machine.specs.Control.{IsBehind}
use Rattle.wasm_machine.specs.Fits.{FitsAt}
use Rattle.wasm_machine.specs.Steps.{Makes, LeavesFit, term_before}

-- the instruction that was fetched last
abbrev pub fetched_instr : Store → View → Instr
fetched_instr s v = last_instr (module_for s v) v

-- the frame fits but for that instruction
abbrev pub FitsBut : Store → List ValType → View → Type 0
FitsBut s R v = FitsAt s R (fetched_instr s v ∷ rest_of (module_for s v) v) [] v

-- an instruction of this sort was fetched in a frame that fits
pub record At (s : Store) (k : Sort) (v : View) : Type 0 where
  pub sort_is : sort_of (fetched_instr s v) ≡ k
  pub behind : IsBehind (module_for s v) v
  pub placed : drop (v.top.at - 1) (block_of (module_for s v) v.top.block) ≡ fetched_instr s v ∷ rest_of (module_for s v) v
  pub results : List ValType
  pub fits : FitsBut s results v

-- it is carried out
pub record Stepped (s : Store) (old : View) (e : Effect) (r : Store) (new : View) : Type 0 where
  pub makes : Makes s (term_before (module_for s old) (fetched_instr s old) old) e r new
  pub grew : grown_in e ≡ growth_by s (instance_at s old.instance) (sort_of (fetched_instr s old)) old.top.values
  pub fits : (R : List ValType) → FitsBut s R old → LeavesFit R e r new
