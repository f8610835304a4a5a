-- Private: words of the contracts of control instructions: what each finds in its frame, and what it leaves.
use Rattle.std.specs.Prelude.{◌≡◌, ℕ, ◌+◌, ◌-◌, ◌<◌, ◌≤◌, Bool, true, false, List, ◌∷◌, Option, Some, None, length, take, drop, reverse, slice_index_or}
use Rattle.wasm_syntax.specs.Blocks.{block_of}
use Rattle.wasm_syntax.specs.Sorts.{labels_of}
use Rattle.wasm_syntax.specs.ValueTypes.{block_type}
use Rattle.wasm_syntax.specs.declared.types.FuncType.{FuncType}
use Rattle.wasm_syntax.specs.declared.instructions.BlockId.{BlockId}
use Rattle.wasm_syntax.specs.declared.instructions.BlockType.{BlockType}
use Rattle.wasm_syntax.specs.declared.module.Module.{Module}
use Rattle.wasm_syntax.specs.declared.value.Value.{Value}
use Rattle.wasm_syntax.specs.declared.value.Value.TheVariants as w
use Rattle.wasm_syntax.specs.declared.addresses.FuncAddr.{FuncAddr}
use Rattle.wasm_valid.specs.Typing.{label_of}
use Rattle.wasm_store.specs.Store.{Store, type_of, function_at}
use Rattle.wasm_machine.specs.declared.frame.Effect.{Effect}
use Rattle.wasm_machine.specs.declared.frame.Effect.TheVariants.{Went, Call, Returned, Trapped, Grew}
use Rattle.wasm_machine.specs.View.{View, with_values, with_label, branched, arity_in, left, last_instr}

-- the topmost operand is a number of 32 bits
abbrev pub IsNumberFirst : List Value → Type 0
IsNumberFirst (w.I32 k ∷ vs) = Unit {0}
IsNumberFirst _ = ⊥

-- 4.4.8: a block, loop or if finds a type, its parameters, and room for a label
pub record CanBegin (m : Module) (ty : BlockType) (v : View) : Type 0 where
  pub type : FuncType
  pub type_is : block_type m ty ≡ Some type
  pub enough : length type.params ≤ length v.top.values
  pub few : length v.outer + 1 < 257

abbrev pub again_for : Bool → BlockType → Option BlockType
again_for true ty = Some ty
again_for false ty = None

-- and leaves a label with this block in it
pub record Begins (m : Module) (again : Bool) (ty : BlockType) (id : BlockId) (old new : View) : Type 0 where
  pub type : FuncType
  pub type_is : block_type m ty ≡ Some type
  pub label : new ≡ with_label (length type.params) (length (label_of again type)) (again_for again ty) id old

-- a branch finds its label, and as many operands as it takes; the outermost label is the frame's
pub record CanBranch (l : ℕ) (v : View) : Type 0 where
  pub within : l ≤ length v.outer
  pub enough : arity_in l v.top v.outer ≤ length v.top.values
  pub outermost : arity_in (length v.outer) v.top v.outer ≡ v.results

-- and leaves the list round it, or the frame
abbrev pub Branches : ℕ → View → Effect → View → Type 0
Branches l old Went new = (l < length old.outer) × (new ≡ branched l old.top.values old.top old.outer old)
Branches l old (Returned values) new = (l ≡ length old.outer) × (reverse values.items ≡ take old.results old.top.values)
Branches l old (Call func args) new = ⊥
Branches l old (Trapped cause) new = ⊥
Branches l old (Grew memory) new = ⊥

-- the label that a br_table chooses
abbrev pub chosen_label : Module → View → ℕ → ℕ → ℕ
chosen_label m v default k = slice_index_or (labels_of (last_instr m v)) k default

-- the place is behind an instruction of the block
pub record IsBehind (m : Module) (v : View) : Type 0 where
  pub begun : 1 ≤ v.top.at
  pub within : v.top.at - 1 < length (block_of m v.top.block)

-- a call finds its function, and as many operands as that has parameters
pub record CanCall (s : Store) (a : FuncAddr) (v : View) : Type 0 where
  pub live : a.0 < length s.functions
  pub enough : length (type_of (function_at s a)).params ≤ length v.top.values

-- and leaves the others
pub record Calls (s : Store) (a : FuncAddr) (args : List Value) (old new : View) : Type 0 where
  pub args_are : reverse args ≡ take (length (type_of (function_at s a)).params) old.top.values
  pub rest : new ≡ with_values (drop (length (type_of (function_at s a)).params) old.top.values) old

-- a list ends
abbrev pub Ends : View → Effect → View → Type 0
Ends old Went new = (0 < length old.outer) × (new ≡ left old)
Ends old (Returned values) new = (length old.outer ≡ 0) × (reverse values.items ≡ take old.results old.top.values)
Ends old (Call func args) new = ⊥
Ends old (Trapped cause) new = ⊥
Ends old (Grew memory) new = ⊥
