-- When a frame fits a store: what is left of its code is typed from the operands that are there, and each value that it has is live
-- (WebAssembly Core 2.0, appendix A.2, on the validity of frames and instructions at work).
use Rattle.std.specs.Prelude.{◌≡◌, ℕ, suc, ◌+◌, ◌<◌, ◌≤◌, true, false, List, [], ◌∷◌, ◌++◌, Option, Some, None, map, length, reverse}
use Rattle.wasm_syntax.specs.declared.types.ValType.{ValType}
use Rattle.wasm_syntax.specs.declared.types.FuncType.{FuncType}
use Rattle.wasm_syntax.specs.declared.instructions.BlockId.{BlockId}
use Rattle.wasm_syntax.specs.declared.instructions.BlockType.{BlockType}
use Rattle.wasm_syntax.specs.declared.instructions.Instr.{Instr}
use Rattle.wasm_syntax.specs.declared.module.Module.{Module}
use Rattle.wasm_syntax.specs.ValueTypes.{block_type}
use Rattle.wasm_valid.specs.Operands.{Operands, ends_with}
use Rattle.wasm_valid.specs.Typing.{Context, with_label, after_all, is_block, height_all, block_height, most_nested}
use Rattle.wasm_store.specs.Store.{Store, instance_at}
use Rattle.wasm_store.specs.Whole.{value_type, AreLive, HasLists, IsBlank, IsLater}
use Rattle.wasm_machine.specs.View.{View, Open, code_at, count_of, module_for, rest_of, IsLinked}

-- Typing.

-- operands of these types, the topmost first, in code that is reached
abbrev pub standing : List ValType → Operands
standing ts = record { types = map Some ts; any = false }

abbrev pub context : List ValType → List (List ValType) → List ValType → Context
context locals labels results = record { locals = locals; labels = labels; results = results }

-- code, with blocks nested at most d deep, goes from operands of the types ts, the topmost first, to results in their order
abbrev pub IsCode : Module → ℕ → Context → List Instr → List ValType → List ValType → Type 0
IsCode m d c is ts results = ends_with results (after_all (is_block m d) m c is (standing ts)) ≡ true

-- it needs no more room than there is, over so many operands that stay below
abbrev pub HasRoom : Module → ℕ → Context → List Instr → List ValType → ℕ → ℕ → Type 0
HasRoom m d c is ts below room = below + height_all (block_height m d) (is_block m d) m c is (standing ts) ≤ room

-- a loop of this type takes the label's values and gives those of its end
pub record IsLoop (m : Module) (d : ℕ) (c : Context) (ty : BlockType) (block : BlockId) (label gives : List ValType) (below room : ℕ) : Type 0 where
  pub type : FuncType
  pub type_is : block_type m ty ≡ Some type
  pub label_is : label ≡ type.params
  pub gives_is : gives ≡ type.results
  pub body : is_block m d (with_label type.params c) block type ≡ true
  pub fits : below + block_height m d (with_label type.params c) block type ≤ room

-- where a branch to a label goes: behind its end, or to the start of the loop
abbrev pub IsAgain : Module → ℕ → Context → Option BlockType → BlockId → (label gives : List ValType) → (below room : ℕ) → Type 0
IsAgain m d c None block label gives below room = label ≡ gives
IsAgain m d c (Some ty) block label gives below room = IsLoop m d c ty block label gives below room

-- a label's list with this code left, and a form that gives values of the types ts: `label` are the label's types, and `gives` the types of
-- what its end gives
pub record IsList (m : Module) (d : ℕ) (L R : List ValType) (o : Open) (code_left : List Instr) (ts label gives : List ValType) (labels : List (List ValType)) (below room : ℕ) : Type 0 where
  pub arity : length label ≡ o.arity
  pub code : IsCode m d (context L (label ∷ labels) R) code_left (ts ++ map value_type o.values) gives
  pub fits : HasRoom m d (context L (label ∷ labels) R) code_left (ts ++ map value_type o.values) below room
  pub again : IsAgain m (suc d) (context L labels R) o.again o.block label gives below room

-- these open labels, with a form in the innermost list that gives values of the types ts, in their order, give the frame's results
abbrev pub Expects : Module → ℕ → (L R : List ValType) → (room : ℕ) → List Open → List (List ValType) → List ValType → Type 0
Expects m d L R room [] labels ts = (labels ≡ []) × (ts ≡ R)
Expects m d L R room (o ∷ os) labels ts =
    (label gives : List ValType) × (outer : List (List ValType)) × (labels ≡ label ∷ outer)
    × IsList m d L R o (code_at m o) (reverse ts) label gives outer (count_of os) room × Expects m (suc d) L R room os outer gives

-- a frame that gives values of the types R, in their order, is typed with this code left in its innermost list and a form there that gives
-- values of the types ts, the topmost first
pub record IsTypedAt (m : Module) (R : List ValType) (code_left : List Instr) (ts : List ValType) (v : View) : Type 0 where
  pub depth : ℕ
  pub few : depth + length v.outer ≤ most_nested
  pub long : length R ≡ v.results
  pub label : List ValType
  pub gives : List ValType
  pub labels : List (List ValType)
  pub inner : IsList m depth (map value_type v.locals) R v.top code_left ts label gives labels (count_of v.outer) v.room
  pub expects : Expects m (suc depth) (map value_type v.locals) R v.room v.outer labels gives
  pub linked : IsLinked m v.top v.outer

-- Values.

-- the operands of all these labels are live
abbrev pub AreLiveIn : Store → List Open → Type 0
AreLiveIn s [] = Unit {0}
AreLiveIn s (o ∷ os) = AreLive s o.values × AreLiveIn s os

-- Frames.

-- its instance has its lists, its code is typed, and all its values are live
pub record FitsAt (s : Store) (R : List ValType) (code_left : List Instr) (ts : List ValType) (v : View) : Type 0 where
  pub live : v.instance.0 < length s.instances
  pub module_is : (instance_at s v.instance).module ≡ v.module
  pub set : IsBlank (instance_at s v.instance) → ⊥
  pub lists : HasLists s (instance_at s v.instance)
  pub typed : IsTypedAt (module_for s v) R code_left ts v
  pub locals : AreLive s v.locals
  pub operands : AreLiveIn s (v.top ∷ v.outer)

-- a frame that gives values of the types R fits
abbrev pub Fits : Store → List ValType → View → Type 0
Fits s R v = FitsAt s R (rest_of (module_for s v) v) [] v

-- it fits once values of the types of a function's results, in their order, are there
abbrev pub Waits : Store → List ValType → List ValType → View → Type 0
Waits s R results v = FitsAt s R (rest_of (module_for s v) v) (reverse results) v

-- A frame that fits a store fits every store that it becomes.
abbrev pub FitsLater : Type 0
FitsLater = (s t : Store) (R : List ValType) (code_left : List Instr) (ts : List ValType) (v : View) → IsLater s t → FitsAt s R code_left ts v → FitsAt t R code_left ts v

-- what is left of a frame's code stays
abbrev pub CodeStays : Type 0
CodeStays = (s t : Store) (R : List ValType) (v : View) (code_left : List Instr) (ts : List ValType) → IsLater s t → FitsAt s R code_left ts v → module_for t v ≡ module_for s v

-- so a frame fits that store too, also one that waits for the results of a call
abbrev pub FramesStay : Type 0
FramesStay = (s t : Store) (R : List ValType) (v : View) → IsLater s t → Fits s R v → Fits t R v

abbrev pub WaitingStays : Type 0
WaitingStays = (s t : Store) (R results : List ValType) (v : View) → IsLater s t → Waits s R results v → Waits t R results v
