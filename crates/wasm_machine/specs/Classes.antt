-- Private: words of the contracts of the instructions' classes: what each finds in its frame, and what it leaves.
use Rattle.std.specs.Prelude.{◌≡◌, ◌⊎◌, ◌<◌, ℕ, true, List, [], ◌∷◌, Some, length, slice_get, Result, Ok, Err}
use Rattle.wasm_syntax.specs.declared.types.ValType.{ValType}
use Rattle.wasm_syntax.specs.declared.trap.Trap.{Trap}
use Rattle.wasm_syntax.specs.declared.value.Value.{Value}
use Rattle.wasm_syntax.specs.declared.value.Value.TheVariants as w
use Rattle.wasm_syntax.specs.declared.instructions.Instr.{Instr}
use Rattle.wasm_syntax.specs.declared.sorts.Simple.{Simple}
use Rattle.wasm_syntax.specs.declared.sorts.Sort.{Sort}
use Rattle.wasm_syntax.specs.declared.sorts.Sort.TheVariants as sort
use Rattle.wasm_syntax.specs.Sorts.{sort_of}
use Rattle.wasm_store.specs.declared.instances.Instance.{Instance}
use Rattle.wasm_syntax.specs.declared.addresses.GlobalAddr.{GlobalAddr}
use Rattle.wasm_syntax.specs.declared.addresses.TableAddr.{TableAddr}
use Rattle.wasm_syntax.specs.declared.addresses.MemAddr.{MemAddr}
use Rattle.wasm_syntax.specs.declared.addresses.DataAddr.{DataAddr}
use Rattle.wasm_store.specs.Store.{Store, instance_at, global_at}
use Rattle.wasm_store.specs.Whole.{value_type, HasType, IsLater}
use Rattle.wasm_machine.specs.Performing.{Performed, traps, perform, perform_drop, perform_select, perform_is_null}
use Rattle.wasm_machine.specs.View.{View}
use Rattle.wasm_machine.specs.Steps.{Performs}
use Rattle.wasm_machine.specs.Fits.{FitsAt}

-- the topmost values have these types
abbrev pub IsTops : List ValType → List Value → Type 0
IsTops [] vs = Unit {0}
IsTops (t ∷ ts) [] = ⊥
IsTops (t ∷ ts) (a ∷ vs) = (value_type a ≡ t) × IsTops ts vs

-- an instruction whose rule asks for no store goes on in the innermost list
abbrev pub Goes : Simple → View → View → Type 0
Goes k old new = (s : Store) (i : Instance) → Performs (perform s i old.locals old.top.values k) s old new

-- it traps
abbrev pub GoesTo : Simple → View → Trap → Type 0
GoesTo k old cause = (s : Store) (i : Instance) → perform s i old.locals old.top.values k ≡ traps cause

-- what the rule of a simple instruction comes to in a frame
abbrev pub performed : Store → View → Simple → Performed
performed s v k = perform s (instance_at s v.instance) v.locals v.top.values k

-- a simple instruction is at work in a frame that fits
pub record CanPerform (s : Store) (k : Simple) (v : View) : Type 0 where
  pub results : List ValType
  pub instr : Instr
  pub rest : List Instr
  pub sort_is : sort_of instr ≡ sort.Simple k
  pub fits : FitsAt s results (instr ∷ rest) [] v

-- it goes on, and leaves this store, or it traps and leaves the store that there was
abbrev pub Ends : Store → Simple → View → Result (Unit {0}) Trap → Store → View → Type 0
Ends s k old (Ok x) r new = Performs (performed s old k) r old new
Ends s k old (Err cause) r new = (performed s old k ≡ traps cause) × (r ≡ s)

-- Instructions on operands alone.

abbrev pub IsOperand : Sort → Type 0
IsOperand sort.Drop = Unit {0}
IsOperand sort.Select = Unit {0}
IsOperand sort.SelectTyped = Unit {0}
IsOperand sort.RefIsNull = Unit {0}
IsOperand _ = ⊥

-- the topmost operand is a reference
abbrev pub IsReferenceFirst : List Value → Type 0
IsReferenceFirst (w.FuncNull ∷ vs) = Unit {0}
IsReferenceFirst (w.Func a ∷ vs) = Unit {0}
IsReferenceFirst (w.ExternNull ∷ vs) = Unit {0}
IsReferenceFirst (w.Extern a ∷ vs) = Unit {0}
IsReferenceFirst _ = ⊥

-- a number stands over two operands
abbrev pub IsSelectable : List Value → Type 0
IsSelectable (w.I32 k ∷ second ∷ first ∷ vs) = Unit {0}
IsSelectable _ = ⊥

abbrev pub Drops : View → View → Type 0
Drops old new = (s : Store) → Performs (perform_drop s old.locals old.top.values) s old new

abbrev pub Selects : View → View → Type 0
Selects old new = (s : Store) → Performs (perform_select s old.locals old.top.values) s old new

abbrev pub TestsNull : View → View → Type 0
TestsNull old new = (s : Store) → Performs (perform_is_null s old.locals old.top.values) s old new

-- Instructions on the store.

-- what an index of the instance names is there, and each thing that it may name is so
abbrev pub Names : {A : Type 0} → List A → ℕ → (A → Type 0) → Type 0
Names {A} xs x P = (x < length xs) × ((a : A) → slice_get xs x ≡ Some a → P a)

-- the topmost value has the type
abbrev pub IsFirstTyped : Store → List Value → ValType → Type 0
IsFirstTyped s [] t = ⊥
IsFirstTyped s (u ∷ vs) t = HasType s u t

abbrev pub IsSettable : Store → GlobalAddr → List Value → Type 0
IsSettable s a vs = (a.0 < length s.globals) × ((global_at s a).ty.mutable ≡ true) × IsFirstTyped s vs (global_at s a).ty.val

-- a value over a number, and the same under another number
abbrev pub IsOverNumber : List Value → Type 0
IsOverNumber (u ∷ w.I32 k ∷ vs) = Unit {0}
IsOverNumber _ = ⊥

abbrev pub IsUnderNumber : List Value → Type 0
IsUnderNumber (w.I32 k ∷ u ∷ vs) = Unit {0}
IsUnderNumber _ = ⊥

abbrev pub IsBetweenNumbers : List Value → Type 0
IsBetweenNumbers (w.I32 k ∷ u ∷ w.I32 j ∷ vs) = Unit {0}
IsBetweenNumbers _ = ⊥

abbrev pub IsThreeNumbers : List Value → Type 0
IsThreeNumbers (w.I32 k ∷ w.I32 j ∷ w.I32 i ∷ vs) = Unit {0}
IsThreeNumbers _ = ⊥

-- the value under the topmost has the type
abbrev pub IsSecondTyped : Store → List Value → ValType → Type 0
IsSecondTyped s (k ∷ u ∷ vs) t = HasType s u t
IsSecondTyped s _ t = ⊥

abbrev pub IsLiveTable : Store → TableAddr → Type 0
IsLiveTable s a = a.0 < length s.tables

abbrev pub IsLiveMemory : Store → MemAddr → Type 0
IsLiveMemory s a = a.0 < length s.memories

abbrev pub IsLiveData : Store → DataAddr → Type 0
IsLiveData s d = d.0 < length s.datas

-- the store is as it was, or later
abbrev pub IsKept : Store → Store → Type 0
IsKept s r = (r ≡ s) ⊎ IsLater s r
