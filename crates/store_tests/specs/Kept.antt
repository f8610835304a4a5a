-- Private: what the calls of the tests ask of a store and keep.
use Rattle.std.specs.Prelude.{◌≡◌, ◌<◌, [], ◌∷◌, None, length}
use Rattle.wasm_syntax.specs.declared.types.TableType.{TableType}
use Rattle.wasm_syntax.specs.declared.module.Module.{Module}
use Rattle.wasm_syntax.specs.declared.addresses.ModuleAddr.{ModuleAddr}
use Rattle.wasm_syntax.specs.declared.addresses.InstAddr.{InstAddr}
use Rattle.wasm_syntax.specs.declared.types.ValType.TheVariants as v
use Rattle.wasm_syntax.specs.declared.value.Value.{Value}
use Rattle.wasm_syntax.specs.declared.addresses.TableAddr.{TableAddr}
use Rattle.wasm_syntax.specs.declared.addresses.ElemAddr.{ElemAddr}
use Rattle.wasm_store.specs.Store.{Store, module_at, table_at, element_at}
use Rattle.wasm_store.specs.Whole.{HasType, AreTyped}

-- a live table of values of the host
abbrev pub IsTableOfHost : Store → TableAddr → Type 0
IsTableOfHost s a = (a.0 < length s.tables) × ((table_at s a).elem ≡ v.ExternRef)

-- a live segment of values of the host
abbrev pub IsSegmentOfHost : Store → ElemAddr → Type 0
IsSegmentOfHost s e = (e.0 < length s.elements) × AreTyped s (element_at s e) v.ExternRef

-- a value of the host in every store
abbrev pub IsOfHost : Value → Type 0
IsOfHost value = (s : Store) → HasType s value v.ExternRef

pub record Keeps (old new : Store) : Type 0 where
  pub tables : (a : TableAddr) → IsTableOfHost old a → IsTableOfHost new a
  pub segments : (e : ElemAddr) → IsSegmentOfHost old e → IsSegmentOfHost new e

-- a module with one table and nothing else
abbrev pub one_table : TableType → Module
one_table ty = record { types = []; imports = []; funcs = []; tables = ty ∷ []; mems = []; globals = []; exports = []; start = None; elems = []; data_count = None; datas = []; blocks = [] }

-- it stands at this address
abbrev pub HasModule : Store → ModuleAddr → TableType → Type 0
HasModule s a ty = (a.0 < length s.modules) × (module_at s a ≡ one_table ty)

abbrev pub IsLiveInstance : Store → InstAddr → Type 0
IsLiveInstance s i = i.0 < length s.instances

pub record KeepsModules (old new : Store) : Type 0 where
  pub modules : (a : ModuleAddr) (ty : TableType) → HasModule old a ty → HasModule new a ty
  pub instances : (i : InstAddr) → IsLiveInstance old i → IsLiveInstance new i
