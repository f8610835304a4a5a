-- Laws of stores. `src/laws.rt` has a function for each, whose contract is the law.
use Rattle.std.specs.Prelude.{◌≡◌, ℕ, ◌<◌, length, Some, slice_get}
use Rattle.wasm_syntax.specs.declared.types.ValType.{ValType}
use Rattle.wasm_syntax.specs.declared.types.Limit.{Limit}
use Rattle.wasm_syntax.specs.declared.types.TableType.{TableType}
use Rattle.wasm_syntax.specs.declared.types.GlobalType.{GlobalType}
use Rattle.wasm_syntax.specs.declared.module.Elem.{Elem}
use Rattle.wasm_syntax.specs.declared.module.Data.{Data}
use Rattle.wasm_syntax.specs.declared.value.Value.{Value}
use Rattle.wasm_syntax.specs.declared.addresses.ModuleAddr.{ModuleAddr}
use Rattle.wasm_syntax.specs.declared.addresses.InstAddr.{InstAddr}
use Rattle.wasm_syntax.specs.declared.addresses.FuncAddr.{FuncAddr}
use Rattle.wasm_syntax.specs.declared.addresses.TableAddr.{TableAddr}
use Rattle.wasm_syntax.specs.declared.addresses.MemAddr.{MemAddr}
use Rattle.wasm_syntax.specs.declared.addresses.GlobalAddr.{GlobalAddr}
use Rattle.wasm_syntax.specs.declared.addresses.ElemAddr.{ElemAddr}
use Rattle.wasm_syntax.specs.declared.addresses.DataAddr.{DataAddr}
use Rattle.wasm_valid.specs.Spaces.{funcs_of, tables_of, mems_of, globals_of}
use Rattle.wasm_store.specs.declared.instances.Instance.{Instance}
use Rattle.wasm_store.specs.Store.{Store, module_at, instance_at, function_at, table_at, global_at, element_at}
use Rattle.wasm_store.specs.Memories.{memory_at, data_at}
use Rattle.wasm_store.specs.Whole.{IsLater, HasType, HasLists, IsBlank, HasFunction, HasTable, HasMemory, HasGlobal, HasElement, HasData, GlobalStays, TableStays, MemoryStays, SegmentStays}

-- What is later is an order.

abbrev pub NothingChanges : Type 0
NothingChanges = (s : Store) → IsLater s s

abbrev pub LaterStays : Type 0
LaterStays = (s t u : Store) → IsLater s t → IsLater t u → IsLater s u

-- Live addresses stay live with their types.

abbrev pub ValuesStayTyped : Type 0
ValuesStayTyped = (s t : Store) (v : Value) (ty : ValType) → IsLater s t → HasType s v ty → HasType t v ty

abbrev pub ModulesStay : Type 0
ModulesStay = (s t : Store) (a : ModuleAddr) → IsLater s t → a.0 < length s.modules → (a.0 < length t.modules) × (module_at t a ≡ module_at s a)

abbrev pub FunctionsStay : Type 0
FunctionsStay = (s t : Store) (a : FuncAddr) → IsLater s t → a.0 < length s.functions → (a.0 < length t.functions) × (function_at t a ≡ function_at s a)

-- its element type and its greatest size are the same, and its size is no smaller
abbrev pub TablesStay : Type 0
TablesStay = (s t : Store) (a : TableAddr) → IsLater s t → a.0 < length s.tables → (a.0 < length t.tables) × TableStays (table_at s a) (table_at t a)

-- its greatest number of pages is the same, and its size is no smaller
abbrev pub MemoriesStay : Type 0
MemoriesStay = (s t : Store) (a : MemAddr) → IsLater s t → a.0 < length s.memories → (a.0 < length t.memories) × MemoryStays (memory_at s a) (memory_at t a)

-- its type is the same, and its value too where it is not mutable
abbrev pub GlobalsStay : Type 0
GlobalsStay = (s t : Store) (a : GlobalAddr) → IsLater s t → a.0 < length s.globals → (a.0 < length t.globals) × GlobalStays (global_at s a) (global_at t a)

-- a segment is the same, or was dropped and is empty
abbrev pub ElementsStay : Type 0
ElementsStay = (s t : Store) (a : ElemAddr) → IsLater s t → a.0 < length s.elements → (a.0 < length t.elements) × SegmentStays (element_at s a) (element_at t a)

abbrev pub DatasStay : Type 0
DatasStay = (s t : Store) (a : DataAddr) → IsLater s t → a.0 < length s.datas → (a.0 < length t.datas) × SegmentStays (data_at s a) (data_at t a)

-- Instances.

-- it is one of the same module, and an instance with lists is the same
abbrev pub InstancesStay : Type 0
InstancesStay = (s t : Store) (a : InstAddr) → IsLater s t → a.0 < length s.instances → (a.0 < length t.instances) × ((instance_at t a).module ≡ (instance_at s a).module) × ((IsBlank (instance_at s a) → ⊥) → instance_at t a ≡ instance_at s a)

-- the lists of an instance fit a later store
abbrev pub ListsStay : Type 0
ListsStay = (s t : Store) (i : Instance) → IsLater s t → HasLists s i → HasLists t i

-- What an index of a module names in an instance with lists.

abbrev pub FunctionOfIndex : Type 0
FunctionOfIndex = (s : Store) (i : Instance) (k x : ℕ) → HasLists s i → slice_get (funcs_of (module_at s i.module)) k ≡ Some x → (a : FuncAddr) × (slice_get i.funcs k ≡ Some a) × HasFunction s (module_at s i.module) a x

abbrev pub TableOfIndex : Type 0
TableOfIndex = (s : Store) (i : Instance) (k : ℕ) (ty : TableType) → HasLists s i → slice_get (tables_of (module_at s i.module)) k ≡ Some ty → (a : TableAddr) × (slice_get i.tables k ≡ Some a) × HasTable s a ty

abbrev pub GlobalOfIndex : Type 0
GlobalOfIndex = (s : Store) (i : Instance) (k : ℕ) (ty : GlobalType) → HasLists s i → slice_get (globals_of (module_at s i.module)) k ≡ Some ty → (a : GlobalAddr) × (slice_get i.globals k ≡ Some a) × HasGlobal s a ty

abbrev pub ElementOfIndex : Type 0
ElementOfIndex = (s : Store) (i : Instance) (k : ℕ) (segment : Elem) → HasLists s i → slice_get (module_at s i.module).elems k ≡ Some segment → (a : ElemAddr) × (slice_get i.elems k ≡ Some a) × HasElement s a segment

abbrev pub MemoryOfIndex : Type 0
MemoryOfIndex = (s : Store) (i : Instance) (k : ℕ) (limit : Limit) → HasLists s i → slice_get (mems_of (module_at s i.module)) k ≡ Some limit → (a : MemAddr) × (slice_get i.mems k ≡ Some a) × HasMemory s a limit

abbrev pub DataOfIndex : Type 0
DataOfIndex = (s : Store) (i : Instance) (k : ℕ) (segment : Data) → HasLists s i → slice_get (module_at s i.module).datas k ≡ Some segment → (a : DataAddr) × (slice_get i.datas k ≡ Some a) × HasData s a segment
