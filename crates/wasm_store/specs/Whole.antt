-- What holds of every store, and what stays as it changes (WebAssembly Core 2.0, appendix A.2: store validity and store extension).
use Rattle.std.specs.Prelude.{◌≡◌, ℕ, ◌<◌, ◌≤◌, ◌⊎◌, true, false, List, [], Option, Some, length, slice_get, slice_index_or}
use Rattle.std.specs.List.{All, AllZip}
use Rattle.wasm_syntax.specs.declared.types.ValType.{ValType}
use Rattle.wasm_syntax.specs.declared.types.ValType.TheVariants as v
use Rattle.wasm_syntax.specs.declared.types.FuncType.{FuncType}
use Rattle.wasm_syntax.specs.declared.types.Limit.{Limit}
use Rattle.wasm_syntax.specs.declared.types.TableType.{TableType}
use Rattle.wasm_syntax.specs.declared.types.GlobalType.{GlobalType}
use Rattle.wasm_syntax.specs.declared.module.Func.{Func}
use Rattle.wasm_syntax.specs.declared.module.Elem.{Elem}
use Rattle.wasm_syntax.specs.declared.module.Data.{Data}
use Rattle.wasm_syntax.specs.declared.module.Module.{Module}
use Rattle.wasm_syntax.specs.declared.value.Value.{Value}
use Rattle.wasm_syntax.specs.declared.value.Value.TheVariants as w
use Rattle.wasm_syntax.specs.declared.addresses.FuncAddr.{FuncAddr}
use Rattle.wasm_syntax.specs.declared.addresses.TableAddr.{TableAddr}
use Rattle.wasm_syntax.specs.declared.addresses.MemAddr.{MemAddr}
use Rattle.wasm_syntax.specs.declared.addresses.GlobalAddr.{GlobalAddr}
use Rattle.wasm_syntax.specs.declared.addresses.ElemAddr.{ElemAddr}
use Rattle.wasm_syntax.specs.declared.addresses.DataAddr.{DataAddr}
use Rattle.wasm_valid.specs.Spaces.{then_, funcs_of, tables_of, mems_of, globals_of}
use Rattle.wasm_valid.specs.ModuleRules.{is_table}
use Rattle.wasm_store.specs.declared.instances.FuncInst.{FuncInst}
use Rattle.wasm_store.specs.declared.instances.FuncInst.TheVariants as f
use Rattle.wasm_store.specs.declared.instances.Instance.{Instance}
use Rattle.wasm_store.specs.declared.instances.GlobalInst.{GlobalInst}
use Rattle.wasm_store.specs.Store.{Store, TableInst, MemInst, most_entries, type_of, table_type_of, module_at, instance_at, function_at, table_at, global_at, element_at}
use Rattle.wasm_store.specs.Memories.{AreMemories}

-- Values (4.2.1).

abbrev pub value_type : Value → ValType
value_type (w.I32 n) = v.I32
value_type (w.I64 n) = v.I64
value_type w.FuncNull = v.FuncRef
value_type (w.Func a) = v.FuncRef
value_type w.ExternNull = v.ExternRef
value_type (w.Extern a) = v.ExternRef

-- a reference to a function is to one of the store; a value of the host counts as live in every store
abbrev pub IsLive : Store → Value → Type 0
IsLive s (w.I32 n) = Unit {0}
IsLive s (w.I64 n) = Unit {0}
IsLive s w.FuncNull = Unit {0}
IsLive s (w.Func a) = a.0 < length s.functions
IsLive s w.ExternNull = Unit {0}
IsLive s (w.Extern a) = Unit {0}

abbrev pub HasType : Store → Value → ValType → Type 0
HasType s value ty = (value_type value ≡ ty) × IsLive s value

-- each of these values has the type
abbrev pub AreTyped : Store → List Value → ValType → Type 0
AreTyped s values ty = All (λ value. HasType s value ty) values

-- Instances (4.2.5). Each relation says of an address that it is live and names a thing of this type.

-- the type is that with index x in the module m
abbrev pub HasFunction : Store → Module → FuncAddr → ℕ → Type 0
HasFunction s m a x = (a.0 < length s.functions) × (slice_get m.types x ≡ Some (type_of (function_at s a)))

-- limits may differ
abbrev pub HasTable : Store → TableAddr → TableType → Type 0
HasTable s a ty = (a.0 < length s.tables) × ((table_at s a).elem ≡ ty.elem)

abbrev pub HasMemory : Store → MemAddr → Limit → Type 0
HasMemory s a ty = a.0 < length s.memories

abbrev pub HasGlobal : Store → GlobalAddr → GlobalType → Type 0
HasGlobal s a ty = (a.0 < length s.globals) × ((global_at s a).ty ≡ ty)

-- a segment may have been dropped
abbrev pub HasElement : Store → ElemAddr → Elem → Type 0
HasElement s a segment = (a.0 < length s.elements) × AreTyped s (element_at s a) segment.ty

abbrev pub HasData : Store → DataAddr → Data → Type 0
HasData s a segment = a.0 < length s.datas

-- an instance has for each thing of its module one address, imports first, which names a thing of that type
pub record HasLists (s : Store) (i : Instance) : Type 0 where
  pub live : i.module.0 < length s.modules
  pub funcs : AllZip (HasFunction s (module_at s i.module)) i.funcs (funcs_of (module_at s i.module))
  pub tables : AllZip (HasTable s) i.tables (tables_of (module_at s i.module))
  pub mems : AllZip (HasMemory s) i.mems (mems_of (module_at s i.module))
  pub globals : AllZip (HasGlobal s) i.globals (globals_of (module_at s i.module))
  pub elems : AllZip (HasElement s) i.elems (module_at s i.module).elems
  pub datas : AllZip (HasData s) i.datas (module_at s i.module).datas

-- an instance without lists, as it is before its functions are there
pub record IsBlank (i : Instance) : Type 0 where
  pub funcs : i.funcs ≡ []
  pub tables : i.tables ≡ []
  pub mems : i.mems ≡ []
  pub globals : i.globals ≡ []
  pub elems : i.elems ≡ []
  pub datas : i.datas ≡ []

-- The store as a whole.

-- the type of a function of a module's own, counted without the imported ones
abbrev pub own_type : Module → ℕ → Option FuncType
own_type m x = then_ (slice_get m.funcs x) (λ (g : Func). slice_get m.types g.ty)

-- a function of a module is one of its own, of the type that it has there
abbrev pub IsFunction : Store → FuncInst → Type 0
IsFunction s (f.Wasm ty i x) = (i.0 < length s.instances) × (own_type (module_at s (instance_at s i).module) x ≡ Some ty)
IsFunction s (f.Host ty callee) = Unit {0}
IsFunction s (f.Suspending ty callee) = Unit {0}

-- a function of a module whose instance has its lists
abbrev pub HasCode : Store → FuncInst → Type 0
HasCode s (f.Wasm ty i x) = IsBlank (instance_at s i) → ⊥
HasCode s (f.Host ty callee) = ⊥
HasCode s (f.Suspending ty callee) = ⊥

-- each function is one of a module whose instance has its lists
abbrev pub AllHaveCode : Store → Type 0
AllHaveCode s = All (HasCode s) s.functions

abbrev pub IsInstance : Store → Instance → Type 0
IsInstance s i = (i.module.0 < length s.modules) × (IsBlank i ⊎ HasLists s i)

-- a table is of its type, has at most as many entries as it may, and each of them has the element type
pub record IsTable (s : Store) (t : TableInst) : Type 0 where
  pub type_is : is_table (table_type_of t) ≡ true
  pub few : length t.entries ≤ most_entries
  pub typed : AreTyped s t.entries t.elem

abbrev pub IsGlobal : Store → GlobalInst → Type 0
IsGlobal s g = HasType s g.value g.ty.val

-- the references of a segment are live
abbrev pub AreLive : Store → List Value → Type 0
AreLive s items = All (IsLive s) items

pub record IsWhole (s : Store) : Type 0 where
  pub memories : AreMemories s.memories
  pub functions : All (IsFunction s) s.functions
  pub instances : All (IsInstance s) s.instances
  pub tables : All (IsTable s) s.tables
  pub globals : All (IsGlobal s) s.globals
  pub elements : All (AreLive s) s.elements

-- What stays.

-- there is at least as much as before, and each thing is to what it was as R says
pub record Extends {A : Type 0} (R : A → A → Type 0) (old new : List A) : Type 0 where
  pub count : length old ≤ length new
  pub each : (k : ℕ) (d : A) → k < length old → R (slice_index_or old k d) (slice_index_or new k d)

abbrev pub Stays : {A : Type 0} → A → A → Type 0
Stays x y = y ≡ x

-- its lists may be set where it has none
abbrev pub InstanceStays : Instance → Instance → Type 0
InstanceStays i j = (IsBlank i × (j.module ≡ i.module)) ⊎ (j ≡ i)

-- entries may be written and added
pub record TableStays (t u : TableInst) : Type 0 where
  pub elem : u.elem ≡ t.elem
  pub max : u.max ≡ t.max
  pub size : length t.entries ≤ length u.entries

pub record MemoryStays (m n : MemInst) : Type 0 where
  pub max : n.max ≡ m.max
  pub size : length m.bytes ≤ length n.bytes

-- only a mutable global is written
pub record GlobalStays (g h : GlobalInst) : Type 0 where
  pub type_is : h.ty ≡ g.ty
  pub value : g.ty.mutable ≡ false → h ≡ g

-- it may be dropped
abbrev pub SegmentStays : {A : Type 0} → List A → List A → Type 0
SegmentStays xs ys = (ys ≡ xs) ⊎ (ys ≡ [])

-- a store as it may be later
pub record IsLater (old new : Store) : Type 0 where
  pub modules : Extends Stays old.modules new.modules
  pub instances : Extends InstanceStays old.instances new.instances
  pub functions : Extends Stays old.functions new.functions
  pub tables : Extends TableStays old.tables new.tables
  pub memories : Extends MemoryStays old.memories new.memories
  pub globals : Extends GlobalStays old.globals new.globals
  pub elements : Extends SegmentStays old.elements new.elements
  pub datas : Extends SegmentStays old.datas new.datas

-- modules, instances and functions are as they were
pub record HasSameCode (old new : Store) : Type 0 where
  pub modules : new.modules ≡ old.modules
  pub instances : new.instances ≡ old.instances
  pub functions : new.functions ≡ old.functions
