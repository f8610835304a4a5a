-- What a module becomes in a store (WebAssembly Core 2.0, section 4.5.3.8): its functions, tables, memories, globals, element and data
-- segments, in this order, each kind in the order of the module.
use Rattle.std.specs.Prelude.{◌≡◌, ℕ, zero, suc, ◌<◌, ◌≤◌, true, List, [], ◌∷◌, ◌++◌, length, map, filter_map, slice_index_or}
use Rattle.std.specs.List.{All, AllZip}
use Rattle.wasm_syntax.specs.Blocks.{block_of}
use Rattle.wasm_syntax.specs.declared.types.ValType.{ValType}
use Rattle.wasm_syntax.specs.declared.types.ValType.TheVariants as v
use Rattle.wasm_syntax.specs.declared.types.FuncType.{FuncType}
use Rattle.wasm_syntax.specs.declared.types.Limit.{Limit}
use Rattle.wasm_syntax.specs.declared.types.TableType.{TableType}
use Rattle.wasm_syntax.specs.declared.instructions.BlockId.{BlockId}
use Rattle.wasm_syntax.specs.declared.instructions.Instr.{Instr}
use Rattle.wasm_syntax.specs.declared.instructions.Instr.TheVariants as i
use Rattle.wasm_syntax.specs.declared.module.Import.{Import}
use Rattle.wasm_syntax.specs.declared.module.Func.{Func}
use Rattle.wasm_syntax.specs.declared.module.GlobalDef.{GlobalDef}
use Rattle.wasm_syntax.specs.declared.module.Elem.{Elem}
use Rattle.wasm_syntax.specs.declared.module.Data.{Data}
use Rattle.wasm_syntax.specs.declared.module.Module.{Module}
use Rattle.wasm_syntax.specs.declared.value.Value.{Value}
use Rattle.wasm_syntax.specs.declared.value.Value.TheVariants as w
use Rattle.wasm_syntax.specs.declared.addresses.ModuleAddr.{ModuleAddr}
use Rattle.wasm_syntax.specs.declared.addresses.InstAddr.{InstAddr}
use Rattle.wasm_syntax.specs.declared.addresses.FuncAddr.{FuncAddr}
use Rattle.wasm_syntax.specs.declared.addresses.TableAddr.{TableAddr}
use Rattle.wasm_syntax.specs.declared.addresses.MemAddr.{MemAddr}
use Rattle.wasm_syntax.specs.declared.addresses.GlobalAddr.{GlobalAddr}
use Rattle.wasm_syntax.specs.declared.addresses.ElemAddr.{ElemAddr}
use Rattle.wasm_syntax.specs.declared.addresses.DataAddr.{DataAddr}
use Rattle.wasm_valid.specs.Spaces.{func_import, table_import, mem_import, imported_globals_of}
use Rattle.wasm_store.specs.declared.instances.FuncInst.{FuncInst}
use Rattle.wasm_store.specs.declared.instances.FuncInst.TheVariants as f
use Rattle.wasm_store.specs.declared.instances.Instance.{Instance}
use Rattle.wasm_store.specs.declared.instances.GlobalInst.{GlobalInst}
use Rattle.raw_memory.specs.Bytes.{most_pages}
use Rattle.wasm_store.specs.Memories.{new_memory, all_pages, most_pages_in_all}
use Rattle.wasm_store.specs.Store.{Store, TableInst, MemInst, new_table, module_at, global_at, most_entries}
use Rattle.wasm_valid.specs.ModuleRules.{is_typed_module}
use Rattle.wasm_store.specs.Whole.{HasFunction, HasTable, HasMemory, HasGlobal, IsLater, IsWhole, HasLists}

-- Addresses that come next.

-- k numbers from n on, as addresses
abbrev pub fresh : {A : Type 0} → (ℕ → A) → ℕ → ℕ → List A
fresh address n zero = []
fresh address n (suc k) = address n ∷ fresh address (suc n) k

abbrev pub func_addr : ℕ → FuncAddr
func_addr n = record { 0 = n }

abbrev pub table_addr : ℕ → TableAddr
table_addr n = record { 0 = n }

abbrev pub mem_addr : ℕ → MemAddr
mem_addr n = record { 0 = n }

abbrev pub global_addr : ℕ → GlobalAddr
global_addr n = record { 0 = n }

abbrev pub elem_addr : ℕ → ElemAddr
elem_addr n = record { 0 = n }

abbrev pub data_addr : ℕ → DataAddr
data_addr n = record { 0 = n }

-- the instance of the module at a: the imports' addresses first, then those that come next. `imports` has no segments
abbrev pub instance_of : ModuleAddr → Instance → Store → Instance
instance_of a imports s = record {
  «module» = a;
  funcs = imports.funcs ++ fresh func_addr (length s.functions) (length (module_at s a).funcs);
  tables = imports.tables ++ fresh table_addr (length s.tables) (length (module_at s a).tables);
  mems = imports.mems ++ fresh mem_addr (length s.memories) (length (module_at s a).mems);
  globals = imports.globals ++ fresh global_addr (length s.globals) (length (module_at s a).globals);
  elems = fresh elem_addr (length s.elements) (length (module_at s a).elems);
  datas = fresh data_addr (length s.datas) (length (module_at s a).datas);
}

-- What stands at them.

abbrev pub type_with : Module → ℕ → FuncType
type_with m x = slice_index_or m.types x (record { params = []; results = [] })

-- functions of a module's own, counted from x on, in the instance at j
abbrev pub functions_of : Module → InstAddr → ℕ → List Func → List FuncInst
functions_of m j x [] = []
functions_of m j x (g ∷ gs) = f.Wasm (type_with m g.ty) j x ∷ functions_of m j (suc x) gs

-- the value in the entries of a new table
abbrev pub null_of : ValType → Value
null_of v.I32 = w.FuncNull
null_of v.I64 = w.FuncNull
null_of v.FuncRef = w.FuncNull
null_of v.ExternRef = w.ExternNull

abbrev pub tables_from : List TableType → List TableInst
tables_from tys = map (λ (ty : TableType). new_table ty (null_of ty.elem)) tys

abbrev pub memories_from : List Limit → List MemInst
memories_from limits = map new_memory limits

-- The values of constant expressions (3.3.10): `funcs` are the addresses of the functions, and `globals` the values of the imported
-- globals.

abbrev pub constant : List FuncAddr → List Value → Instr → Value
constant funcs globals (i.I32Const n) = w.I32 n
constant funcs globals (i.I64Const n) = w.I64 n
constant funcs globals (i.RefNull ty) = null_of ty
constant funcs globals (i.RefFunc x) = w.Func (slice_index_or funcs x (func_addr 0))
constant funcs globals (i.GlobalGet x) = slice_index_or globals x w.FuncNull
constant funcs globals _ = w.FuncNull

abbrev pub first_constant : List FuncAddr → List Value → List Instr → Value
first_constant funcs globals [] = w.FuncNull
first_constant funcs globals (i ∷ is) = constant funcs globals i

-- the value of a constant expression of the module at a
abbrev pub value_of : ModuleAddr → Instance → Store → BlockId → Value
value_of a imports s id = first_constant (instance_of a imports s).funcs (map (λ (g : GlobalAddr). (global_at s g).value) imports.globals) (block_of (module_at s a) id)

-- a module's own globals, where each expression has the value that `value` tells
abbrev pub new_global : (BlockId → Value) → GlobalDef → GlobalInst
new_global value g = record { ty = g.ty; value = value g.init }

abbrev pub globals_from : (BlockId → Value) → List GlobalDef → List GlobalInst
globals_from value defs = map (new_global value) defs

abbrev pub new_items : (BlockId → Value) → Elem → List Value
new_items value segment = map value segment.items

abbrev pub elements_from : (BlockId → Value) → List Elem → List (List Value)
elements_from value segments = map (new_items value) segments

-- The store with all of them, and with their instance, which comes before them.
abbrev pub allocated : ModuleAddr → Instance → Store → Store
allocated a imports s = record {
  modules = s.modules;
  instances = s.instances ++ instance_of a imports s ∷ [];
  functions = s.functions ++ functions_of (module_at s a) (record { 0 = length s.instances }) 0 (module_at s a).funcs;
  tables = s.tables ++ tables_from (module_at s a).tables;
  memories = s.memories ++ memories_from (module_at s a).mems;
  globals = s.globals ++ globals_from (value_of a imports s) (module_at s a).globals;
  elements = s.elements ++ elements_from (value_of a imports s) (module_at s a).elems;
  datas = s.datas ++ map (λ (segment : Data). segment.bytes) (module_at s a).datas;
}

-- What it asks: one live address of its type for each import, in the order of the module.
pub record AreImports (s : Store) (m : Module) (imports : Instance) : Type 0 where
  pub funcs : AllZip (HasFunction s m) imports.funcs (filter_map (λ (import : Import). func_import import.desc) m.imports)
  pub tables : AllZip (HasTable s) imports.tables (filter_map (λ (import : Import). table_import import.desc) m.imports)
  pub mems : AllZip (HasMemory s) imports.mems (filter_map (λ (import : Import). mem_import import.desc) m.imports)
  pub globals : AllZip (HasGlobal s) imports.globals (imported_globals_of m)

-- It is later and whole, and the instance has its lists there: each address is live with its type.
pub record IsAllocated (s : Store) (a : ModuleAddr) (imports : Instance) : Type 0 where
  pub later : IsLater s (allocated a imports s)
  pub whole : IsWhole (allocated a imports s)
  pub lists : HasLists (allocated a imports s) (instance_of a imports s)

-- None of the module's tables and memories passes a limit of the embedding, nor do all memories of the store together with them.
pub record IsWithinLimits (s : Store) (m : Module) : Type 0 where
  pub tables : All (λ (ty : TableType). ty.limit.min ≤ most_entries) m.tables
  pub mems : All (λ (limit : Limit). limit.min ≤ most_pages) m.mems
  pub pages : all_pages (s.memories ++ memories_from m.mems) ≤ most_pages_in_all

-- so it is of a typed module within the limits
abbrev pub ModulesAreAllocated : Type 0
ModulesAreAllocated = (s : Store) (a : ModuleAddr) (imports : Instance) → IsWhole s → a.0 < length s.modules → is_typed_module (module_at s a) ≡ true → IsWithinLimits s (module_at s a) → AreImports s (module_at s a) imports → IsAllocated s a imports
