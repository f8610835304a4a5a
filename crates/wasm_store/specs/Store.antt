-- The store (WebAssembly Core 2.0, section 4.2.3) as lists of what its addresses name, and what each change makes of it as a whole.
use Rattle.std.specs.Prelude.{ℕ, ◌+◌, false, List, [], ◌∷◌, ◌++◌, Option, None, length, take, drop, replicate, slice_index_or, slice_set}
use Rattle.wasm_syntax.specs.declared.types.ValType.{ValType}
use Rattle.wasm_syntax.specs.declared.types.ValType.TheVariants as v
use Rattle.wasm_syntax.specs.declared.types.FuncType.{FuncType}
use Rattle.wasm_syntax.specs.declared.types.TableType.{TableType}
use Rattle.wasm_syntax.specs.declared.module.Module.{Module}
use Rattle.wasm_syntax.specs.declared.value.Value.{Value}
use Rattle.wasm_syntax.specs.declared.value.Value.TheVariants as w
use Rattle.wasm_syntax.specs.declared.addresses.ModuleAddr.{ModuleAddr}
use Rattle.wasm_syntax.specs.declared.addresses.InstAddr.{InstAddr}
use Rattle.wasm_syntax.specs.declared.addresses.FuncAddr.{FuncAddr}
use Rattle.wasm_syntax.specs.declared.addresses.TableAddr.{TableAddr}
use Rattle.wasm_syntax.specs.declared.addresses.GlobalAddr.{GlobalAddr}
use Rattle.wasm_syntax.specs.declared.addresses.ElemAddr.{ElemAddr}
use Rattle.wasm_store.specs.declared.instances.FuncInst.{FuncInst}
use Rattle.wasm_store.specs.declared.instances.FuncInst.TheVariants as f
use Rattle.wasm_store.specs.declared.instances.Instance.{Instance}
use Rattle.wasm_store.specs.declared.instances.GlobalInst.{GlobalInst}

-- a table (4.2.7): the type of its elements, its entries, and how many it may have at most
pub record TableInst : Type 0 where
  pub elem : ValType
  pub entries : List Value
  pub max : Option ℕ

-- a memory (4.2.8): its bytes, and how many pages it may have at most
pub record MemInst : Type 0 where
  pub bytes : List ℕ
  pub max : Option ℕ

-- what each address counts in the list of its kind
pub record Store : Type 0 where
  pub modules : List Module
  pub instances : List Instance
  pub functions : List FuncInst
  pub tables : List TableInst
  pub memories : List MemInst
  pub globals : List GlobalInst
  pub elements : List (List Value)
  pub datas : List (List ℕ)

abbrev pub empty_store : Store
empty_store = record { modules = []; instances = []; functions = []; tables = []; memories = []; globals = []; elements = []; datas = [] }

-- an instance without lists, as it is before its functions are there
abbrev pub blank : ModuleAddr → Instance
blank a = record { «module» = a; funcs = []; tables = []; mems = []; globals = []; elems = []; datas = [] }

-- the type of a function
abbrev pub type_of : FuncInst → FuncType
type_of (f.Wasm ty i x) = ty
type_of (f.Host ty callee) = ty
type_of (f.Suspending ty callee) = ty

-- a table's type: its least size is the one that it has
abbrev pub table_type_of : TableInst → TableType
table_type_of t = record { elem = t.elem; limit = record { min = length t.entries; max = t.max } }

-- What an address names. Of no address that is live the second argument is the answer.

abbrev pub no_module : Module
no_module = record { types = []; imports = []; funcs = []; tables = []; mems = []; globals = []; exports = []; start = None; elems = []; data_count = None; datas = []; blocks = [] }

abbrev pub no_function : FuncInst
no_function = f.Host (record { params = []; results = [] }) 0

abbrev pub no_table : TableInst
no_table = record { elem = v.FuncRef; entries = []; max = None }

abbrev pub no_global : GlobalInst
no_global = record { ty = record { val = v.FuncRef; mutable = false }; value = w.FuncNull }

abbrev pub module_at : Store → ModuleAddr → Module
module_at s a = slice_index_or s.modules a.0 no_module

abbrev pub instance_at : Store → InstAddr → Instance
instance_at s a = slice_index_or s.instances a.0 (blank (record { 0 = 0 }))

abbrev pub function_at : Store → FuncAddr → FuncInst
function_at s a = slice_index_or s.functions a.0 no_function

abbrev pub table_at : Store → TableAddr → TableInst
table_at s a = slice_index_or s.tables a.0 no_table

abbrev pub global_at : Store → GlobalAddr → GlobalInst
global_at s a = slice_index_or s.globals a.0 no_global

abbrev pub element_at : Store → ElemAddr → List Value
element_at s a = slice_index_or s.elements a.0 []

-- The store with one thing more, or with another thing in the place of one. All else stays.

abbrev pub with_module : Module → Store → Store
with_module m s = record s { modules = s.modules ++ m ∷ [] }

abbrev pub with_new_instance : Instance → Store → Store
with_new_instance i s = record s { instances = s.instances ++ i ∷ [] }

abbrev pub with_instance : InstAddr → Instance → Store → Store
with_instance a i s = record s { instances = slice_set s.instances a.0 i }

abbrev pub with_function : FuncInst → Store → Store
with_function g s = record s { functions = s.functions ++ g ∷ [] }

abbrev pub with_new_table : TableInst → Store → Store
with_new_table t s = record s { tables = s.tables ++ t ∷ [] }

abbrev pub with_table : TableAddr → TableInst → Store → Store
with_table a t s = record s { tables = slice_set s.tables a.0 t }

abbrev pub with_new_global : GlobalInst → Store → Store
with_new_global g s = record s { globals = s.globals ++ g ∷ [] }

abbrev pub with_global : GlobalAddr → GlobalInst → Store → Store
with_global a g s = record s { globals = slice_set s.globals a.0 g }

abbrev pub with_new_element : List Value → Store → Store
with_new_element items s = record s { elements = s.elements ++ items ∷ [] }

abbrev pub with_element : ElemAddr → List Value → Store → Store
with_element a items s = record s { elements = slice_set s.elements a.0 items }

-- Changes of a table.

-- no table has more entries
abbrev pub most_entries : ℕ
most_entries = 1000000

abbrev pub with_entries : List Value → TableInst → TableInst
with_entries entries t = record t { entries = entries }

-- a table of its type's least size with one value in all its entries
abbrev pub new_table : TableType → Value → TableInst
new_table ty init = record { elem = ty.elem; entries = replicate ty.limit.min init; max = ty.limit.max }

-- n entries more (4.5.3, growing tables)
abbrev pub grown : ℕ → Value → TableInst → TableInst
grown n init t = with_entries (t.entries ++ replicate n init) t

-- the values from a place on, n of them
abbrev pub run : List Value → ℕ → ℕ → List Value
run values from n = take n (drop from values)

-- the n entries from a place on replaced
abbrev pub replaced : ℕ → ℕ → List Value → TableInst → TableInst
replaced at n new t = with_entries (take at t.entries ++ new ++ drop (at + n) t.entries) t
