-- Which modules are typed (WebAssembly Core 2.0, section 3.4). Each rule that stands outside the bodies has a name of its own.
use Rattle.std.specs.Prelude.{ℕ, suc, ◌^◌, Bool, true, false, not, ◌&&◌, ◌==◌, nat_le, nat_lt, List, [], ◌∷◌, Option, Some, None, slice_get, length, is_some, unwrap_or, if◌then◌else◌}
use Rattle.std.specs.List.{list_any, list_all}
use Rattle.std.specs.Str.{bytes_eq}
use Rattle.wasm_syntax.specs.Blocks.{block_of}
use Rattle.wasm_syntax.specs.declared.types.ValType.{ValType}
use Rattle.wasm_syntax.specs.declared.types.ValType.TheVariants as v
use Rattle.wasm_syntax.specs.declared.types.FuncType.{FuncType}
use Rattle.wasm_syntax.specs.declared.types.Limit.{Limit}
use Rattle.wasm_syntax.specs.declared.types.TableType.{TableType}
use Rattle.wasm_syntax.specs.declared.types.GlobalType.{GlobalType}
use Rattle.wasm_syntax.specs.declared.instructions.BlockId.{BlockId}
use Rattle.wasm_syntax.specs.declared.instructions.Instr.{Instr}
use Rattle.wasm_syntax.specs.declared.instructions.Instr.TheVariants as i
use Rattle.wasm_syntax.specs.declared.module.ImportDesc.{ImportDesc}
use Rattle.wasm_syntax.specs.declared.module.ImportDesc.TheVariants as d
use Rattle.wasm_syntax.specs.declared.module.Import.{Import}
use Rattle.wasm_syntax.specs.declared.module.ExportDesc.{ExportDesc}
use Rattle.wasm_syntax.specs.declared.module.ExportDesc.TheVariants as e
use Rattle.wasm_syntax.specs.declared.module.Export.{Export}
use Rattle.wasm_syntax.specs.declared.module.Func.{Func}
use Rattle.wasm_syntax.specs.declared.module.GlobalDef.{GlobalDef}
use Rattle.wasm_syntax.specs.declared.module.Mode.{Mode}
use Rattle.wasm_syntax.specs.declared.module.Mode.TheVariants as w
use Rattle.wasm_syntax.specs.declared.module.Elem.{Elem}
use Rattle.wasm_syntax.specs.declared.module.Data.{Data}
use Rattle.wasm_syntax.specs.declared.module.Module.{Module}
use Rattle.wasm_syntax.specs.ValueTypes.{same_type, is_reference, is_element}
use Rattle.wasm_syntax.specs.Numbering.{is_numbered}
use Rattle.wasm_valid.specs.Spaces.{when, then_, func_type, funcs_of, tables_of, mems_of, globals_of, imported_globals_of}
use Rattle.wasm_valid.specs.Typing.{is_typed_body}

-- Types, imports, tables and memories.

-- 2.1.3: a vector has fewer than 2^32 elements. Of the vectors of a module only that of its functions needs this here
abbrev pub is_vector : List Func → Bool
is_vector fs = nat_lt (length fs) (2 ^ 32)

abbrev pub type_exists : Module → ℕ → Bool
type_exists m x = nat_lt x (length m.types)

-- 3.2.1: the least size is at most the greatest
abbrev pub is_limit : Limit → Bool
is_limit limit = nat_le limit.min (unwrap_or limit.max limit.min)

-- 3.2.4: a table holds references
abbrev pub is_table : TableType → Bool
is_table table = is_element table.elem && is_limit table.limit

-- 3.2.5: a memory has at most 65,536 pages
abbrev pub is_memory : Limit → Bool
is_memory limit = is_limit limit && nat_le limit.min 65536 && nat_le (unwrap_or limit.max 0) 65536

-- 3.4.9
abbrev pub is_import : Module → ImportDesc → Bool
is_import m (d.Func x) = type_exists m x
is_import m (d.Table table) = is_table table
is_import m (d.Mem limit) = is_memory limit
is_import m (d.Global g) = true

-- 3.4.10: there is at most one memory, imported or not
abbrev pub one_memory : Module → Bool
one_memory m = nat_le (length (mems_of m)) 1

-- Constant expressions (3.3.10).

-- the type of the value that a constant instruction gives; each takes none and gives one
abbrev pub constant_type : Module → Instr → Option ValType
constant_type m (i.I32Const n) = Some v.I32
constant_type m (i.I64Const n) = Some v.I64
constant_type m (i.RefNull t) = when (is_reference t) (Some t)
constant_type m (i.RefFunc x) = when (is_some (func_type m x)) (Some v.FuncRef)
constant_type m (i.GlobalGet x) = then_ (slice_get (imported_globals_of m) x) (λ (g : GlobalType). when (not g.mutable) (Some g.val))
constant_type m _ = None

abbrev pub is_type : ValType → Option ValType → Bool
is_type t None = false
is_type t (Some u) = same_type t u

-- so an expression that gives exactly one value is one instruction
abbrev pub gives_one : Module → ValType → List Instr → Bool
gives_one m t [] = false
gives_one m t (i ∷ []) = is_type t (constant_type m i)
gives_one m t (i ∷ j ∷ is) = false

-- whether a block is a constant expression of this type
abbrev pub is_constant : Module → ValType → BlockId → Bool
is_constant m t id = gives_one m t (block_of m id)

-- Globals, exports, the start function and segments.

-- 3.4.4
abbrev pub is_global : Module → GlobalDef → Bool
is_global m g = is_constant m g.ty.val g.init

-- 3.4.8: what is exported exists
abbrev pub is_export : Module → ExportDesc → Bool
is_export m (e.Func x) = nat_lt x (length (funcs_of m))
is_export m (e.Table x) = nat_lt x (length (tables_of m))
is_export m (e.Mem x) = nat_lt x (length (mems_of m))
is_export m (e.Global x) = nat_lt x (length (globals_of m))

-- 3.4.10: no two of these exports have one name
abbrev pub names_differ : List Export → Bool
names_differ [] = true
names_differ (export ∷ exports) = not (list_any (λ (other : Export). bytes_eq export.name other.name) exports) && names_differ exports

abbrev pub is_start_type : Option FuncType → Bool
is_start_type None = false
is_start_type (Some g) = (length g.params == 0) && (length g.results == 0)

-- 3.4.7: the start function takes nothing and gives nothing
abbrev pub is_start : Module → Option ℕ → Bool
is_start m None = true
is_start m (Some x) = is_start_type (func_type m x)

abbrev pub holds : ValType → Option TableType → Bool
holds t None = false
holds t (Some table) = same_type t table.elem

-- 3.4.5: an active segment has the type of its table's elements
abbrev pub is_elem_mode : Module → ValType → Mode → Bool
is_elem_mode m t (w.Active x offset) = holds t (slice_get (tables_of m) x) && is_constant m v.I32 offset
is_elem_mode m t w.Passive = true
is_elem_mode m t w.Declared = true

abbrev pub is_elem : Module → Elem → Bool
is_elem m segment = is_element segment.ty && list_all (is_constant m segment.ty) segment.items && is_elem_mode m segment.ty segment.mode

-- 3.4.6: no data segment is declared
abbrev pub is_data : Module → Mode → Bool
is_data m (w.Active x offset) = nat_lt x (length (mems_of m)) && is_constant m v.I32 offset
is_data m w.Passive = true
is_data m w.Declared = false

-- The rules together.

-- the rules that stand outside the bodies
abbrev pub obeys_rules : Module → Bool
obeys_rules m =
    is_vector m.funcs
    && list_all (λ (import : Import). is_import m import.desc) m.imports
    && list_all (λ (f : Func). type_exists m f.ty) m.funcs
    && list_all is_table m.tables
    && list_all is_memory m.mems
    && one_memory m
    && list_all (is_global m) m.globals
    && list_all (λ (export : Export). is_export m export.desc) m.exports
    && names_differ m.exports
    && is_start m m.start
    && list_all (is_elem m) m.elems
    && list_all (λ (segment : Data). is_data m segment.mode) m.datas

-- what stands outside the bodies is in order
unfoldable pub is_framed : Module → Bool
is_framed m = is_numbered m && obeys_rules m

-- whether a module is typed
unfoldable pub is_typed_module : Module → Bool
is_typed_module m = is_framed m && list_all (is_typed_body m) m.funcs

-- the first of these functions whose body isn't typed, where they are counted from k on
abbrev pub first_untyped : Module → ℕ → List Func → Option ℕ
first_untyped m k [] = None
first_untyped m k (f ∷ fs) = if is_typed_body m f then first_untyped m (suc k) fs else Some k

-- the function that a module is refused for, counted among the module's own: none where a rule outside the bodies fails
unfoldable pub refused_function : Module → Option ℕ
refused_function m = when (is_framed m) (first_untyped m 0 m.funcs)
