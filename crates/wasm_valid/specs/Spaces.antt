-- The index spaces of a module (WebAssembly Core 2.0, sections 2.5.1 and 3.1.1): imports come first, each kind in its own order.
use Rattle.std.specs.Prelude.{ℕ, Bool, true, false, ◌==◌, nat_lt, ◌||◌, List, ◌++◌, Option, Some, None, slice_get, length, map, filter_map}
use Rattle.std.specs.List.{list_any}
use Rattle.wasm_syntax.specs.Blocks.{block_of}
use Rattle.wasm_syntax.specs.declared.types.FuncType.{FuncType}
use Rattle.wasm_syntax.specs.declared.types.Limit.{Limit}
use Rattle.wasm_syntax.specs.declared.types.TableType.{TableType}
use Rattle.wasm_syntax.specs.declared.types.GlobalType.{GlobalType}
use Rattle.wasm_syntax.specs.declared.instructions.Instr.{Instr}
use Rattle.wasm_syntax.specs.declared.instructions.Instr.TheVariants as i
use Rattle.wasm_syntax.specs.declared.module.ImportDesc.{ImportDesc}
use Rattle.wasm_syntax.specs.declared.module.ImportDesc.TheVariants as d
use Rattle.wasm_syntax.specs.declared.module.Import.{Import}
use Rattle.wasm_syntax.specs.declared.module.ExportDesc.{ExportDesc}
use Rattle.wasm_syntax.specs.declared.module.ExportDesc.TheVariants as e
use Rattle.wasm_syntax.specs.declared.module.Export.{Export}
use Rattle.wasm_syntax.specs.declared.module.Func.{Func}
use Rattle.wasm_syntax.specs.declared.module.GlobalDef.{GlobalDef}
use Rattle.wasm_syntax.specs.declared.module.Elem.{Elem}
use Rattle.wasm_syntax.specs.declared.module.Module.{Module}

-- a value that comes only where a test passes
abbrev pub when : {A : Type 0} → Bool → Option A → Option A
when true o = o
when false o = None

-- what comes of a value that is there
abbrev pub then_ : {A B : Type 0} → Option A → (A → Option B) → Option B
then_ None f = None
then_ (Some a) f = f a

abbrev pub func_import : ImportDesc → Option ℕ
func_import (d.Func x) = Some x
func_import (d.Table t) = None
func_import (d.Mem l) = None
func_import (d.Global g) = None

abbrev pub table_import : ImportDesc → Option TableType
table_import (d.Func x) = None
table_import (d.Table t) = Some t
table_import (d.Mem l) = None
table_import (d.Global g) = None

abbrev pub mem_import : ImportDesc → Option Limit
mem_import (d.Func x) = None
mem_import (d.Table t) = None
mem_import (d.Mem l) = Some l
mem_import (d.Global g) = None

abbrev pub global_import : ImportDesc → Option GlobalType
global_import (d.Func x) = None
global_import (d.Table t) = None
global_import (d.Mem l) = None
global_import (d.Global g) = Some g

-- for each function, the index of its type
abbrev pub funcs_of : Module → List ℕ
funcs_of m = filter_map (λ (import : Import). func_import import.desc) m.imports ++ map (λ (f : Func). f.ty) m.funcs

abbrev pub tables_of : Module → List TableType
tables_of m = filter_map (λ (import : Import). table_import import.desc) m.imports ++ m.tables

abbrev pub mems_of : Module → List Limit
mems_of m = filter_map (λ (import : Import). mem_import import.desc) m.imports ++ m.mems

abbrev pub imported_globals_of : Module → List GlobalType
imported_globals_of m = filter_map (λ (import : Import). global_import import.desc) m.imports

abbrev pub globals_of : Module → List GlobalType
globals_of m = imported_globals_of m ++ map (λ (g : GlobalDef). g.ty) m.globals

-- the type of a function
abbrev pub func_type : Module → ℕ → Option FuncType
func_type m x = then_ (slice_get (funcs_of m) x) (slice_get m.types)

abbrev pub has_memory : Module → Bool
has_memory m = nat_lt 0 (length (mems_of m))

-- whether an instruction refers to this function by a ref.func
abbrev pub refers_to : ℕ → Instr → Bool
refers_to x (i.RefFunc y) = y == x
refers_to x _ = false

abbrev pub is_export_of : ℕ → ExportDesc → Bool
is_export_of x (e.Func y) = y == x
is_export_of x (e.Table y) = false
is_export_of x (e.Mem y) = false
is_export_of x (e.Global y) = false

-- whether a function occurs in an element segment, an export or a global's initialiser, so that a body may refer to it (3.4.10)
abbrev pub is_declared : Module → ℕ → Bool
is_declared m x =
    list_any (λ (export : Export). is_export_of x export.desc) m.exports
    || list_any (λ (g : GlobalDef). list_any (refers_to x) (block_of m g.init)) m.globals
    || list_any (λ (segment : Elem). list_any (λ item. list_any (refers_to x) (block_of m item)) segment.items) m.elems
