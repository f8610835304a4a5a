-- Imports and exports (WebAssembly Core 2.0, sections 5.5.5 and 5.5.10).
use Rattle.std.specs.Prelude.{ℕ, List, ◌==◌}
use Rattle.wasm_syntax.specs.declared.types.Limit.{Limit}
use Rattle.wasm_syntax.specs.declared.types.TableType.{TableType}
use Rattle.wasm_syntax.specs.declared.module.ImportDesc.{ImportDesc}
use Rattle.wasm_syntax.specs.declared.module.ImportDesc.TheVariants as i
use Rattle.wasm_syntax.specs.declared.module.ExportDesc.{ExportDesc}
use Rattle.wasm_syntax.specs.declared.module.ExportDesc.TheVariants as x
use Rattle.wasm_syntax.specs.declared.module.Import.{Import}
use Rattle.wasm_syntax.specs.declared.module.Export.{Export}
use Rattle.wasm_grammar.specs.declared.built.Built.{Built}
use Rattle.wasm_grammar.specs.Forms.{Form, Both, Made, ByFirst, When, Never}
use Rattle.wasm_grammar.specs.Leb128.{IsU32}
use Rattle.wasm_grammar.specs.Binary.{IsName}
use Rattle.wasm_grammar.specs.Reading.{u32_at, name_at}
use Rattle.wasm_grammar.specs.Threads.{Making, make_same, make_both, make_of, Reader, same_in, never_in, both_in, of_in, by_first, when}
use Rattle.wasm_grammar.specs.Types.{IsLimits, limits_in, IsTableType, table_type_in, GlobalTree, IsGlobalType, make_global_type, global_type_in}

-- what an import asks for, where the type of a global may be foreign
pub data ImportTree : Type 0 where
  func : ℕ → ImportTree
  table : TableType → ImportTree
  mem : Limit → ImportTree
  global : GlobalTree → ImportTree

abbrev pub make_import_desc : Making Built ImportTree ImportDesc
make_import_desc (func n) s = (i.Func n, s)
make_import_desc (table t) s = (i.Table t, s)
make_import_desc (mem l) s = (i.Mem l, s)
make_import_desc (global g) s = make_of i.Global make_global_type g s

-- 00 a type index, 01 a table type, 02 limits, 03 a global type
abbrev pub IsImportDesc : Form ImportTree
IsImportDesc = ByFirst (λ b.
    When (b == 0x00) (Made func IsU32) (
    When (b == 0x01) (Made table IsTableType) (
    When (b == 0x02) (Made mem IsLimits) (
    When (b == 0x03) (Made global IsGlobalType) (
    Never)))))

abbrev pub import_desc_in : Reader Built ImportDesc
import_desc_in = by_first (λ b.
    when (b == 0x00) (of_in i.Func (same_in u32_at)) (
    when (b == 0x01) (of_in i.Table table_type_in) (
    when (b == 0x02) (of_in i.Mem limits_in) (
    when (b == 0x03) (of_in i.Global global_type_in) (
    never_in)))))

-- two names, and what is asked for
abbrev pub IsImport : Form ((List ℕ × List ℕ) × ImportTree)
IsImport = Both (Both IsName IsName) IsImportDesc

abbrev pub import_of : (List ℕ × List ℕ) × ImportDesc → Import
import_of y = record { «module» = y.0.0; name = y.0.1; desc = y.1 }

abbrev pub make_import : Making Built ((List ℕ × List ℕ) × ImportTree) Import
make_import = make_of import_of (make_both make_same make_import_desc)

abbrev pub import_in : Reader Built Import
import_in = of_in import_of (both_in (both_in (same_in name_at) (same_in name_at)) import_desc_in)

-- 00 a function, 01 a table, 02 a memory, 03 a global, by its index
abbrev pub IsExportDesc : Form ExportDesc
IsExportDesc = ByFirst (λ b.
    When (b == 0x00) (Made x.Func IsU32) (
    When (b == 0x01) (Made x.Table IsU32) (
    When (b == 0x02) (Made x.Mem IsU32) (
    When (b == 0x03) (Made x.Global IsU32) (
    Never)))))

abbrev pub export_desc_in : Reader Built ExportDesc
export_desc_in = by_first (λ b.
    when (b == 0x00) (of_in x.Func (same_in u32_at)) (
    when (b == 0x01) (of_in x.Table (same_in u32_at)) (
    when (b == 0x02) (of_in x.Mem (same_in u32_at)) (
    when (b == 0x03) (of_in x.Global (same_in u32_at)) (
    never_in)))))

-- a name, and what is given
abbrev pub export_of : List ℕ × ExportDesc → Export
export_of y = record { name = y.0; desc = y.1 }

abbrev pub IsExport : Form Export
IsExport = Made export_of (Both IsName IsExportDesc)

abbrev pub export_in : Reader Built Export
export_in = of_in export_of (both_in (same_in name_at) export_desc_in)
