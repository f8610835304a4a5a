-- Sections (WebAssembly Core 2.0, sections 5.5.2 to 5.5.15).
use Rattle.std.specs.Prelude.{ℕ, zero, suc, List, [], ◌∷◌, Some, None, Bool, true, nat_lt, ◌==◌, ◌&&◌, ◌||◌, if◌then◌else◌}
use Rattle.wasm_syntax.specs.declared.types.Limit.{Limit}
use Rattle.wasm_syntax.specs.declared.types.TableType.{TableType}
use Rattle.wasm_syntax.specs.declared.module.Export.{Export}
use Rattle.wasm_grammar.specs.declared.built.Built.{Built}
use Rattle.wasm_grammar.specs.declared.held.Held.{Held}
use Rattle.wasm_grammar.specs.declared.held.Held.TheVariants as h
use Rattle.wasm_grammar.specs.Forms.{Form, Made, ByFirst, When, Never}
use Rattle.wasm_grammar.specs.Leb128.{IsU32}
use Rattle.wasm_grammar.specs.Binary.{IsVector, IsSized, IsCustom}
use Rattle.wasm_grammar.specs.Reading.{◌>>=◌, u32_at, custom_at}
use Rattle.wasm_grammar.specs.Threads.{Making, make_same, make_each, make_of, Reader, same_in, never_in, of_in, by_first, when, vector_in, Whole, whole_in, sized_in}
use Rattle.wasm_grammar.specs.Types.{FuncTypeTree, IsFuncType, make_func_type, func_type_in, IsLimits, limits_in, IsTableType, table_type_in, GlobalTree}
use Rattle.wasm_grammar.specs.Entries.{ImportTree, IsImport, make_import, import_in, IsExport, export_in}
use Rattle.wasm_grammar.specs.Code.{Code, Body}
use Rattle.wasm_grammar.specs.Functions.{LocalTree, IsGlobal, make_global, global_in, IsCodeEntry, make_entry, entry_in}
use Rattle.wasm_grammar.specs.Segments.{ElemTree, IsElem, make_elem, elem_in, DataTree, IsData, make_data, data_in}

pub data Section : Type 0 where
  custom : List ℕ × List ℕ → Section
  types : List FuncTypeTree → Section
  imports : List ((List ℕ × List ℕ) × ImportTree) → Section
  funcs : List ℕ → Section
  tables : List TableType → Section
  mems : List Limit → Section
  globals : List (GlobalTree × Code) → Section
  exports : List Export → Section
  start : ℕ → Section
  elems : List ElemTree → Section
  codes : List (List LocalTree × Body) → Section
  datas : List DataTree → Section
  data_count : ℕ → Section

-- by their ids, each with its size
abbrev pub IsSection : Form Section
IsSection = ByFirst (λ id.
    When (id == 0) (Made custom IsCustom) (
    When (id == 1) (Made types (IsSized (IsVector IsFuncType))) (
    When (id == 2) (Made imports (IsSized (IsVector IsImport))) (
    When (id == 3) (Made funcs (IsSized (IsVector IsU32))) (
    When (id == 4) (Made tables (IsSized (IsVector IsTableType))) (
    When (id == 5) (Made mems (IsSized (IsVector IsLimits))) (
    When (id == 6) (Made globals (IsSized (IsVector IsGlobal))) (
    When (id == 7) (Made exports (IsSized (IsVector IsExport))) (
    When (id == 8) (Made start (IsSized IsU32)) (
    When (id == 9) (Made elems (IsSized (IsVector IsElem))) (
    When (id == 10) (Made codes (IsSized (IsVector IsCodeEntry))) (
    When (id == 11) (Made datas (IsSized (IsVector IsData))) (
    When (id == 12) (Made data_count (IsSized IsU32)) (
    Never))))))))))))))

abbrev pub make_section : Making Built Section Held
make_section (custom x) s = (h.Nothing, s)
make_section (types ts) s = make_of h.Types (make_each make_func_type) ts s
make_section (imports ts) s = make_of h.Imports (make_each make_import) ts s
make_section (funcs ts) s = make_of h.Funcs (make_each make_same) ts s
make_section (tables ts) s = make_of h.Tables (make_each make_same) ts s
make_section (mems ts) s = make_of h.Mems (make_each make_same) ts s
make_section (globals ts) s = make_of h.Globals (make_each make_global) ts s
make_section (exports ts) s = make_of h.Exports (make_each make_same) ts s
make_section (start n) s = (h.Start n, s)
make_section (elems ts) s = make_of h.Elems (make_each make_elem) ts s
make_section (codes ts) s = make_of h.Codes (make_each make_entry) ts s
make_section (datas ts) s = make_of h.Datas (make_each make_data) ts s
make_section (data_count n) s = (h.DataCount n, s)

-- The place of a section among the others: the data count stands before the code. A custom section has none, and stands anywhere.
abbrev pub place : Section → ℕ
place (custom x) = 0
place (types ts) = 1
place (imports ts) = 2
place (funcs ts) = 3
place (tables ts) = 4
place (mems ts) = 5
place (globals ts) = 6
place (exports ts) = 7
place (start n) = 8
place (elems ts) = 9
place (data_count n) = 10
place (codes ts) = 11
place (datas ts) = 12

-- may a section of this place stand behind those up to the last one, and which is the last one then
abbrev pub may_follow : (last place : ℕ) → Bool
may_follow last place = (place == 0) || nat_lt last place

abbrev pub last_of : (last place : ℕ) → ℕ
last_of last place = if place == 0 then last else place

abbrev pub in_order : (last : ℕ) → List Section → Bool
in_order last [] = true
in_order last (s ∷ ss) = may_follow last (place s) && in_order (last_of last (place s)) ss

-- ---- reading

abbrev pub custom_in : Reader Built Held
custom_in s after bytes = custom_at bytes >>= λ rest. Some ((h.Nothing, s), rest)

-- a vector that fills its section
abbrev pub filling : {B : Type 0} → Reader Built B → Reader Built (List B)
filling read = sized_in (whole_in (vector_in read))

abbrev pub number_in : Reader Built ℕ
number_in = sized_in (whole_in (same_in u32_at))

abbrev pub later_in : ℕ → Reader Built Held
later_in id =
    when (id == 7) (of_in h.Exports (filling export_in)) (
    when (id == 8) (of_in h.Start number_in) (
    when (id == 9) (of_in h.Elems (filling elem_in)) (
    when (id == 10) (of_in h.Codes (filling entry_in)) (
    when (id == 11) (of_in h.Datas (filling data_in)) (
    when (id == 12) (of_in h.DataCount number_in) (
    never_in))))))

unfoldable pub section_in : Reader Built Held
section_in = by_first (λ id.
    when (id == 0) custom_in (
    when (id == 1) (of_in h.Types (filling func_type_in)) (
    when (id == 2) (of_in h.Imports (filling import_in)) (
    when (id == 3) (of_in h.Funcs (filling (same_in u32_at))) (
    when (id == 4) (of_in h.Tables (filling table_type_in)) (
    when (id == 5) (of_in h.Mems (filling limits_in)) (
    when (id == 6) (of_in h.Globals (filling global_in)) (
    later_in id))))))))

abbrev pub held_place : Held → ℕ
held_place h.Nothing = 0
held_place (h.Types xs) = 1
held_place (h.Imports xs) = 2
held_place (h.Funcs xs) = 3
held_place (h.Tables xs) = 4
held_place (h.Mems xs) = 5
held_place (h.Globals xs) = 6
held_place (h.Exports xs) = 7
held_place (h.Start n) = 8
held_place (h.Elems xs) = 9
held_place (h.DataCount n) = 10
held_place (h.Codes xs) = 11
held_place (h.Datas xs) = 12

abbrev pub held_in_order : (last : ℕ) → List Held → Bool
held_in_order last [] = true
held_in_order last (x ∷ xs) = may_follow last (held_place x) && held_in_order (last_of last (held_place x)) xs

-- items to the end of the bytes, at most so many
unfoldable pub all_in : {S B : Type 0} → Reader S B → ℕ → Whole S (List B)
all_in read n s after [] = Some ([], s)
all_in read zero s after (b ∷ bytes) = None
all_in read (suc n) s after (b ∷ bytes) = read s after (b ∷ bytes) >>= λ x. all_in read n x.0.1 after x.1 >>= λ xs. Some (x.0.0 ∷ xs.0, xs.1)
