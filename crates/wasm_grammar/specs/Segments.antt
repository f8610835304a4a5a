-- Element and data segments (WebAssembly Core 2.0, sections 5.5.12 and 5.5.14).
use Rattle.std.specs.Prelude.{ℕ, List, [], ◌∷◌, Option, Some, false, ◌==◌}
use Rattle.wasm_syntax.specs.declared.types.ValType.{ValType}
use Rattle.wasm_syntax.specs.declared.types.ValType.TheVariants as v
use Rattle.wasm_syntax.specs.declared.instructions.BlockId.{BlockId}
use Rattle.wasm_syntax.specs.declared.instructions.Instr.TheVariants as i
use Rattle.wasm_syntax.specs.declared.module.Mode.{Mode}
use Rattle.wasm_syntax.specs.declared.module.Mode.TheVariants as m
use Rattle.wasm_syntax.specs.declared.module.Elem.{Elem}
use Rattle.wasm_syntax.specs.declared.module.Data.{Data}
use Rattle.wasm_grammar.specs.declared.built.Built.{Built}
use Rattle.wasm_grammar.specs.Forms.{Form, Nothing, Both, Made, When, Never}
use Rattle.wasm_grammar.specs.Leb128.{IsU32}
use Rattle.wasm_grammar.specs.Binary.{IsVector, IsBytes, ByNumber}
use Rattle.wasm_grammar.specs.Reading.{◌>>=◌, u32_at, part_at}
use Rattle.wasm_grammar.specs.Threads.{Making, make_same, make_both, make_each, make_of, Reader, same_in, nothing_in, never_in, both_in, of_in, by_number, when, vector_in}
use Rattle.wasm_grammar.specs.Types.{Tagged, tagged, IsRefType, ref_in}
use Rattle.wasm_grammar.specs.Code.{Code, make_block, IsExpression, make_expression}
use Rattle.wasm_grammar.specs.Running.{expression_in}

-- ---- modes: where an active segment goes

pub data ModeTree : Type 0 where
  active : (index : ℕ) → (offset : Code) → ModeTree
  passive : ModeTree
  declared : ModeTree

abbrev pub mode_at : ℕ × BlockId → Mode
mode_at x = m.Active x.0 x.1

abbrev pub make_mode : Making Built ModeTree Mode
make_mode (active index offset) s = let x = make_expression false offset s in (m.Active index x.0, x.1)
make_mode passive s = (m.Passive, s)
make_mode declared s = (m.Declared, s)

-- active in the table or memory 0, or in one whose index is spelled
abbrev pub IsFirst : Form ModeTree
IsFirst = Made (active 0) (IsExpression false)

abbrev pub IsIndexed : Form ModeTree
IsIndexed = Made (λ x. active x.0 x.1) (Both IsU32 (IsExpression false))

abbrev pub first_in : Reader Built Mode
first_in = of_in (m.Active 0) (expression_in false)

abbrev pub indexed_in : Reader Built Mode
indexed_in = of_in mode_at (both_in (same_in u32_at) (expression_in false))

-- ---- element segments

-- references, as the functions' indices or as expressions of a type
pub data RefsTree : Type 0 where
  funcs : List ℕ → RefsTree
  exprs : ValType × List Code → RefsTree

-- an index stands for the expression ref.func with it
abbrev pub make_func_ref : Making Built ℕ BlockId
make_func_ref index s = make_block (i.RefFunc index ∷ []) s

abbrev pub of_type : ValType → List BlockId → ValType × List BlockId
of_type type items = (type, items)

abbrev pub make_refs : Making Built RefsTree (ValType × List BlockId)
make_refs (funcs xs) s = make_of (of_type v.FuncRef) (make_each make_func_ref) xs s
make_refs (exprs x) s = make_both make_same (make_each (make_expression false)) x s

-- indices
abbrev pub IsFuncs : Form RefsTree
IsFuncs = Made funcs (IsVector IsU32)

-- expressions, which are of type funcref
abbrev pub func_exprs : List Code → RefsTree
func_exprs items = exprs (v.FuncRef, items)

abbrev pub IsFuncExprs : Form RefsTree
IsFuncExprs = Made func_exprs (IsVector (IsExpression false))

-- a type, and expressions
abbrev pub IsExprs : Form RefsTree
IsExprs = Made exprs (Both IsRefType (IsVector (IsExpression false)))

abbrev pub func_ref_in : Reader Built BlockId
func_ref_in s after bytes = u32_at bytes >>= λ n. Some (make_func_ref n.0 s, n.1)

abbrev pub funcs_in : Reader Built (ValType × List BlockId)
funcs_in = of_in (of_type v.FuncRef) (vector_in func_ref_in)

abbrev pub kind_in : Reader Built (ValType × List BlockId)
kind_in = tagged 0 funcs_in

abbrev pub func_exprs_in : Reader Built (ValType × List BlockId)
func_exprs_in = of_in (of_type v.FuncRef) (vector_in (expression_in false))

abbrev pub exprs_in : Reader Built (ValType × List BlockId)
exprs_in = both_in ref_in (vector_in (expression_in false))

abbrev pub ElemTree : Type 0
ElemTree = ModeTree × RefsTree

-- 0 to 3 have indices, and 4 to 7 expressions. Of these 0 and 4 are active in table 0, 2 and 6 in another, 1 and 5 passive, 3 and
-- 7 declared; only 0 and 4 say no kind or type.
abbrev pub IsElem : Form ElemTree
IsElem = ByNumber (λ left flag.
    When (flag == 0) (Both IsFirst IsFuncs) (
    When (flag == 1) (Both (Nothing passive) (Tagged 0 IsFuncs)) (
    When (flag == 2) (Both IsIndexed (Tagged 0 IsFuncs)) (
    When (flag == 3) (Both (Nothing declared) (Tagged 0 IsFuncs)) (
    When (flag == 4) (Both IsFirst IsFuncExprs) (
    When (flag == 5) (Both (Nothing passive) IsExprs) (
    When (flag == 6) (Both IsIndexed IsExprs) (
    When (flag == 7) (Both (Nothing declared) IsExprs) (
    Never)))))))))

abbrev pub elem_of : Mode × (ValType × List BlockId) → Elem
elem_of x = record { ty = x.1.0; items = x.1.1; mode = x.0 }

abbrev pub make_elem : Making Built ElemTree Elem
make_elem = make_of elem_of (make_both make_mode make_refs)

abbrev pub elem_in : Reader Built Elem
elem_in = of_in elem_of (by_number (λ left flag.
    when (flag == 0) (both_in first_in funcs_in) (
    when (flag == 1) (both_in (nothing_in (make_mode passive)) kind_in) (
    when (flag == 2) (both_in indexed_in kind_in) (
    when (flag == 3) (both_in (nothing_in (make_mode declared)) kind_in) (
    when (flag == 4) (both_in first_in func_exprs_in) (
    when (flag == 5) (both_in (nothing_in (make_mode passive)) exprs_in) (
    when (flag == 6) (both_in indexed_in exprs_in) (
    when (flag == 7) (both_in (nothing_in (make_mode declared)) exprs_in) (
    never_in))))))))))

-- ---- data segments

abbrev pub DataTree : Type 0
DataTree = ModeTree × List ℕ

-- 0 active in memory 0, 1 passive, 2 active in another memory
abbrev pub IsData : Form DataTree
IsData = ByNumber (λ left flag.
    When (flag == 0) (Both IsFirst IsBytes) (
    When (flag == 1) (Both (Nothing passive) IsBytes) (
    When (flag == 2) (Both IsIndexed IsBytes) (
    Never))))

abbrev pub data_of : Mode × List ℕ → Data
data_of x = record { bytes = x.1; mode = x.0 }

abbrev pub make_data : Making Built DataTree Data
make_data = make_of data_of (make_both make_mode make_same)

abbrev pub data_at : Mode → List ℕ → Option (Data × List ℕ)
data_at mode bytes = part_at bytes >>= λ x. Some (data_of (mode, x.0), x.1)

abbrev pub data_in : Reader Built Data
data_in = of_in data_of (by_number (λ left flag.
    when (flag == 0) (both_in first_in (same_in part_at)) (
    when (flag == 1) (both_in (nothing_in (make_mode passive)) (same_in part_at)) (
    when (flag == 2) (both_in indexed_in (same_in part_at)) (
    never_in)))))
