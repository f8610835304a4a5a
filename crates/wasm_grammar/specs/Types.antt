-- Types (WebAssembly Core 2.0, section 5.3).
use Rattle.std.specs.Prelude.{ℕ, List, Some, None, Bool, true, false, ◌==◌}
use Rattle.wasm_syntax.specs.declared.types.ValType.{ValType}
use Rattle.wasm_syntax.specs.declared.types.ValType.TheVariants as v
use Rattle.wasm_syntax.specs.declared.types.FuncType.{FuncType}
use Rattle.wasm_syntax.specs.declared.types.Limit.{Limit}
use Rattle.wasm_syntax.specs.declared.types.TableType.{TableType}
use Rattle.wasm_syntax.specs.declared.types.GlobalType.{GlobalType}
use Rattle.wasm_grammar.specs.declared.built.Leaf.{Leaf}
use Rattle.wasm_grammar.specs.declared.built.Built.{Built}
use Rattle.wasm_grammar.specs.declared.built.Foreign.TheVariants as w
use Rattle.wasm_grammar.specs.Forms.{Form, Nothing, Both, Made, ByFirst, When, Never}
use Rattle.wasm_grammar.specs.Leb128.{IsU32}
use Rattle.wasm_grammar.specs.Binary.{IsVector}
use Rattle.wasm_grammar.specs.Leaves.{with_leaf, IsLeaf, leaf_in}
use Rattle.wasm_grammar.specs.Reading.{u32_at}
use Rattle.wasm_grammar.specs.Threads.{Making, make_same, make_both, make_each, make_of, Reader, same_in, nothing_in, never_in, both_in, of_in, by_first, when, vector_in}

-- one byte, and what follows it
abbrev pub Tagged : {A : Type 0} → ℕ → Form A → Form A
Tagged tag P = ByFirst (λ b. When (b == tag) P Never)

abbrev pub tagged : {S B : Type 0} → ℕ → Reader S B → Reader S B
tagged tag read = by_first (λ b. when (b == tag) read never_in)

-- a value type, or a foreign one
pub data TypeTree : Type 0 where
  known : ValType → TypeTree
  strange : Leaf → TypeTree

-- for a foreign type any type will do: of a module with a leaf nothing but the first one is told
abbrev pub make_type : Making Built TypeTree ValType
make_type (known t) s = (t, s)
make_type (strange leaf) s = (v.I32, with_leaf s leaf)

-- 5.3.1 to 5.3.4: 7F i32, 7E i64, 7D f32, 7C f64, 7B v128, 70 funcref, 6F externref
abbrev pub IsValType : Form TypeTree
IsValType = ByFirst (λ b.
    When (b == 0x7F) (Nothing (known v.I32)) (
    When (b == 0x7E) (Nothing (known v.I64)) (
    When (b == 0x7D) (Made strange (IsLeaf w.Float)) (
    When (b == 0x7C) (Made strange (IsLeaf w.Float)) (
    When (b == 0x7B) (Made strange (IsLeaf w.Simd)) (
    When (b == 0x70) (Nothing (known v.FuncRef)) (
    When (b == 0x6F) (Nothing (known v.ExternRef)) (
    Never))))))))

abbrev pub val_in : Reader Built ValType
val_in = by_first (λ b.
    when (b == 0x7F) (nothing_in (make_type (known v.I32))) (
    when (b == 0x7E) (nothing_in (make_type (known v.I64))) (
    when (b == 0x7D) (leaf_in w.Float (λ leaf. make_type (strange leaf))) (
    when (b == 0x7C) (leaf_in w.Float (λ leaf. make_type (strange leaf))) (
    when (b == 0x7B) (leaf_in w.Simd (λ leaf. make_type (strange leaf))) (
    when (b == 0x70) (nothing_in (make_type (known v.FuncRef))) (
    when (b == 0x6F) (nothing_in (make_type (known v.ExternRef))) (
    never_in))))))))

-- 5.3.3: 70 funcref, 6F externref
abbrev pub IsRefType : Form ValType
IsRefType = ByFirst (λ b. When (b == 0x70) (Nothing v.FuncRef) (When (b == 0x6F) (Nothing v.ExternRef) Never))

abbrev pub ref_in : Reader Built ValType
ref_in = by_first (λ b. when (b == 0x70) (nothing_in (make_same v.FuncRef)) (when (b == 0x6F) (nothing_in (make_same v.ExternRef)) never_in))

-- 5.3.6: 60, the parameters, the results
abbrev pub FuncTypeTree : Type 0
FuncTypeTree = List TypeTree × List TypeTree

abbrev pub IsFuncType : Form FuncTypeTree
IsFuncType = Tagged 0x60 (Both (IsVector IsValType) (IsVector IsValType))

abbrev pub func_type_of : List ValType × List ValType → FuncType
func_type_of x = record { params = x.0; results = x.1 }

abbrev pub make_func_type : Making Built FuncTypeTree FuncType
make_func_type = make_of func_type_of (make_both (make_each make_type) (make_each make_type))

abbrev pub func_type_in : Reader Built FuncType
func_type_in = of_in func_type_of (tagged 0x60 (both_in (vector_in val_in) (vector_in val_in)))

-- 5.3.7: 00 the least size, or 01 the least and the greatest one
abbrev pub limit_from : ℕ → Limit
limit_from n = record { min = n; max = None }

abbrev pub limit_between : ℕ × ℕ → Limit
limit_between x = record { min = x.0; max = Some x.1 }

abbrev pub IsLimits : Form Limit
IsLimits = ByFirst (λ b. When (b == 0x00) (Made limit_from IsU32) (When (b == 0x01) (Made limit_between (Both IsU32 IsU32)) Never))

abbrev pub limits_in : Reader Built Limit
limits_in = by_first (λ b. when (b == 0x00) (of_in limit_from (same_in u32_at)) (when (b == 0x01) (of_in limit_between (both_in (same_in u32_at) (same_in u32_at))) never_in))

-- 5.3.9: a reference type and limits
abbrev pub table_type_of : ValType × Limit → TableType
table_type_of x = record { elem = x.0; limit = x.1 }

abbrev pub IsTableType : Form TableType
IsTableType = Made table_type_of (Both IsRefType IsLimits)

abbrev pub table_type_in : Reader Built TableType
table_type_in = of_in table_type_of (both_in ref_in limits_in)

-- 5.3.10: a value type, and 00 for a constant or 01 for a variable
abbrev pub GlobalTree : Type 0
GlobalTree = TypeTree × Bool

abbrev pub IsMutability : Form Bool
IsMutability = ByFirst (λ b. When (b == 0x00) (Nothing false) (When (b == 0x01) (Nothing true) Never))

abbrev pub mutability_in : Reader Built Bool
mutability_in = by_first (λ b. when (b == 0x00) (nothing_in (make_same false)) (when (b == 0x01) (nothing_in (make_same true)) never_in))

abbrev pub IsGlobalType : Form GlobalTree
IsGlobalType = Both IsValType IsMutability

abbrev pub global_type_of : ValType × Bool → GlobalType
global_type_of x = record { val = x.0; mutable = x.1 }

abbrev pub make_global_type : Making Built GlobalTree GlobalType
make_global_type = make_of global_type_of (make_both make_type make_same)

abbrev pub global_type_in : Reader Built GlobalType
global_type_in = of_in global_type_of (both_in val_in mutability_in)
