-- The rules of the instructions that work on operands, locals, globals, tables, memories and segments, and then go on or trap
-- (WebAssembly Core 2.0, sections 4.4.1 to 4.4.7), over the store and the integer operations as they stand. The topmost operand comes
-- first.
use Rattle.std.specs.Prelude.{ℕ, zero, suc, ◌+◌, ◌/◌, ◌-◌, ◌%◌, ◌^◌, Bool, true, false, ◌&&◌, nat_le, nat_lt, List, [], ◌∷◌, Option, Some, None, length, replicate, unwrap_or, slice_get, slice_set, Result, Ok, Err}
use Rattle.wasm_syntax.specs.declared.trap.Trap.{Trap}
use Rattle.wasm_syntax.specs.declared.trap.Trap.TheVariants as trap
use Rattle.wasm_syntax.specs.declared.value.Value.{Value}
use Rattle.wasm_syntax.specs.declared.value.Value.TheVariants as w
use Rattle.wasm_syntax.specs.declared.addresses.FuncAddr.{FuncAddr}
use Rattle.wasm_syntax.specs.declared.addresses.TableAddr.{TableAddr}
use Rattle.wasm_syntax.specs.declared.addresses.MemAddr.{MemAddr}
use Rattle.wasm_syntax.specs.declared.addresses.GlobalAddr.{GlobalAddr}
use Rattle.wasm_syntax.specs.declared.addresses.ElemAddr.{ElemAddr}
use Rattle.wasm_syntax.specs.declared.addresses.DataAddr.{DataAddr}
use Rattle.wasm_syntax.specs.declared.instructions.MemArg.{MemArg}
use Rattle.wasm_syntax.specs.declared.numbers.NumType.{NumType}
use Rattle.wasm_syntax.specs.declared.numbers.NumType.TheVariants as n
use Rattle.wasm_syntax.specs.declared.numbers.Num.{Num}
use Rattle.wasm_syntax.specs.declared.numbers.Num.TheVariants as m
use Rattle.wasm_syntax.specs.declared.numbers.Width.{Width}
use Rattle.wasm_syntax.specs.declared.numbers.Extension.{Extension}
use Rattle.wasm_syntax.specs.declared.numbers.Extension.TheVariants as x
use Rattle.wasm_syntax.specs.declared.sorts.Simple.{Simple}
use Rattle.wasm_syntax.specs.declared.sorts.Simple.TheVariants as p
use Rattle.wasm_syntax.specs.NumberTypes.{bits_of, width_bits, source_of}
use Rattle.wasm_num.specs.Integers.{unary_of, binary_of, test_of, compare_of, convert_of, of_test, extend_s}
use Rattle.raw_memory.specs.Bytes.{number, low_bytes, run as bytes_from, replaced as with_new}
use Rattle.wasm_store.specs.declared.instances.Instance.{Instance}
use Rattle.wasm_store.specs.Store.{Store, TableInst, table_at, global_at, element_at, with_table, with_global, with_element, with_entries, grown, run, replaced, most_entries}
use Rattle.wasm_store.specs.Allocated.{null_of}
use Rattle.wasm_store.specs.Memories.{memory_at, data_at, with_memory, with_data, with_bytes, pages_of, may_grow_memory, grown_memory}

-- What an instruction comes to.
pub data Performed : Type 0 where
  -- it goes on with this store, these locals and these operands
  performs : (store : Store) → (locals values : List Value) → Performed
  traps : Trap → Performed
  -- what it works on isn't there: there is no rule
  lacks : Performed

-- Parts of rules.

-- an operand is there, or one of a number's type
abbrev pub take_value : List Value → (Value → List Value → Performed) → Performed
take_value [] f = lacks
take_value (v ∷ vs) f = f v vs

abbrev pub take_i32 : List Value → (ℕ → List Value → Performed) → Performed
take_i32 (w.I32 k ∷ vs) f = f k vs
take_i32 _ f = lacks

abbrev pub take_number : NumType → List Value → (Num → List Value → Performed) → Performed
take_number n.I32 (w.I32 k ∷ vs) f = f (m.I32 k) vs
take_number n.I64 (w.I64 k ∷ vs) f = f (m.I64 k) vs
take_number _ _ f = lacks

-- what an index names is there
abbrev pub find : {A : Type 0} → Option A → (A → Performed) → Performed
find None f = lacks
find (Some a) f = f a

-- a test passes, or there is this trap
abbrev pub check : Trap → Bool → Performed → Performed
check t true p = p
check t false p = traps t

abbrev pub number_value : Num → Value
number_value (m.I32 k) = w.I32 k
number_value (m.I64 k) = w.I64 k

abbrev pub at_type : NumType → ℕ → Num
at_type n.I32 k = m.I32 k
at_type n.I64 k = m.I64 k

-- the answer of a growth that fails, -1
abbrev pub minus_one : Value
minus_one = w.I32 (2 ^ 32 - 1)

-- 4.4.1: an operation gives a number or traps
abbrev pub result : Store → List Value → List Value → Result Num Trap → Performed
result s F vs (Ok c) = performs s F (number_value c ∷ vs)
result s F vs (Err t) = traps t

-- 4.4.2: whether a value is the null reference
abbrev pub is_null : Value → Option Bool
is_null (w.I32 k) = None
is_null (w.I64 k) = None
is_null w.FuncNull = Some true
is_null (w.Func a) = Some false
is_null w.ExternNull = Some true
is_null (w.Extern a) = Some false

-- 4.4.4: of two values, the first one where the number isn't zero
abbrev pub chosen : ℕ → Value → Value → Value
chosen zero first second = second
chosen (suc k) first second = first

-- Tables (4.4.6).

abbrev pub read_entry : Store → List Value → List Value → Option Value → Performed
read_entry s F vs None = traps trap.TableRange
read_entry s F vs (Some v) = performs s F (v ∷ vs)

-- whether a table may have n entries more: as many as its type and the limit of the embedding allow (4.5.3)
abbrev pub may_grow : TableInst → ℕ → Bool
may_grow t n = nat_le (length t.entries + n) (unwrap_or t.max most_entries) && nat_le (length t.entries + n) most_entries

abbrev pub grow_by : Bool → Store → List Value → List Value → TableAddr → ℕ → Value → Performed
grow_by true s F vs a n init = performs (with_table a (grown n init (table_at s a)) s) F (w.I32 (length (table_at s a).entries) ∷ vs)
grow_by false s F vs a n init = performs s F (minus_one ∷ vs)

-- values are written to n entries of a table from a place on
abbrev pub write_entries : Store → List Value → List Value → TableAddr → ℕ → ℕ → List Value → Performed
write_entries s F vs a at n new = performs (with_table a (replaced at n new (table_at s a)) s) F vs

-- Memories (4.4.7).

-- the place of an access, which has no greatest number
abbrev pub place : ℕ → MemArg → ℕ
place k at = k + at.offset

abbrev pub bytes_of : Width → ℕ
bytes_of width = width_bits width / 8

-- the number of a type that has been read from so many bits
abbrev pub extended : NumType → Width → Extension → ℕ → Num
extended t width x.Unsigned k = at_type t k
extended t width x.Signed k = at_type t (extend_s (width_bits width) (bits_of t) k)

abbrev pub number_of : Num → ℕ
number_of (m.I32 k) = k
number_of (m.I64 k) = k

abbrev pub grow_memory_by : Bool → Store → List Value → List Value → MemAddr → ℕ → Performed
grow_memory_by true s F vs a n = performs (with_memory a (grown_memory n (memory_at s a)) s) F (w.I32 (pages_of (memory_at s a)) ∷ vs)
grow_memory_by false s F vs a n = performs s F (minus_one ∷ vs)

-- bytes are written to n places of a memory from one on
abbrev pub write_bytes : Store → List Value → List Value → MemAddr → ℕ → ℕ → List ℕ → Performed
write_bytes s F vs a at n new = performs (with_memory a (with_bytes (with_new (memory_at s a).bytes at n new) (memory_at s a)) s) F vs

-- n places from one on are all there
abbrev pub in_range : {A : Type 0} → List A → ℕ → ℕ → Bool
in_range xs at n = nat_le (at + n) (length xs)

-- The rules.

-- a simple instruction, in an instance and under these locals
abbrev pub perform : Store → Instance → List Value → List Value → Simple → Performed
perform s i F vs p.Nop = performs s F vs
-- 4.4.1: numeric instructions
perform s i F vs (p.Const c) = performs s F (number_value c ∷ vs)
perform s i F vs (p.Unary t op) = take_number t vs (λ a us. performs s F (number_value (unary_of op a) ∷ us))
perform s i F vs (p.Binary t op) = take_number t vs (λ b us. take_number t us (λ a ts. result s F ts (binary_of op a b)))
perform s i F vs (p.Test t) = take_number t vs (λ a us. performs s F (w.I32 (of_test (test_of a)) ∷ us))
perform s i F vs (p.Compare t op) = take_number t vs (λ b us. take_number t us (λ a ts. performs s F (w.I32 (of_test (compare_of op a b)) ∷ ts)))
perform s i F vs (p.Convert op) = take_number (source_of op) vs (λ a us. performs s F (number_value (convert_of op a) ∷ us))
-- 4.4.2: reference instructions
perform s i F vs (p.RefNull t) = performs s F (null_of t ∷ vs)
perform s i F vs (p.RefFunc y) = find (slice_get i.funcs y) (λ (a : FuncAddr). performs s F (w.Func a ∷ vs))
-- 4.4.5: variable instructions
perform s i F vs (p.LocalGet y) = find (slice_get F y) (λ v. performs s F (v ∷ vs))
perform s i F vs (p.LocalSet y) = find (slice_get F y) (λ old. take_value vs (λ v us. performs s (slice_set F y v) us))
perform s i F vs (p.LocalTee y) = find (slice_get F y) (λ old. take_value vs (λ v us. performs s (slice_set F y v) (v ∷ us)))
perform s i F vs (p.GlobalGet y) = find (slice_get i.globals y) (λ (a : GlobalAddr). performs s F ((global_at s a).value ∷ vs))
perform s i F vs (p.GlobalSet y) =
    find (slice_get i.globals y) (λ (a : GlobalAddr). take_value vs (λ v us. performs (with_global a (record { ty = (global_at s a).ty; value = v }) s) F us))
-- 4.4.6: table instructions
perform s i F vs (p.TableGet y) =
    find (slice_get i.tables y) (λ (a : TableAddr). take_i32 vs (λ k us. read_entry s F us (slice_get (table_at s a).entries k)))
perform s i F vs (p.TableSet y) =
    find (slice_get i.tables y) (λ (a : TableAddr). take_value vs (λ v us. take_i32 us (λ k ts.
    check trap.TableRange (nat_lt k (length (table_at s a).entries)) (performs (with_table a (with_entries (slice_set (table_at s a).entries k v) (table_at s a)) s) F ts))))
perform s i F vs (p.TableSize y) = find (slice_get i.tables y) (λ (a : TableAddr). performs s F (w.I32 (length (table_at s a).entries) ∷ vs))
perform s i F vs (p.TableGrow y) =
    find (slice_get i.tables y) (λ (a : TableAddr). take_i32 vs (λ k us. take_value us (λ init ts. grow_by (may_grow (table_at s a) k) s F ts a k init)))
perform s i F vs (p.TableFill y) =
    find (slice_get i.tables y) (λ (a : TableAddr). take_i32 vs (λ k us. take_value us (λ v ts. take_i32 ts (λ at rest.
    check trap.TableRange (in_range (table_at s a).entries at k) (write_entries s F rest a at k (replicate k v))))))
perform s i F vs (p.TableCopy to from) =
    find (slice_get i.tables to) (λ (a : TableAddr). find (slice_get i.tables from) (λ (b : TableAddr). take_i32 vs (λ k us. take_i32 us (λ source ts. take_i32 ts (λ at rest.
    check trap.TableRange (in_range (table_at s b).entries source k && in_range (table_at s a).entries at k) (write_entries s F rest a at k (run (table_at s b).entries source k)))))))
perform s i F vs (p.TableInit y z) =
    find (slice_get i.tables z) (λ (a : TableAddr). find (slice_get i.elems y) (λ (e : ElemAddr). take_i32 vs (λ k us. take_i32 us (λ source ts. take_i32 ts (λ at rest.
    check trap.TableRange (in_range (element_at s e) source k && in_range (table_at s a).entries at k) (write_entries s F rest a at k (run (element_at s e) source k)))))))
perform s i F vs (p.ElemDrop y) = find (slice_get i.elems y) (λ (e : ElemAddr). performs (with_element e [] s) F vs)
-- 4.4.7: memory instructions
perform s i F vs (p.Load t width extension at) =
    find (slice_get i.mems 0) (λ (a : MemAddr). take_i32 vs (λ k us.
    check trap.MemoryRange (in_range (memory_at s a).bytes (place k at) (bytes_of width))
    (performs s F (number_value (extended t width extension (number (bytes_from (memory_at s a).bytes (place k at) (bytes_of width)))) ∷ us))))
perform s i F vs (p.Store t width at) =
    find (slice_get i.mems 0) (λ (a : MemAddr). take_number t vs (λ c us. take_i32 us (λ k ts.
    check trap.MemoryRange (in_range (memory_at s a).bytes (place k at) (bytes_of width)) (write_bytes s F ts a (place k at) (bytes_of width) (low_bytes (bytes_of width) (number_of c))))))
perform s i F vs p.MemorySize = find (slice_get i.mems 0) (λ (a : MemAddr). performs s F (w.I32 (pages_of (memory_at s a)) ∷ vs))
perform s i F vs p.MemoryGrow = find (slice_get i.mems 0) (λ (a : MemAddr). take_i32 vs (λ k us. grow_memory_by (may_grow_memory s (memory_at s a) k) s F us a k))
perform s i F vs p.MemoryFill =
    find (slice_get i.mems 0) (λ (a : MemAddr). take_i32 vs (λ k us. take_i32 us (λ byte ts. take_i32 ts (λ at rest.
    check trap.MemoryRange (in_range (memory_at s a).bytes at k) (write_bytes s F rest a at k (replicate k (byte % 256)))))))
perform s i F vs p.MemoryCopy =
    find (slice_get i.mems 0) (λ (a : MemAddr). take_i32 vs (λ k us. take_i32 us (λ source ts. take_i32 ts (λ at rest.
    check trap.MemoryRange (in_range (memory_at s a).bytes source k && in_range (memory_at s a).bytes at k) (write_bytes s F rest a at k (bytes_from (memory_at s a).bytes source k))))))
perform s i F vs (p.MemoryInit y) =
    find (slice_get i.mems 0) (λ (a : MemAddr). find (slice_get i.datas y) (λ (d : DataAddr). take_i32 vs (λ k us. take_i32 us (λ source ts. take_i32 ts (λ at rest.
    check trap.MemoryRange (in_range (data_at s d) source k && in_range (memory_at s a).bytes at k) (write_bytes s F rest a at k (bytes_from (data_at s d) source k)))))))
perform s i F vs (p.DataDrop y) = find (slice_get i.datas y) (λ (d : DataAddr). performs (with_data d [] s) F vs)

-- The rules of the instructions of more than one type.

-- 4.4.2: ref.is_null
abbrev pub perform_is_null : Store → List Value → List Value → Performed
perform_is_null s F vs = take_value vs (λ v us. find (is_null v) (λ test. performs s F (w.I32 (of_test test) ∷ us)))

-- 4.4.4: drop, and select with types or without
abbrev pub perform_drop : Store → List Value → List Value → Performed
perform_drop s F vs = take_value vs (λ v us. performs s F us)

abbrev pub perform_select : Store → List Value → List Value → Performed
perform_select s F vs = take_i32 vs (λ k us. take_value us (λ second ts. take_value ts (λ first rest. performs s F (chosen k first second ∷ rest))))
