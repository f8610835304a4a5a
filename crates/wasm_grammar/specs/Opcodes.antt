-- The opcodes of instructions (WebAssembly Core 2.0, sections 5.4.1 to 5.4.8): one table of rows from an opcode to its instruction
-- and the immediates that stand behind it.
use Rattle.std.specs.Prelude.{ℕ, List, [], ◌∷◌, Bool, ◌==◌, ◌||◌, ◌&&◌, nat_lt, nat_le, if◌then◌else◌}
use Rattle.wasm_syntax.specs.declared.types.ValType.{ValType}
use Rattle.wasm_syntax.specs.declared.instructions.MemArg.{MemArg}
use Rattle.wasm_syntax.specs.declared.instructions.Instr.{Instr}
use Rattle.wasm_syntax.specs.declared.instructions.Instr.TheVariants as i
use Rattle.wasm_grammar.specs.declared.built.Foreign.TheVariants as w
use Rattle.wasm_grammar.specs.declared.built.Leaf.{Leaf}
use Rattle.wasm_grammar.specs.Leaves.{leaf_before}

-- what an opcode is the opcode of
pub data Shape : Type 0 where
  -- of nothing
  unknown : Shape
  -- of an instruction with no immediate, an index, two indices, or the place of an access
  alone : Instr → Shape
  one_index : (ℕ → Instr) → Shape
  indices : (ℕ → ℕ → Instr) → Shape
  access : (MemArg → Instr) → Shape
  -- with a constant of 32 or 64 bits, or a reference type
  word : (ℕ → Instr) → Shape
  wide_word : (ℕ → Instr) → Shape
  reference : (ValType → Instr) → Shape
  -- with labels and one more, or with result types
  labels : (List ℕ → ℕ → Instr) → Shape
  result_types : Shape
  -- with one byte 00 or two
  zero : Instr → Shape
  two_zeros : Instr → Shape
  -- with the index of a data segment, and with the byte 00 behind it
  data_index : (ℕ → Instr) → Shape
  data_zero : (ℕ → Instr) → Shape
  -- of a place where a block begins, goes on with its second part, or ends
  begins_block : Shape
  begins_loop : Shape
  begins_if : Shape
  goes_on : Shape
  ends : Shape
  -- of a floating instruction: with so many bytes behind the opcode, with the place of an access, or with nothing behind the
  -- opcode, where its leaf is known
  float_bytes : ℕ → Shape
  float_access : Shape
  float_leaf : Leaf → Shape

abbrev pub br_table : (ls : List ℕ) → (last : ℕ) → Instr
br_table ls last = i.BrTable last ls

-- an opcode of one byte, and what it is the opcode of
unfoldable pub rows : List (ℕ × Shape)
rows =
    -- 5.4.1
    (0x00, alone i.Unreachable) ∷
    (0x01, alone i.Nop) ∷
    (0x02, begins_block) ∷
    (0x03, begins_loop) ∷
    (0x04, begins_if) ∷
    (0x05, goes_on) ∷
    (0x0B, ends) ∷
    (0x0C, one_index i.Br) ∷
    (0x0D, one_index i.BrIf) ∷
    (0x0E, labels br_table) ∷
    (0x0F, alone i.Return) ∷
    (0x10, one_index i.Call) ∷
    (0x11, indices i.CallIndirect) ∷
    -- 5.4.3 to 5.4.5
    (0x1A, alone i.Drop) ∷
    (0x1B, alone i.Select) ∷
    (0x1C, result_types) ∷
    (0x20, one_index i.LocalGet) ∷
    (0x21, one_index i.LocalSet) ∷
    (0x22, one_index i.LocalTee) ∷
    (0x23, one_index i.GlobalGet) ∷
    (0x24, one_index i.GlobalSet) ∷
    (0x25, one_index i.TableGet) ∷
    (0x26, one_index i.TableSet) ∷
    -- 5.4.6
    (0x28, access i.I32Load) ∷
    (0x29, access i.I64Load) ∷
    (0x2A, float_access) ∷
    (0x2B, float_access) ∷
    (0x2C, access i.I32Load8S) ∷
    (0x2D, access i.I32Load8U) ∷
    (0x2E, access i.I32Load16S) ∷
    (0x2F, access i.I32Load16U) ∷
    (0x30, access i.I64Load8S) ∷
    (0x31, access i.I64Load8U) ∷
    (0x32, access i.I64Load16S) ∷
    (0x33, access i.I64Load16U) ∷
    (0x34, access i.I64Load32S) ∷
    (0x35, access i.I64Load32U) ∷
    (0x36, access i.I32Store) ∷
    (0x37, access i.I64Store) ∷
    (0x38, float_access) ∷
    (0x39, float_access) ∷
    (0x3A, access i.I32Store8) ∷
    (0x3B, access i.I32Store16) ∷
    (0x3C, access i.I64Store8) ∷
    (0x3D, access i.I64Store16) ∷
    (0x3E, access i.I64Store32) ∷
    (0x3F, zero i.MemorySize) ∷
    (0x40, zero i.MemoryGrow) ∷
    -- 5.4.7
    (0x41, word i.I32Const) ∷
    (0x42, wide_word i.I64Const) ∷
    (0x43, float_bytes 4) ∷
    (0x44, float_bytes 8) ∷
    (0x45, alone i.I32Eqz) ∷
    (0x46, alone i.I32Eq) ∷
    (0x47, alone i.I32Ne) ∷
    (0x48, alone i.I32LtS) ∷
    (0x49, alone i.I32LtU) ∷
    (0x4A, alone i.I32GtS) ∷
    (0x4B, alone i.I32GtU) ∷
    (0x4C, alone i.I32LeS) ∷
    (0x4D, alone i.I32LeU) ∷
    (0x4E, alone i.I32GeS) ∷
    (0x4F, alone i.I32GeU) ∷
    (0x50, alone i.I64Eqz) ∷
    (0x51, alone i.I64Eq) ∷
    (0x52, alone i.I64Ne) ∷
    (0x53, alone i.I64LtS) ∷
    (0x54, alone i.I64LtU) ∷
    (0x55, alone i.I64GtS) ∷
    (0x56, alone i.I64GtU) ∷
    (0x57, alone i.I64LeS) ∷
    (0x58, alone i.I64LeU) ∷
    (0x59, alone i.I64GeS) ∷
    (0x5A, alone i.I64GeU) ∷
    (0x67, alone i.I32Clz) ∷
    (0x68, alone i.I32Ctz) ∷
    (0x69, alone i.I32Popcnt) ∷
    (0x6A, alone i.I32Add) ∷
    (0x6B, alone i.I32Sub) ∷
    (0x6C, alone i.I32Mul) ∷
    (0x6D, alone i.I32DivS) ∷
    (0x6E, alone i.I32DivU) ∷
    (0x6F, alone i.I32RemS) ∷
    (0x70, alone i.I32RemU) ∷
    (0x71, alone i.I32And) ∷
    (0x72, alone i.I32Or) ∷
    (0x73, alone i.I32Xor) ∷
    (0x74, alone i.I32Shl) ∷
    (0x75, alone i.I32ShrS) ∷
    (0x76, alone i.I32ShrU) ∷
    (0x77, alone i.I32Rotl) ∷
    (0x78, alone i.I32Rotr) ∷
    (0x79, alone i.I64Clz) ∷
    (0x7A, alone i.I64Ctz) ∷
    (0x7B, alone i.I64Popcnt) ∷
    (0x7C, alone i.I64Add) ∷
    (0x7D, alone i.I64Sub) ∷
    (0x7E, alone i.I64Mul) ∷
    (0x7F, alone i.I64DivS) ∷
    (0x80, alone i.I64DivU) ∷
    (0x81, alone i.I64RemS) ∷
    (0x82, alone i.I64RemU) ∷
    (0x83, alone i.I64And) ∷
    (0x84, alone i.I64Or) ∷
    (0x85, alone i.I64Xor) ∷
    (0x86, alone i.I64Shl) ∷
    (0x87, alone i.I64ShrS) ∷
    (0x88, alone i.I64ShrU) ∷
    (0x89, alone i.I64Rotl) ∷
    (0x8A, alone i.I64Rotr) ∷
    (0xA7, alone i.I32WrapI64) ∷
    (0xAC, alone i.I64ExtendI32S) ∷
    (0xAD, alone i.I64ExtendI32U) ∷
    (0xC0, alone i.I32Extend8S) ∷
    (0xC1, alone i.I32Extend16S) ∷
    (0xC2, alone i.I64Extend8S) ∷
    (0xC3, alone i.I64Extend16S) ∷
    (0xC4, alone i.I64Extend32S) ∷
    -- 5.4.2
    (0xD0, reference i.RefNull) ∷
    (0xD1, alone i.RefIsNull) ∷
    (0xD2, one_index i.RefFunc) ∷
    []

-- FC and a number from 8 on (5.4.5 and 5.4.6)
abbrev pub bulk_rows : List (ℕ × Shape)
bulk_rows =
    (8, data_zero i.MemoryInit) ∷
    (9, data_index i.DataDrop) ∷
    (10, two_zeros i.MemoryCopy) ∷
    (11, zero i.MemoryFill) ∷
    (12, indices i.TableInit) ∷
    (13, one_index i.ElemDrop) ∷
    (14, indices i.TableCopy) ∷
    (15, one_index i.TableGrow) ∷
    (16, one_index i.TableSize) ∷
    (17, one_index i.TableFill) ∷
    []

-- what the rows say of an opcode
abbrev pub shape_in : List (ℕ × Shape) → ℕ → Shape
shape_in [] b = unknown
shape_in (row ∷ rows) b = if b == row.0 then row.1 else shape_in rows b

-- 5B to 66, 8B to A6, A8 to AB and AE to BF are floating instructions with no immediate
abbrev pub is_float : ℕ → Bool
is_float b = (nat_le 0x5B b && nat_le b 0x66) || (nat_le 0x8B b && nat_le b 0xA6) || (nat_le 0xA8 b && nat_le b 0xAB) || (nat_le 0xAE b && nat_le b 0xBF)

unfoldable pub shape_of : ℕ → Shape
shape_of b = if is_float b then float_bytes 0 else shape_in rows b

unfoldable pub bulk_shape : ℕ → Shape
bulk_shape n = shape_in bulk_rows n

-- the instructions whose opcode is FC and a number: 0 to 7 are floating ones, whose leaf begins with the byte FC
unfoldable pub prefixed_shape : (left number : ℕ) → Shape
prefixed_shape left n = if nat_lt n 8 then float_leaf (leaf_before left w.Float) else bulk_shape n
