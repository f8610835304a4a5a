-- What the rows of the reader's tables say.
use Rattle.std.specs.Prelude.{ℕ}
use Rattle.wasm_syntax.specs.declared.instructions.MemArg.{MemArg}
use Rattle.wasm_syntax.specs.declared.instructions.Instr.{Instr}
use Rattle.wasm_syntax.specs.declared.instructions.Instr.TheVariants as i
use Rattle.wasm_grammar.specs.declared.opcodes.Plain.{Plain}
use Rattle.wasm_grammar.specs.declared.opcodes.Plain.TheVariants as p
use Rattle.wasm_grammar.specs.declared.opcodes.Index.{Index}
use Rattle.wasm_grammar.specs.declared.opcodes.Index.TheVariants as x
use Rattle.wasm_grammar.specs.declared.opcodes.Pair.{Pair}
use Rattle.wasm_grammar.specs.declared.opcodes.Pair.TheVariants as q
use Rattle.wasm_grammar.specs.declared.opcodes.Access.{Access}
use Rattle.wasm_grammar.specs.declared.opcodes.Access.TheVariants as a
use Rattle.wasm_grammar.specs.declared.opcodes.Zero.{Zero}
use Rattle.wasm_grammar.specs.declared.opcodes.Zero.TheVariants as z
use Rattle.wasm_grammar.specs.declared.opcodes.Opening.{Opening}
use Rattle.wasm_grammar.specs.declared.opcodes.Opening.TheVariants as o
use Rattle.wasm_grammar.specs.declared.opcodes.Row.{Row}
use Rattle.wasm_grammar.specs.declared.opcodes.Row.TheVariants as r
use Rattle.wasm_grammar.specs.Opcodes.{Shape, unknown, alone, one_index, indices, access, word, wide_word, reference, labels, result_types, zero, two_zeros, data_index, data_zero, begins_block, begins_loop, begins_if, goes_on, ends, float_bytes, float_access, br_table}

abbrev pub plain_instr : Plain → Instr
plain_instr p.Unreachable = i.Unreachable
plain_instr p.Nop = i.Nop
plain_instr p.Return = i.Return
plain_instr p.Drop = i.Drop
plain_instr p.Select = i.Select
plain_instr p.I32Eqz = i.I32Eqz
plain_instr p.I32Eq = i.I32Eq
plain_instr p.I32Ne = i.I32Ne
plain_instr p.I32LtS = i.I32LtS
plain_instr p.I32LtU = i.I32LtU
plain_instr p.I32GtS = i.I32GtS
plain_instr p.I32GtU = i.I32GtU
plain_instr p.I32LeS = i.I32LeS
plain_instr p.I32LeU = i.I32LeU
plain_instr p.I32GeS = i.I32GeS
plain_instr p.I32GeU = i.I32GeU
plain_instr p.I64Eqz = i.I64Eqz
plain_instr p.I64Eq = i.I64Eq
plain_instr p.I64Ne = i.I64Ne
plain_instr p.I64LtS = i.I64LtS
plain_instr p.I64LtU = i.I64LtU
plain_instr p.I64GtS = i.I64GtS
plain_instr p.I64GtU = i.I64GtU
plain_instr p.I64LeS = i.I64LeS
plain_instr p.I64LeU = i.I64LeU
plain_instr p.I64GeS = i.I64GeS
plain_instr p.I64GeU = i.I64GeU
plain_instr p.I32Clz = i.I32Clz
plain_instr p.I32Ctz = i.I32Ctz
plain_instr p.I32Popcnt = i.I32Popcnt
plain_instr p.I32Add = i.I32Add
plain_instr p.I32Sub = i.I32Sub
plain_instr p.I32Mul = i.I32Mul
plain_instr p.I32DivS = i.I32DivS
plain_instr p.I32DivU = i.I32DivU
plain_instr p.I32RemS = i.I32RemS
plain_instr p.I32RemU = i.I32RemU
plain_instr p.I32And = i.I32And
plain_instr p.I32Or = i.I32Or
plain_instr p.I32Xor = i.I32Xor
plain_instr p.I32Shl = i.I32Shl
plain_instr p.I32ShrS = i.I32ShrS
plain_instr p.I32ShrU = i.I32ShrU
plain_instr p.I32Rotl = i.I32Rotl
plain_instr p.I32Rotr = i.I32Rotr
plain_instr p.I64Clz = i.I64Clz
plain_instr p.I64Ctz = i.I64Ctz
plain_instr p.I64Popcnt = i.I64Popcnt
plain_instr p.I64Add = i.I64Add
plain_instr p.I64Sub = i.I64Sub
plain_instr p.I64Mul = i.I64Mul
plain_instr p.I64DivS = i.I64DivS
plain_instr p.I64DivU = i.I64DivU
plain_instr p.I64RemS = i.I64RemS
plain_instr p.I64RemU = i.I64RemU
plain_instr p.I64And = i.I64And
plain_instr p.I64Or = i.I64Or
plain_instr p.I64Xor = i.I64Xor
plain_instr p.I64Shl = i.I64Shl
plain_instr p.I64ShrS = i.I64ShrS
plain_instr p.I64ShrU = i.I64ShrU
plain_instr p.I64Rotl = i.I64Rotl
plain_instr p.I64Rotr = i.I64Rotr
plain_instr p.I32WrapI64 = i.I32WrapI64
plain_instr p.I64ExtendI32S = i.I64ExtendI32S
plain_instr p.I64ExtendI32U = i.I64ExtendI32U
plain_instr p.I32Extend8S = i.I32Extend8S
plain_instr p.I32Extend16S = i.I32Extend16S
plain_instr p.I64Extend8S = i.I64Extend8S
plain_instr p.I64Extend16S = i.I64Extend16S
plain_instr p.I64Extend32S = i.I64Extend32S
plain_instr p.RefIsNull = i.RefIsNull

abbrev pub index_instr : Index → ℕ → Instr
index_instr x.Br = i.Br
index_instr x.BrIf = i.BrIf
index_instr x.Call = i.Call
index_instr x.LocalGet = i.LocalGet
index_instr x.LocalSet = i.LocalSet
index_instr x.LocalTee = i.LocalTee
index_instr x.GlobalGet = i.GlobalGet
index_instr x.GlobalSet = i.GlobalSet
index_instr x.TableGet = i.TableGet
index_instr x.TableSet = i.TableSet
index_instr x.RefFunc = i.RefFunc
index_instr x.ElemDrop = i.ElemDrop
index_instr x.TableGrow = i.TableGrow
index_instr x.TableSize = i.TableSize
index_instr x.TableFill = i.TableFill

abbrev pub pair_instr : Pair → ℕ → ℕ → Instr
pair_instr q.CallIndirect = i.CallIndirect
pair_instr q.TableInit = i.TableInit
pair_instr q.TableCopy = i.TableCopy

abbrev pub access_instr : Access → MemArg → Instr
access_instr a.I32Load = i.I32Load
access_instr a.I64Load = i.I64Load
access_instr a.I32Load8S = i.I32Load8S
access_instr a.I32Load8U = i.I32Load8U
access_instr a.I32Load16S = i.I32Load16S
access_instr a.I32Load16U = i.I32Load16U
access_instr a.I64Load8S = i.I64Load8S
access_instr a.I64Load8U = i.I64Load8U
access_instr a.I64Load16S = i.I64Load16S
access_instr a.I64Load16U = i.I64Load16U
access_instr a.I64Load32S = i.I64Load32S
access_instr a.I64Load32U = i.I64Load32U
access_instr a.I32Store = i.I32Store
access_instr a.I64Store = i.I64Store
access_instr a.I32Store8 = i.I32Store8
access_instr a.I32Store16 = i.I32Store16
access_instr a.I64Store8 = i.I64Store8
access_instr a.I64Store16 = i.I64Store16
access_instr a.I64Store32 = i.I64Store32

abbrev pub zero_instr : Zero → Instr
zero_instr z.MemorySize = i.MemorySize
zero_instr z.MemoryGrow = i.MemoryGrow
zero_instr z.MemoryFill = i.MemoryFill

abbrev pub opening_shape : Opening → Shape
opening_shape o.Block = begins_block
opening_shape o.Loop = begins_loop
opening_shape o.If = begins_if

abbrev pub shape : Row → Shape
shape r.Unknown = unknown
shape (r.Plain what) = alone (plain_instr what)
shape (r.Index what) = one_index (index_instr what)
shape (r.Pair what) = indices (pair_instr what)
shape (r.Access what) = access (access_instr what)
shape (r.Zero what) = zero (zero_instr what)
shape (r.Opening what) = opening_shape what
shape r.Else = goes_on
shape r.End = ends
shape r.BrTable = labels br_table
shape r.SelectTyped = result_types
shape r.I32Const = word i.I32Const
shape r.I64Const = wide_word i.I64Const
shape r.RefNull = reference i.RefNull
shape r.MemoryInit = data_zero i.MemoryInit
shape r.DataDrop = data_index i.DataDrop
shape r.MemoryCopy = two_zeros i.MemoryCopy
shape (r.Float count) = float_bytes count
shape r.FloatAccess = float_access
