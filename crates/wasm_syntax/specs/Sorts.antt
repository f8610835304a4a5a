-- The sorts of the instructions (WebAssembly Core 2.0, section 2.4): the one table of all instructions.
use Rattle.std.specs.Prelude.{Bool, true, false, Option, Some, None, List, [], ◌∷◌, ℕ, nat_le}
use Rattle.wasm_syntax.specs.declared.instructions.BlockId.{BlockId}
use Rattle.wasm_syntax.specs.declared.types.ValType.{ValType}
use Rattle.wasm_syntax.specs.declared.instructions.Instr.{Instr}
use Rattle.wasm_syntax.specs.declared.instructions.Instr.TheVariants as i
use Rattle.wasm_syntax.specs.declared.sorts.Sort.{Sort}
use Rattle.wasm_syntax.specs.declared.sorts.Sort.TheVariants as s
use Rattle.wasm_syntax.specs.declared.sorts.Simple.{Simple}
use Rattle.wasm_syntax.specs.declared.sorts.Simple.TheVariants as p
use Rattle.wasm_syntax.specs.declared.sorts.Nesting.{Nesting}
use Rattle.wasm_syntax.specs.declared.numbers.NumType.TheVariants as n
use Rattle.wasm_syntax.specs.declared.numbers.Num.TheVariants as m
use Rattle.wasm_syntax.specs.declared.numbers.BinOp.TheVariants as b
use Rattle.wasm_syntax.specs.declared.numbers.UnOp.TheVariants as u
use Rattle.wasm_syntax.specs.declared.numbers.CmpOp.TheVariants as c
use Rattle.wasm_syntax.specs.declared.numbers.ConvOp.TheVariants as v
use Rattle.wasm_syntax.specs.declared.numbers.Width.TheVariants as w
use Rattle.wasm_syntax.specs.declared.numbers.Extension.TheVariants as x
use Rattle.wasm_syntax.specs.NumberTypes.{bits_of, width_bits, least_width_of}

-- what an instruction is, without its lists
abbrev pub sort_of : Instr → Sort
sort_of i.Unreachable = s.Unreachable
sort_of i.Nop = s.Simple p.Nop
sort_of (i.Block bt id) = s.Nested (record { ty = bt; body = id; other = None; again = false })
sort_of (i.Loop bt id) = s.Nested (record { ty = bt; body = id; other = None; again = true })
sort_of (i.If parts) = s.Nested (record { ty = parts.ty; body = parts.body; other = Some parts.other; again = false })
sort_of (i.Br l) = s.Br l
sort_of (i.BrIf l) = s.BrIf l
sort_of (i.BrTable l ls) = s.BrTable l
sort_of i.Return = s.Return
sort_of (i.Call x) = s.Call x
sort_of (i.CallIndirect x y) = s.CallIndirect x y
sort_of i.Drop = s.Drop
sort_of i.Select = s.Select
sort_of (i.SelectTyped ts) = s.SelectTyped
sort_of (i.LocalGet x) = s.Simple (p.LocalGet x)
sort_of (i.LocalSet x) = s.Simple (p.LocalSet x)
sort_of (i.LocalTee x) = s.Simple (p.LocalTee x)
sort_of (i.GlobalGet x) = s.Simple (p.GlobalGet x)
sort_of (i.GlobalSet x) = s.Simple (p.GlobalSet x)
sort_of (i.TableGet x) = s.Simple (p.TableGet x)
sort_of (i.TableSet x) = s.Simple (p.TableSet x)
sort_of (i.I32Load at) = s.Simple (p.Load n.I32 w.Bits32 x.Unsigned at)
sort_of (i.I64Load at) = s.Simple (p.Load n.I64 w.Bits64 x.Unsigned at)
sort_of (i.I32Load8S at) = s.Simple (p.Load n.I32 w.Bits8 x.Signed at)
sort_of (i.I32Load8U at) = s.Simple (p.Load n.I32 w.Bits8 x.Unsigned at)
sort_of (i.I32Load16S at) = s.Simple (p.Load n.I32 w.Bits16 x.Signed at)
sort_of (i.I32Load16U at) = s.Simple (p.Load n.I32 w.Bits16 x.Unsigned at)
sort_of (i.I64Load8S at) = s.Simple (p.Load n.I64 w.Bits8 x.Signed at)
sort_of (i.I64Load8U at) = s.Simple (p.Load n.I64 w.Bits8 x.Unsigned at)
sort_of (i.I64Load16S at) = s.Simple (p.Load n.I64 w.Bits16 x.Signed at)
sort_of (i.I64Load16U at) = s.Simple (p.Load n.I64 w.Bits16 x.Unsigned at)
sort_of (i.I64Load32S at) = s.Simple (p.Load n.I64 w.Bits32 x.Signed at)
sort_of (i.I64Load32U at) = s.Simple (p.Load n.I64 w.Bits32 x.Unsigned at)
sort_of (i.I32Store at) = s.Simple (p.Store n.I32 w.Bits32 at)
sort_of (i.I64Store at) = s.Simple (p.Store n.I64 w.Bits64 at)
sort_of (i.I32Store8 at) = s.Simple (p.Store n.I32 w.Bits8 at)
sort_of (i.I32Store16 at) = s.Simple (p.Store n.I32 w.Bits16 at)
sort_of (i.I64Store8 at) = s.Simple (p.Store n.I64 w.Bits8 at)
sort_of (i.I64Store16 at) = s.Simple (p.Store n.I64 w.Bits16 at)
sort_of (i.I64Store32 at) = s.Simple (p.Store n.I64 w.Bits32 at)
sort_of i.MemorySize = s.Simple p.MemorySize
sort_of i.MemoryGrow = s.Simple p.MemoryGrow
sort_of (i.I32Const k) = s.Simple (p.Const (m.I32 k))
sort_of (i.I64Const k) = s.Simple (p.Const (m.I64 k))
sort_of i.I32Eqz = s.Simple (p.Test n.I32)
sort_of i.I32Eq = s.Simple (p.Compare n.I32 c.Eq)
sort_of i.I32Ne = s.Simple (p.Compare n.I32 c.Ne)
sort_of i.I32LtS = s.Simple (p.Compare n.I32 c.LtS)
sort_of i.I32LtU = s.Simple (p.Compare n.I32 c.LtU)
sort_of i.I32GtS = s.Simple (p.Compare n.I32 c.GtS)
sort_of i.I32GtU = s.Simple (p.Compare n.I32 c.GtU)
sort_of i.I32LeS = s.Simple (p.Compare n.I32 c.LeS)
sort_of i.I32LeU = s.Simple (p.Compare n.I32 c.LeU)
sort_of i.I32GeS = s.Simple (p.Compare n.I32 c.GeS)
sort_of i.I32GeU = s.Simple (p.Compare n.I32 c.GeU)
sort_of i.I64Eqz = s.Simple (p.Test n.I64)
sort_of i.I64Eq = s.Simple (p.Compare n.I64 c.Eq)
sort_of i.I64Ne = s.Simple (p.Compare n.I64 c.Ne)
sort_of i.I64LtS = s.Simple (p.Compare n.I64 c.LtS)
sort_of i.I64LtU = s.Simple (p.Compare n.I64 c.LtU)
sort_of i.I64GtS = s.Simple (p.Compare n.I64 c.GtS)
sort_of i.I64GtU = s.Simple (p.Compare n.I64 c.GtU)
sort_of i.I64LeS = s.Simple (p.Compare n.I64 c.LeS)
sort_of i.I64LeU = s.Simple (p.Compare n.I64 c.LeU)
sort_of i.I64GeS = s.Simple (p.Compare n.I64 c.GeS)
sort_of i.I64GeU = s.Simple (p.Compare n.I64 c.GeU)
sort_of i.I32Clz = s.Simple (p.Unary n.I32 u.Clz)
sort_of i.I32Ctz = s.Simple (p.Unary n.I32 u.Ctz)
sort_of i.I32Popcnt = s.Simple (p.Unary n.I32 u.Popcnt)
sort_of i.I32Add = s.Simple (p.Binary n.I32 b.Add)
sort_of i.I32Sub = s.Simple (p.Binary n.I32 b.Sub)
sort_of i.I32Mul = s.Simple (p.Binary n.I32 b.Mul)
sort_of i.I32DivS = s.Simple (p.Binary n.I32 b.DivS)
sort_of i.I32DivU = s.Simple (p.Binary n.I32 b.DivU)
sort_of i.I32RemS = s.Simple (p.Binary n.I32 b.RemS)
sort_of i.I32RemU = s.Simple (p.Binary n.I32 b.RemU)
sort_of i.I32And = s.Simple (p.Binary n.I32 b.And)
sort_of i.I32Or = s.Simple (p.Binary n.I32 b.Or)
sort_of i.I32Xor = s.Simple (p.Binary n.I32 b.Xor)
sort_of i.I32Shl = s.Simple (p.Binary n.I32 b.Shl)
sort_of i.I32ShrS = s.Simple (p.Binary n.I32 b.ShrS)
sort_of i.I32ShrU = s.Simple (p.Binary n.I32 b.ShrU)
sort_of i.I32Rotl = s.Simple (p.Binary n.I32 b.Rotl)
sort_of i.I32Rotr = s.Simple (p.Binary n.I32 b.Rotr)
sort_of i.I64Clz = s.Simple (p.Unary n.I64 u.Clz)
sort_of i.I64Ctz = s.Simple (p.Unary n.I64 u.Ctz)
sort_of i.I64Popcnt = s.Simple (p.Unary n.I64 u.Popcnt)
sort_of i.I64Add = s.Simple (p.Binary n.I64 b.Add)
sort_of i.I64Sub = s.Simple (p.Binary n.I64 b.Sub)
sort_of i.I64Mul = s.Simple (p.Binary n.I64 b.Mul)
sort_of i.I64DivS = s.Simple (p.Binary n.I64 b.DivS)
sort_of i.I64DivU = s.Simple (p.Binary n.I64 b.DivU)
sort_of i.I64RemS = s.Simple (p.Binary n.I64 b.RemS)
sort_of i.I64RemU = s.Simple (p.Binary n.I64 b.RemU)
sort_of i.I64And = s.Simple (p.Binary n.I64 b.And)
sort_of i.I64Or = s.Simple (p.Binary n.I64 b.Or)
sort_of i.I64Xor = s.Simple (p.Binary n.I64 b.Xor)
sort_of i.I64Shl = s.Simple (p.Binary n.I64 b.Shl)
sort_of i.I64ShrS = s.Simple (p.Binary n.I64 b.ShrS)
sort_of i.I64ShrU = s.Simple (p.Binary n.I64 b.ShrU)
sort_of i.I64Rotl = s.Simple (p.Binary n.I64 b.Rotl)
sort_of i.I64Rotr = s.Simple (p.Binary n.I64 b.Rotr)
sort_of i.I32WrapI64 = s.Simple (p.Convert v.Wrap)
sort_of i.I64ExtendI32S = s.Simple (p.Convert v.ExtendS)
sort_of i.I64ExtendI32U = s.Simple (p.Convert v.ExtendU)
sort_of i.I32Extend8S = s.Simple (p.Unary n.I32 u.Extend8S)
sort_of i.I32Extend16S = s.Simple (p.Unary n.I32 u.Extend16S)
sort_of i.I64Extend8S = s.Simple (p.Unary n.I64 u.Extend8S)
sort_of i.I64Extend16S = s.Simple (p.Unary n.I64 u.Extend16S)
sort_of i.I64Extend32S = s.Simple (p.Unary n.I64 u.Extend32S)
sort_of (i.RefNull t) = s.Simple (p.RefNull t)
sort_of i.RefIsNull = s.RefIsNull
sort_of (i.RefFunc x) = s.Simple (p.RefFunc x)
sort_of (i.MemoryInit x) = s.Simple (p.MemoryInit x)
sort_of (i.DataDrop x) = s.Simple (p.DataDrop x)
sort_of i.MemoryCopy = s.Simple p.MemoryCopy
sort_of i.MemoryFill = s.Simple p.MemoryFill
sort_of (i.TableInit e x) = s.Simple (p.TableInit e x)
sort_of (i.ElemDrop x) = s.Simple (p.ElemDrop x)
sort_of (i.TableCopy x y) = s.Simple (p.TableCopy x y)
sort_of (i.TableGrow x) = s.Simple (p.TableGrow x)
sort_of (i.TableSize x) = s.Simple (p.TableSize x)
sort_of (i.TableFill x) = s.Simple (p.TableFill x)

-- the labels that a br_table chooses from, without its default
abbrev pub labels_of : Instr → List ℕ
labels_of (i.BrTable l ls) = ls
labels_of _ = []

-- the types of a select that has them
abbrev pub types_of : Instr → List ValType
types_of (i.SelectTyped ts) = ts
types_of _ = []

-- the blocks that an instruction holds
abbrev pub nesting_in : Sort → Option Nesting
nesting_in (s.Nested n) = Some n
nesting_in _ = None

abbrev pub nesting_of : Instr → Option Nesting
nesting_of i = nesting_in (sort_of i)

abbrev pub second_of : Option BlockId → List BlockId
second_of None = []
second_of (Some id) = id ∷ []

-- the blocks that stand in an instruction, in order
abbrev pub blocks_in : Option Nesting → List BlockId
blocks_in None = []
blocks_in (Some n) = n.body ∷ second_of n.other

-- a number has the bits from which it is extended, and those that are read or written
abbrev pub is_within_type : Simple → Bool
is_within_type (p.Unary t op) = nat_le (least_width_of op) (bits_of t)
is_within_type (p.Load t width extension at) = nat_le (width_bits width) (bits_of t)
is_within_type (p.Store t width at) = nat_le (width_bits width) (bits_of t)
is_within_type _ = true

abbrev pub is_within : Sort → Bool
is_within (s.Simple p) = is_within_type p
is_within _ = true
