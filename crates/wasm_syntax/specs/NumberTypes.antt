-- Number types with their widths (WebAssembly Core 2.0, sections 2.3.1 and 2.4.1).
use Rattle.std.specs.Prelude.{ℕ}
use Rattle.wasm_syntax.specs.declared.types.ValType.{ValType}
use Rattle.wasm_syntax.specs.declared.types.ValType.TheVariants as v
use Rattle.wasm_syntax.specs.declared.numbers.NumType.{NumType}
use Rattle.wasm_syntax.specs.declared.numbers.NumType.TheVariants as n
use Rattle.wasm_syntax.specs.declared.numbers.Num.{Num}
use Rattle.wasm_syntax.specs.declared.numbers.Num.TheVariants as m
use Rattle.wasm_syntax.specs.declared.numbers.UnOp.{UnOp}
use Rattle.wasm_syntax.specs.declared.numbers.UnOp.TheVariants as u
use Rattle.wasm_syntax.specs.declared.numbers.ConvOp.{ConvOp}
use Rattle.wasm_syntax.specs.declared.numbers.ConvOp.TheVariants as c
use Rattle.wasm_syntax.specs.declared.numbers.Width.{Width}
use Rattle.wasm_syntax.specs.declared.numbers.Width.TheVariants as w

-- a number type as the type of a value
abbrev pub value_type : NumType → ValType
value_type n.I32 = v.I32
value_type n.I64 = v.I64

abbrev pub bits_of : NumType → ℕ
bits_of n.I32 = 32
bits_of n.I64 = 64

abbrev pub type_of_number : Num → NumType
type_of_number (m.I32 k) = n.I32
type_of_number (m.I64 k) = n.I64

-- the type of the number that a conversion takes, and of the one that it gives
abbrev pub source_of : ConvOp → NumType
source_of c.Wrap = n.I64
source_of c.ExtendS = n.I32
source_of c.ExtendU = n.I32

abbrev pub target_of : ConvOp → NumType
target_of c.Wrap = n.I32
target_of c.ExtendS = n.I64
target_of c.ExtendU = n.I64

abbrev pub width_bits : Width → ℕ
width_bits w.Bits8 = 8
width_bits w.Bits16 = 16
width_bits w.Bits32 = 32
width_bits w.Bits64 = 64

-- the alignment of a width, by its exponent of 2 in bytes
abbrev pub natural_alignment : Width → ℕ
natural_alignment w.Bits8 = 0
natural_alignment w.Bits16 = 1
natural_alignment w.Bits32 = 2
natural_alignment w.Bits64 = 3

-- the least width of a number that an operation takes: it extends from fewer bits than it has
abbrev pub least_width_of : UnOp → ℕ
least_width_of u.Extend32S = 64
least_width_of _ = 32
