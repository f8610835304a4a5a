-- The integer operations of WebAssembly Core 2.0, section 4.3.2, and the conversions of section 4.3.4, over whole numbers.
-- A number of width N is a whole number below 2 ^ N. Each operation has one definition, over the width, and the name that
-- the standard gives it. Where the standard leaves a result undefined, the operation traps.
use Rattle.std.specs.Prelude.{ℕ, zero, suc, ◌+◌, ◌-◌, ◌*◌, ◌/◌, ◌%◌, ◌^◌, min, max, Bool, true, false, not, ◌&&◌, if◌then◌else◌, nat_lt, nat_le, ◌==◌, List, [], ◌∷◌, ◌++◌, length, take, drop, replicate, ℤ, pos, negsuc, ◌-ℤ◌, ◌*ℤ◌, int_lt, int_le, int_div, Result, Ok, Err}
use Rattle.std.specs.List.{prefix_len, suffix_len, count_by}
use Rattle.wasm_syntax.specs.declared.trap.Trap.{Trap}
use Rattle.wasm_syntax.specs.declared.trap.Trap.TheVariants.{DivideByZero, Overflow}
use Rattle.wasm_syntax.specs.declared.numbers.Num.{Num}
use Rattle.wasm_syntax.specs.declared.numbers.Num.TheVariants.{I32, I64}
use Rattle.wasm_syntax.specs.declared.numbers.BinOp.{BinOp}
use Rattle.wasm_syntax.specs.declared.numbers.BinOp.TheVariants.{Add, Sub, Mul, DivS, DivU, RemS, RemU, And, Or, Xor, Shl, ShrS, ShrU, Rotl, Rotr}
use Rattle.wasm_syntax.specs.declared.numbers.UnOp.{UnOp}
use Rattle.wasm_syntax.specs.declared.numbers.UnOp.TheVariants.{Clz, Ctz, Popcnt, Extend8S, Extend16S, Extend32S}
use Rattle.wasm_syntax.specs.declared.numbers.CmpOp.{CmpOp}
use Rattle.wasm_syntax.specs.declared.numbers.CmpOp.TheVariants.{Eq, Ne, LtS, LtU, GtS, GtU, LeS, LeU, GeS, GeU}
use Rattle.wasm_syntax.specs.declared.numbers.ConvOp.{ConvOp}
use Rattle.wasm_syntax.specs.declared.numbers.ConvOp.TheVariants.{Wrap, ExtendS, ExtendU}

-- ---- readings of a number of width N

-- signed_N(i): i in two's complement
abbrev pub signed : ℕ → ℕ → ℤ
signed N i = if nat_lt i (2 ^ (N - 1)) then pos i else (pos i -ℤ pos (2 ^ N))

-- the inverse of signed_N: the number of width N whose signed reading is z
abbrev pub unsigned : ℕ → ℤ → ℕ
unsigned N (pos i) = i
unsigned N (negsuc i) = 2 ^ N - suc i

-- ibits_N(i): the N binary digits of i, the most significant first
unfoldable pub ibits : ℕ → ℕ → List ℕ
ibits zero i = []
ibits (suc N) i = i / 2 ^ N % 2 ∷ ibits N i

-- the inverse of ibits: the number with these binary digits
unfoldable pub of_ibits : List ℕ → ℕ
of_ibits [] = 0
of_ibits (d ∷ ds) = d * 2 ^ length ds + of_ibits ds

-- f of the two digits at each place
unfoldable pub digitwise : (ℕ → ℕ → ℕ) → List ℕ → List ℕ → List ℕ
digitwise f [] es = []
digitwise f (d ∷ ds) [] = []
digitwise f (d ∷ ds) (e ∷ es) = f d e ∷ digitwise f ds es

-- ---- arithmetic

abbrev pub iadd : ℕ → ℕ → ℕ → ℕ
iadd N a b = (a + b) % 2 ^ N

abbrev pub isub : ℕ → ℕ → ℕ → ℕ
isub N a b = (a + 2 ^ N - b) % 2 ^ N

abbrev pub imul : ℕ → ℕ → ℕ → ℕ
imul N a b = a * b % 2 ^ N

-- the quotient rounded toward zero
abbrev pub idiv_u : ℕ → ℕ → ℕ → Result ℕ Trap
idiv_u N a b = if b == 0 then Err DivideByZero else Ok (a / b)

-- The same of the signed readings. The least value over -1 is the one pair whose quotient, 2 ^ (N - 1), has no number of width N.
abbrev pub idiv_s : ℕ → ℕ → ℕ → Result ℕ Trap
idiv_s N a b =
    if b == 0 then Err DivideByZero
    else (if (a == 2 ^ (N - 1)) && (b == 2 ^ N - 1) then Err Overflow
    else Ok (unsigned N (int_div (signed N a) (signed N b))))

abbrev pub irem_u : ℕ → ℕ → ℕ → Result ℕ Trap
irem_u N a b = if b == 0 then Err DivideByZero else Ok (a - b * (a / b))

abbrev pub irem_s : ℕ → ℕ → ℕ → Result ℕ Trap
irem_s N a b =
    if b == 0 then Err DivideByZero
    else Ok (unsigned N (signed N a -ℤ signed N b *ℤ int_div (signed N a) (signed N b)))

-- ---- bits: what each operation does to the digits

abbrev pub iand : ℕ → ℕ → ℕ → ℕ
iand N a b = of_ibits (digitwise min (ibits N a) (ibits N b))

abbrev pub ior : ℕ → ℕ → ℕ → ℕ
ior N a b = of_ibits (digitwise max (ibits N a) (ibits N b))

-- 1 where the two digits differ
abbrev pub ixor : ℕ → ℕ → ℕ → ℕ
ixor N a b = of_ibits (digitwise (λ d e. (d + e) % 2) (ibits N a) (ibits N b))

-- the first k = b mod N digits fall out, and k zeros come in behind
abbrev pub ishl : ℕ → ℕ → ℕ → ℕ
ishl N a b = of_ibits (drop (b % N) (ibits N a) ++ replicate (b % N) 0)

-- the last k = b mod N digits fall out, and k zeros come in before the others
abbrev pub ishr_u : ℕ → ℕ → ℕ → ℕ
ishr_u N a b = of_ibits (replicate (b % N) 0 ++ take (N - b % N) (ibits N a))

-- the same with k copies of the first digit, the sign
abbrev pub ishr_s : ℕ → ℕ → ℕ → ℕ
ishr_s N a b = of_ibits (replicate (b % N) (a / 2 ^ (N - 1)) ++ take (N - b % N) (ibits N a))

-- the first k = b mod N digits go behind the others
abbrev pub irotl : ℕ → ℕ → ℕ → ℕ
irotl N a b = of_ibits (drop (b % N) (ibits N a) ++ take (b % N) (ibits N a))

-- the last k = b mod N digits go before the others
abbrev pub irotr : ℕ → ℕ → ℕ → ℕ
irotr N a b = of_ibits (drop (N - b % N) (ibits N a) ++ take (N - b % N) (ibits N a))

-- how many digits from the first on, and from the last on, are 0
abbrev pub iclz : ℕ → ℕ → ℕ
iclz N a = prefix_len (λ d. d == 0) (ibits N a)

abbrev pub ictz : ℕ → ℕ → ℕ
ictz N a = suffix_len (λ d. d == 0) (ibits N a)

-- how many digits are 1
abbrev pub ipopcnt : ℕ → ℕ → ℕ
ipopcnt N a = count_by (λ d. d == 1) (ibits N a)

-- ---- conversions between the widths M and N, M the smaller one

abbrev pub wrap : ℕ → ℕ → ℕ
wrap M i = i % 2 ^ M

abbrev pub extend_u : ℕ → ℕ → ℕ → ℕ
extend_u M N i = i

-- the number of width N that has the signed reading of i at width M
abbrev pub extend_s : ℕ → ℕ → ℕ → ℕ
extend_s M N i = unsigned N (signed M i)

-- iextendM_s of width N: the lowest M bits, with their sign
abbrev pub iextend_s : ℕ → ℕ → ℕ → ℕ
iextend_s M N i = extend_s M N (wrap M i)

-- ---- tests

-- ieqz_N(i)
abbrev pub ieqz : ℕ → ℕ → Bool
ieqz N a = a == 0

-- the number that a test or a comparison gives: 1 where it holds, and else 0
abbrev pub of_test : Bool → ℕ
of_test true = 1
of_test false = 0

-- ---- the operations by their names

unfoldable pub integer_binary : BinOp → ℕ → ℕ → ℕ → Result ℕ Trap
integer_binary Add N a b = Ok (iadd N a b)
integer_binary Sub N a b = Ok (isub N a b)
integer_binary Mul N a b = Ok (imul N a b)
integer_binary DivS N a b = idiv_s N a b
integer_binary DivU N a b = idiv_u N a b
integer_binary RemS N a b = irem_s N a b
integer_binary RemU N a b = irem_u N a b
integer_binary And N a b = Ok (iand N a b)
integer_binary Or N a b = Ok (ior N a b)
integer_binary Xor N a b = Ok (ixor N a b)
integer_binary Shl N a b = Ok (ishl N a b)
integer_binary ShrS N a b = Ok (ishr_s N a b)
integer_binary ShrU N a b = Ok (ishr_u N a b)
integer_binary Rotl N a b = Ok (irotl N a b)
integer_binary Rotr N a b = Ok (irotr N a b)

unfoldable pub integer_unary : UnOp → ℕ → ℕ → ℕ
integer_unary Clz N a = iclz N a
integer_unary Ctz N a = ictz N a
integer_unary Popcnt N a = ipopcnt N a
integer_unary Extend8S N a = iextend_s 8 N a
integer_unary Extend16S N a = iextend_s 16 N a
integer_unary Extend32S N a = iextend_s 32 N a

unfoldable pub integer_compare : CmpOp → ℕ → ℕ → ℕ → Bool
integer_compare Eq N a b = a == b
integer_compare Ne N a b = not (a == b)
integer_compare LtS N a b = int_lt (signed N a) (signed N b)
integer_compare LtU N a b = nat_lt a b
integer_compare GtS N a b = int_lt (signed N b) (signed N a)
integer_compare GtU N a b = nat_lt b a
integer_compare LeS N a b = int_le (signed N a) (signed N b)
integer_compare LeU N a b = nat_le a b
integer_compare GeS N a b = int_le (signed N b) (signed N a)
integer_compare GeU N a b = nat_le b a

-- ---- numbers with their width

-- the width, and the number itself
abbrev pub width_of : Num → ℕ
width_of (I32 n) = 32
width_of (I64 n) = 64

abbrev pub number_of : Num → ℕ
number_of (I32 n) = n
number_of (I64 n) = n

-- the number in two's complement
abbrev pub signed_of : Num → ℤ
signed_of a = signed (width_of a) (number_of a)

-- n at the width of a
abbrev pub at_width_of : Num → ℕ → Num
at_width_of (I32 a) n = I32 n
at_width_of (I64 a) n = I64 n

-- the same of a result that may be a trap
abbrev pub result_at_width_of : Num → Result ℕ Trap → Result Num Trap
result_at_width_of a (Ok n) = Ok (at_width_of a n)
result_at_width_of a (Err trap) = Err trap

-- The five operations. The operands of the first and the third have one width.
unfoldable pub binary_of : BinOp → Num → Num → Result Num Trap
binary_of op a b = result_at_width_of a (integer_binary op (width_of a) (number_of a) (number_of b))

unfoldable pub unary_of : UnOp → Num → Num
unary_of op a = at_width_of a (integer_unary op (width_of a) (number_of a))

unfoldable pub compare_of : CmpOp → Num → Num → Bool
compare_of op a b = integer_compare op (width_of a) (number_of a) (number_of b)

unfoldable pub test_of : Num → Bool
test_of a = ieqz (width_of a) (number_of a)

unfoldable pub convert_of : ConvOp → Num → Num
convert_of Wrap a = I32 (wrap 32 (number_of a))
convert_of ExtendS a = I64 (extend_s 32 64 (number_of a))
convert_of ExtendU a = I64 (extend_u 32 64 (number_of a))

-- ---- what the clauses ask and tell

-- division and remainder
abbrev pub is_division : BinOp → Bool
is_division DivS = true
is_division DivU = true
is_division RemS = true
is_division RemU = true
is_division _ = false

-- the width that a conversion takes, and the one that it gives
abbrev pub source_width_of : ConvOp → ℕ
source_width_of Wrap = 64
source_width_of ExtendS = 32
source_width_of ExtendU = 32

abbrev pub target_width_of : ConvOp → ℕ
target_width_of Wrap = 32
target_width_of ExtendS = 64
target_width_of ExtendU = 64
