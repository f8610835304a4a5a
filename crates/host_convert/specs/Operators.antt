-- Operators between values (ECMA-262, sections 6.1.6, 7.2 and 13.5 to 13.15, in the profile).
use Rattle.std.specs.Prelude.{ℕ, ◌^◌, Bool, true, false, ◌&&◌, ◌||◌, not, nat_eq, nat_le, nat_lt, ℤ, pos, negsuc, ◌+ℤ◌, ◌-ℤ◌, ◌*ℤ◌, neg_ℤ, int_div, int_rem, int_lt, int_le, List, ◌++◌, length, if◌then◌else◌, unsigned_abs}
use Rattle.std.specs.Ordering.{int_eq}
use Rattle.std.specs.Str.{bytes_eq}
use Rattle.embed_base.specs.declared.outside.OutsideKind.TheVariants as outside
use Rattle.host_values.specs.declared.values.ErrorClass.TheVariants as classes
use Rattle.host_values.specs.declared.values.HostValue.{HostValue}
use Rattle.host_values.specs.declared.values.HostValue.TheVariants as values
use Rattle.host_values.specs.Members.{greatest_number}
use Rattle.host_convert.specs.declared.conv.Conv.{Conv}
use Rattle.host_convert.specs.declared.conv.Conv.TheVariants as conv
use Rattle.host_convert.specs.declared.numeric.Numeric.{Numeric}
use Rattle.host_convert.specs.declared.numeric.Numeric.TheVariants as numeric
use Rattle.host_convert.specs.declared.operators.Arith.{Arith}
use Rattle.host_convert.specs.declared.operators.Arith.TheVariants as ariths
use Rattle.host_convert.specs.declared.operators.Rel.{Rel}
use Rattle.host_convert.specs.declared.operators.Rel.TheVariants as rels
use Rattle.host_convert.specs.Conversions.{number_of_bool, primitive_text}

-- the bytes of a text, at most
abbrev pub most_text_bytes : ℕ
most_text_bytes = 1048576

-- whether a value is an object, or a text
abbrev pub is_object : HostValue → Bool
is_object (values.Object o) = true
is_object _ = false

abbrev pub is_text : HostValue → Bool
is_text (values.Text s) = true
is_text _ = false

-- a whole number as a Number, which lies between -(2^53 - 1) and 2^53 - 1
abbrev pub number_of : ℤ → Conv HostValue
number_of z = if nat_le (unsigned_abs z) greatest_number then conv.Value (values.Number z) else conv.Outside outside.Number

-- whether a whole number has signed 128 bits
abbrev pub is_int128 : ℤ → Bool
is_int128 (pos n) = nat_lt n (2 ^ 127)
is_int128 (negsuc n) = nat_lt n (2 ^ 127)

-- a whole number as a BigInt
abbrev pub big_int_of : ℤ → Conv HostValue
big_int_of z = if is_int128 z then conv.Value (values.BigInt z) else conv.Outside outside.BigInt

-- a text as a value, which is no longer than its limit
abbrev pub text_of : List ℕ → Conv HostValue
text_of s = if nat_le (length s) most_text_bytes then conv.Value (values.Text s) else conv.Outside outside.TextSize

-- ToNumeric (7.1.3) of a value that is neither an object nor a text
abbrev pub to_numeric : HostValue → Numeric
to_numeric values.Null = numeric.Number (pos 0)
to_numeric (values.Bool b) = numeric.Number (pos (number_of_bool b))
to_numeric (values.Number z) = numeric.Number z
to_numeric (values.BigInt z) = numeric.BigInt z
to_numeric _ = numeric.NaN

-- Number::divide (6.1.6.1.5), where the quotient is whole
abbrev pub number_quotient : ℤ → ℤ → Conv HostValue
number_quotient a b = if int_eq b (pos 0) then conv.Outside outside.Number else if int_eq (int_rem a b) (pos 0) then number_of (int_div a b) else conv.Outside outside.Number

-- Number::remainder (6.1.6.1.6), with the dividend's sign
abbrev pub number_remainder : ℤ → ℤ → Conv HostValue
number_remainder a b = if int_eq b (pos 0) then conv.Outside outside.Number else number_of (int_rem a b)

-- BigInt::divide (6.1.6.2.5), which cuts toward zero
abbrev pub big_int_quotient : ℤ → ℤ → Conv HostValue
big_int_quotient a b = if int_eq b (pos 0) then conv.Throw classes.RangeError else big_int_of (int_div a b)

-- BigInt::remainder (6.1.6.2.6), with the dividend's sign
abbrev pub big_int_remainder : ℤ → ℤ → Conv HostValue
big_int_remainder a b = if int_eq b (pos 0) then conv.Throw classes.RangeError else big_int_of (int_rem a b)

-- an operator between two Numbers
abbrev pub number_result : Arith → ℤ → ℤ → Conv HostValue
number_result ariths.Sub a b = number_of (a -ℤ b)
number_result ariths.Mul a b = number_of (a *ℤ b)
number_result ariths.Div a b = number_quotient a b
number_result ariths.Rem a b = number_remainder a b

-- an operator between two BigInts
abbrev pub big_int_result : Arith → ℤ → ℤ → Conv HostValue
big_int_result ariths.Sub a b = big_int_of (a -ℤ b)
big_int_result ariths.Mul a b = big_int_of (a *ℤ b)
big_int_result ariths.Div a b = big_int_quotient a b
big_int_result ariths.Rem a b = big_int_remainder a b

-- ApplyStringOrNumericBinaryOperator (13.15.3) between numbers: a BigInt goes with a BigInt alone
abbrev pub numeric_result : (ℤ → ℤ → Conv HostValue) → (ℤ → ℤ → Conv HostValue) → Numeric → Numeric → Conv HostValue
numeric_result F G (numeric.BigInt a) (numeric.BigInt b) = G a b
numeric_result F G (numeric.BigInt a) (numeric.Number b) = conv.Throw classes.TypeError
numeric_result F G (numeric.BigInt a) numeric.NaN = conv.Throw classes.TypeError
numeric_result F G (numeric.Number a) (numeric.BigInt b) = conv.Throw classes.TypeError
numeric_result F G (numeric.Number a) (numeric.Number b) = F a b
numeric_result F G (numeric.Number a) numeric.NaN = conv.Outside outside.Number
numeric_result F G numeric.NaN (numeric.BigInt b) = conv.Throw classes.TypeError
numeric_result F G numeric.NaN (numeric.Number b) = conv.Outside outside.Number
numeric_result F G numeric.NaN numeric.NaN = conv.Outside outside.Number

-- the sum of two numbers
abbrev pub numeric_sum : Numeric → Numeric → Conv HostValue
numeric_sum a b = numeric_result (λ x y. number_of (x +ℤ y)) (λ x y. big_int_of (x +ℤ y)) a b

-- an operator that takes numbers alone (13.15.3)
abbrev pub arith_of : Arith → HostValue → HostValue → Conv HostValue
arith_of op a b =
    if is_object a || is_object b then conv.Outside outside.ToPrimitive
    else if is_text a || is_text b then conv.Outside outside.TextNumber
    else numeric_result (number_result op) (big_int_result op) (to_numeric a) (to_numeric b)

-- `+` (13.15.3): both texts joined where either is a text, and else the sum
abbrev pub sum_of : HostValue → HostValue → Conv HostValue
sum_of a b =
    if is_object a || is_object b then conv.Outside outside.ToPrimitive
    else if is_text a || is_text b then text_of (primitive_text a ++ primitive_text b)
    else numeric_sum (to_numeric a) (to_numeric b)

-- unary `-` of a number (6.1.6.1.1 and 6.1.6.2.1)
abbrev pub negated : Numeric → Conv HostValue
negated numeric.NaN = conv.Outside outside.Number
negated (numeric.Number z) = number_of (neg_ℤ z)
negated (numeric.BigInt z) = big_int_of (neg_ℤ z)

-- unary `-` (13.5.5)
abbrev pub negation_of : HostValue → Conv HostValue
negation_of v = if is_object v then conv.Outside outside.ToPrimitive else if is_text v then conv.Outside outside.TextNumber else negated (to_numeric v)

-- a relational operator between whole numbers
abbrev pub related : Rel → ℤ → ℤ → Bool
related rels.Lt a b = int_lt a b
related rels.Gt a b = int_lt b a
related rels.Le a b = int_le a b
related rels.Ge a b = int_le b a

-- IsLessThan (7.2.12) and its kin between numbers, also across Number and BigInt; NaN gives false
abbrev pub numbers_related : Rel → Numeric → Numeric → Bool
numbers_related op numeric.NaN b = false
numbers_related op (numeric.Number a) numeric.NaN = false
numbers_related op (numeric.Number a) (numeric.Number b) = related op a b
numbers_related op (numeric.Number a) (numeric.BigInt b) = related op a b
numbers_related op (numeric.BigInt a) numeric.NaN = false
numbers_related op (numeric.BigInt a) (numeric.Number b) = related op a b
numbers_related op (numeric.BigInt a) (numeric.BigInt b) = related op a b

-- a relational operator (13.10.1)
abbrev pub relation_of : Rel → HostValue → HostValue → Conv Bool
relation_of op a b =
    if is_object a || is_object b then conv.Outside outside.ToPrimitive
    else if is_text a && is_text b then conv.Outside outside.TextOrder
    else if is_text a || is_text b then conv.Outside outside.TextNumber
    else conv.Value (numbers_related op (to_numeric a) (to_numeric b))

-- IsStrictlyEqual (7.2.14): the same type and value, objects by identity
abbrev pub is_strictly_equal : HostValue → HostValue → Bool
is_strictly_equal values.Undefined values.Undefined = true
is_strictly_equal values.Null values.Null = true
is_strictly_equal (values.Bool a) (values.Bool b) = if a then b else not b
is_strictly_equal (values.Number a) (values.Number b) = int_eq a b
is_strictly_equal (values.BigInt a) (values.BigInt b) = int_eq a b
is_strictly_equal (values.Text a) (values.Text b) = bytes_eq a b
is_strictly_equal (values.Object a) (values.Object b) = nat_eq a.0 b.0
is_strictly_equal _ _ = false
