-- Conversions of values: one function for each row of the profile's table (ECMA-262, section 7.1; Web IDL, section 3.2.4).
use Rattle.std.specs.Prelude.{ℕ, ◌^◌, Bool, true, false, nat_eq, nat_lt, ℤ, pos, List, [], length, Option, Some, None, if◌then◌else◌, codes, unsigned_abs, not}
use Rattle.std.specs.Int.{int_rem_euclid}
use Rattle.std.specs.Ordering.{int_eq}
use Rattle.std.specs.Fmt.{signed_decimal}
use Rattle.embed_base.specs.declared.outside.OutsideKind.TheVariants as outside
use Rattle.host_values.specs.declared.values.ErrorClass.TheVariants as classes
use Rattle.host_values.specs.declared.values.HostValue.{HostValue}
use Rattle.host_values.specs.declared.values.HostValue.TheVariants as values
use Rattle.host_values.specs.Shown.{shown_bool}
use Rattle.host_convert.specs.declared.conv.Conv.{Conv}
use Rattle.host_convert.specs.declared.conv.Conv.TheVariants as conv

-- a Boolean as a number
abbrev pub number_of_bool : Bool → ℕ
number_of_bool b = if b then 1 else 0

-- a whole number modulo a power of two
abbrev pub modulo : ℤ → ℕ → ℕ
modulo z n = unsigned_abs (int_rem_euclid z (pos n))

-- ToNumber (7.1.4): None is NaN
abbrev pub to_number : HostValue → Conv (Option ℤ)
to_number values.Undefined = conv.Value None
to_number values.Null = conv.Value (Some (pos 0))
to_number (values.Bool b) = conv.Value (Some (pos (number_of_bool b)))
to_number (values.Number z) = conv.Value (Some z)
to_number (values.BigInt z) = conv.Throw classes.TypeError
to_number (values.Text s) = conv.Outside outside.TextNumber
to_number (values.Object o) = conv.Outside outside.ToPrimitive

-- ToInt32 (7.1.6), as the number modulo 2^32 that spells it
abbrev pub to_int32 : HostValue → Conv ℕ
to_int32 values.Undefined = conv.Value 0
to_int32 values.Null = conv.Value 0
to_int32 (values.Bool b) = conv.Value (number_of_bool b)
to_int32 (values.Number z) = conv.Value (modulo z (2 ^ 32))
to_int32 (values.BigInt z) = conv.Throw classes.TypeError
to_int32 (values.Text s) = conv.Outside outside.TextNumber
to_int32 (values.Object o) = conv.Outside outside.ToPrimitive

-- ToBigInt64 (7.1.15), as the number modulo 2^64 that spells it
abbrev pub to_big_int64 : HostValue → Conv ℕ
to_big_int64 values.Undefined = conv.Throw classes.TypeError
to_big_int64 values.Null = conv.Throw classes.TypeError
to_big_int64 (values.Bool b) = conv.Value (number_of_bool b)
to_big_int64 (values.Number z) = conv.Throw classes.TypeError
to_big_int64 (values.BigInt z) = conv.Value (modulo z (2 ^ 64))
to_big_int64 (values.Text s) = conv.Outside outside.TextNumber
to_big_int64 (values.Object o) = conv.Outside outside.ToPrimitive

-- a Number within 0 to 2^32 - 1
abbrev pub in_u32 : ℤ → Conv ℕ
in_u32 (pos n) = if nat_lt n (2 ^ 32) then conv.Value n else conv.Throw classes.TypeError
in_u32 z = conv.Throw classes.TypeError

-- unsigned long with EnforceRange (Web IDL, 3.2.4.6 and 3.2.4.9)
abbrev pub enforce_range : HostValue → Conv ℕ
enforce_range values.Undefined = conv.Throw classes.TypeError
enforce_range values.Null = conv.Value 0
enforce_range (values.Bool b) = conv.Value (number_of_bool b)
enforce_range (values.Number z) = in_u32 z
enforce_range (values.BigInt z) = conv.Throw classes.TypeError
enforce_range (values.Text s) = conv.Outside outside.TextNumber
enforce_range (values.Object o) = conv.Outside outside.ToPrimitive

-- a Number that isn't below 0
abbrev pub not_negative : ℤ → Conv ℕ
not_negative (pos n) = conv.Value n
not_negative z = conv.Throw classes.RangeError

-- ToIndex (7.1.22)
abbrev pub to_index : HostValue → Conv ℕ
to_index values.Undefined = conv.Value 0
to_index values.Null = conv.Value 0
to_index (values.Bool b) = conv.Value (number_of_bool b)
to_index (values.Number z) = not_negative z
to_index (values.BigInt z) = conv.Throw classes.TypeError
to_index (values.Text s) = conv.Outside outside.TextNumber
to_index (values.Object o) = conv.Outside outside.ToPrimitive

-- ToUint8 (7.1.11)
abbrev pub to_uint8 : HostValue → Conv ℕ
to_uint8 values.Undefined = conv.Value 0
to_uint8 values.Null = conv.Value 0
to_uint8 (values.Bool b) = conv.Value (number_of_bool b)
to_uint8 (values.Number z) = conv.Value (modulo z 256)
to_uint8 (values.BigInt z) = conv.Throw classes.TypeError
to_uint8 (values.Text s) = conv.Outside outside.TextNumber
to_uint8 (values.Object o) = conv.Outside outside.ToPrimitive

-- ToBoolean (7.1.2)
abbrev pub to_boolean : HostValue → Bool
to_boolean values.Undefined = false
to_boolean values.Null = false
to_boolean (values.Bool b) = b
to_boolean (values.Number z) = not (int_eq z (pos 0))
to_boolean (values.BigInt z) = not (int_eq z (pos 0))
to_boolean (values.Text s) = not (nat_eq (length s) 0)
to_boolean (values.Object o) = true

-- the text of a value that is no object
abbrev pub primitive_text : HostValue → List ℕ
primitive_text values.Undefined = codes "undefined"
primitive_text values.Null = codes "null"
primitive_text (values.Bool b) = shown_bool b
primitive_text (values.Number z) = signed_decimal z
primitive_text (values.BigInt z) = signed_decimal z
primitive_text (values.Text s) = s
primitive_text (values.Object o) = []

-- ToString (7.1.17)
abbrev pub to_string : HostValue → Conv (List ℕ)
to_string (values.Object o) = conv.Outside outside.ToPrimitive
to_string v = conv.Value (primitive_text v)
