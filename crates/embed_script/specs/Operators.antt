-- The operators between two values (ECMA-262, section 13.15.3, in the profile): a value, or a named refusal.
use Rattle.std.specs.Prelude.{ℕ, List, ◌++◌, length, ℤ, ◌+ℤ◌, ◌-ℤ◌, ◌*ℤ◌, Result, Ok, Err, nat_le, unsigned_abs, if◌then◌else◌}
use Rattle.embed_base.specs.declared.outside.OutsideKind.{OutsideKind}
use Rattle.embed_base.specs.declared.outside.OutsideKind.TheVariants as kinds
use Rattle.small_parser.specs.declared.script.Operator.{Operator}
use Rattle.small_parser.specs.declared.script.Operator.TheVariants as operators
use Rattle.embed_script.specs.declared.value.Value.{Value}
use Rattle.embed_script.specs.declared.value.Value.TheVariants as values
use Rattle.embed_script.specs.Values.{shown_of}

-- 2^53 - 1, the greatest whole number that a Number may be
abbrev pub greatest_number : ℕ
greatest_number = 9007199254740991

-- the bytes of a text, at most
abbrev pub most_text_bytes : ℕ
most_text_bytes = 1048576

-- a whole number as a Number, which lies between -(2^53 - 1) and 2^53 - 1
abbrev pub number_of : ℤ → Result Value OutsideKind
number_of z = if nat_le (unsigned_abs z) greatest_number then Ok (values.Number z) else Err kinds.Number

-- bytes as a text, which is no longer than its limit
abbrev pub text_of : List ℕ → Result Value OutsideKind
text_of s = if nat_le (length s) most_text_bytes then Ok (values.Text s) else Err kinds.TextSize

-- `+` adds two Numbers, and joins both as texts where either is a text; `-` and `*` take Numbers alone
abbrev pub operate : Operator → Value → Value → Result Value OutsideKind
operate operators.Plus (values.Number a) (values.Number b) = number_of (a +ℤ b)
operate operators.Plus a b = text_of (shown_of a ++ shown_of b)
operate operators.Minus (values.Number a) (values.Number b) = number_of (a -ℤ b)
operate operators.Minus a b = Err kinds.TextNumber
operate operators.Times (values.Number a) (values.Number b) = number_of (a *ℤ b)
operate operators.Times a b = Err kinds.TextNumber
