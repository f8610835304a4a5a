-- Whole numbers by their digits (ECMA-262, section 12.9.3, cut to the profile).
use Rattle.std.specs.Prelude.{◌≡◌, ℕ, ◌+◌, ◌*◌, ◌-◌, ◌^◌, true, List, [], ◌∷◌, fold, All}
use Rattle.std.specs.Char.{is_digit, digit_value}

-- decimal digits, or hexadecimal digits after `0x`
pub data Numeral : Type 0 where
  decimal : (digits : List ℕ) → Numeral
  hexadecimal : (digits : List ℕ) → Numeral

-- its characters
abbrev pub numeral_chars : Numeral → List ℕ
numeral_chars (decimal ds) = ds
numeral_chars (hexadecimal ds) = 48 ∷ 120 ∷ ds

-- the number that digits stand for
abbrev pub value_in : ℕ → List ℕ → ℕ
value_in radix ds = fold (λ n d. n * radix + digit_value d) 0 ds

abbrev pub value_of : Numeral → ℕ
value_of (decimal ds) = value_in 10 ds
value_of (hexadecimal ds) = value_in 16 ds

-- digits, each below the radix
abbrev pub AreDigits : ℕ → List ℕ → Type 0
AreDigits radix ds = All (λ d. is_digit d radix ≡ true) ds

-- `0`, or decimal digits that don't begin with `0`
abbrev pub IsDecimal : List ℕ → Type 0
IsDecimal [] = ⊥
IsDecimal (d ∷ []) = AreDigits 10 (d ∷ [])
IsDecimal (d ∷ e ∷ ds) = (¬ (d ≡ 48)) × AreDigits 10 (d ∷ e ∷ ds)

abbrev pub IsNumeral : Numeral → Type 0
IsNumeral (decimal ds) = IsDecimal ds
IsNumeral (hexadecimal ds) = (¬ (ds ≡ [])) × AreDigits 16 ds

-- the greatest Number and the greatest BigInt
abbrev pub greatest_number : ℕ
greatest_number = 2 ^ 53 - 1

abbrev pub greatest_big_int : ℕ
greatest_big_int = 2 ^ 127 - 1
