-- The number of a budget's digits.
use Rattle.std.proofs.Common.{◌≡◌, ℕ, ◌<◌, ◌≤◌, List, Some, None, Result, Ok, Bool, true, false, ◌&&◌, length, refl, sym, ap, ◌∙◌, arith, cond, rules, nat_le, nat_lt}
use Rattle.std.proofs.lemmas.Bool.Decides.{nat_tests}
use Rattle.std.proofs.lemmas.Str.Parse.{IsNumeralModel, numerals_by_fold, parse_gives, digits_value_short}
use Rattle.std.specs.List.{list_all}
use Rattle.std.specs.Char.{is_ascii_digit}
use Rattle.std.specs.Str.Parse.{digits_value, digits_value_after, ParsesUnsigned}
use Rattle.embed_cmd.specs.Words.{is_short_number, units_of, most_budget}

digits : IsNumeralModel (λ ds. list_all is_ascii_digit ds ≡ true) (digits_value 10)
digits = numerals_by_fold _ (search rules) (digits_value_after 10) (search rules)

record IsShort (text : List ℕ) : Type 0 where
  some : 0 < length text
  few : length text ≤ 13
  all : list_all is_ascii_digit text ≡ true

short_parts : (a b c : Bool) → (a && (b && c)) ≡ true → (a ≡ true) × (b ≡ true) × (c ≡ true)
short_parts true true c h = (refl, refl, h)
short_parts true false c h = cc
short_parts false b c h = cc

below : (m n : ℕ) → nat_lt m n ≡ true → m < n
below m n h = grind (arith, nat_tests, h)

within : (m n : ℕ) → nat_le m n ≡ true → m ≤ n
within m n h = grind (arith, nat_tests, h)

short : (text : List ℕ) → is_short_number text ≡ true → IsShort text
short text h =
    let parts = short_parts (nat_lt 0 (length text)) (nat_le (length text) 13) (list_all is_ascii_digit text) h in
    record { some = below 0 (length text) parts.0; few = within (length text) 13 parts.1; all = parts.2 }

-- a short number is parsed
pub parsed : {E : Type 0} → (text : List ℕ) (r : Result ℕ E) → ParsesUnsigned 64 10 text r → is_short_number text ≡ true → r ≡ Ok (digits_value 10 text)
parsed text r h is =
    let s = short text is in
    parse_gives digits 64 text r h s.all s.some (omega (arith, digits_value_short digits text 13 s.all s.few))

chosen : (a : Bool) (n : ℕ) → a ≡ true → cond (a && nat_le n most_budget) (Some n) None ≡ cond (nat_le n most_budget) (Some n) None
chosen a n h = ap (λ x. cond (x && nat_le n most_budget) (Some n) None) h

small : (n : ℕ) → n ≤ most_budget → nat_le n most_budget ≡ true
small n h = grind (arith, nat_tests)

pub in_limit : (text : List ℕ) (n : ℕ) → is_short_number text ≡ true → digits_value 10 text ≡ n → n ≤ most_budget → Some n ≡ units_of text
in_limit text n is value h = sym (chosen (is_short_number text) (digits_value 10 text) is ∙ ap (λ v. cond (nat_le v most_budget) (Some v) None) value ∙ ap (λ x. cond x (Some n) None) (small n h))
