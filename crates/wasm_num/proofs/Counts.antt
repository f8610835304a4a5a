-- The counts of digits, in the words of std.
use Rattle.std.proofs.Common.{◌≡◌, ℕ, zero, suc, ◌+◌, ◌*◌, ◌/◌, ◌%◌, ◌^◌, ◌<◌, ◌≤◌, cond, eqb, [], ◌∷◌, ◌++◌, refl, sym, ap, ap₂, ◌∙◌, arith, inl, inr}
use Rattle.std.proofs.Math.Nat.{pow-suc, div-eq_of_lt}
use Rattle.std.proofs.Math.Numerals.{add-one, one-add}
use Rattle.std.proofs.lemmas.Bool.{cases_lt}
use Rattle.std.proofs.lemmas.List.{reverse-append}
use Rattle.std.proofs.lemmas.List.Sums.{sum_by-cons}
use Rattle.std.proofs.lemmas.Nat.{pow_pos, mod_below, ones_cat, le-div, div_below}
use Rattle.std.specs.Int.Count.{ones, ones-ones, leading_unique, count_leading_zeros, count_trailing_zeros, under}
use Rattle.std.specs.List.{prefix_len, suffix_len, count_by}
use Rattle.wasm_num.specs.Integers.{ibits}
use Rattle.wasm_num.proofs.Digits.{ibits-append, mod-suc, digit_cases}

digit_ones : (d : ℕ) → d < 2 → cond (eqb d 1) 1 0 ≡ ones d
digit_ones d h = digit_cases (λ x. cond (eqb x 1) 1 0 ≡ ones x) d h (sym (ones-ones 0)) (sym (ones-ones 1))

pub set_digits : (n a : ℕ) → count_by (λ d. eqb d 1) (ibits n a) ≡ ones (a % 2 ^ n)
unfolding ibits
set_digits zero a =
    let none : a % 1 ≡ 0 = omega arith in
    rw none (sym (ones-ones 0))
set_digits (suc n) a =
    sum_by-cons (λ d. cond (eqb d 1) 1 0) (a / 2 ^ n % 2) (ibits n a)
    ∙ ap₂ (λ (x y : ℕ). x + y) (digit_ones (a / 2 ^ n % 2) (omega arith)) (set_digits n a)
    ∙ sym (ones_cat n (a / 2 ^ n % 2) (a % 2 ^ n) (mod_below a (2 ^ n) (pow_pos n)))
    ∙ ap ones (sym (mod-suc n a))

-- the zeros in front, and the number's length m behind them
leading_length : (k a : ℕ) → a < 2 ^ k → (m : ℕ) × (prefix_len (λ d. eqb d 0) (ibits k a) + m ≡ k) × (a < 2 ^ m) × (2 ^ m ≤ 2 * a + 1)
unfolding ibits
leading_length zero a h = (0, refl, h, omega arith)
leading_length (suc k) a h =
    elim (cases_lt a (2 ^ k)) [
      | inl small ↦
          let rest = leading_length k a small in
          let digit : a / 2 ^ k ≡ 0 = div-eq_of_lt small in
          (rest.0, rw digit (omega (arith, rest.1)), rest.2, rest.3)
      | inr large ↦
          let twice : 2 ^ suc k ≡ 2 ^ k * 2 = pow-suc 2 k in
          let positive = pow_pos k in
          let low : 1 ≤ a / 2 ^ k = le-div 1 a (2 ^ k) positive (omega arith) in
          let high : a / 2 ^ k < 2 = div_below a (2 ^ k) 2 positive (omega arith) in
          let digit : a / 2 ^ k ≡ 1 = omega arith in
          (suc k, rw digit (omega arith), h, omega arith)
    ]

pub leading : (k a : ℕ) → a < 2 ^ k → prefix_len (λ d. eqb d 0) (ibits k a) ≡ count_leading_zeros k a
leading k a h =
    let found = leading_length k a h in
    leading_unique k a (prefix_len (λ d. eqb d 0) (ibits k a)) found.0 found.1 found.2 found.3

-- the last digit, behind the others
ibits_last : (k a : ℕ) → ibits (suc k) a ≡ ibits k (a / 2) ++ (a % 2) ∷ []
unfolding ibits
ibits_last k a =
    let last : a / 1 % 2 ≡ a % 2 = omega arith in
    ap (λ n. ibits n a) (sym (add-one k)) ∙ ibits-append k 1 a ∙ ap (λ x. ibits k (a / 2) ++ x ∷ []) last

pub trailing : (k a : ℕ) → suffix_len (λ d. eqb d 0) (ibits k a) ≡ count_trailing_zeros k a
unfolding ibits count_trailing_zeros
trailing zero a = refl
trailing (suc k) a =
    let rest = trailing k (a / 2) in
    ap (suffix_len (λ d. eqb d 0)) (ibits_last k a)
    ∙ ap (prefix_len (λ d. eqb d 0)) (reverse-append (ibits k (a / 2)) ((a % 2) ∷ []))
    ∙ digit_cases (λ d. cond (eqb d 0) (1 + suffix_len (λ d. eqb d 0) (ibits k (a / 2))) 0 ≡ under d (count_trailing_zeros k (a / 2)))
    (a % 2) (omega arith) (one-add _ ∙ ap suc rest) refl
