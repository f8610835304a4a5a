-- The laws of the integer operations.
use Rattle.std.proofs.Common.{◌≡◌, ℕ, zero, suc, ◌+◌, ◌-◌, ◌*◌, ◌/◌, ◌%◌, ◌^◌, ◌<◌, ◌≤◌, Bool, true, false, cond, eqb, refl, sym, ap, ap₂, ◌∙◌, subst, arith, inl, inr, Result, Ok, Err, ℤ, pos, negsuc, neg_ℤ, ◌-ℤ◌, ◌*ℤ◌, int_div, int_rem}
use Rattle.std.proofs.Math.Nat.{mod-eq_of_lt, pow-suc, add-mul-mod_self_right, le_trans, div-le_self, mod-le}
use Rattle.std.proofs.lemmas.Bool.{lt-ltb, le-ltb, cases_lt}
use Rattle.std.proofs.lemmas.Int.{ints}
use Rattle.std.proofs.lemmas.Nat.{pow_pos, pow-add, mod_low, shr_high, shr_below, shr_split, mod_below, mul-add-lt, ones_cat, xor_block, xor_lt, div-add-mod'}
use Rattle.std.specs.Int.{int_shr}
use Rattle.std.specs.Int.Bits.{bit_xor}
use Rattle.std.specs.Int.Count.{ones, ones-ones}
use Rattle.wasm_syntax.specs.declared.trap.Trap.{Trap}
use Rattle.wasm_syntax.specs.declared.trap.Trap.TheVariants.{DivideByZero, Overflow}
use Rattle.wasm_num.specs.Integers.{signed, unsigned, irotl, irotr, ipopcnt, ixor, iadd, imul}
use Rattle.wasm_num.specs.Laws.{UnsignedQuotientTimesDivisor, SignedQuotientTimesDivisor, LeftThenRight, RightThenLeft, SignedExtensionThenWrap, UnsignedExtensionThenWrap, OnesAndZeros, DigitsTellNumber, ReadingTellsNumber, LeftShiftMultiplies, UnsignedShiftDivides, SignedShiftDivides}
use Rattle.wasm_num.proofs.Counts.{set_digits}
use Rattle.wasm_num.proofs.Digits.{of_ibits-ibits, xor_is, digit_cases, mod-suc}
use Rattle.wasm_num.proofs.Readings.{signed_is}
use Rattle.wasm_num.proofs.Shifts.{rotated_is, ishl_is, ishr_u_is, ishr_s_is}
use Rattle.wasm_num.proofs.Signed.{rem_by_quotient}

-- ---- readings

pub digits_tell_number : DigitsTellNumber
digits_tell_number N a h = of_ibits-ibits N a ∙ mod-eq_of_lt h

pub reading_tells_number : ReadingTellsNumber
reading_tells_number N a h =
    let reading = signed_is N a h in
    elim (cases_lt a (2 ^ (N - 1))) [
      | inl small ↦ let test = lt-ltb a (2 ^ (N - 1)) small in rw (reading, test) refl
      | inr large ↦ let test = le-ltb a (2 ^ (N - 1)) large in rw (reading, test) (omega arith)
    ]

-- ---- shifts

pub left_shift_multiplies : LeftShiftMultiplies
left_shift_multiplies N a k h = ishl_is N a k (omega arith) ∙ ap (λ n. a * 2 ^ n % 2 ^ N) (mod-eq_of_lt h)

pub unsigned_shift_divides : UnsignedShiftDivides
unsigned_shift_divides N a k h g = ishr_u_is N a k (omega arith) g ∙ ap (λ n. a / 2 ^ n) (mod-eq_of_lt h)

pub signed_shift_divides : SignedShiftDivides
signed_shift_divides N a k h g = ishr_s_is N a k (omega arith) g ∙ ap (λ n. unsigned N (int_shr (signed N a) n)) (mod-eq_of_lt h)

-- ---- rotations

-- a, with its j high digits and its k low ones in each other's place
turned : ℕ → ℕ → ℕ → ℕ
turned j k a = (a % 2 ^ j) * 2 ^ k + a / 2 ^ j

turned_below : (j k a : ℕ) → a < 2 ^ (k + j) → turned j k a < 2 ^ (k + j)
unfolding turned
turned_below j k a h =
    let both : 2 ^ (k + j) ≡ 2 ^ k * 2 ^ j = pow-add 2 k j in
    rw both (mul-add-lt (a % 2 ^ j) (2 ^ k) (a / 2 ^ j) (2 ^ j) (mod_below a (2 ^ j) (pow_pos j)) (shr_below a k j h))

turned_back : (j k a : ℕ) → a < 2 ^ (k + j) → turned k j (turned j k a) ≡ a
unfolding turned
turned_back j k a h =
    let part : a / 2 ^ j < 2 ^ k = shr_below a k j h in
    rw (mod_low (a % 2 ^ j) k (a / 2 ^ j) part, shr_high (a % 2 ^ j) k (a / 2 ^ j) part) (shr_split a j)

-- rotations to the left by k and then by the other digits
there_and_back : (N k a : ℕ) → k ≤ N → a < 2 ^ N → turned k (N - k) (turned (N - k) k a) ≡ a
there_and_back N k a h g =
    let whole : N ≡ k + (N - k) = omega arith in
    let below : a < 2 ^ (k + (N - k)) = let P : ℕ → Type 0 = λ n. a < 2 ^ n in subst P whole g in
    turned_back (N - k) k a below

there_below : (N k a : ℕ) → k ≤ N → a < 2 ^ N → turned (N - k) k a < 2 ^ N
there_below N k a h g =
    let whole : k + (N - k) ≡ N = omega arith in
    let P : ℕ → Type 0 = λ n. a < 2 ^ n → turned (N - k) k a < 2 ^ n in
    subst P whole (turned_below (N - k) k a) g

pub left_then_right : LeftThenRight
unfolding turned
left_then_right N a k p h =
    let count : k % N < N = mod_below k N p in
    let back : N - (N - k % N) ≡ k % N = omega arith in
    let left : irotl N a k ≡ turned (N - k % N) (k % N) a = rotated_is N (k % N) a (omega arith) h in
    let below : turned (N - k % N) (k % N) a < 2 ^ N = there_below N (k % N) a (omega arith) h in
    let right : irotr N (turned (N - k % N) (k % N) a) k ≡ turned (N - (N - k % N)) (N - k % N) (turned (N - k % N) (k % N) a) =
    rotated_is N (N - k % N) (turned (N - k % N) (k % N) a) (omega arith) below in
    ap (λ x. irotr N x k) left ∙ right ∙ ap (λ m. turned m (N - k % N) (turned (N - k % N) (k % N) a)) back ∙ there_and_back N (k % N) a (omega arith) h

pub right_then_left : RightThenLeft
unfolding turned
right_then_left N a k p h =
    let count : k % N < N = mod_below k N p in
    let back : N - (N - k % N) ≡ k % N = omega arith in
    let right : irotr N a k ≡ turned (N - (N - k % N)) (N - k % N) a = rotated_is N (N - k % N) a (omega arith) h in
    let below : turned (N - (N - k % N)) (N - k % N) a < 2 ^ N = there_below N (N - k % N) a (omega arith) h in
    let left : irotl N (turned (N - (N - k % N)) (N - k % N) a) k ≡ turned (N - k % N) (k % N) (turned (N - (N - k % N)) (N - k % N) a) =
    rotated_is N (k % N) (turned (N - (N - k % N)) (N - k % N) a) (omega arith) below in
    let home : turned (N - k % N) (N - (N - k % N)) (turned (N - (N - k % N)) (N - k % N) a) ≡ a = there_and_back N (N - k % N) a (omega arith) h in
    ap (λ x. irotl N x k) right ∙ left ∙ ap (λ m. turned (N - k % N) m (turned (N - (N - k % N)) (N - k % N) a)) (sym back) ∙ home

-- ---- extensions

pub unsigned_extension_then_wrap : UnsignedExtensionThenWrap
unsigned_extension_then_wrap M N a h g = mod-eq_of_lt g

pub signed_extension_then_wrap : SignedExtensionThenWrap
signed_extension_then_wrap M N a h g =
    let reading = signed_is M a g in
    elim (cases_lt a (2 ^ (M - 1))) [
      | inl small ↦ let test = lt-ltb a (2 ^ (M - 1)) small in rw (reading, test) (mod-eq_of_lt g)
      | inr large ↦
          let test = le-ltb a (2 ^ (M - 1)) large in
          let whole : N ≡ N - M + M = omega arith in
          let both : 2 ^ N ≡ 2 ^ (N - M) * 2 ^ M = ap (λ n. 2 ^ n) whole ∙ pow-add 2 (N - M) M in
          let positive = pow_pos (N - M) in
          let rest : 2 ^ (N - M) - 1 + 1 ≡ 2 ^ (N - M) = omega arith in
          let scaled : (2 ^ (N - M) - 1 + 1) * 2 ^ M ≡ 2 ^ (N - M) * 2 ^ M = ap (λ x. x * 2 ^ M) rest in
          let value : 2 ^ N - suc (2 ^ M - suc a) ≡ (2 ^ (N - M) - 1) * 2 ^ M + a = omega arith in
          rw (reading, test, value) (mod_low (2 ^ (N - M) - 1) M a g)
    ]

-- ---- ones and zeros

two_digits : (d : ℕ) → d < 2 → ones d + ones (bit_xor d 1) ≡ 1
two_digits d h = digit_cases (λ x. ones x + ones (bit_xor x 1) ≡ 1) d h
    (ap₂ (λ (x y : ℕ). x + y) (ones-ones 0) (ones-ones 1)) (ap₂ (λ (x y : ℕ). x + y) (ones-ones 1) (ones-ones 0))

complement_ones : (N a : ℕ) → a < 2 ^ N → ones a + ones (bit_xor a (2 ^ N - 1)) ≡ N
complement_ones zero a h =
    let none : a ≡ 0 = omega arith in
    rw none (ap₂ (λ (x y : ℕ). x + y) (ones-ones 0) (ones-ones 0))
complement_ones (suc N) a h =
    let positive = pow_pos N in
    let low : a % 2 ^ N < 2 ^ N = mod_below a (2 ^ N) positive in
    let digit : a / 2 ^ N % 2 < 2 = omega arith in
    let parts : a ≡ (a / 2 ^ N % 2) * 2 ^ N + a % 2 ^ N = sym (mod-eq_of_lt h) ∙ mod-suc N a in
    let twice : 2 ^ suc N ≡ 2 ^ N * 2 = pow-suc 2 N in
    let all : 2 ^ suc N - 1 ≡ 1 * 2 ^ N + (2 ^ N - 1) = omega arith in
    let crossed : bit_xor a (2 ^ suc N - 1) ≡ bit_xor (a / 2 ^ N % 2) 1 * 2 ^ N + bit_xor (a % 2 ^ N) (2 ^ N - 1) =
    ap₂ bit_xor parts all ∙ xor_block N (a / 2 ^ N % 2) 1 (a % 2 ^ N) (2 ^ N - 1) low (omega arith) in
    let left : ones a ≡ ones (a / 2 ^ N % 2) + ones (a % 2 ^ N) = ap ones parts ∙ ones_cat N (a / 2 ^ N % 2) (a % 2 ^ N) low in
    let right : ones (bit_xor a (2 ^ suc N - 1)) ≡ ones (bit_xor (a / 2 ^ N % 2) 1) + ones (bit_xor (a % 2 ^ N) (2 ^ N - 1)) =
    ap ones crossed ∙ ones_cat N (bit_xor (a / 2 ^ N % 2) 1) (bit_xor (a % 2 ^ N) (2 ^ N - 1)) (xor_lt N (a % 2 ^ N) (2 ^ N - 1) low (omega arith)) in
    let one = two_digits (a / 2 ^ N % 2) digit in
    let rest = complement_ones N (a % 2 ^ N) low in
    omega arith

pub ones_and_zeros_add_up : OnesAndZeros
ones_and_zeros_add_up N a h =
    let positive = pow_pos N in
    let all : 2 ^ N - 1 < 2 ^ N = omega arith in
    let within = xor_lt N a (2 ^ N - 1) h all in
    let left : ipopcnt N a ≡ ones a = set_digits N a ∙ ap ones (mod-eq_of_lt h) in
    let right : ipopcnt N (ixor N a (2 ^ N - 1)) ≡ ones (bit_xor a (2 ^ N - 1)) =
    ap (ipopcnt N) (xor_is N a (2 ^ N - 1) h all) ∙ set_digits N (bit_xor a (2 ^ N - 1)) ∙ ap ones (mod-eq_of_lt within) in
    ap₂ (λ (x y : ℕ). x + y) left right ∙ complement_ones N a h

-- ---- quotients and remainders

-- a sum that is a and a multiple of M more
sum_is : (M s a k l : ℕ) → s + k * M ≡ a + l * M → a < M → s % M ≡ a
sum_is M s a k l e h = sym (add-mul-mod_self_right s k M) ∙ ap (λ n. n % M) e ∙ add-mul-mod_self_right a l M ∙ mod-eq_of_lt h

-- the sum of a product and a remainder, modulo M once
once : (M q b r : ℕ) → (q * b % M + r) % M ≡ (q * b + r) % M
once M q b r =
    let whole : q * b / M * M + q * b % M ≡ q * b = div-add-mod' (q * b) M in
    sym (add-mul-mod_self_right (q * b % M + r) (q * b / M) M) ∙ ap (λ n. n % M) (omega arith)

law_from : (N a b q r k l : ℕ) → q * b + r + k * 2 ^ N ≡ a + l * 2 ^ N → a < 2 ^ N → iadd N (imul N q b) r ≡ a
law_from N a b q r k l e h = once (2 ^ N) q b r ∙ sum_is (2 ^ N) (q * b + r) a k l e h

after_zero_test : (x : Bool) (u q : ℕ) → ◌≡◌ {A = Result ℕ Trap} (cond x (Err DivideByZero) (Ok u)) (Ok q) → u ≡ q
after_zero_test true u q e = absurd (cc)
after_zero_test false u q e = cc

after_both_tests : (x y : Bool) (u q : ℕ) → ◌≡◌ {A = Result ℕ Trap} (cond x (Err DivideByZero) (cond y (Err Overflow) (Ok u))) (Ok q) → u ≡ q
after_both_tests true y u q e = absurd (cc)
after_both_tests false true u q e = absurd (cc)
after_both_tests false false u q e = cc

pub unsigned_quotient_times_divisor : UnsignedQuotientTimesDivisor
unsigned_quotient_times_divisor N a b q r h g eq er =
    let quotient : a / b ≡ q = after_zero_test (eqb b 0) (a / b) q eq in
    let remainder : a - b * (a / b) ≡ r = after_zero_test (eqb b 0) (a - b * (a / b)) r er in
    let parts : a / b * b + a % b ≡ a = div-add-mod' a b in
    let product : q * b ≡ a / b * b = ap (λ x. x * b) (sym quotient) in
    law_from N a b q r 0 0 (omega arith) h

-- v below zero, as a number of width N
negated : (N v : ℕ) → v ≤ 2 ^ N → (e : ℕ) × (unsigned N (neg_ℤ (pos v)) + v ≡ e * 2 ^ N)
negated N zero h = (0, omega arith)
negated N (suc v) h = (1, omega arith)

read_positive : (N a i : ℕ) → a < 2 ^ N → signed N a ≡ pos i → a ≡ i
read_positive N a i h e =
    elim (cases_lt a (2 ^ (N - 1))) [
      | inl small ↦
          let test = lt-ltb a (2 ^ (N - 1)) small in
          let g = rw test at e in
          omega (arith, ints)
      | inr large ↦
          let test = le-ltb a (2 ^ (N - 1)) large in
          let g = rw test at e in
          absurd (omega (arith, ints))
    ]

read_negative : (N a i : ℕ) → a < 2 ^ N → signed N a ≡ negsuc i → a + suc i ≡ 2 ^ N
read_negative N a i h e =
    elim (cases_lt a (2 ^ (N - 1))) [
      | inl small ↦
          let test = lt-ltb a (2 ^ (N - 1)) small in
          let g = rw test at e in
          absurd (omega (arith, ints))
      | inr large ↦
          let test = le-ltb a (2 ^ (N - 1)) large in
          let g = rw test at e in
          omega (arith, ints)
    ]

-- the readings of a and b, and of the quotient and the remainder
signed_law : (N a b : ℕ) (i j : ℤ) → a < 2 ^ N → b < 2 ^ N → signed N a ≡ i → signed N b ≡ j
    → iadd N (imul N (unsigned N (int_div i j)) b) (unsigned N (int_rem i j)) ≡ a
signed_law N a b (pos i) (pos j) h g ei ej =
    let left = read_positive N a i h ei in
    let right = read_positive N b j g ej in
    let parts : i / j * j + i % j ≡ i = div-add-mod' i j in
    let product : i / j * b ≡ i / j * j = ap (λ x. i / j * x) right in
    law_from N a b (i / j) (i % j) 0 0 (omega arith) h
signed_law N a b (negsuc i) (pos j) h g ei ej =
    let left : a + suc i ≡ 2 ^ N = read_negative N a i h ei in
    let right = read_positive N b j g ej in
    let parts : suc i / j * j + suc i % j ≡ suc i = div-add-mod' (suc i) j in
    let quotient = negated N (suc i / j) (le_trans (div-le_self (suc i) j) (omega arith)) in
    let remainder = negated N (suc i % j) (le_trans (mod-le (suc i) j) (omega arith)) in
    let value : (unsigned N (neg_ℤ (pos (suc i / j))) + suc i / j) * j ≡ quotient.0 * 2 ^ N * j = ap (λ x. x * j) quotient.1 in
    let product : unsigned N (neg_ℤ (pos (suc i / j))) * b ≡ unsigned N (neg_ℤ (pos (suc i / j))) * j = ap (λ x. unsigned N (neg_ℤ (pos (suc i / j))) * x) right in
    law_from N a b (unsigned N (neg_ℤ (pos (suc i / j)))) (unsigned N (neg_ℤ (pos (suc i % j)))) 1 (quotient.0 * j + remainder.0)
    (omega (arith, remainder.1)) h
signed_law N a b (pos i) (negsuc j) h g ei ej =
    let left = read_positive N a i h ei in
    let right : b + suc j ≡ 2 ^ N = read_negative N b j g ej in
    let parts : i / suc j * suc j + i % suc j ≡ i = div-add-mod' i (suc j) in
    let quotient = negated N (i / suc j) (le_trans (div-le_self i (suc j)) (omega arith)) in
    let value : (unsigned N (neg_ℤ (pos (i / suc j))) + i / suc j) * suc j ≡ quotient.0 * 2 ^ N * suc j = ap (λ x. x * suc j) quotient.1 in
    let product : unsigned N (neg_ℤ (pos (i / suc j))) * (b + suc j) ≡ unsigned N (neg_ℤ (pos (i / suc j))) * 2 ^ N =
    ap (λ x. unsigned N (neg_ℤ (pos (i / suc j))) * x) right in
    law_from N a b (unsigned N (neg_ℤ (pos (i / suc j)))) (i % suc j) (quotient.0 * suc j) (unsigned N (neg_ℤ (pos (i / suc j)))) (omega arith) h
signed_law N a b (negsuc i) (negsuc j) h g ei ej =
    let left : a + suc i ≡ 2 ^ N = read_negative N a i h ei in
    let right : b + suc j ≡ 2 ^ N = read_negative N b j g ej in
    let parts : suc i / suc j * suc j + suc i % suc j ≡ suc i = div-add-mod' (suc i) (suc j) in
    let remainder = negated N (suc i % suc j) (le_trans (mod-le (suc i) (suc j)) (omega arith)) in
    let product : suc i / suc j * (b + suc j) ≡ suc i / suc j * 2 ^ N = ap (λ x. suc i / suc j * x) right in
    law_from N a b (suc i / suc j) (unsigned N (neg_ℤ (pos (suc i % suc j)))) 1 (suc i / suc j + remainder.0) (omega (arith, remainder.1)) h

pub signed_quotient_times_divisor : SignedQuotientTimesDivisor
signed_quotient_times_divisor N a b q r p h g eq er =
    let quotient : unsigned N (int_div (signed N a) (signed N b)) ≡ q = after_both_tests (eqb b 0) _ _ q eq in
    let remainder : unsigned N (signed N a -ℤ signed N b *ℤ int_div (signed N a) (signed N b)) ≡ r = after_zero_test (eqb b 0) _ r er in
    let same : unsigned N (int_rem (signed N a) (signed N b)) ≡ r = ap (unsigned N) (rem_by_quotient (signed N a) (signed N b)) ∙ remainder in
    ap₂ (λ (x y : ℕ). iadd N (imul N x b) y) (sym quotient) (sym same) ∙ signed_law N a b (signed N a) (signed N b) h g refl refl
