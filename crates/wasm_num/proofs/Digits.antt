-- The binary digits of a number, and what the bit operations do to them, in the words of std.
use Rattle.std.proofs.Common.{◌≡◌, ℕ, zero, suc, ◌+◌, ◌*◌, ◌/◌, ◌%◌, ◌^◌, ◌<◌, min, max, List, [], ◌∷◌, ◌++◌, length, take, drop, refl, sym, ap, ap₂, ◌∙◌, arith, zero-add, length-append}
use Rattle.std.proofs.Math.ListN.{replicate}
use Rattle.std.proofs.Math.Nat.{suc-add, add_comm, pow-suc, mod-eq_of_lt, mul-mod_left}
use Rattle.std.proofs.Math.Numerals.{one-add}
use Rattle.std.proofs.Math.Seq.{take-append_seam, drop-append_seam}
use Rattle.std.proofs.lemmas.Nat.{pow-add, shr-shr, mod-pow-add, shl-shr, shr_below, pow_pos, mod_below, and_block, or_block, xor_block}
use Rattle.std.proofs.lemmas.List.{length-replicate}
use Rattle.std.specs.Int.Bits.{bit_and, bit_or, bit_xor}
use Rattle.wasm_num.specs.Integers.{ibits, of_ibits, digitwise}

pub length-ibits : (n a : ℕ) → length (ibits n a) ≡ n
unfolding ibits
length-ibits zero a = refl
length-ibits (suc n) a = ap suc (length-ibits n a)

-- the digits of the high part, and then those of the low part
pub ibits-append : (k j a : ℕ) → ibits (k + j) a ≡ ibits k (a / 2 ^ j) ++ ibits j a
unfolding ibits
ibits-append zero j a = ap (λ n. ibits n a) (zero-add j)
ibits-append (suc k) j a =
    let digit : a / 2 ^ (k + j) % 2 ≡ a / 2 ^ j / 2 ^ k % 2 = ap (λ x. x % 2) (ap (λ n. a / 2 ^ n) (add_comm k j) ∙ sym (shr-shr a j k)) in
    ap (λ n. ibits n a) (suc-add k j) ∙ ap₂ (λ (d : ℕ) (ds : List ℕ). d ∷ ds) digit (ibits-append k j a)

pub of_ibits-append : (xs ys : List ℕ) → of_ibits (xs ++ ys) ≡ of_ibits xs * 2 ^ length ys + of_ibits ys
unfolding of_ibits
of_ibits-append [] ys = omega arith
of_ibits-append (x ∷ xs) ys =
    let len : 2 ^ length (xs ++ ys) ≡ 2 ^ length xs * 2 ^ length ys = ap (λ n. 2 ^ n) (length-append xs ys) ∙ pow-add 2 (length xs) (length ys) in
    let rest = of_ibits-append xs ys in
    rw (len, rest) (omega arith)

-- one digit more
pub mod-suc : (n a : ℕ) → a % 2 ^ suc n ≡ (a / 2 ^ n % 2) * 2 ^ n + a % 2 ^ n
mod-suc n a = ap (λ m. a % 2 ^ m) (sym (one-add n)) ∙ mod-pow-add a 1 n

pub of_ibits-ibits : (n a : ℕ) → of_ibits (ibits n a) ≡ a % 2 ^ n
unfolding ibits of_ibits
of_ibits-ibits zero a = omega arith
of_ibits-ibits (suc n) a =
    let len = length-ibits n a in
    let rest = of_ibits-ibits n a in
    rw (len, rest) (sym (mod-suc n a))

pub of_ibits-replicate : (k d : ℕ) → of_ibits (replicate k d) + d ≡ d * 2 ^ k
unfolding of_ibits
of_ibits-replicate zero d = omega arith
of_ibits-replicate (suc k) d =
    let len : 2 ^ length (replicate k d) ≡ 2 ^ k = ap (λ n. 2 ^ n) (length-replicate k d) in
    let rest = of_ibits-replicate k d in
    let twice : 2 ^ suc k ≡ 2 ^ k * 2 = pow-suc 2 k in
    rw (len, twice) (omega arith)

pub take-ibits : (k j a : ℕ) → take k (ibits (k + j) a) ≡ ibits k (a / 2 ^ j)
take-ibits k j a =
    ap (take k) (ibits-append k j a)
    ∙ ap (λ n. take n (ibits k (a / 2 ^ j) ++ ibits j a)) (sym (length-ibits k (a / 2 ^ j)))
    ∙ take-append_seam (ibits k (a / 2 ^ j)) (ibits j a)

pub drop-ibits : (k j a : ℕ) → drop k (ibits (k + j) a) ≡ ibits j a
drop-ibits k j a =
    ap (drop k) (ibits-append k j a)
    ∙ ap (λ n. drop n (ibits k (a / 2 ^ j) ++ ibits j a)) (sym (length-ibits k (a / 2 ^ j)))
    ∙ drop-append_seam (ibits k (a / 2 ^ j)) (ibits j a)

-- ---- shifts and rotations by k of a number of j + k or k + j digits

pub shift_left : (k j a : ℕ) → of_ibits (drop k (ibits (k + j) a) ++ replicate k 0) ≡ a * 2 ^ k % 2 ^ (k + j)
shift_left k j a =
    let whole : a * 2 ^ k % 2 ^ (k + j) ≡ (a * 2 ^ k / 2 ^ k % 2 ^ j) * 2 ^ k + a * 2 ^ k % 2 ^ k =
    ap (λ n. a * 2 ^ k % 2 ^ n) (add_comm k j) ∙ mod-pow-add (a * 2 ^ k) j k in
    let high : a * 2 ^ k / 2 ^ k ≡ a = shl-shr a k in
    let low : a * 2 ^ k % 2 ^ k ≡ 0 = mul-mod_left a (2 ^ k) in
    let zeros : of_ibits (replicate k 0) ≡ 0 = omega (arith, of_ibits-replicate k 0) in
    let len : 2 ^ length {A = ℕ} (replicate k 0) ≡ 2 ^ k = ap (λ n. 2 ^ n) (length-replicate {A = ℕ} k 0) in
    rw (drop-ibits k j a, of_ibits-append (ibits j a) (replicate k 0), of_ibits-ibits j a, zeros, len, whole, high, low) refl

-- j digits that come from a number below 2 ^ (j + k), behind k equal digits
pub shift_right : (k j a d : ℕ) → a < 2 ^ (j + k) → of_ibits (replicate k d ++ take j (ibits (j + k) a)) + d * 2 ^ j ≡ d * 2 ^ (k + j) + a / 2 ^ k
shift_right k j a d h =
    let part : a / 2 ^ k % 2 ^ j ≡ a / 2 ^ k = mod-eq_of_lt (shr_below a j k h) in
    let copies = of_ibits-replicate k d in
    let len : 2 ^ length (ibits j (a / 2 ^ k)) ≡ 2 ^ j = ap (λ n. 2 ^ n) (length-ibits j (a / 2 ^ k)) in
    let both : 2 ^ (k + j) ≡ 2 ^ k * 2 ^ j = pow-add 2 k j in
    let scaled : (of_ibits (replicate k d) + d) * 2 ^ j ≡ d * 2 ^ k * 2 ^ j = ap (λ x. x * 2 ^ j) copies in
    rw (take-ibits j k a, of_ibits-append (replicate k d) (ibits j (a / 2 ^ k)), of_ibits-ibits j (a / 2 ^ k), part, len, both) (omega arith)

-- the first k digits go behind the other j
pub rotation : (k j a : ℕ) → a < 2 ^ (k + j) → of_ibits (drop k (ibits (k + j) a) ++ take k (ibits (k + j) a)) ≡ (a % 2 ^ j) * 2 ^ k + a / 2 ^ j
rotation k j a h =
    let part : a / 2 ^ j % 2 ^ k ≡ a / 2 ^ j = mod-eq_of_lt (shr_below a k j h) in
    let len : 2 ^ length (ibits k (a / 2 ^ j)) ≡ 2 ^ k = ap (λ n. 2 ^ n) (length-ibits k (a / 2 ^ j)) in
    rw (drop-ibits k j a, take-ibits k j a, of_ibits-append (ibits j a) (ibits k (a / 2 ^ j)), of_ibits-ibits j a, of_ibits-ibits k (a / 2 ^ j), part, len) refl

-- ---- operations on each pair of digits

pub digit_cases : (P : ℕ → Type 0) (d : ℕ) → d < 2 → P 0 → P 1 → P d
digit_cases P zero h zero_case one_case = zero_case
digit_cases P (suc zero) h zero_case one_case = one_case
digit_cases P (suc (suc d)) h zero_case one_case = absurd (omega arith)

pub length-digitwise : (f : ℕ → ℕ → ℕ) (n a b : ℕ) → length (digitwise f (ibits n a) (ibits n b)) ≡ n
unfolding ibits digitwise
length-digitwise f zero a b = refl
length-digitwise f (suc n) a b = ap suc (length-digitwise f n a b)

-- an operation on numbers that works on blocks of digits apart, and gives f of two digits
module _ (f op : ℕ → ℕ → ℕ) (none : op 0 0 ≡ 0) (single : (d e : ℕ) → d < 2 → e < 2 → op d e ≡ f d e)
    (block : (k a b r s : ℕ) → r < 2 ^ k → s < 2 ^ k → op (a * 2 ^ k + r) (b * 2 ^ k + s) ≡ op a b * 2 ^ k + op r s) where
  pub digitwise_is : (n a b : ℕ) → of_ibits (digitwise f (ibits n a) (ibits n b)) ≡ op (a % 2 ^ n) (b % 2 ^ n)
  unfolding ibits of_ibits digitwise
  digitwise_is zero a b =
      let left : a % 1 ≡ 0 = omega arith in
      let right : b % 1 ≡ 0 = omega arith in
      rw (left, right, none) refl
  digitwise_is (suc n) a b =
      let len : 2 ^ length (digitwise f (ibits n a) (ibits n b)) ≡ 2 ^ n = ap (λ m. 2 ^ m) (length-digitwise f n a b) in
      let rest = digitwise_is n a b in
      let digit : op (a / 2 ^ n % 2) (b / 2 ^ n % 2) ≡ f (a / 2 ^ n % 2) (b / 2 ^ n % 2) = single (a / 2 ^ n % 2) (b / 2 ^ n % 2) (omega arith) (omega arith) in
      let whole = block n (a / 2 ^ n % 2) (b / 2 ^ n % 2) (a % 2 ^ n) (b % 2 ^ n) (mod_below a (2 ^ n) (pow_pos n)) (mod_below b (2 ^ n) (pow_pos n)) in
      rw (len, rest, mod-suc n a, mod-suc n b, whole, digit) refl

and_digits : (d e : ℕ) → d < 2 → e < 2 → bit_and d e ≡ min d e
and_digits d e h g =
    digit_cases (λ x. bit_and x e ≡ min x e) d h
    (digit_cases (λ y. bit_and 0 y ≡ min 0 y) e g refl refl) (digit_cases (λ y. bit_and 1 y ≡ min 1 y) e g refl refl)

or_digits : (d e : ℕ) → d < 2 → e < 2 → bit_or d e ≡ max d e
or_digits d e h g =
    digit_cases (λ x. bit_or x e ≡ max x e) d h
    (digit_cases (λ y. bit_or 0 y ≡ max 0 y) e g refl refl) (digit_cases (λ y. bit_or 1 y ≡ max 1 y) e g refl refl)

xor_digits : (d e : ℕ) → d < 2 → e < 2 → bit_xor d e ≡ (d + e) % 2
xor_digits d e h g =
    digit_cases (λ x. bit_xor x e ≡ (x + e) % 2) d h
    (digit_cases (λ y. bit_xor 0 y ≡ (0 + y) % 2) e g refl refl) (digit_cases (λ y. bit_xor 1 y ≡ (1 + y) % 2) e g refl refl)

pub and_is : (n a b : ℕ) → a < 2 ^ n → b < 2 ^ n → of_ibits (digitwise min (ibits n a) (ibits n b)) ≡ bit_and a b
and_is n a b h g = digitwise_is min bit_and refl and_digits and_block n a b ∙ ap₂ bit_and (mod-eq_of_lt h) (mod-eq_of_lt g)

pub or_is : (n a b : ℕ) → a < 2 ^ n → b < 2 ^ n → of_ibits (digitwise max (ibits n a) (ibits n b)) ≡ bit_or a b
or_is n a b h g = digitwise_is max bit_or refl or_digits or_block n a b ∙ ap₂ bit_or (mod-eq_of_lt h) (mod-eq_of_lt g)

pub xor_is : (n a b : ℕ) → a < 2 ^ n → b < 2 ^ n → of_ibits (digitwise (λ d e. (d + e) % 2) (ibits n a) (ibits n b)) ≡ bit_xor a b
xor_is n a b h g = digitwise_is (λ d e. (d + e) % 2) bit_xor refl xor_digits xor_block n a b ∙ ap₂ bit_xor (mod-eq_of_lt h) (mod-eq_of_lt g)
