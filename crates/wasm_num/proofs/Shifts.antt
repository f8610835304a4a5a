-- Shifts and rotations by k of a number of width N, in the words of std.
use Rattle.std.proofs.Common.{◌≡◌, ℕ, zero, suc, ◌+◌, ◌-◌, ◌*◌, ◌/◌, ◌%◌, ◌^◌, ◌<◌, ◌≤◌, ◌++◌, take, drop, sym, ap, ap₂, ◌∙◌, subst, arith, inl, inr}
use Rattle.std.proofs.Math.ListN.{replicate}
use Rattle.std.proofs.Math.Nat.{add_comm, mod-eq_of_lt, mul-mod_left, div-eq_of_lt, pow-suc, sub-zero, mod_self, mul-one, div-one}
use Rattle.std.proofs.lemmas.Bool.{cases_lt, lt-ltb, le-ltb}
use Rattle.std.proofs.lemmas.Nat.{pow_pos, pow-add, mod-pow-add, shl-shr, shr_below, shr_high, shr_split, mod_below, or_shifted, or_comm, le-div, div_below}
use Rattle.std.specs.Int.{int_shr}
use Rattle.std.specs.Int.Bits.{bit_or, or_self}
use Rattle.wasm_num.specs.Integers.{ibits, of_ibits, signed, unsigned, ishl, ishr_u, ishr_s, irotl, irotr}
use Rattle.wasm_num.proofs.Digits.{shift_left, shift_right, rotation}
use Rattle.wasm_num.proofs.Readings.{signed_is}

pub left_is : (N k a : ℕ) → k ≤ N → of_ibits (drop k (ibits N a) ++ replicate k 0) ≡ a * 2 ^ k % 2 ^ N
left_is N k a h =
    let whole : k + (N - k) ≡ N = omega arith in
    let P : ℕ → Type 0 = λ n. of_ibits (drop k (ibits n a) ++ replicate k 0) ≡ a * 2 ^ k % 2 ^ n in
    subst P whole (shift_left k (N - k) a)

right_by : (N k a d : ℕ) → k ≤ N → a < 2 ^ N → of_ibits (replicate k d ++ take (N - k) (ibits N a)) + d * 2 ^ (N - k) ≡ d * 2 ^ N + a / 2 ^ k
right_by N k a d h g =
    let whole : N - k + k ≡ N = omega arith in
    let turned : k + (N - k) ≡ N = omega arith in
    let P : ℕ → Type 0 = λ n. a < 2 ^ n → of_ibits (replicate k d ++ take (N - k) (ibits n a)) + d * 2 ^ (N - k) ≡ d * 2 ^ N + a / 2 ^ k in
    let Q : ℕ → Type 0 = λ n. a < 2 ^ (N - k + k) → of_ibits (replicate k d ++ take (N - k) (ibits (N - k + k) a)) + d * 2 ^ (N - k) ≡ d * 2 ^ n + a / 2 ^ k in
    subst P whole (subst Q turned (shift_right k (N - k) a d)) g

pub right_unsigned_is : (N k a : ℕ) → k ≤ N → a < 2 ^ N → of_ibits (replicate k 0 ++ take (N - k) (ibits N a)) ≡ a / 2 ^ k
right_unsigned_is N k a h g = omega (arith, right_by N k a 0 h g)

-- a shift of the digits turned round is a shift, turned round
complement_shift : (k j a : ℕ) → a < 2 ^ (j + k) → (2 ^ (j + k) - suc a) / 2 ^ k + suc (a / 2 ^ k) ≡ 2 ^ j
complement_shift k j a h =
    let both : 2 ^ (j + k) ≡ 2 ^ j * 2 ^ k = pow-add 2 j k in
    let parts : a / 2 ^ k * 2 ^ k + a % 2 ^ k ≡ a = shr_split a k in
    let low : a % 2 ^ k < 2 ^ k = mod_below a (2 ^ k) (pow_pos k) in
    let high : a / 2 ^ k < 2 ^ j = shr_below a j k h in
    let rest : 2 ^ j - suc (a / 2 ^ k) + suc (a / 2 ^ k) ≡ 2 ^ j = omega arith in
    let scaled : (2 ^ j - suc (a / 2 ^ k) + suc (a / 2 ^ k)) * 2 ^ k ≡ 2 ^ j * 2 ^ k = ap (λ x. x * 2 ^ k) rest in
    let split : 2 ^ (j + k) - suc a ≡ (2 ^ j - suc (a / 2 ^ k)) * 2 ^ k + (2 ^ k - suc (a % 2 ^ k)) = omega arith in
    let quotient : (2 ^ (j + k) - suc a) / 2 ^ k ≡ 2 ^ j - suc (a / 2 ^ k) =
    ap (λ x. x / 2 ^ k) split ∙ shr_high (2 ^ j - suc (a / 2 ^ k)) k (2 ^ k - suc (a % 2 ^ k)) (omega arith) in
    omega arith

negative_shift : (N k a : ℕ) → k ≤ N → a < 2 ^ N → (2 ^ N - suc a) / 2 ^ k + suc (a / 2 ^ k) ≡ 2 ^ (N - k)
negative_shift N k a h g =
    let whole : N - k + k ≡ N = omega arith in
    let P : ℕ → Type 0 = λ n. a < 2 ^ n → (2 ^ n - suc a) / 2 ^ k + suc (a / 2 ^ k) ≡ 2 ^ (N - k) in
    subst P whole (complement_shift k (N - k) a) g

pub right_signed_is : (N k a : ℕ) → 0 < N → k ≤ N → a < 2 ^ N → of_ibits (replicate k (a / 2 ^ (N - 1)) ++ take (N - k) (ibits N a)) ≡ unsigned N (int_shr (signed N a) k)
right_signed_is N k a p h g =
    let reading = signed_is N a g in
    elim (cases_lt a (2 ^ (N - 1))) [
      | inl small ↦
          let digit : a / 2 ^ (N - 1) ≡ 0 = div-eq_of_lt small in
          let test = lt-ltb a (2 ^ (N - 1)) small in
          rw (digit, reading, test) (right_unsigned_is N k a h g)
      | inr large ↦
          let positive = pow_pos (N - 1) in
          let one_more : N ≡ suc (N - 1) = omega arith in
          let twice : 2 ^ N ≡ 2 ^ (N - 1) * 2 = ap (λ n. 2 ^ n) one_more ∙ pow-suc 2 (N - 1) in
          let low : 1 ≤ a / 2 ^ (N - 1) = le-div 1 a (2 ^ (N - 1)) positive (omega arith) in
          let high : a / 2 ^ (N - 1) < 2 = div_below a (2 ^ (N - 1)) 2 positive (omega arith) in
          let digit : a / 2 ^ (N - 1) ≡ 1 = omega arith in
          let test = le-ltb a (2 ^ (N - 1)) large in
          let moved = right_by N k a 1 h g in
          let complement = negative_shift N k a h g in
          rw (digit, reading, test) (omega arith)
    ]

pub rotated_is : (N k a : ℕ) → k ≤ N → a < 2 ^ N → of_ibits (drop k (ibits N a) ++ take k (ibits N a)) ≡ (a % 2 ^ (N - k)) * 2 ^ k + a / 2 ^ (N - k)
rotated_is N k a h g =
    let whole : k + (N - k) ≡ N = omega arith in
    let P : ℕ → Type 0 = λ n. a < 2 ^ n → of_ibits (drop k (ibits n a) ++ take k (ibits n a)) ≡ (a % 2 ^ (N - k)) * 2 ^ k + a / 2 ^ (N - k) in
    subst P whole (rotation k (N - k) a) g

-- the two parts of a rotation by k of a number of k + j digits, joined by `|`
joined : (k j a : ℕ) → a < 2 ^ (k + j) → bit_or (a * 2 ^ k % 2 ^ (k + j)) (a / 2 ^ j) ≡ (a % 2 ^ j) * 2 ^ k + a / 2 ^ j
joined k j a h =
    let whole : a * 2 ^ k % 2 ^ (k + j) ≡ (a * 2 ^ k / 2 ^ k % 2 ^ j) * 2 ^ k + a * 2 ^ k % 2 ^ k =
    ap (λ n. a * 2 ^ k % 2 ^ n) (add_comm k j) ∙ mod-pow-add (a * 2 ^ k) j k in
    let high : a * 2 ^ k / 2 ^ k ≡ a = shl-shr a k in
    let low : a * 2 ^ k % 2 ^ k ≡ 0 = mul-mod_left a (2 ^ k) in
    let left : a * 2 ^ k % 2 ^ (k + j) ≡ (a % 2 ^ j) * 2 ^ k = whole ∙ ap₂ (λ (x y : ℕ). x % 2 ^ j * 2 ^ k + y) high low ∙ omega arith in
    rw left (or_shifted (a % 2 ^ j) k (a / 2 ^ j) (shr_below a k j h))

joined_is : (N k a : ℕ) → k ≤ N → a < 2 ^ N → bit_or (a * 2 ^ k % 2 ^ N) (a / 2 ^ (N - k)) ≡ (a % 2 ^ (N - k)) * 2 ^ k + a / 2 ^ (N - k)
joined_is N k a h g =
    let whole : k + (N - k) ≡ N = omega arith in
    let P : ℕ → Type 0 = λ n. a < 2 ^ n → bit_or (a * 2 ^ k % 2 ^ n) (a / 2 ^ (N - k)) ≡ (a % 2 ^ (N - k)) * 2 ^ k + a / 2 ^ (N - k) in
    subst P whole (joined k (N - k) a) g

pub rotated_left_is : (N k a : ℕ) → k < N → a < 2 ^ N
    → of_ibits (drop k (ibits N a) ++ take k (ibits N a)) ≡ bit_or (a * 2 ^ k % 2 ^ N) (a / 2 ^ ((N - k) % N))
rotated_left_is N zero a h g =
    let none : (N - 0) % N ≡ 0 = ap (λ n. n % N) (sub-zero N) ∙ mod_self N in
    let kept : a * 1 % 2 ^ N ≡ a = ap (λ n. n % 2 ^ N) (mul-one a) ∙ mod-eq_of_lt g in
    let same : a / 1 ≡ a = div-one a in
    let low : a % 2 ^ N ≡ a = mod-eq_of_lt g in
    let high : a / 2 ^ N ≡ 0 = div-eq_of_lt g in
    rw (rotated_is N 0 a (omega arith) g, none, kept, sub-zero N, low, high, same, or_self a) (omega arith)
rotated_left_is N (suc k) a h g =
    let rest : (N - suc k) % N ≡ N - suc k = mod-eq_of_lt (omega arith) in
    rw rest (rotated_is N (suc k) a (omega arith) g ∙ sym (joined_is N (suc k) a (omega arith) g))

pub rotated_right_is : (N k a : ℕ) → k < N → a < 2 ^ N
    → of_ibits (drop (N - k) (ibits N a) ++ take (N - k) (ibits N a)) ≡ bit_or (a / 2 ^ k) (a * 2 ^ ((N - k) % N) % 2 ^ N)
rotated_right_is N zero a h g =
    let none : (N - 0) % N ≡ 0 = ap (λ n. n % N) (sub-zero N) ∙ mod_self N in
    let nothing : N - N ≡ 0 = omega arith in
    let kept : a * 1 % 2 ^ N ≡ a = ap (λ n. n % 2 ^ N) (mul-one a) ∙ mod-eq_of_lt g in
    let same : a / 1 ≡ a = div-one a in
    let low : a % 1 ≡ 0 = omega arith in
    rw (none, sub-zero N, rotated_is N N a (omega arith) g, nothing, kept, same, low, or_self a) (omega arith)
rotated_right_is N (suc k) a h g =
    let rest : (N - suc k) % N ≡ N - suc k = mod-eq_of_lt (omega arith) in
    let back : N - (N - suc k) ≡ suc k = omega arith in
    let turned : of_ibits (drop (N - suc k) (ibits N a) ++ take (N - suc k) (ibits N a)) ≡ bit_or (a * 2 ^ (N - suc k) % 2 ^ N) (a / 2 ^ (N - (N - suc k))) =
    rotated_is N (N - suc k) a (omega arith) g ∙ sym (joined_is N (N - suc k) a (omega arith) g) in
    rw rest (turned ∙ or_comm (a * 2 ^ (N - suc k) % 2 ^ N) (a / 2 ^ (N - (N - suc k))) ∙ ap (λ m. bit_or (a / 2 ^ m) (a * 2 ^ (N - suc k) % 2 ^ N)) back)

-- ---- the same of the operations

pub ishl_is : (N a b : ℕ) → 0 < N → ishl N a b ≡ a * 2 ^ (b % N) % 2 ^ N
ishl_is N a b p = let count = mod_below b N p in left_is N (b % N) a (omega arith)

pub ishr_u_is : (N a b : ℕ) → 0 < N → a < 2 ^ N → ishr_u N a b ≡ a / 2 ^ (b % N)
ishr_u_is N a b p h = let count = mod_below b N p in right_unsigned_is N (b % N) a (omega arith) h

pub ishr_s_is : (N a b : ℕ) → 0 < N → a < 2 ^ N → ishr_s N a b ≡ unsigned N (int_shr (signed N a) (b % N))
ishr_s_is N a b p h = let count = mod_below b N p in right_signed_is N (b % N) a p (omega arith) h

pub irotl_is : (N a b : ℕ) → 0 < N → a < 2 ^ N → irotl N a b ≡ bit_or (a * 2 ^ (b % N) % 2 ^ N) (a / 2 ^ ((N - b % N) % N))
irotl_is N a b p h = rotated_left_is N (b % N) a (mod_below b N p) h

pub irotr_is : (N a b : ℕ) → 0 < N → a < 2 ^ N → irotr N a b ≡ bit_or (a / 2 ^ (b % N)) (a * 2 ^ ((N - b % N) % N) % 2 ^ N)
irotr_is N a b p h = rotated_right_is N (b % N) a (mod_below b N p) h

-- ---- the same where the count is taken modulo N before

pub counted : (N b k : ℕ) → 0 < N → k ≡ b % N → k % N ≡ b % N
counted N b k p e = let below : k < N = rw e (mod_below b N p) in mod-eq_of_lt below ∙ e

pub ishl_by : (N a b k : ℕ) → 0 < N → k ≡ b % N → ishl N a b ≡ a * 2 ^ (k % N) % 2 ^ N
ishl_by N a b k p e = ishl_is N a b p ∙ ap (λ n. a * 2 ^ n % 2 ^ N) (sym (counted N b k p e))

pub ishr_u_by : (N a b k : ℕ) → 0 < N → a < 2 ^ N → k ≡ b % N → ishr_u N a b ≡ a / 2 ^ (k % N)
ishr_u_by N a b k p h e = ishr_u_is N a b p h ∙ ap (λ n. a / 2 ^ n) (sym (counted N b k p e))

pub irotl_by : (N a b k : ℕ) → 0 < N → a < 2 ^ N → k ≡ b % N → irotl N a b ≡ bit_or (a * 2 ^ (k % N) % 2 ^ N) (a / 2 ^ ((N - k % N) % N))
irotl_by N a b k p h e = irotl_is N a b p h ∙ ap (λ n. bit_or (a * 2 ^ n % 2 ^ N) (a / 2 ^ ((N - n) % N))) (sym (counted N b k p e))

pub irotr_by : (N a b k : ℕ) → 0 < N → a < 2 ^ N → k ≡ b % N → irotr N a b ≡ bit_or (a / 2 ^ (k % N)) (a * 2 ^ ((N - k % N) % N) % 2 ^ N)
irotr_by N a b k p h e = irotr_is N a b p h ∙ ap (λ n. bit_or (a / 2 ^ n) (a * 2 ^ ((N - n) % N) % 2 ^ N)) (sym (counted N b k p e))
