-- When a binary operation traps.
use Rattle.std.proofs.Common.{◌≡◌, ℕ, zero, suc, ◌-◌, ◌*◌, ◌^◌, ◌<◌, ◌⊎◌, ◌↔◌, ◌&&◌, Bool, true, false, cond, eqb, IsTrue, IfErr, IfOk, refl, sym, ap, ◌∙◌, arith, inl, inr, Result, Ok, Err, pos, negsuc, neg_ℤ, int_div, eq-eqb, eqb-true, lit<}
use Rattle.std.proofs.Math.Dec.{eqb-suc-zero}
use Rattle.std.proofs.Math.Nat.{pow-suc}
use Rattle.std.proofs.lemmas.Int.{ints}
use Rattle.std.proofs.lemmas.Nat.{pow_pos}
use Rattle.std.proofs.lemmas.Bool.{lt-ltb, le-ltb, ne_eqb, cases_lt}
use Rattle.wasm_syntax.specs.declared.trap.Trap.{Trap}
use Rattle.wasm_syntax.specs.declared.trap.Trap.TheVariants.{DivideByZero, Overflow}
use Rattle.wasm_syntax.specs.declared.numbers.Num.{Num}
use Rattle.wasm_syntax.specs.declared.numbers.Num.TheVariants.{I32, I64}
use Rattle.wasm_syntax.specs.declared.numbers.BinOp.{BinOp}
use Rattle.wasm_syntax.specs.declared.numbers.BinOp.TheVariants.{Add, Sub, Mul, DivS, DivU, RemS, RemU, And, Or, Xor, Shl, ShrS, ShrU, Rotl, Rotr}
use Rattle.wasm_num.specs.Integers.{integer_binary, binary_of, is_division, width_of, number_of, signed, unsigned, signed_of, result_at_width_of}

-- a test of the divisor, before what can't be that trap
zero_test : (b : ℕ) (r : Result ℕ Trap) → (r ≡ Err DivideByZero → ⊥) → (cond (eqb b 0) (Err DivideByZero) r ≡ Err DivideByZero) ↔ (IsTrue true × (b ≡ 0))
zero_test zero r never = (λ e. (refl, refl), λ h. refl)
zero_test (suc b) r never = (λ e. absurd (never (rw (eqb-suc-zero b) at e)), λ h. absurd (omega (arith, h.1)))

not_zero : (b : Bool) (r : ℕ) → cond b (Err Overflow) (Ok r) ≡ Err DivideByZero → ⊥
not_zero true r e = cc
not_zero false r e = cc

differ : (b : ℕ) → IsTrue false × (b ≡ 0) → ⊥
differ b h = let e = h.0 in cc

no_trap : (r : ℕ) (trap : Trap) (P : Type 0) → (P → ⊥) → (◌≡◌ {A = Result ℕ Trap} (Ok r) (Err trap)) ↔ P
no_trap r trap P never = (λ e. absurd (cc), λ h. absurd (never h))

pub divides_by_zero : (op : BinOp) (N a b : ℕ) → (integer_binary op N a b ≡ Err DivideByZero) ↔ (IsTrue (is_division op) × (b ≡ 0))
unfolding integer_binary
divides_by_zero Add N a b = no_trap _ _ _ (differ b)
divides_by_zero Sub N a b = no_trap _ _ _ (differ b)
divides_by_zero Mul N a b = no_trap _ _ _ (differ b)
divides_by_zero DivS N a b = zero_test b _ (not_zero _ _)
divides_by_zero DivU N a b = zero_test b _ (λ e. cc)
divides_by_zero RemS N a b = zero_test b _ (λ e. cc)
divides_by_zero RemU N a b = zero_test b _ (λ e. cc)
divides_by_zero And N a b = no_trap _ _ _ (differ b)
divides_by_zero Or N a b = no_trap _ _ _ (differ b)
divides_by_zero Xor N a b = no_trap _ _ _ (differ b)
divides_by_zero Shl N a b = no_trap _ _ _ (differ b)
divides_by_zero ShrS N a b = no_trap _ _ _ (differ b)
divides_by_zero ShrU N a b = no_trap _ _ _ (differ b)
divides_by_zero Rotl N a b = no_trap _ _ _ (differ b)
divides_by_zero Rotr N a b = no_trap _ _ _ (differ b)

-- ---- the least value by -1

-- 2 ^ (N - 1) is the number of the least value, and 2 ^ N - 1 that of -1
module _ (N : ℕ) (positive : 0 < N) where
  twice : 2 ^ N ≡ 2 ^ (N - 1) * 2
  twice = let one_more : N ≡ suc (N - 1) = omega arith in ap (λ n. 2 ^ n) one_more ∙ pow-suc 2 (N - 1)

  least_of : (a : ℕ) → a ≡ 2 ^ (N - 1) → signed N a ≡ neg_ℤ (pos (2 ^ (N - 1)))
  least_of a e =
      let two = twice in
      let half = pow_pos (N - 1) in
      let test = le-ltb a (2 ^ (N - 1)) (omega arith) in
      rw test (omega (arith, ints))

  of_least : (a : ℕ) → signed N a ≡ neg_ℤ (pos (2 ^ (N - 1))) → a ≡ 2 ^ (N - 1)
  of_least a e =
      let two = twice in
      let half = pow_pos (N - 1) in
      elim (cases_lt a (2 ^ (N - 1))) [
        | inl small ↦
            let test = lt-ltb a (2 ^ (N - 1)) small in
            let g = rw test at e in
            absurd (omega (arith, ints))
        | inr large ↦
            let test = le-ltb a (2 ^ (N - 1)) large in
            let g = rw test at e in
            omega (arith, ints)
      ]

  minus_one_of : (b : ℕ) → b ≡ 2 ^ N - 1 → signed N b ≡ negsuc 0
  minus_one_of b e =
      let two = twice in
      let half = pow_pos (N - 1) in
      let test = le-ltb b (2 ^ (N - 1)) (omega arith) in
      rw test (omega (arith, ints))

  of_minus_one : (b : ℕ) → signed N b ≡ negsuc 0 → b ≡ 2 ^ N - 1
  of_minus_one b e =
      let two = twice in
      let half = pow_pos (N - 1) in
      elim (cases_lt b (2 ^ (N - 1))) [
        | inl small ↦
            let test = lt-ltb b (2 ^ (N - 1)) small in
            let g = rw test at e in
            absurd (omega (arith, ints))
        | inr large ↦
            let test = le-ltb b (2 ^ (N - 1)) large in
            let g = rw test at e in
            omega (arith, ints)
      ]

tests : (x y z : Bool) (r : ℕ) → cond x (Err DivideByZero) (cond (y && z) (Err Overflow) (Ok r)) ≡ Err Overflow → (y ≡ true) × (z ≡ true)
tests true y z r e = absurd (cc)
tests false true true r e = (refl, refl)
tests false true false r e = absurd (cc)
tests false false z r e = absurd (cc)

overflow_test : (a b l m r : ℕ) → 0 < m
    → (cond (eqb b 0) (Err DivideByZero) (cond (eqb a l && eqb b m) (Err Overflow) (Ok r)) ≡ Err Overflow) ↔ ((a ≡ l) × (b ≡ m))
overflow_test a b l m r h = (
  λ e. let passed = tests (eqb b 0) (eqb a l) (eqb b m) r e in (eqb-true a l passed.0, eqb-true b m passed.1),
  λ f.
      let b_is = f.1 in
      let nonzero = ne_eqb b 0 (λ e. omega arith) in
      let left = eq-eqb a l f.0 in
      let right = eq-eqb b m f.1 in
      rw (nonzero, left, right) refl,
)

only_zero : (x : Bool) (r : ℕ) → cond x (Err DivideByZero) (Ok r) ≡ Err Overflow → ⊥
only_zero true r e = cc
only_zero false r e = cc

pub overflows : (op : BinOp) (N a b : ℕ) → 0 < N
    → (integer_binary op N a b ≡ Err Overflow) ↔ ((op ≡ DivS) × (signed N a ≡ neg_ℤ (pos (2 ^ (N - 1)))) × (signed N b ≡ negsuc 0))
unfolding integer_binary
overflows Add N a b p = no_trap _ _ _ (λ f. let e = f.0 in cc)
overflows Sub N a b p = no_trap _ _ _ (λ f. let e = f.0 in cc)
overflows Mul N a b p = no_trap _ _ _ (λ f. let e = f.0 in cc)
overflows DivS N a b p =
    let half = pow_pos (N - 1) in
    let two = twice N p in
    let test = overflow_test a b (2 ^ (N - 1)) (2 ^ N - 1) (unsigned N (int_div (signed N a) (signed N b))) (omega arith) in (
      λ e. let both = test.0 e in (refl, least_of N p a both.0, minus_one_of N p b both.1),
      λ f. test.1 (of_least N p a f.1, of_minus_one N p b f.2),
    )
overflows DivU N a b p = (λ e. absurd (only_zero _ _ e), λ f. let e = f.0 in absurd (cc))
overflows RemS N a b p = (λ e. absurd (only_zero _ _ e), λ f. let e = f.0 in absurd (cc))
overflows RemU N a b p = (λ e. absurd (only_zero _ _ e), λ f. let e = f.0 in absurd (cc))
overflows And N a b p = no_trap _ _ _ (λ f. let e = f.0 in cc)
overflows Or N a b p = no_trap _ _ _ (λ f. let e = f.0 in cc)
overflows Xor N a b p = no_trap _ _ _ (λ f. let e = f.0 in cc)
overflows Shl N a b p = no_trap _ _ _ (λ f. let e = f.0 in cc)
overflows ShrS N a b p = no_trap _ _ _ (λ f. let e = f.0 in cc)
overflows ShrU N a b p = no_trap _ _ _ (λ f. let e = f.0 in cc)
overflows Rotl N a b p = no_trap _ _ _ (λ f. let e = f.0 in cc)
overflows Rotr N a b p = no_trap _ _ _ (λ f. let e = f.0 in cc)

-- ---- no other trap

zero_only : (x : Bool) (r : ℕ) → IfErr (cond x (Err DivideByZero) (Ok r)) (λ trap. (trap ≡ DivideByZero) ⊎ (trap ≡ Overflow))
zero_only true r = inl refl
zero_only false r = tt

zero_or_overflow : (x y : Bool) (r : ℕ) → IfErr (cond x (Err DivideByZero) (cond y (Err Overflow) (Ok r))) (λ trap. (trap ≡ DivideByZero) ⊎ (trap ≡ Overflow))
zero_or_overflow true y r = inl refl
zero_or_overflow false true r = inr refl
zero_or_overflow false false r = tt

pub no_other : (op : BinOp) (N a b : ℕ) → IfErr (integer_binary op N a b) (λ trap. (trap ≡ DivideByZero) ⊎ (trap ≡ Overflow))
unfolding integer_binary
no_other Add N a b = tt
no_other Sub N a b = tt
no_other Mul N a b = tt
no_other DivS N a b = zero_or_overflow _ _ _
no_other DivU N a b = zero_only _ _
no_other RemS N a b = zero_only _ _
no_other RemU N a b = zero_only _ _
no_other And N a b = tt
no_other Or N a b = tt
no_other Xor N a b = tt
no_other Shl N a b = tt
no_other ShrS N a b = tt
no_other ShrU N a b = tt
no_other Rotl N a b = tt
no_other Rotr N a b = tt

-- ---- the same of numbers with their width

same_trap : (a : Num) (r : Result ℕ Trap) (trap : Trap) → (result_at_width_of a r ≡ Err trap) ↔ (r ≡ Err trap)
same_trap a (Ok n) trap = (λ e. absurd (cc), λ e. absurd (cc))
same_trap a (Err t) trap = (λ e. cc, λ e. cc)

pub binary_divides_by_zero : (op : BinOp) (a b : Num) → (binary_of op a b ≡ Err DivideByZero) ↔ (IsTrue (is_division op) × (number_of b ≡ 0))
unfolding binary_of
binary_divides_by_zero op a b =
    let lifted = same_trap a (integer_binary op (width_of a) (number_of a) (number_of b)) DivideByZero in
    let exact = divides_by_zero op (width_of a) (number_of a) (number_of b) in
    (λ e. exact.0 (lifted.0 e), λ h. lifted.1 (exact.1 h))

width_positive : (a : Num) → 0 < width_of a
width_positive (I32 n) = lit< tt
width_positive (I64 n) = lit< tt

pub binary_overflows : (op : BinOp) (a b : Num) → width_of a ≡ width_of b
    → (binary_of op a b ≡ Err Overflow) ↔ ((op ≡ DivS) × (signed_of a ≡ neg_ℤ (pos (2 ^ (width_of a - 1)))) × (signed_of b ≡ negsuc 0))
unfolding binary_of
binary_overflows op a b same =
    let lifted = same_trap a (integer_binary op (width_of a) (number_of a) (number_of b)) Overflow in
    let exact = overflows op (width_of a) (number_of a) (number_of b) (width_positive a) in
    let reading : signed (width_of a) (number_of b) ≡ signed_of b = ap (λ n. signed n (number_of b)) same in (
      λ e. let f = exact.0 (lifted.0 e) in (f.0, f.1, sym reading ∙ f.2),
      λ f. lifted.1 (exact.1 (f.0, f.1, reading ∙ f.2)),
    )

lifted_traps : (a : Num) (r : Result ℕ Trap) (P : Trap → Type 0) → IfErr r P → IfErr (result_at_width_of a r) P
lifted_traps a (Ok n) P h = tt
lifted_traps a (Err t) P h = h

pub binary_no_other : (op : BinOp) (a b : Num) → IfErr (binary_of op a b) (λ trap. (trap ≡ DivideByZero) ⊎ (trap ≡ Overflow))
unfolding binary_of
binary_no_other op a b = lifted_traps a (integer_binary op (width_of a) (number_of a) (number_of b)) _ (no_other op (width_of a) (number_of a) (number_of b))

width_kept : (a : Num) (r : Result ℕ Trap) → IfOk (result_at_width_of a r) (λ c. width_of c ≡ width_of a)
width_kept (I32 a) (Ok n) = refl
width_kept (I64 a) (Ok n) = refl
width_kept a (Err t) = tt

pub binary_width : (op : BinOp) (a b : Num) → IfOk (binary_of op a b) (λ c. width_of c ≡ width_of a)
unfolding binary_of
binary_width op a b = width_kept a (integer_binary op (width_of a) (number_of a) (number_of b))
