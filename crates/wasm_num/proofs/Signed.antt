-- What the code's signed remainder and signed shift compute, at a width w of std that has N bits.
use Rattle.std.proofs.Common.{◌≡◌, ℕ, ◌%◌, ◌^◌, ◌<◌, ◌≢◌, sym, ap, ◌∙◌, arith, Result, Ok}
use Rattle.std.proofs.Math.IntN.{ℤ, ◌+ℤ◌, ◌-ℤ◌, ◌*ℤ◌, *ℤ_comm}
use Rattle.std.proofs.lemmas.Bool.{ne_eqb}
use Rattle.std.proofs.lemmas.Int.{ints, to_z-of_z, quot-rem}
use Rattle.std.specs.Int.{Width, cast_signed, cast_unsigned, int_shr}
use Rattle.std.specs.Int.RustNames.{FitsSigned, int_div, int_rem}
use Rattle.wasm_syntax.specs.declared.trap.Trap.{Trap}
use Rattle.wasm_num.specs.Integers.{signed, unsigned, irem_s, ishr_s}
use Rattle.wasm_num.proofs.Shifts.{ishr_s_is}

remainder : (p r z : ℤ) → p +ℤ r ≡ z → r ≡ z -ℤ p
remainder p r z e = omega (arith, ints)

pub rem_by_quotient : (z d : ℤ) → int_rem z d ≡ z -ℤ d *ℤ int_div z d
rem_by_quotient z d = remainder (int_div z d *ℤ d) (int_rem z d) z (quot-rem z d) ∙ ap (λ p. z -ℤ p) (*ℤ_comm (int_div z d) d)

module _ (w : Width) (N : ℕ) (positive : 0 < N) (reading : (n : ℕ) → n < 2 ^ N → signed N n ≡ cast_signed w n) (back : (z : ℤ) → unsigned N z ≡ cast_unsigned w z) where
  -- k is the count, x is a in two's complement, y is x shifted and r is y's number
  pub shifted : (a b k : ℕ) (x y : ℤ) (r : ℕ) → a < 2 ^ N → k ≡ b % N → FitsSigned w x → FitsSigned w y → x ≡ cast_signed w a
      → y ≡ int_shr (cast_signed w (cast_unsigned w x)) k → r ≡ cast_unsigned w (cast_signed w (cast_unsigned w y)) → r ≡ ishr_s N a b
  shifted a b k x y r h count fx fy ex ey er =
      er
      ∙ ap (cast_unsigned w) (to_z-of_z w y fy ∙ ey ∙ ap (λ z. int_shr z k) (to_z-of_z w x fx ∙ ex ∙ sym (reading a h)))
      ∙ sym (back (int_shr (signed N a) k))
      ∙ ap (λ n. unsigned N (int_shr (signed N a) n)) count
      ∙ sym (ishr_s_is N a b positive h)

  -- x and y are a and b in two's complement, z is the remainder and r is z's number
  pub remaining : (a b : ℕ) (x y z : ℤ) (r : ℕ) → a < 2 ^ N → b < 2 ^ N → b ≢ 0 → FitsSigned w x → FitsSigned w y → FitsSigned w z
      → x ≡ cast_signed w a → y ≡ cast_signed w b → z ≡ int_rem (cast_signed w (cast_unsigned w x)) (cast_signed w (cast_unsigned w y))
      → r ≡ cast_unsigned w (cast_signed w (cast_unsigned w z)) → ◌≡◌ {A = Result ℕ Trap} (Ok r) (irem_s N a b)
  remaining a b x y z r h g ne fx fy fz ex ey ez er =
      let left : cast_signed w (cast_unsigned w x) ≡ signed N a = to_z-of_z w x fx ∙ ex ∙ sym (reading a h) in
      let right : cast_signed w (cast_unsigned w y) ≡ signed N b = to_z-of_z w y fy ∙ ey ∙ sym (reading b g) in
      let value : z ≡ signed N a -ℤ signed N b *ℤ int_div (signed N a) (signed N b) =
      ez ∙ ap (λ d. int_rem d (cast_signed w (cast_unsigned w y))) left ∙ ap (int_rem (signed N a)) right ∙ rem_by_quotient (signed N a) (signed N b) in
      let number : r ≡ unsigned N (signed N a -ℤ signed N b *ℤ int_div (signed N a) (signed N b)) =
      er ∙ ap (cast_unsigned w) (to_z-of_z w z fz ∙ value) ∙ sym (back (signed N a -ℤ signed N b *ℤ int_div (signed N a) (signed N b))) in
      let test = ne_eqb b 0 ne in
      rw test (ap Ok number)
