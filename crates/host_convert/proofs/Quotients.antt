-- Quotients and remainders of signed numbers that fit their width.
use Rattle.std.proofs.Common.{◌≡◌, ◌<◌, Bool, true, false, ℤ, pos, Option, None, Some, refl, ap, subst, arith}
use mir.Syntax.{Width}
use Rattle.std.specs.Cmp.{signed_Decides}
use Rattle.std.specs.Int.{CanDivide, IsNonZero, cast_signed, cast_unsigned, w64, w128}
use Rattle.std.specs.Int.RustNames.{FitsSigned, int_div, int_rem, unsigned_abs}
use Rattle.std.specs.Option.{SomeIff}
use Rattle.std.specs.Ordering.{int_eq}
use Rattle.std.proofs.lemmas.Int.{fits_signed_from_abs, ints, rem_below, to_z-of_z}

-- what comes where two facts hold, of which the first is sure, comes where the second holds
sure : {T : Type 0} (P Q : Type 0) (o : Option T) (x : T) → P → SomeIff o (P × Q) x → SomeIff o Q x
sure P Q None x p h = λ q. h (p, q)
sure P Q (Some y) x p h = (h.0.1, h.1)

-- what `checked_div` says of numbers that fit, where the divisor isn't 0
pub quotient_if_fits : (w : Width) (a b : ℤ) (o : Option ℤ) → FitsSigned w a → FitsSigned w b → (cast_unsigned w b ≡ 0 → ⊥)
    → SomeIff o (CanDivide w (cast_signed w (cast_unsigned w a)) (cast_signed w (cast_unsigned w b))) (int_div (cast_signed w (cast_unsigned w a)) (cast_signed w (cast_unsigned w b)))
    → SomeIff o (FitsSigned w (int_div a b)) (int_div a b)
quotient_if_fits w a b o f g h s =
    let G : ℤ → ℤ → Type 0 = λ x y. SomeIff o (CanDivide w x y) (int_div x y) in
    let at_a = subst (λ x. G x (cast_signed w (cast_unsigned w b))) (to_z-of_z w a f) s in
    let at_b = subst (λ y. G a y) (to_z-of_z w b g) at_a in
    sure (IsNonZero w b) (FitsSigned w (int_div a b)) o (int_div a b) (omega (arith, h)) at_b

tested : (b : ℤ) (t : Bool) → int_eq b (pos 0) ≡ t → (b ≡ pos 0 → ⊥) → int_eq b (pos 0) ≡ false
tested b true e h = absurd (h ((signed_Decides b (pos 0)).0 e))
tested b false e h = e

pub not_zero64 : (b : ℤ) → (cast_unsigned w64 b ≡ 0 → ⊥) → int_eq b (pos 0) ≡ false
not_zero64 b h = tested b (int_eq b (pos 0)) refl (λ e. h (ap (cast_unsigned w64) e))

pub not_zero128 : (b : ℤ) → (cast_unsigned w128 b ≡ 0 → ⊥) → int_eq b (pos 0) ≡ false
not_zero128 b h = tested b (int_eq b (pos 0)) refl (λ e. h (ap (cast_unsigned w128) e))

pub remainder_fits64 : (a b : ℤ) → FitsSigned w64 b → (cast_unsigned w64 b ≡ 0 → ⊥) → FitsSigned w64 (int_rem a b)
remainder_fits64 a b f h =
    let nonzero : 0 < unsigned_abs b = omega (arith, ints, h) in
    fits_signed_from_abs w64 (int_rem a b) (omega (arith, ints, rem_below a b nonzero, f))

pub remainder_fits128 : (a b : ℤ) → FitsSigned w128 b → (cast_unsigned w128 b ≡ 0 → ⊥) → FitsSigned w128 (int_rem a b)
remainder_fits128 a b f h =
    let nonzero : 0 < unsigned_abs b = omega (arith, ints, h) in
    fits_signed_from_abs w128 (int_rem a b) (omega (arith, ints, rem_below a b nonzero, f))
