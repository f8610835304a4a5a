-- Numbers that are made of the bits that a load has read.
use Rattle.std.proofs.Common.{◌≡◌, ℕ, ◌<◌, ◌^◌, sym, ap, ◌∙◌, subst}
use Rattle.std.proofs.Math.Nat.{mod-eq_of_lt}
use Rattle.wasm_syntax.specs.declared.numbers.Num.{Num}
use Rattle.wasm_syntax.specs.declared.numbers.Num.TheVariants as m
use Rattle.wasm_syntax.specs.declared.numbers.NumType.{NumType}
use Rattle.wasm_syntax.specs.declared.numbers.NumType.TheVariants as n
use Rattle.wasm_syntax.specs.declared.numbers.UnOp.TheVariants as u
use Rattle.wasm_syntax.specs.declared.numbers.Width.{Width}
use Rattle.wasm_syntax.specs.declared.numbers.Width.TheVariants as w
use Rattle.wasm_syntax.specs.declared.numbers.Extension.TheVariants as x
use Rattle.wasm_syntax.specs.NumberTypes.{width_bits}
use Rattle.wasm_num.specs.Integers.{unary_of, integer_unary, extend_s}
use Rattle.wasm_machine.specs.Performing.{at_type, extended}

extends_8 : (ty : NumType) (k : ℕ) → k < 2 ^ 8 → unary_of u.Extend8S (at_type ty k) ≡ extended ty w.Bits8 x.Signed k
unfolding unary_of integer_unary
extends_8 n.I32 k lt = ap (λ j. m.I32 (extend_s 8 32 j)) (mod-eq_of_lt lt)
extends_8 n.I64 k lt = ap (λ j. m.I64 (extend_s 8 64 j)) (mod-eq_of_lt lt)

extends_16 : (ty : NumType) (k : ℕ) → k < 2 ^ 16 → unary_of u.Extend16S (at_type ty k) ≡ extended ty w.Bits16 x.Signed k
unfolding unary_of integer_unary
extends_16 n.I32 k lt = ap (λ j. m.I32 (extend_s 16 32 j)) (mod-eq_of_lt lt)
extends_16 n.I64 k lt = ap (λ j. m.I64 (extend_s 16 64 j)) (mod-eq_of_lt lt)

extends_32 : (k : ℕ) → k < 2 ^ 32 → unary_of u.Extend32S (m.I64 k) ≡ extended n.I64 w.Bits32 x.Signed k
unfolding unary_of integer_unary
extends_32 k lt = ap (λ j. m.I64 (extend_s 32 64 j)) (mod-eq_of_lt lt)

-- what an arm of the width gives

pub read_8 : (ty : NumType) (width : Width) (k : ℕ) (a r : Num) → width ≡ w.Bits8 → k < 2 ^ width_bits width → a ≡ at_type ty k → r ≡ unary_of u.Extend8S a → r ≡ extended ty width x.Signed k
read_8 ty width k a r e lt f g = g ∙ ap (unary_of u.Extend8S) f ∙ extends_8 ty k (subst (λ v. k < 2 ^ width_bits v) e lt) ∙ ap (λ v. extended ty v x.Signed k) (sym e)

pub read_16 : (ty : NumType) (width : Width) (k : ℕ) (a r : Num) → width ≡ w.Bits16 → k < 2 ^ width_bits width → a ≡ at_type ty k → r ≡ unary_of u.Extend16S a → r ≡ extended ty width x.Signed k
read_16 ty width k a r e lt f g = g ∙ ap (unary_of u.Extend16S) f ∙ extends_16 ty k (subst (λ v. k < 2 ^ width_bits v) e lt) ∙ ap (λ v. extended ty v x.Signed k) (sym e)

pub read_32 : (ty : NumType) (width : Width) (k : ℕ) (a r : Num) → width ≡ w.Bits32 → ty ≡ n.I64 → k < 2 ^ width_bits width → a ≡ at_type ty k → r ≡ unary_of u.Extend32S a → r ≡ extended ty width x.Signed k
read_32 ty width k a r e t lt f g =
    g ∙ ap (unary_of u.Extend32S) (f ∙ ap (λ t. at_type t k) t) ∙ extends_32 k (subst (λ v. k < 2 ^ width_bits v) e lt)
    ∙ ap (λ v. extended n.I64 v x.Signed k) (sym e) ∙ ap (λ t. extended t width x.Signed k) (sym t)
