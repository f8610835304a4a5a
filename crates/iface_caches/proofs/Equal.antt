-- Strict equality is equality of values, and the order's ties are its own.
use Rattle.std.proofs.Common.{◌≡◌, ℕ, true, false, refl, sym, ap, ◌∙◌}
use Rattle.std.specs.Cmp.{unsigned_Decides}
use Rattle.std.specs.Prelude.{pos, nat_eq}
use Rattle.std.specs.Bool.{one_answer}
use Rattle.std.specs.declared.cmp.Ordering.{Ordering}
use Rattle.std.specs.declared.cmp.Ordering.TheVariants.{Less, Equal, Greater}
use Rattle.std.specs.Ordering.{is_eq, int_cmp, int_eq, ordering_then}
use Rattle.std.proofs.lemmas.Bool.Decides.{Decides-int_eq}
use Rattle.std.proofs.lemmas.Slice.Eq.{bytes_eq-Decides}
use Rattle.std.proofs.lemmas.Map.Text.{is_eq-slice_cmp}
use Rattle.std.proofs.lemmas.Cmp.{eq_by_cmp_equiv}
use Rattle.host_values.specs.declared.values.HostValue.{HostValue}
use Rattle.host_values.specs.declared.values.HostValue.TheVariants as values
use Rattle.host_convert.specs.Operators.{is_strictly_equal}
use Rattle.iface_caches.specs.ValueOrder.{value_cmp, value_cmp_total}

pub equal_itself : (v : HostValue) → is_strictly_equal v v ≡ true
equal_itself values.Undefined = refl
equal_itself values.Null = refl
equal_itself (values.Bool true) = refl
equal_itself (values.Bool false) = refl
equal_itself (values.Number z) = (Decides-int_eq z z).1 refl
equal_itself (values.BigInt z) = (Decides-int_eq z z).1 refl
equal_itself (values.Text s) = (bytes_eq-Decides s s).1 refl
equal_itself (values.Object o) = (unsigned_Decides o.0 o.0).1 refl

pub equal_same : (v w : HostValue) → is_strictly_equal v w ≡ true → v ≡ w
equal_same values.Undefined values.Undefined h = refl
equal_same values.Null values.Null h = refl
equal_same (values.Bool true) (values.Bool true) h = refl
equal_same (values.Bool false) (values.Bool false) h = refl
equal_same (values.Number a) (values.Number b) h = ap (λ z. values.Number z) ((Decides-int_eq a b).0 h)
equal_same (values.BigInt a) (values.BigInt b) h = ap (λ z. values.BigInt z) ((Decides-int_eq a b).0 h)
equal_same (values.Text a) (values.Text b) h = ap (λ s. values.Text s) ((bytes_eq-Decides a b).0 h)
equal_same (values.Object a) (values.Object b) h = ap (λ n. values.Object (record { 0 = n })) ((unsigned_Decides a.0 b.0).0 h)
equal_same v w h = absurd cc

then_equal : (o : Ordering) → is_eq (ordering_then o Equal) ≡ is_eq o
then_equal Less = refl
then_equal Equal = refl
then_equal Greater = refl

-- the numbers of two objects
numbers_alike : (a b : ℕ) → int_eq (pos a) (pos b) ≡ nat_eq a b
numbers_alike a b = one_answer (int_eq (pos a) (pos b)) (nat_eq a b) ((λ e. let whole : pos a ≡ pos b = (Decides-int_eq (pos a) (pos b)).0 e in cc), (λ e. (Decides-int_eq (pos a) (pos b)).1 (ap pos e))) (unsigned_Decides a b)

-- the order has no tie but where values are strictly equal
pub ties : (v w : HostValue) → is_eq (value_cmp v w) ≡ is_strictly_equal v w
ties values.Undefined values.Undefined = refl
ties values.Null values.Null = refl
ties (values.Bool true) (values.Bool true) = refl
ties (values.Bool true) (values.Bool false) = refl
ties (values.Bool false) (values.Bool true) = refl
ties (values.Bool false) (values.Bool false) = refl
ties (values.Number a) (values.Number b) = then_equal (int_cmp a b)
ties (values.BigInt a) (values.BigInt b) = then_equal (int_cmp a b)
ties (values.Text a) (values.Text b) = is_eq-slice_cmp a b
ties (values.Object a) (values.Object b) = then_equal (int_cmp (pos a.0) (pos b.0)) ∙ numbers_alike a.0 b.0
ties v w = refl

pub equal_back : (v w : HostValue) → is_strictly_equal v w ≡ is_strictly_equal w v
equal_back v w = sym (ties v w) ∙ (eq_by_cmp_equiv value_cmp_total).symm v w ∙ ties w v
