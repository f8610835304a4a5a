-- When two keys are the same (ECMA-262, section 7.2.9, SameValue), with the laws of that.
use Rattle.std.specs.Prelude.{◌≡◌, ℕ, Bool, true, false, nat_eq, List, IsTrue, refl}
use Rattle.std.proofs.Common.{sym, ◌∙◌, ap, true≢false}
use Rattle.std.specs.Cmp.{IsEquivalence, nat_eq_equiv, unsigned_Decides}
use Rattle.std.specs.Cmp.Lexicographic.{nat_list_eq_equiv, pointwise, pointwise_decides}
use Rattle.std.specs.Hash as fed
use Rattle.host_values.specs.declared.keys.Key.{Key}
use Rattle.host_values.specs.declared.keys.Key.TheVariants as keys

-- whether two keys are the same
abbrev pub same_key : Key → Key → Bool
same_key (keys.Index a) (keys.Index b) = nat_eq a b
same_key (keys.Index a) (keys.Name b) = false
same_key (keys.Name a) (keys.Index b) = false
same_key (keys.Name a) (keys.Name b) = pointwise nat_eq a b

-- what is hashed of a key
abbrev pub hashed_key : Key → List (List ℕ)
hashed_key (keys.Index a) = fed.u32 a
hashed_key (keys.Name a) = fed.str a

same_key-refl : (x : Key) → same_key x x ≡ true
same_key-refl (keys.Index a) = nat_eq_equiv.refl a
same_key-refl (keys.Name a) = nat_list_eq_equiv.refl a

same_key-symm : (x y : Key) → same_key x y ≡ same_key y x
same_key-symm (keys.Index a) (keys.Index b) = nat_eq_equiv.symm a b
same_key-symm (keys.Index a) (keys.Name b) = refl
same_key-symm (keys.Name a) (keys.Index b) = refl
same_key-symm (keys.Name a) (keys.Name b) = nat_list_eq_equiv.symm a b

same_key-congr : (x y z : Key) → same_key x y ≡ true → same_key x z ≡ same_key y z
same_key-congr (keys.Index a) (keys.Index b) (keys.Index c) e = nat_eq_equiv.congr a b c e
same_key-congr (keys.Index a) (keys.Index b) (keys.Name c) e = refl
same_key-congr (keys.Index a) (keys.Name b) z e = absurd (true≢false (sym e))
same_key-congr (keys.Name a) (keys.Index b) z e = absurd (true≢false (sym e))
same_key-congr (keys.Name a) (keys.Name b) (keys.Index c) e = refl
same_key-congr (keys.Name a) (keys.Name b) (keys.Name c) e = nat_list_eq_equiv.congr a b c e

-- being the same is an equivalence
pub same_key_equiv : IsEquivalence same_key
same_key_equiv = record { refl = same_key-refl; symm = same_key-symm; congr = same_key-congr }

-- keys that are the same are equal
pub same_key-equal : (x y : Key) → same_key x y ≡ true → x ≡ y
same_key-equal (keys.Index a) (keys.Index b) e = ap (λ n. keys.Index n) ((unsigned_Decides a b).0 e)
same_key-equal (keys.Index a) (keys.Name b) e = absurd (true≢false (sym e))
same_key-equal (keys.Name a) (keys.Index b) e = absurd (true≢false (sym e))
same_key-equal (keys.Name a) (keys.Name b) e = ap (λ t. keys.Name t) ((pointwise_decides unsigned_Decides a b).0 e)

-- so they are hashed alike
pub same_key_alike : (x y : Key) → IsTrue (same_key x y) → hashed_key x ≡ hashed_key y
same_key_alike x y e = ap hashed_key (same_key-equal x y e)
