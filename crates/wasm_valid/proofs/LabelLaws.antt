-- Laws of the labels that were seen.
use Rattle.std.proofs.Common.{◌≡◌, ℕ, zero, suc, false, get_or, replicate, refl}

pub none_set : (n x : ℕ) → get_or (replicate n false) x false ≡ false
none_set zero x = refl
none_set (suc n) zero = refl
none_set (suc n) (suc x) = none_set n x
