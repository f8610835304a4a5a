-- Elements of a list that grew at its end.
use Rattle.std.proofs.Common.{◌≡◌, ℕ, zero, suc, ◌<◌, List, [], ◌∷◌, ◌++◌, length, Some, slice_get, refl, arith, slice_set}
use Rattle.std.proofs.lemmas.List.{set_at}

pub get_front : {X : Type 0} → (xs ys : List X) (i : ℕ) → i < length xs → slice_get (xs ++ ys) i ≡ slice_get xs i
get_front [] ys i within = absurd (omega (arith, within))
get_front (x ∷ xs) ys zero within = refl
get_front (x ∷ xs) ys (suc i) within = get_front xs ys i (omega (arith, within))

pub get_end : {X : Type 0} → (xs : List X) (x : X) → slice_get (xs ++ x ∷ []) (length xs) ≡ Some x
get_end [] x = refl
get_end (y ∷ ys) x = get_end ys x

pub set_end : {X : Type 0} → (xs : List X) (x y : X) → slice_set (xs ++ x ∷ []) (length xs) y ≡ xs ++ y ∷ []
set_end xs x y = set_at xs x [] y (length xs) refl
