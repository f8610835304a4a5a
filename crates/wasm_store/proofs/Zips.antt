-- Lists of which each pair is as a relation says.
use Rattle.std.proofs.Common.{◌≡◌, ℕ, List, [], ◌∷◌, ◌++◌, refl, subst}
use Rattle.std.specs.Prelude.{Some, None, slice_get, zero, suc}
use Rattle.std.specs.List.{AllZip}

pub zip_weaker : {A B : Type 0} (R S : A → B → Type 0) → ((a : A) (b : B) → R a b → S a b) → (xs : List A) (ys : List B) → AllZip R xs ys → AllZip S xs ys
zip_weaker R S weaker [] [] h = h
zip_weaker R S weaker [] (y ∷ ys) h = h
zip_weaker R S weaker (x ∷ xs) [] h = h
zip_weaker R S weaker (x ∷ xs) (y ∷ ys) h = (weaker x y h.0, zip_weaker R S weaker xs ys h.1)

pub zip_append : {A B : Type 0} (R : A → B → Type 0) → (xs : List A) (ys : List B) (us : List A) (vs : List B) → AllZip R xs ys → AllZip R us vs → AllZip R (xs ++ us) (ys ++ vs)
zip_append R [] [] us vs h k = k
zip_append R [] (y ∷ ys) us vs h k = absurd h
zip_append R (x ∷ xs) [] us vs h k = absurd h
zip_append R (x ∷ xs) (y ∷ ys) us vs h k = (h.0, zip_append R xs ys us vs h.1 k)

-- the thing at a place of the right list has its partner at that place of the left one
pub zip_at : {A B : Type 0} (R : A → B → Type 0) → (xs : List A) (ys : List B) (k : ℕ) (y : B) → AllZip R xs ys → slice_get ys k ≡ Some y → (x : A) × (slice_get xs k ≡ Some x) × R x y
zip_at R [] [] k y h e = absurd (let f : ◌≡◌ None (Some y) = e in cc)
zip_at R [] (z ∷ ys) k y h e = absurd h
zip_at R (x ∷ xs) [] k y h e = absurd h
zip_at {A} {B} R (x ∷ xs) (z ∷ ys) zero y h e = (x, refl, (let same : z ≡ y = cc in subst (λ (w : B). R x w) same h.0))
zip_at R (x ∷ xs) (z ∷ ys) (suc k) y h e = zip_at R xs ys k y h.1 e
