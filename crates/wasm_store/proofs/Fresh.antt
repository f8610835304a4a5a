-- Addresses that count on, and what stands at them.
use Rattle.std.proofs.Common.{◌≡◌, ℕ, ◌+◌, ◌<◌, arith, List, [], ◌∷◌, ◌++◌, length, refl, ap, ◌∙◌, subst, length-append}
use Rattle.std.specs.Prelude.{Some, slice_get, slice_index_or, suc, map}
use Rattle.std.specs.List.{AllZip}
use Rattle.std.proofs.lemmas.List.{get_or-append-add, get_or-map, length-map}
use Rattle.std.proofs.lemmas.Option.{slice_get_within, get_or_from_slice_get}
use Rattle.wasm_store.specs.Allocated.{fresh}

pub zip_map : {A B C : Type 0} (R : A → C → Type 0) (f : B → C) (xs : List A) (ys : List B) → AllZip (λ a b. R a (f b)) xs ys → AllZip R xs (map f ys)
zip_map R f [] [] h = h
zip_map R f [] (y ∷ ys) h = h
zip_map R f (x ∷ xs) [] h = h
zip_map R f (x ∷ xs) (y ∷ ys) h = (h.0, zip_map R f xs ys h.1)

-- addresses that count on from n
pub zip_fresh : {A B : Type 0} (R : A → B → Type 0) (address : ℕ → A) (n : ℕ) (ys : List B) → ((k : ℕ) (y : B) → slice_get ys k ≡ Some y → R (address (n + k)) y) → AllZip R (fresh address n (length ys)) ys
zip_fresh R address n [] h = tt
zip_fresh {A} {B} R address n (y ∷ ys) h = (
  subst (λ (k : ℕ). R (address k) y) (let e : n + 0 ≡ n = omega arith in e) (h 0 y refl),
  zip_fresh R address (suc n) ys (λ k z e. subst (λ (j : ℕ). R (address j) z) (let e' : n + suc k ≡ suc n + k = omega arith in e') (h (suc k) z e)),
)

-- what stands behind a list
pub within_behind : {A : Type 0} (xs ys : List A) (k : ℕ) → k < length ys → length xs + k < length (xs ++ ys)
within_behind xs ys k h = simp length-append (omega arith)

-- what stands at a place behind a list, of things that are made of the things of another list
pub made_behind : {A B : Type 0} (f : B → A) (xs : List A) (ys : List B) (k : ℕ) (y : B) (d : A) → slice_get ys k ≡ Some y → slice_index_or (xs ++ map f ys) (length xs + k) d ≡ f y
made_behind f xs ys k y d e =
    get_or-append-add xs (map f ys) k d ∙ get_or-map f ys k y d (slice_get_within ys k y e) ∙ ap f (get_or_from_slice_get ys k y y e)

pub made_within : {A B : Type 0} (f : B → A) (xs : List A) (ys : List B) (k : ℕ) (y : B) → slice_get ys k ≡ Some y → length xs + k < length (xs ++ map f ys)
made_within f xs ys k y e = let h : k < length ys = slice_get_within ys k y e in within_behind xs (map f ys) k (let count : length (map f ys) ≡ length ys = length-map ys f in omega (arith, count))
