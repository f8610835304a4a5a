-- Lists and look-ups after something went to their end.
use Rattle.std.proofs.Common.{◌≡◌, ℕ, zero, suc, ◌⊎◌, inl, inr, Bool, true, false, cond, List, [], ◌∷◌, ◌++◌, length, Option, Some, None, slice_get, nat_eq, if◌then◌else◌, refl, sym, ap, ◌∙◌}
use Rattle.std.specs.Map.{lookup}
use Rattle.indexmap.specs.IndexMap.{insert_entry}

pub get_left : {X : Type 0} (xs ys : List X) (i : ℕ) (x : X) → slice_get xs i ≡ Some x → slice_get (xs ++ ys) i ≡ Some x
get_left [] ys i x h = absurd (cc)
get_left (y ∷ xs) ys zero x h = h
get_left (y ∷ xs) ys (suc i) x h = get_left xs ys i x h

pub get_last : {X : Type 0} (xs : List X) (x : X) → slice_get (xs ++ x ∷ []) (length xs) ≡ Some x
get_last [] x = refl
get_last (y ∷ xs) x = get_last xs x

-- what stands in a list after one went to its end stood there before, or is that one
pub get_pushed : {X : Type 0} (xs : List X) (x : X) (i : ℕ) (y : X) → slice_get (xs ++ x ∷ []) i ≡ Some y → (slice_get xs i ≡ Some y) ⊎ ((i ≡ length xs) × (y ≡ x))
get_pushed [] x zero y h = let same : x ≡ y = cc in inr (refl, sym same)
get_pushed [] x (suc i) y h = absurd (cc)
get_pushed (z ∷ xs) x zero y h = inl h
get_pushed (z ∷ xs) x (suc i) y h = next (get_pushed xs x i y h)
  where
    next : (slice_get xs i ≡ Some y) ⊎ ((i ≡ length xs) × (y ≡ x)) → (slice_get xs i ≡ Some y) ⊎ ((suc i ≡ suc (length xs)) × (y ≡ x))
    next (inl g) = inl g
    next (inr g) = inr (ap suc g.0, g.1)

kept_step : {X : Type 0} (b : Bool) (p q r w : Option X) → cond b p q ≡ w → (q ≡ w → r ≡ w) → cond b p r ≡ w
kept_step true p q r w h f = h
kept_step false p q r w h f = f h

-- what is found is found again
pub lookup_kept : {X : Type 0} (test : ℕ → Bool) (es fs : List (ℕ × X)) (x : X) → lookup test es ≡ Some x → lookup test (es ++ fs) ≡ Some x
lookup_kept test [] fs x h = absurd (cc)
lookup_kept test (e ∷ es) fs x h = kept_step (test e.0) (Some e.1) (lookup test es) (lookup test (es ++ fs)) (Some x) h (lookup_kept test es fs x)

last_step : {X : Type 0} (b : Bool) (x : X) (q r w : Option X) → cond b (Some x) q ≡ None → (q ≡ None → r ≡ w) → cond b (Some x) r ≡ w
last_step true x q r w h f = absurd (cc)
last_step false x q r w h f = f h

-- and else in what went to the end
pub lookup_last : {X : Type 0} (test : ℕ → Bool) (es fs : List (ℕ × X)) → lookup test es ≡ None → lookup test (es ++ fs) ≡ lookup test fs
lookup_last test [] fs h = refl
lookup_last test (e ∷ es) fs h = last_step (test e.0) e.1 (lookup test es) (lookup test (es ++ fs)) (lookup test fs) h (lookup_last test es fs)

-- a new key goes to the end
entered_step : {X : Type 0} (b : Bool) (e f : ℕ × X) (es fs gs : List (ℕ × X)) (r : Option X) → cond b (Some e.1) r ≡ None → (r ≡ None → fs ≡ gs) → (if b then f ∷ es else e ∷ fs) ≡ e ∷ gs
entered_step true e f es fs gs r h g = absurd cc
entered_step false e f es fs gs r h g = ap (λ xs. e ∷ xs) (g h)

entered : {X : Type 0} (es : List (ℕ × X)) (a : ℕ) (x : X) → lookup (nat_eq a) es ≡ None → insert_entry nat_eq es a x ≡ es ++ (a, x) ∷ []
entered [] a x h = refl
entered (e ∷ es) a x h = entered_step (nat_eq a e.0) e (e.0, x) es (insert_entry nat_eq es a x) (es ++ (a, x) ∷ []) (lookup (nat_eq a) es) h (entered es a x)

pub entered_last : {X : Type 0} (es fs gs : List (ℕ × X)) (a : ℕ) (x y : X) → lookup (nat_eq a) es ≡ None → fs ≡ es → x ≡ y → gs ≡ insert_entry nat_eq fs a x → gs ≡ es ++ (a, y) ∷ []
entered_last es fs gs a x y absent same one is = is ∙ ap (λ (xs : List _). insert_entry nat_eq xs a x) same ∙ entered es a x absent ∙ ap (λ z. es ++ (a, z) ∷ []) one
