-- What the bytes of a number are worth.
use Rattle.std.proofs.Common.{◌≡◌, ℕ, zero, suc, ◌+◌, ◌*◌, List, [], ◌∷◌, length, drop, get_or, refl, w64, arith}
use Rattle.std.specs.Int.{from_le_bytes}
use Rattle.raw_memory.specs.Bytes.{number}

-- from the i-th byte on
pub number_from : (xs : List ℕ) (i : ℕ) → number (drop i xs) ≡ get_or xs i 0 + 256 * number (drop (suc i) xs)
number_from [] zero = refl
number_from [] (suc i) = refl
number_from (x ∷ xs) zero = refl
number_from (x ∷ xs) (suc i) = number_from xs i

-- past the end
none_left : (xs : List ℕ) (i : ℕ) → length xs ≡ i → number (drop i xs) ≡ 0
none_left [] zero e = refl
none_left [] (suc i) e = refl
none_left (x ∷ xs) zero e = absurd (omega arith)
none_left (x ∷ xs) (suc i) e = none_left xs i (omega arith)

-- all eight bytes that are read of a list of eight
pub number_8 : (xs : List ℕ) → length xs ≡ 8
    → from_le_bytes w64 (get_or xs 0 0 ∷ get_or xs 1 0 ∷ get_or xs 2 0 ∷ get_or xs 3 0 ∷ get_or xs 4 0 ∷ get_or xs 5 0 ∷ get_or xs 6 0 ∷ get_or xs 7 0 ∷ []) ≡ number xs
number_8 xs e = omega (arith, number_from xs 0, number_from xs 1, number_from xs 2, number_from xs 3, number_from xs 4, number_from xs 5, number_from xs 6, number_from xs 7, none_left xs 8 e)
