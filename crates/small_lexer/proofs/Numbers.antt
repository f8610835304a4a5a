-- Decimal digits and the number that they stand for.
use Rattle.std.specs.Prelude.{◌≡◌, ℕ, ◌+◌, ◌-◌, ◌*◌, ◌<◌, ◌≤◌, true, false, ◌==◌, List, [], ◌∷◌, length, fold, All, take, drop}
use Rattle.std.proofs.Common.{sym, ◌∙◌, ap, subst, arith, get_or}
use Rattle.std.proofs.lemmas.List.{take-append-drop, take_more}
use Rattle.std.proofs.lemmas.List.Elements.{All-head, All-tail}
use Rattle.std.proofs.lemmas.Grind.{fold-append}
use Rattle.std.proofs.lemmas.Bool.Decides.{nat_tests}
use Rattle.small_lexer.specs.Tokens.{is_digit, value_of, IsDecimal}

-- more digits stand for no smaller number
grows : (ds : List ℕ) (n : ℕ) → n ≤ fold (λ n d. 10 * n + (d - 48)) n ds
grows [] n = omega arith
grows (d ∷ ds) n = let h = grows ds (10 * n + (d - 48)) in omega (arith, h)

pub value_of_front : (ds : List ℕ) (i : ℕ) → value_of (take i ds) ≤ value_of ds
value_of_front ds i = subst (λ n. value_of (take i ds) ≤ n) (sym (fold-append (λ n d. 10 * n + (d - 48)) 0 (take i ds) (drop i ds)) ∙ ap value_of (take-append-drop i ds))
    (grows (drop i ds) (value_of (take i ds)))

pub value_of_more : (ds : List ℕ) (i : ℕ) → i < length ds → value_of (take (i + 1) ds) ≡ 10 * value_of (take i ds) + (get_or ds i 0 - 48)
value_of_more ds i h = ap value_of (take_more ds i 0 h) ∙ fold-append (λ n d. 10 * n + (d - 48)) 0 (take i ds) (get_or ds i 0 ∷ [])

pub decimal : (ds : List ℕ) → 0 < length ds → (1 < length ds → get_or ds 0 0 ≡ 48 → ⊥) → All (λ c. is_digit c ≡ true) ds → IsDecimal ds
decimal [] lt z h = absurd (omega arith)
decimal (d ∷ []) lt z h = All-head (λ c. is_digit c ≡ true) d [] h
decimal (d ∷ c ∷ ds) lt z h = (All-head (λ c. is_digit c ≡ true) d (c ∷ ds) h, z (omega arith), All-tail (λ c. is_digit c ≡ true) d (c ∷ ds) h)

pub above_zero : (n : ℕ) → (n == 0) ≡ false → 0 < n
above_zero n h = grind (arith, nat_tests)
