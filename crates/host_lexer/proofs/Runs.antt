-- The longest front of a list whose elements pass a test.
use Rattle.std.specs.Prelude.{◌≡◌, ℕ, ◌+◌, suc, Bool, true, false, cond, List, [], ◌∷◌, ◌++◌, length, All, refl, take, drop}
use Rattle.std.specs.List.{prefix_len}
use Rattle.std.proofs.Common.{sym, ◌∙◌, ap, arith}
use Rattle.std.proofs.lemmas.List.{take_at}
use Rattle.std.proofs.lemmas.List.Elements.{All-nil, All-cons, All-head, All-tail}
use Rattle.std.proofs.lemmas.Grind.{common_steps}
use Rattle.host_lexer.specs.Characters.{StopsAt}

-- the front that passes a test
abbrev pub run_of : (ℕ → Bool) → List ℕ → List ℕ
run_of p xs = take (prefix_len p xs) xs

-- a front that passes, before what stops it, is the longest
pub run_len : (p : ℕ → Bool) (w rest : List ℕ) → All (λ c. p c ≡ true) w → StopsAt p rest → prefix_len p (w ++ rest) ≡ length w
run_len p [] [] h s = refl
run_len p [] (c ∷ cs) h s = rw s refl
run_len p (c ∷ w) rest h s = rw (All-head (λ c. p c ≡ true) c w h) (ap (λ n. 1 + n) (run_len p w rest (All-tail (λ c. p c ≡ true) c w h) s) ∙ omega arith)

pub run_is : (p : ℕ → Bool) (w rest : List ℕ) → All (λ c. p c ≡ true) w → StopsAt p rest → run_of p (w ++ rest) ≡ w
run_is p w rest h s = take_at w rest (prefix_len p (w ++ rest)) (sym (run_len p w rest h s))

pub run_cons : (p : ℕ → Bool) (c : ℕ) (cs : List ℕ) (b : Bool) → p c ≡ b → run_of p (c ∷ cs) ≡ cond b (c ∷ run_of p cs) []
run_cons p c cs true e = rw e (grind (arith, common_steps))
run_cons p c cs false e = rw e refl

-- the longest front passes
pub run_passes : (p : ℕ → Bool) (xs : List ℕ) → All (λ c. p c ≡ true) (run_of p xs)
run_passes p [] = All-nil (λ c. p c ≡ true)
run_passes p (c ∷ cs) = on (run_passes p cs) (p c) refl
  where
    on : All (λ c. p c ≡ true) (run_of p cs) → (b : Bool) → p c ≡ b → All (λ c. p c ≡ true) (run_of p (c ∷ cs))
    on ih true e = rw (run_cons p c cs true e) (All-cons (λ c. p c ≡ true) c (run_of p cs) e ih)
    on ih false e = rw (run_cons p c cs false e) (All-nil (λ c. p c ≡ true))

-- what follows it stops it
pub run_stops : (p : ℕ → Bool) (xs : List ℕ) → StopsAt p (drop (prefix_len p xs) xs)
run_stops p [] = tt
run_stops p (c ∷ cs) = on (run_stops p cs) (p c) refl
  where
    on : StopsAt p (drop (prefix_len p cs) cs) → (b : Bool) → p c ≡ b → StopsAt p (drop (prefix_len p (c ∷ cs)) (c ∷ cs))
    on ih true e = let q : 1 + prefix_len p cs ≡ suc (prefix_len p cs) = omega arith in rw (e, q) ih
    on ih false e = rw e e
