-- Words that stand in a list.
use Rattle.std.specs.Prelude.{◌≡◌, ℕ, Bool, true, false, suc, List, [], ◌∷◌, Contains, refl}
use Rattle.std.specs.List.{list_any}
use Rattle.std.specs.Str.{bytes_eq}
use Rattle.std.proofs.Common.{arith, get_or}
use Rattle.std.proofs.lemmas.List.Folds.{list_any_at}
use Rattle.std.proofs.lemmas.Slice.Eq.{bytes_eq-Decides}

pub among : (words : List (List ℕ)) (word : List ℕ) → list_any (λ w. bytes_eq w word) words ≡ true → Contains words word
among [] word h = cc
among (w ∷ ws) word h = on (among ws word) (bytes_eq w word) refl
  where
    on : (list_any (λ w. bytes_eq w word) ws ≡ true → Contains ws word) → (b : Bool) → bytes_eq w word ≡ b → Contains (w ∷ ws) word
    on ih true e = (0, omega arith, (bytes_eq-Decides w word).0 e)
    on ih false e = later (ih (rw e at h))
      where
        later : Contains ws word → Contains (w ∷ ws) word
        later (k, lt, q) = (suc k, omega arith, q)

pub among_back : (words : List (List ℕ)) (word : List ℕ) → Contains words word → list_any (λ w. bytes_eq w word) words ≡ true
among_back words word (k, lt, q) = list_any_at (λ w. bytes_eq w word) words k word lt ((bytes_eq-Decides (get_or words k word) word).1 q)
