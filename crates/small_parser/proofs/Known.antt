-- Whether a name is known is decided by its bytes.
use Rattle.std.specs.Prelude.{◌≡◌, ◌↔◌, ℕ, zero, suc, List, [], ◌∷◌, length, Bool, true, false, not, cond, IsTrue, Contains, refl}
use Rattle.std.specs.Str.{bytes_eq}
use Rattle.std.proofs.Common.{sym, ◌∙◌, arith}
use Rattle.std.proofs.lemmas.Slice.Eq.{bytes_eq-Decides}
use denote.Ref.{Bor}
use Rattle.small_parser.specs.Grammar.{Script, declared_by, bound_by, reading_name, interface_name, KeepsNames}
use Rattle.small_parser.specs.Machine.{is_known}
use Rattle.small_parser.specs.Reading.{Knows}

contains_more : (known : List (List ℕ)) (v w : List ℕ) → Contains known w → Contains (v ∷ known) w
contains_more known v w (k, lt, e) = (suc k, omega arith, e)

-- a name that is found is there
pub known_contains : (known : List (List ℕ)) (w : List ℕ) → is_known known w ≡ true → Contains known w
known_contains [] w e = cc
known_contains (v ∷ known) w e = on (λ f. known_contains known w f) (bytes_eq v w) refl e
  where
    on : (is_known known w ≡ true → Contains known w) → (b : Bool) → bytes_eq v w ≡ b → cond b true (is_known known w) ≡ true → Contains (v ∷ known) w
    on ih true q f = (0, omega arith, (bytes_eq-Decides v w).0 q)
    on ih false q f = contains_more known v w (ih f)

-- a name that is there is found
pub contains_known : (known : List (List ℕ)) (w : List ℕ) → Contains known w → is_known known w ≡ true
contains_known [] w (k, lt, e) = absurd (omega arith)
contains_known (v ∷ known) w (zero, lt, e) = rw ((bytes_eq-Decides v w).1 e) refl
contains_known (v ∷ known) w (suc k, lt, e) = on (bytes_eq v w) (contains_known known w (k, omega arith, e))
  where
    on : (b : Bool) → is_known known w ≡ true → cond b true (is_known known w) ≡ true
    on true f = refl
    on false f = f

not_true : (b : Bool) → (b ≡ true → ⊥) → b ≡ false
not_true true h = absurd (h refl)
not_true false h = refl

-- a name that isn't there isn't found
pub lacks_known : (known : List (List ℕ)) (w : List ℕ) → (¬ Contains known w) → is_known known w ≡ false
lacks_known known w h = not_true (is_known known w) (λ e. h (known_contains known w e))

-- a name that isn't found isn't there
pub known_lacks : (known : List (List ℕ)) (w : List ℕ) → is_known known w ≡ false → ¬ Contains known w
known_lacks known w h = λ i. let q : is_known known w ≡ true = contains_known known w i in cc

-- texts with other bytes are others
pub other_text : (v w : List ℕ) → bytes_eq v w ≡ false → ¬ (v ≡ w)
other_text v w h = λ e. let q : bytes_eq v w ≡ true = (bytes_eq-Decides v w).1 e in cc

pub other_bytes : (v w : List ℕ) → (¬ (v ≡ w)) → bytes_eq v w ≡ false
other_bytes v w h = not_true (bytes_eq v w) (λ e. h ((bytes_eq-Decides v w).0 e))

-- a text as a borrow
abbrev pub lent : List ℕ → Bor (List ℕ)
lent w = record { ref_ptr = (0, 0); now = w }

-- an empty set knows no name
none_known : (known : List (List ℕ)) (keys : List (Bor (List ℕ))) → Knows known keys → length keys ≡ 0 → known ≡ []
none_known [] keys k e = refl
none_known (w ∷ known) [] k e = let q : false ≡ true = k (lent w) ∙ rw ((bytes_eq-Decides w w).1 refl) refl in cc
none_known (w ∷ known) (x ∷ keys) k e = absurd (omega (arith, e))

-- and each other one knows some
some_known : (known : List (List ℕ)) (keys : List (Bor (List ℕ))) → Knows known keys → (length keys ≡ 0 → ⊥) → known ≡ [] → ⊥
some_known known [] k n e = n refl
some_known [] (x ∷ keys) k n e = let q : true ≡ false = sym (rw ((bytes_eq-Decides x.now x.now).1 refl) refl) ∙ k x in cc
some_known (w ∷ known) (x ∷ keys) k n e = cc

-- whether a script keeps the names by which it loads a module
pub keeps_alone : (s : Script) (keys : List (Bor (List ℕ))) → Knows (bound_by s) keys → length keys ≡ 0 → IsTrue true ↔ KeepsNames s
keeps_alone s keys k e = (λ t n. absurd (n (none_known (bound_by s) keys k e)), λ h. refl)

pub reading_hidden : (s : Script) (keys : List (Bor (List ℕ))) → Knows (bound_by s) keys → (length keys ≡ 0 → ⊥) → is_known (declared_by s) reading_name ≡ true → IsTrue false ↔ KeepsNames s
reading_hidden s keys k n e = (λ f. (let q : false ≡ true = f in cc), λ h. absurd ((h (λ none. some_known (bound_by s) keys k n none)).0 (known_contains (declared_by s) reading_name e)))

pub keeps_both : (s : Script) (keys : List (Bor (List ℕ))) (b : Bool) → Knows (bound_by s) keys → (length keys ≡ 0 → ⊥) → is_known (declared_by s) reading_name ≡ false → is_known (declared_by s) interface_name ≡ b → IsTrue (not b) ↔ KeepsNames s
keeps_both s keys false k n e f = (λ t none. (known_lacks (declared_by s) reading_name e, known_lacks (declared_by s) interface_name f), λ h. refl)
keeps_both s keys true k n e f = (λ t. (let q : false ≡ true = t in cc), λ h. absurd ((h (λ none. some_known (bound_by s) keys k n none)).1 (known_contains (declared_by s) interface_name f)))
