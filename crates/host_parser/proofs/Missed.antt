-- A text that is none of a list's names is not found in it.
use Rattle.std.specs.Prelude.{◌≡◌, ℕ, Bool, true, false, cond, Option, Some, None, List, [], ◌∷◌, refl}
use Rattle.std.proofs.Common.{sym}
use Rattle.std.specs.Str.{bytes_eq}
use Rattle.std.proofs.lemmas.Slice.Eq.{bytes_eq-Decides}
use Rattle.host_parser.specs.declared.predefined.Predefined.{Predefined}
use Rattle.host_parser.specs.Predefined.{look_up}

abbrev pub IsNone : List ℕ → List (List ℕ × Predefined) → Type 0
IsNone n [] = Unit {0}
IsNone n (p ∷ ps) = ¬ (n ≡ p.0) × IsNone n ps

either : (p : List ℕ × Predefined) (n : List ℕ) (r : Option Predefined) (b : Bool) → bytes_eq p.0 n ≡ b → ¬ (n ≡ p.0) → r ≡ None → cond b (Some p.1) r ≡ None
either p n r true e h k = absurd (h (sym ((bytes_eq-Decides p.0 n).0 e)))
either p n r false e h k = k

pub missed : (n : List ℕ) (ps : List (List ℕ × Predefined)) → IsNone n ps → look_up n ps ≡ None
missed n [] h = refl
missed n (p ∷ ps) h = either p n (look_up n ps) (bytes_eq p.0 n) refl h.0 (missed n ps h.1)
