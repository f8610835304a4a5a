-- Whether bytes are text.
use Rattle.std.proofs.Common.{◌≡◌, ℕ, List, Bool, true, false, refl}
use Rattle.std.specs.Str.{IsUtf8, is_utf8}
use Rattle.std.proofs.lemmas.Str.{IsUtf8-from_is_utf8, is_utf8-from_IsUtf8}

pub utf8_yes : (bytes : List ℕ) → IsUtf8 bytes → is_utf8 bytes ≡ true
utf8_yes bytes h = is_utf8-from_IsUtf8 bytes h

not_true : (b : Bool) → ¬ (b ≡ true) → b ≡ false
not_true true h = absurd (h refl)
not_true false h = refl

pub utf8_no : (bytes : List ℕ) → ¬ (IsUtf8 bytes) → is_utf8 bytes ≡ false
utf8_no bytes h = not_true (is_utf8 bytes) (λ e. h (IsUtf8-from_is_utf8 bytes e))
