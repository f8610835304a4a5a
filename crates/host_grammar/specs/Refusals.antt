-- What tokens are read as: a tree, or the place at which they are refused.
use Rattle.std.specs.Prelude.{◌≡◌, ℕ, zero, suc, ◌+◌, ◌<◌, ◌≤◌, List, [], ◌∷◌, ◌++◌, length, take, map, Some, slice_get}
use Rattle.host_lexer.specs.declared.token.Token.{Token}
use Rattle.host_grammar.specs.Derivations.{Named, Script}
use Rattle.host_grammar.specs.Printing.{Sign, Printed, seen, script_then}
use Rattle.host_grammar.specs.Conditions.{IsScript}
use Rattle.host_grammar.specs.Scopes.{IsFirstAgain, HasNoAgain}

-- these tokens are a prefix of some script's
abbrev pub Begins : List Sign → Type 0
Begins signs = (more : List Sign) × (script : Script) × IsScript (signs ++ more) script

-- the least k such that the tokens through k are a prefix of no script's, or their number where only more are missing
pub record IsUnexpected (signs : List Sign) (k : ℕ) : Type 0 where
  pub begins : Begins (take k signs)
  pub next : k < length signs → ¬ Begins (take (k + 1) signs)
  pub ends : length signs ≤ k → (script : Script) → ¬ IsScript signs script

-- the constructs that may be open at once
abbrev pub most_open : ℕ
most_open = 256

-- in a script that begins with the tokens through k, the one at k is the first that opens more constructs
pub record IsTooDeep (signs : List Sign) (k : ℕ) : Type 0 where
  pub within : k < length signs
  pub more : List Sign
  pub script : Script
  pub is_script : IsScript (take (k + 1) signs ++ more) script
  pub opens : (p : Printed) → slice_get (script_then script []) k ≡ Some p → most_open < p.nth
  pub first : (i : ℕ) (p : Printed) → i < k → slice_get (script_then script []) i ≡ Some p → p.nth ≤ most_open

-- a tree, an unexpected token or a construct too deep by its place, or a later declaration by its place and name
pub data Parsed : Type 0 where
  tree : Script → Parsed
  unexpected : (place : ℕ) → Parsed
  too_deep : (place : ℕ) → Parsed
  early : (place : ℕ) (name : List ℕ) → Parsed

-- the place of a token, or the text's length behind the last one
abbrev pub place_of : List Token → ℕ → ℕ → ℕ
place_of [] len k = len
place_of (t ∷ ts) len zero = t.from
place_of (t ∷ ts) len (suc k) = place_of ts len k

-- what tokens are read as; the lesser place decides, and early rules come after both
abbrev pub IsParsed : List Token → ℕ → Parsed → Type 0
IsParsed ts len (tree s) = IsScript (map seen ts) s × ((k : ℕ) → ¬ IsTooDeep (map seen ts) k) × HasNoAgain s
IsParsed ts len (unexpected p) = (k : ℕ) × (p ≡ place_of ts len k) × IsUnexpected (map seen ts) k × ((i : ℕ) → ¬ IsTooDeep (map seen ts) i)
IsParsed ts len (too_deep p) = (k : ℕ) × (p ≡ place_of ts len k) × IsTooDeep (map seen ts) k
IsParsed ts len (early p n) = (s : Script) × (m : Named) × IsScript (map seen ts) s × ((k : ℕ) → ¬ IsTooDeep (map seen ts) k) × IsFirstAgain s m × (p ≡ m.spot.place) × (n ≡ m.text)

-- the same tree, or the same kind of refusal at the same place
abbrev pub IsSame : Parsed → Parsed → Type 0
IsSame (tree s) (tree t) = s ≡ t
IsSame (unexpected p) (unexpected q) = p ≡ q
IsSame (too_deep p) (too_deep q) = p ≡ q
IsSame (early p n) (early q m) = p ≡ q
IsSame _ _ = ⊥
