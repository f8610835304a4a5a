-- The tokens of a text stand in order.
use Rattle.std.specs.Prelude.{◌≡◌, ℕ, ◌+◌, ◌<◌, ◌≤◌, Bool, true, false, List, [], ◌∷◌, ◌++◌, length, codes, refl, if◌then◌else◌}
use Rattle.std.specs.Str.{bytes_eq}
use Rattle.std.proofs.Common.{◌∙◌, ap, subst, arith, inl, inr}
use Rattle.std.proofs.lemmas.List.{length-append}
use Rattle.std.proofs.lemmas.Slice.Eq.{bytes_eq-Decides}
use Rattle.small_lexer.specs.declared.token.TokenKind.TheVariants as kinds
use Rattle.small_lexer.specs.declared.token.Word.TheVariants as words
use Rattle.small_lexer.specs.declared.token.Token.{Token}
use Rattle.small_lexer.specs.Tokens.{Element, space, line_feed, name, number, text, mark, spelled, IsElement, IsDecimal, AreElements, tokens_from, HasTokens, IsTokenKind, InOrder, kind_of_name}
use Rattle.small_lexer.proofs.Fronts.{identifier}

kind_can_be : (w : List ℕ) → IsElement (name w) → IsTokenKind (kind_of_name w)
kind_can_be w h = on (bytes_eq w (codes "let")) (bytes_eq w (codes "new")) refl refl h
  where
    on : (b c : Bool) → bytes_eq w (codes "let") ≡ b → bytes_eq w (codes "new") ≡ c → IsElement (name w)
        → IsTokenKind (if b then kinds.Word words.Let else if c then kinds.Word words.New else kinds.Name w)
    on true c e f h = tt
    on false true e f h = tt
    on false false e f (inl q) = let t : bytes_eq w (codes "let") ≡ true = (bytes_eq-Decides w (codes "let")).1 q in cc
    on false false e f (inr (inl q)) = let t : bytes_eq w (codes "new") ≡ true = (bytes_eq-Decides w (codes "new")).1 q in cc
    on false false e f (inr (inr h)) = h

name_size : (w : List ℕ) → IsElement (name w) → 0 < length w
name_size [] h = absurd (identifier [] h)
name_size (c ∷ w) h = omega arith

number_size : (ds : List ℕ) → IsDecimal ds → 0 < length ds
number_size [] h = absurd h
number_size (d ∷ ds) h = omega arith

order : (es : List Element) (low at len : ℕ) (after : Bool) → low ≤ at → at + length (spelled es) ≡ len → AreElements es → InOrder low len (tokens_from at after es)
order [] low at len after h e a = omega arith
order (space ∷ es) low at len after h e a = order es low (at + 1) len after (omega arith) (omega (arith, e)) a.2
order (line_feed ∷ es) low at len after h e a = order es low (at + 1) len true (omega arith) (omega (arith, e)) a.2
order (name w ∷ es) low at len after h e a = (
  h,
  (let s = name_size w a.0 in omega (arith, s)),
  kind_can_be w a.0,
  order es (at + length w) (at + length w) len false (omega arith) (omega (arith, e, length-append w (spelled es))) a.2,
)
order (number ds ∷ es) low at len after h e a = (
  h,
  (let s = number_size ds a.0.0 in omega (arith, s)),
  a.0.1,
  order es (at + length ds) (at + length ds) len false (omega arith) (omega (arith, e, length-append ds (spelled es))) a.2,
)
order (text s ∷ es) low at len after h e a = (
  h,
  omega arith,
  tt,
  order es (at + (length s + 2)) (at + (length s + 2)) len false (omega arith) (omega (arith, e, length-append (34 ∷ (s ++ 34 ∷ [])) (spelled es), length-append s (34 ∷ []))) a.2,
)
order (mark m ∷ es) low at len after h e a = (h, omega arith, tt, order es (at + 1) (at + 1) len false (omega arith) (omega (arith, e)) a.2)

pub in_order : (bytes : List ℕ) (ts : List Token) → HasTokens bytes ts → InOrder 0 (length bytes) ts
in_order bytes ts h = subst (InOrder 0 (length bytes)) h.are_theirs (order h.elements 0 0 (length bytes) false (omega arith) (ap (λ xs. 0 + length xs) h.spell ∙ omega arith) h.are_elements)
