-- The bytes between a token's ends spell it.
use Rattle.std.specs.Prelude.{◌≡◌, ℕ, ◌+◌, ◌-◌, Bool, true, false, List, [], ◌∷◌, ◌++◌, length, codes, All, refl, take, drop, if◌then◌else◌}
use Rattle.std.specs.List.{slice_range}
use Rattle.std.specs.Str.{bytes_eq}
use Rattle.std.proofs.Common.{sym, ◌∙◌, ap, subst, arith}
use Rattle.std.proofs.lemmas.List.{take_at, drop_at, drop-drop, length-append}
use Rattle.std.proofs.lemmas.List.Elements.{All-nil, All-cons}
use Rattle.std.proofs.lemmas.Slice.Eq.{bytes_eq-Decides}
use Rattle.small_lexer.specs.declared.token.TokenKind.TheVariants as kinds
use Rattle.small_lexer.specs.declared.token.Word.TheVariants as words
use Rattle.small_lexer.specs.declared.token.Token.{Token}
use Rattle.small_lexer.specs.Tokens.{Element, space, line_feed, name, number, text, mark, spelling_of, spelled, AreElements, tokens_from, HasTokens, kind_of_name, Spells}

-- a token between its ends
abbrev pub IsSpelled : List ℕ → Token → Type 0
IsSpelled bytes t = Spells (slice_range bytes t.from t.to) t.kind

cut : (bytes w rest : List ℕ) (at n : ℕ) → w ++ rest ≡ drop at bytes → n ≡ length w → slice_range bytes at (at + n) ≡ w
cut bytes w rest at n e s =
    let k : (at + n) - at ≡ length w = omega (arith, s) in
    ap (λ i. take i (drop at bytes)) k ∙ ap (take (length w)) (sym e) ∙ take_at w rest (length w) refl

left : (bytes w rest : List ℕ) (at n : ℕ) → w ++ rest ≡ drop at bytes → n ≡ length w → rest ≡ drop (at + n) bytes
left bytes w rest at n e s = sym (drop_at w rest n (sym s)) ∙ ap (drop n) e ∙ drop-drop n at bytes

name_spells : (bytes w : List ℕ) → bytes ≡ w → Spells bytes (kind_of_name w)
name_spells bytes w e = on (bytes_eq w (codes "let")) (bytes_eq w (codes "new")) refl refl
  where
    on : (b c : Bool) → bytes_eq w (codes "let") ≡ b → bytes_eq w (codes "new") ≡ c → Spells bytes (if b then kinds.Word words.Let else if c then kinds.Word words.New else kinds.Name w)
    on true c q r = e ∙ (bytes_eq-Decides w (codes "let")).0 q
    on false true q r = e ∙ (bytes_eq-Decides w (codes "new")).0 r
    on false false q r = e

spells : (bytes : List ℕ) (es : List Element) (at : ℕ) (after : Bool) → spelled es ≡ drop at bytes → AreElements es → All (IsSpelled bytes) (tokens_from at after es)
spells bytes [] at after e a = All-nil (IsSpelled bytes)
spells bytes (space ∷ es) at after e a = spells bytes es (at + 1) after (left bytes (32 ∷ []) (spelled es) at 1 e refl) a.2
spells bytes (line_feed ∷ es) at after e a = spells bytes es (at + 1) true (left bytes (10 ∷ []) (spelled es) at 1 e refl) a.2
spells bytes (name w ∷ es) at after e a =
    All-cons (IsSpelled bytes) _ _ (name_spells (slice_range bytes at (at + length w)) w (cut bytes w (spelled es) at (length w) e refl))
    (spells bytes es (at + length w) false (left bytes w (spelled es) at (length w) e refl) a.2)
spells bytes (number ds ∷ es) at after e a =
    let q = cut bytes ds (spelled es) at (length ds) e refl in
    All-cons (IsSpelled bytes) _ _ (rw q (a.0.0, refl))
    (spells bytes es (at + length ds) false (left bytes ds (spelled es) at (length ds) e refl) a.2)
spells bytes (text s ∷ es) at after e a =
    let n : length s + 2 ≡ length (34 ∷ (s ++ 34 ∷ [])) = omega (arith, length-append s (34 ∷ [])) in
    All-cons (IsSpelled bytes) _ _ (cut bytes (34 ∷ (s ++ 34 ∷ [])) (spelled es) at (length s + 2) e n)
    (spells bytes es (at + (length s + 2)) false (left bytes (34 ∷ (s ++ 34 ∷ [])) (spelled es) at (length s + 2) e n) a.2)
spells bytes (mark m ∷ es) at after e a =
    All-cons (IsSpelled bytes) _ _ (cut bytes (spelling_of (mark m)) (spelled es) at 1 e refl)
    (spells bytes es (at + 1) false (left bytes (spelling_of (mark m)) (spelled es) at 1 e refl) a.2)

pub are_spelled : (bytes : List ℕ) (ts : List Token) → HasTokens bytes ts → All (IsSpelled bytes) ts
are_spelled bytes ts h = subst (All (IsSpelled bytes)) h.are_theirs (spells bytes h.elements 0 false h.spell h.are_elements)
