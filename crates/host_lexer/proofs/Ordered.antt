-- The tokens of a text stand in order and apart, and the bytes between a token's ends spell it.
use Rattle.std.specs.Prelude.{◌≡◌, ℕ, ◌+◌, ◌-◌, ◌<◌, ◌≤◌, Bool, false, List, [], ◌∷◌, ◌++◌, length, take, drop, All, Option, Some, None, Result, Ok, Err, IfOk, IfSome, encode_utf8_all, refl}
use Rattle.std.specs.declared.alloc.Global.{Global}
use Rattle.std.specs.declared.vec.Vec.{Vec}
use Rattle.std.specs.List.{slice_range}
use Rattle.std.proofs.Common.{sym, ◌∙◌, ap, subst, arith}
use Rattle.std.proofs.lemmas.List.{append_assoc, append-nil, drop-drop, drop_at, take_at}
use Rattle.std.proofs.lemmas.List.Elements.{All-nil, All-cons}
use Rattle.std.proofs.lemmas.Str.{encodes-append, length-le-encodes}
use Rattle.host_lexer.specs.declared.token.Token.{Token}
use Rattle.host_lexer.specs.declared.token.TokenKind.{TokenKind}
use Rattle.host_lexer.specs.declared.token.TokenKind.TheVariants as kinds
use Rattle.host_lexer.specs.Numerals.{value_of}
use Rattle.host_lexer.specs.Texts.{text_of}
use Rattle.host_lexer.specs.declared.token.LexError.{LexError}
use Rattle.host_lexer.specs.declared.token.LexError.TheVariants as errors
use Rattle.host_lexer.specs.Tokens.{Element, space, line_end, line_comment, block_comment, name, word, number, big_int, text, mark, chars_of, spelled, IsElement, AreElements, End, at_end, no_token, separator, no_number, size_of, kind_of, has_line_end, token_at, after_next, tokens_from, tokens, reading_of, IsRead, IsTokenKind, InOrder, Spells, told}
use Rattle.host_lexer.proofs.Named.{size_append}
use Rattle.host_lexer.proofs.Reached.{filled}

kind_can_be : (e : Element) (k : TokenKind) → IsElement e → kind_of e ≡ Some k → IsTokenKind k
kind_can_be (name w) k h q = let p : kinds.Name (encode_utf8_all w) ≡ k = cc in subst IsTokenKind p (w, h, refl)
kind_can_be (word w) k h q = let p : kinds.Word w ≡ k = cc in subst IsTokenKind p tt
kind_can_be (number n) k h q = let p : kinds.Number (value_of n) ≡ k = cc in subst IsTokenKind p h.1
kind_can_be (big_int n) k h q = let p : kinds.BigInt (value_of n) ≡ k = cc in subst IsTokenKind p h.1
kind_can_be (text c ps) k h q = let p : kinds.Text (text_of ps) ≡ k = cc in subst IsTokenKind p tt
kind_can_be (mark m) k h q = let p : kinds.Mark m ≡ k = cc in subst IsTokenKind p tt
kind_can_be (space c) k h q = cc
kind_can_be (line_end c) k h q = cc
kind_can_be (line_comment cs) k h q = cc
kind_can_be (block_comment cs) k h q = cc

has_size : (e : Element) → IsElement e → 0 < size_of (chars_of e)
has_size e h = on (chars_of e) refl
  where
    on : (cs : List ℕ) → chars_of e ≡ cs → 0 < size_of (chars_of e)
    on [] q = absurd (filled e [] (append-nil (chars_of e) ∙ q) h)
    on (c ∷ cs) q = let l = length-le-encodes (chars_of e) in let n = ap length q in omega (arith, l, n)

order : (es : List Element) (left : List ℕ) (low at len : ℕ) (after : Bool) → low ≤ at → at + size_of (spelled es) ≤ len → AreElements es left → InOrder low len (tokens_from at after es)
order [] left low at len after h e a = omega arith
order (d ∷ es) left low at len after h e a = on (λ l f g. order es left l (at + size_of (chars_of d)) len f g within a.3) (kind_of d) refl
  where
    within : at + size_of (chars_of d) + size_of (spelled es) ≤ len
    within = omega (arith, size_append (chars_of d) (spelled es), e)

    on : ((l : ℕ) (f : Bool) → l ≤ at + size_of (chars_of d) → InOrder l len (tokens_from (at + size_of (chars_of d)) f es)) → (k : Option TokenKind) → kind_of d ≡ k → InOrder low len (token_at at (size_of (chars_of d)) after k ++ tokens_from (at + size_of (chars_of d)) (after_next after (has_line_end d) k) es)
    on ih None q = ih low (after_next after (has_line_end d) None) (omega arith)
    on ih (Some k) q = (h, (let t = has_size d a.0 in omega (arith, t)), kind_can_be d k a.0 q, ih (at + size_of (chars_of d)) (after_next after (has_line_end d) (Some k)) (omega arith))

-- a token between its ends
abbrev pub IsSpelled : List ℕ → Token → Type 0
IsSpelled bytes t = Spells (slice_range bytes t.from t.to) t.kind

spells : (bytes : List ℕ) (es : List Element) (left : List ℕ) (at : ℕ) (after : Bool) → encode_utf8_all (spelled es ++ left) ≡ drop at bytes → AreElements es left → All (IsSpelled bytes) (tokens_from at after es)
spells bytes [] left at after e a = All-nil (IsSpelled bytes)
spells bytes (d ∷ es) left at after e a = on (λ f. spells bytes es left (at + size_of (chars_of d)) f rest a.3) (kind_of d) refl
  where
    parts : encode_utf8_all (chars_of d) ++ encode_utf8_all (spelled es ++ left) ≡ drop at bytes
    parts = sym (encodes-append (chars_of d) (spelled es ++ left)) ∙ ap encode_utf8_all (sym (append_assoc (chars_of d) (spelled es) left)) ∙ e

    rest : encode_utf8_all (spelled es ++ left) ≡ drop (at + size_of (chars_of d)) bytes
    rest = sym (drop_at (encode_utf8_all (chars_of d)) (encode_utf8_all (spelled es ++ left)) (size_of (chars_of d)) refl) ∙ ap (drop (size_of (chars_of d))) parts ∙ drop-drop (size_of (chars_of d)) at bytes

    cut : slice_range bytes at (at + size_of (chars_of d)) ≡ encode_utf8_all (chars_of d)
    cut = let k : (at + size_of (chars_of d)) - at ≡ size_of (chars_of d) = omega arith in
        ap (λ n. take n (drop at bytes)) k ∙ ap (take (size_of (chars_of d))) (sym parts) ∙ take_at (encode_utf8_all (chars_of d)) (encode_utf8_all (spelled es ++ left)) (size_of (chars_of d)) refl

    on : ((f : Bool) → All (IsSpelled bytes) (tokens_from (at + size_of (chars_of d)) f es)) → (k : Option TokenKind) → kind_of d ≡ k → All (IsSpelled bytes) (token_at at (size_of (chars_of d)) after k ++ tokens_from (at + size_of (chars_of d)) (after_next after (has_line_end d) k) es)
    on ih None q = ih (after_next after (has_line_end d) None)
    on ih (Some k) q = All-cons (IsSpelled bytes) _ _ (record { element = d; spell = sym cut; is_element = a.0; is_its = q }) (ih (after_next after (has_line_end d) (Some k)))

pub in_order : (bytes : List ℕ) (ts : List Token) → IsRead bytes (tokens ts) → InOrder 0 (length bytes) ts
in_order bytes ts h = on h.ending h.tells
  where
    len : 0 + size_of (spelled h.elements) ≤ length bytes
    len = let p = ap length h.spell in let q = size_append (spelled h.elements) h.left in omega (arith, p, q)

    on : (o : End) → reading_of h.elements o ≡ tokens ts → InOrder 0 (length bytes) ts
    on at_end t = let q : tokens_from 0 false h.elements ≡ ts = cc in subst (InOrder 0 (length bytes)) q (order h.elements h.left 0 0 (length bytes) false (omega arith) len h.are_elements)
    on no_token t = cc
    on (separator b) t = cc
    on no_number t = cc

pub are_spelled : (bytes : List ℕ) (ts : List Token) → IsRead bytes (tokens ts) → All (IsSpelled bytes) ts
are_spelled bytes ts h = on h.ending h.tells
  where
    on : (o : End) → reading_of h.elements o ≡ tokens ts → All (IsSpelled bytes) ts
    on at_end t = let q : tokens_from 0 false h.elements ≡ ts = cc in subst (All (IsSpelled bytes)) q (spells bytes h.elements h.left 0 false h.spell h.are_elements)
    on no_token t = cc
    on (separator b) t = cc
    on no_number t = cc

-- what holds of the tokens that a text is read as holds of those that are answered
pub answered : (bytes : List ℕ) (P : List Token → Type 0) (r : Result (Vec Token Global) LexError) → IfSome (told r) (IsRead bytes) → ((ts : List Token) → IsRead bytes (tokens ts) → P ts) → IfOk r (λ v. P v.items)
answered bytes P (Ok v) h f = f v.items h
answered bytes P (Err (errors.BadToken p)) h f = tt
answered bytes P (Err (errors.NumberOutside p)) h f = tt
answered bytes P (Err errors.NoMemory) h f = tt
