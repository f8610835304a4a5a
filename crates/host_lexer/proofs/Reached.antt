-- How far the reader has come, and that a text is read in one way.
use Rattle.std.specs.Prelude.{◌≡◌, ℕ, ◌+◌, ◌<◌, ◌≤◌, Bool, true, false, not, List, [], ◌∷◌, ◌++◌, length, take, drop, All, Option, Some, None, IfSome, Err, encode_utf8_all, refl}
use Rattle.std.specs.Char.{is_digit}
use Rattle.std.proofs.Common.{sym, ◌∙◌, ap, subst, arith}
use Rattle.std.proofs.lemmas.List.{append_assoc, append-nil, drop-drop, drop_all, take_at, length-append, length-drop}
use Rattle.std.proofs.lemmas.List.Elements.{All-head, All-tail}
use Rattle.std.proofs.lemmas.Str.{encodes_same}
use Rattle.host_lexer.specs.declared.token.Token.{Token}
use Rattle.host_lexer.specs.declared.token.TokenKind.{TokenKind}
use Rattle.host_lexer.specs.declared.token.LexError.{LexError}
use Rattle.host_lexer.specs.declared.lexeme.Failure.{Failure}
use Rattle.host_lexer.specs.declared.lexeme.Failure.TheVariants as failures
use Rattle.host_lexer.specs.Characters.{is_separator, HasFirst}
use Rattle.host_lexer.specs.Steps.{Begins, Refuses, IsRefusal}
use Rattle.host_lexer.specs.Tokens.{Element, space, line_end, line_comment, block_comment, name, word, number, big_int, text, mark, IsIdentifier, chars_of, spelled, IsElement, EndsBefore, HasNoSeparator, Heads, AreElements, End, at_end, no_token, separator, no_number, EndsAt, size_of, kind_of, has_line_end, token_at, after_next, tokens_from, Reading, tokens, bad_token, number_outside, reading_of, IsRead, told}
use Rattle.host_lexer.specs.Spellings.{word_chars, mark_chars}
use Rattle.host_lexer.proofs.Classes.{numeral_begins}
use Rattle.host_lexer.proofs.Named.{size_append, size_front}
use Rattle.host_lexer.proofs.Spelt.{word_identifier, one_at_least}
use Rattle.host_lexer.proofs.Same.{same_element, same_rest}

-- whether a line end stands before what follows a row of elements
abbrev pub after_all : Bool → List Element → Bool
after_all after [] = after
after_all after (e ∷ es) = after_all (after_next after (has_line_end e) (kind_of e)) es

-- up to a place stands a row of elements, with its size in bytes and its tokens
pub record Reached (chars : List ℕ) (at place : ℕ) (after : Bool) (read : List Token) : Type 0 where
  pub elements : List Element
  pub spell : spelled elements ++ drop at chars ≡ chars
  pub are_elements : AreElements elements (drop at chars)
  pub place_is : place ≡ size_of (spelled elements)
  pub after_is : after ≡ after_all false elements
  pub read_is : read ≡ tokens_from 0 false elements

pub start : (chars : List ℕ) → Reached chars 0 0 false []
start chars = record { elements = []; spell = refl; are_elements = tt; place_is = refl; after_is = refl; read_is = refl }

-- one more element at the end of a row
spelled_snoc : (es : List Element) (e : Element) → spelled (es ++ e ∷ []) ≡ spelled es ++ chars_of e
spelled_snoc [] e = append-nil (chars_of e)
spelled_snoc (d ∷ es) e = ap (λ y. chars_of d ++ y) (spelled_snoc es e) ∙ sym (append_assoc (chars_of d) (spelled es) (chars_of e))

are_snoc : (es : List Element) (e : Element) (left : List ℕ) → AreElements es (chars_of e ++ left) → IsElement e → EndsBefore e left → HasNoSeparator e → AreElements (es ++ e ∷ []) left
are_snoc [] e left a i b s = (i, b, s, tt)
are_snoc (d ∷ es) e left a i b s =
    (a.0, subst (EndsBefore d) (sym (append_assoc (spelled es) (chars_of e) left) ∙ ap (λ y. y ++ left) (sym (spelled_snoc es e))) a.1, a.2, are_snoc es e left a.3 i b s)

after_snoc : (after : Bool) (es : List Element) (e : Element) → after_all after (es ++ e ∷ []) ≡ after_next (after_all after es) (has_line_end e) (kind_of e)
after_snoc after [] e = refl
after_snoc after (d ∷ es) e = after_snoc (after_next after (has_line_end d) (kind_of d)) es e

tokens_snoc : (at : ℕ) (after : Bool) (es : List Element) (e : Element)
    → tokens_from at after (es ++ e ∷ []) ≡ tokens_from at after es ++ token_at (at + size_of (spelled es)) (size_of (chars_of e)) (after_all after es) (kind_of e)
tokens_snoc at after [] e = append-nil (token_at at (size_of (chars_of e)) after (kind_of e)) ∙ (let z : at ≡ at + size_of [] = omega arith in ap (λ n. token_at n (size_of (chars_of e)) after (kind_of e)) z)
tokens_snoc at after (d ∷ es) e =
    let front : List Token = token_at at (size_of (chars_of d)) after (kind_of d) in
    let z : at + size_of (chars_of d) + size_of (spelled es) ≡ at + size_of (chars_of d ++ spelled es) = omega (arith, size_append (chars_of d) (spelled es)) in
    ap (λ y. front ++ y) (tokens_snoc (at + size_of (chars_of d)) (after_next after (has_line_end d) (kind_of d)) es e)
    ∙ sym (append_assoc front (tokens_from (at + size_of (chars_of d)) (after_next after (has_line_end d) (kind_of d)) es)
    (token_at (at + size_of (chars_of d) + size_of (spelled es)) (size_of (chars_of e)) (after_all (after_next after (has_line_end d) (kind_of d)) es) (kind_of e)))
    ∙ ap (λ n. (front ++ tokens_from (at + size_of (chars_of d)) (after_next after (has_line_end d) (kind_of d)) es)
    ++ token_at n (size_of (chars_of e)) (after_all (after_next after (has_line_end d) (kind_of d)) es) (kind_of e)) z

taken_is : (xs w rest : List ℕ) (n : ℕ) → w ++ rest ≡ xs → n ≡ length w → take n xs ≡ w
taken_is xs w rest n e l = ap (λ y. take n y) (sym e) ∙ take_at w rest n (sym l)

pub step : (chars : List ℕ) (at place : ℕ) (after : Bool) (read : List Token) (len to : ℕ) (kind : Option TokenKind) (line then : Bool) (now : List Token)
    → Begins (drop at chars) len kind line → to ≡ place + size_of (take len (drop at chars)) → then ≡ after_next after line kind
    → now ≡ read ++ token_at place (size_of (take len (drop at chars))) after kind
    → Reached chars at place after read → Reached chars (at + len) to then now
step chars at place after read len to kind line then now b t f g r =
    let rest : drop len (drop at chars) ≡ drop (at + len) chars = drop-drop len at chars in
    let s : chars_of b.element ++ drop (at + len) chars ≡ drop at chars = ap (λ y. chars_of b.element ++ y) (sym rest) ∙ b.heads.spell in
    let w : take len (drop at chars) ≡ chars_of b.element = taken_is (drop at chars) (chars_of b.element) (drop (at + len) chars) len s b.size in
    record {
      elements = r.elements ++ b.element ∷ [];
      spell = ap (λ y. y ++ drop (at + len) chars) (spelled_snoc r.elements b.element) ∙ append_assoc (spelled r.elements) (chars_of b.element) (drop (at + len) chars)
          ∙ ap (λ y. spelled r.elements ++ y) s ∙ r.spell;
      are_elements = are_snoc r.elements b.element (drop (at + len) chars) (subst (AreElements r.elements) (sym s) r.are_elements) b.heads.is_element (subst (EndsBefore b.element) rest b.heads.ends) b.no_separator;
      place_is = t ∙ ap (λ y. place + size_of y) w ∙ ap (λ n. n + size_of (chars_of b.element)) r.place_is ∙ sym (size_append (spelled r.elements) (chars_of b.element))
          ∙ ap size_of (sym (spelled_snoc r.elements b.element));
      after_is = f ∙ rw (r.after_is, sym b.line_is, sym b.makes) (sym (after_snoc false r.elements b.element));
      read_is = g ∙ rw (w, r.read_is, r.place_is, r.after_is, sym b.makes) (sym (tokens_snoc_0 r.elements b.element));
    }
  where
    tokens_snoc_0 : (es : List Element) (e : Element) → tokens_from 0 false (es ++ e ∷ []) ≡ tokens_from 0 false es ++ token_at (size_of (spelled es)) (size_of (chars_of e)) (after_all false es) (kind_of e)
    tokens_snoc_0 es e = let z : 0 + size_of (spelled es) ≡ size_of (spelled es) = omega arith in
        tokens_snoc 0 false es e ∙ ap (λ n. tokens_from 0 false es ++ token_at n (size_of (chars_of e)) (after_all false es) (kind_of e)) z

-- the end of the text
pub finished : (chars : List ℕ) (at place : ℕ) (after : Bool) (read : List Token) → length chars ≤ at → Reached chars at place after read → IsRead (encode_utf8_all chars) (tokens read)
finished chars at place after read l r = record {
  elements = r.elements;
  left = drop at chars;
  ending = at_end;
  spell = ap encode_utf8_all r.spell;
  are_elements = r.are_elements;
  ends = drop_all at chars l;
  tells = ap (λ y. tokens y) (sym r.read_is);
}

-- where the reader refuses
pub refused : (chars : List ℕ) (at place : ℕ) (after : Bool) (read : List Token) (failure : Failure) (e : LexError) → Refuses failure (drop at chars) → IsRefusal (drop at chars) place failure e
    → Reached chars at place after read → IfSome (told (Err e)) (IsRead (encode_utf8_all chars))
refused chars at place after read failures.NoToken e h i r = rw i (record {
  elements = r.elements;
  left = drop at chars;
  ending = no_token;
  spell = ap encode_utf8_all r.spell;
  are_elements = r.are_elements;
  ends = h;
  tells = ap (λ n. bad_token n) (sym r.place_is);
})
refused chars at place after read failures.NoNumber e h i r = rw i (record {
  elements = r.elements;
  left = drop at chars;
  ending = no_number;
  spell = ap encode_utf8_all r.spell;
  are_elements = r.are_elements;
  ends = h;
  tells = ap (λ n. number_outside n) (sym r.place_is);
})
refused chars at place after read (failures.Separator n) e (before, h, l) i r = rw i (record {
  elements = r.elements;
  left = drop at chars;
  ending = separator before;
  spell = ap encode_utf8_all r.spell;
  are_elements = r.are_elements;
  ends = h;
  tells = ap (λ n. bad_token n) (size_append (spelled r.elements) (47 ∷ 42 ∷ before)
      ∙ ap (λ m. m + size_of (47 ∷ 42 ∷ before)) (sym r.place_is) ∙ ap (λ y. place + size_of y) (sym w));
})
  where
    cut : (c : ℕ) × (after rest : List ℕ) × Heads (drop at chars) (block_comment (before ++ c ∷ after)) rest × (is_separator c ≡ true) × All (λ d. is_separator d ≡ false) before
        → take (n + 2) (drop at chars) ≡ 47 ∷ 42 ∷ before
    cut (c, after, rest, g, q, u) = taken_is (drop at chars) (47 ∷ 42 ∷ before) ((c ∷ after) ++ 42 ∷ 47 ∷ rest) (n + 2)
        (ap (λ y. 47 ∷ 42 ∷ y) (sym (append_assoc before (c ∷ after) (42 ∷ 47 ∷ rest)) ∙ sym (append_assoc (before ++ c ∷ after) (42 ∷ 47 ∷ []) rest)) ∙ g.spell) (omega (arith, l))

    w : take (n + 2) (drop at chars) ≡ 47 ∷ 42 ∷ before
    w = cut h
refused chars at place after read failures.NoMemory e h i r = rw i tt

-- an element has a character
pub filled : (e : Element) (rest : List ℕ) → chars_of e ++ rest ≡ [] → IsElement e → ⊥
filled (space c) rest s h = cc
filled (line_end c) rest s h = cc
filled (line_comment cs) rest s h = cc
filled (block_comment cs) rest s h = cc
filled (name []) rest s h = h.0
filled (name (c ∷ cs)) rest s h = cc
filled (word w) rest s h = on (word_chars w) (word_identifier w) s
  where
    on : (xs : List ℕ) → IsIdentifier xs → xs ++ rest ≡ [] → ⊥
    on [] h s = h
    on (c ∷ cs) h s = cc
filled (number n) rest s h = let p = numeral_begins n h.0 in let q : p.0 ∷ (p.1 ++ rest) ≡ [] = ap (λ y. y ++ rest) (sym p.2) ∙ s in cc
filled (big_int n) rest s h =
    let p = numeral_begins n h.0 in let q : p.0 ∷ ((p.1 ++ 110 ∷ []) ++ rest) ≡ [] = ap (λ y. (y ++ 110 ∷ []) ++ rest) (sym p.2) ∙ s in cc
filled (text q ps) rest s h = cc
filled (mark m) rest s h = let n = ap length s in let l = length-append (mark_chars m) rest in let k = one_at_least m in omega (arith, n, l, k)

all_back : (xs : List ℕ) (c : ℕ) (ys : List ℕ) → All (λ d. is_separator d ≡ false) (xs ++ c ∷ ys) → is_separator c ≡ false
all_back [] c ys h = All-head (λ d. is_separator d ≡ false) c ys h
all_back (x ∷ xs) c ys h = all_back xs c ys (All-tail (λ d. is_separator d ≡ false) x (xs ++ c ∷ ys) h)

-- a row of elements has one end
not_first : (left : List ℕ) (o : End) (e : Element) (rest : List ℕ) → EndsAt left o → Heads left e rest → HasNoSeparator e → ⊥
not_first left at_end e rest h g s = filled e rest (g.spell ∙ h) g.is_element
not_first left no_token e rest h g s = h.1 e rest g
not_first left no_number e rest h g s = h.1 e rest g
not_first left (separator before) e rest (c, after, tail, f, q, a) g s =
    let k : e ≡ block_comment (before ++ c ∷ after) = same_element left e (block_comment (before ++ c ∷ after)) rest tail g f in
    let z : is_separator c ≡ false = all_back before c after (subst HasNoSeparator k s) in cc

-- two fronts up to the first separator
same_fronts : (b c : List ℕ) (x y : ℕ) (u v : List ℕ) → b ++ x ∷ u ≡ c ++ y ∷ v → is_separator x ≡ true → is_separator y ≡ true → All (λ d. is_separator d ≡ false) b → All (λ d. is_separator d ≡ false) c → b ≡ c
same_fronts [] [] x y u v e p q h g = refl
same_fronts [] (d ∷ c) x y u v e p q h g = let k : x ≡ d = cc in let z : is_separator x ≡ false = subst (λ n. is_separator n ≡ false) (sym k) (All-head (λ d. is_separator d ≡ false) d c g) in cc
same_fronts (d ∷ b) [] x y u v e p q h g = let k : d ≡ y = cc in let z : is_separator y ≡ false = subst (λ n. is_separator n ≡ false) k (All-head (λ d. is_separator d ≡ false) d b h) in cc
same_fronts (d ∷ b) (f ∷ c) x y u v e p q h g =
    let k : d ≡ f = cc in let t : b ++ x ∷ u ≡ c ++ y ∷ v = cc in
    let r : b ≡ c = same_fronts b c x y u v t p q (All-tail (λ d. is_separator d ≡ false) d b h) (All-tail (λ d. is_separator d ≡ false) f c g) in cc

digit_or_not : (left : List ℕ) → HasFirst (λ c. is_digit c 10) left → HasFirst (λ c. not (is_digit c 10)) left → ⊥
digit_or_not [] h g = h
digit_or_not (c ∷ cs) h g = on (is_digit c 10) h g
  where
    on : (b : Bool) → b ≡ true → not b ≡ true → ⊥
    on true h g = cc
    on false h g = cc

nothing_first : (left : List ℕ) (test : ℕ → Bool) → left ≡ [] → HasFirst test left → ⊥
nothing_first [] test e h = h
nothing_first (c ∷ cs) test e h = cc

same_end : (left : List ℕ) (o p : End) → EndsAt left o → EndsAt left p → o ≡ p
same_end left at_end at_end h g = refl
same_end left at_end no_token h g = absurd (nothing_first left (λ c. not (is_digit c 10)) h g.0)
same_end left at_end no_number h g = absurd (nothing_first left (λ c. is_digit c 10) h g.0)
same_end left at_end (separator b) h (c, after, tail, f, q, a) = absurd (filled (block_comment (b ++ c ∷ after)) tail (f.spell ∙ h) f.is_element)
same_end left no_token at_end h g = absurd (nothing_first left (λ c. not (is_digit c 10)) g h.0)
same_end left no_token no_token h g = refl
same_end left no_token no_number h g = absurd (digit_or_not left g.0 h.0)
same_end left no_token (separator b) h (c, after, tail, f, q, a) = absurd (h.1 (block_comment (b ++ c ∷ after)) tail f)
same_end left no_number at_end h g = absurd (nothing_first left (λ c. is_digit c 10) g h.0)
same_end left no_number no_token h g = absurd (digit_or_not left h.0 g.0)
same_end left no_number no_number h g = refl
same_end left no_number (separator b) h (c, after, tail, f, q, a) = absurd (h.1 (block_comment (b ++ c ∷ after)) tail f)
same_end left (separator b) at_end (c, after, tail, f, q, a) g = absurd (filled (block_comment (b ++ c ∷ after)) tail (f.spell ∙ g) f.is_element)
same_end left (separator b) no_token (c, after, tail, f, q, a) g = absurd (g.1 (block_comment (b ++ c ∷ after)) tail f)
same_end left (separator b) no_number (c, after, tail, f, q, a) g = absurd (g.1 (block_comment (b ++ c ∷ after)) tail f)
same_end left (separator b) (separator d) (c, after, tail, f, q, a) (x, y, z, g, r, k) =
    let s : block_comment (b ++ c ∷ after) ≡ block_comment (d ++ x ∷ y) = same_element left (block_comment (b ++ c ∷ after)) (block_comment (d ++ x ∷ y)) tail z f g in
    let t : b ++ c ∷ after ≡ d ++ x ∷ y = cc in
    ap (λ w. separator w) (same_fronts b d c x after y t q r a k)

head_of : (e : Element) (es : List Element) (left : List ℕ) → AreElements (e ∷ es) left → Heads (spelled (e ∷ es) ++ left) e (spelled es ++ left)
head_of e es left a = record { spell = sym (append_assoc (chars_of e) (spelled es) left); is_element = a.0; ends = a.1 }

same_row : (es ds : List Element) (left rest : List ℕ) (o p : End) → spelled es ++ left ≡ spelled ds ++ rest → AreElements es left → AreElements ds rest → EndsAt left o → EndsAt rest p → (es ≡ ds) × (o ≡ p)
same_row [] [] left rest o p e a b h g = (refl, same_end left o p h (subst (λ y. EndsAt y p) (sym e) g))
same_row [] (d ∷ ds) left rest o p e a b h g = absurd (not_first left o d (spelled ds ++ rest) h (subst (λ y. Heads y d (spelled ds ++ rest)) (sym e) (head_of d ds rest b)) b.2)
same_row (d ∷ es) [] left rest o p e a b h g = absurd (not_first rest p d (spelled es ++ left) g (subst (λ y. Heads y d (spelled es ++ left)) e (head_of d es left a)) a.2)
same_row (c ∷ es) (d ∷ ds) left rest o p e a b h g =
    let f : Heads (spelled (d ∷ ds) ++ rest) c (spelled es ++ left) = subst (λ y. Heads y c (spelled es ++ left)) e (head_of c es left a) in
    let k : Heads (spelled (d ∷ ds) ++ rest) d (spelled ds ++ rest) = head_of d ds rest b in
    let s : c ≡ d = same_element (spelled (d ∷ ds) ++ rest) c d (spelled es ++ left) (spelled ds ++ rest) f k in
    let t : spelled es ++ left ≡ spelled ds ++ rest = same_rest (spelled (d ∷ ds) ++ rest) c d (spelled es ++ left) (spelled ds ++ rest) f k in
    let ih = same_row es ds left rest o p t a.3 b.3 h g in
    ((let q : es ≡ ds = ih.0 in cc), ih.1)

-- two rows of one text are one
one_row : (es ds : List Element) (left rest : List ℕ) (o p : End) → spelled es ++ left ≡ spelled ds ++ rest → AreElements es left → AreElements ds rest → EndsAt left o → EndsAt rest p
    → reading_of es o ≡ reading_of ds p
one_row es ds left rest o p e a b h g = let k = same_row es ds left rest o p e a b h g in ap (λ y. reading_of y o) k.0 ∙ ap (reading_of ds) k.1

-- a text is read in one way
pub one_reading : (bytes : List ℕ) (q r : Reading) → IsRead bytes q → IsRead bytes r → q ≡ r
one_reading bytes q r h g =
    sym h.tells ∙ one_row h.elements g.elements h.left g.left h.ending g.ending (encodes_same (spelled h.elements ++ h.left) (spelled g.elements ++ g.left) (h.spell ∙ sym g.spell))
    h.are_elements g.are_elements h.ends g.ends ∙ g.tells

-- one element fits what is left
pub element_fits : (chars : List ℕ) (at len : ℕ) (kind : Option TokenKind) (line : Bool) → at < length chars → Begins (drop at chars) len kind line
    → (0 < len) × (at + len ≤ length chars) × (size_of (take len (drop at chars)) ≤ size_of (drop at chars))
element_fits chars at len kind line lt b =
    let n = ap length b.heads.spell in let m = length-append (chars_of b.element) (drop len (drop at chars)) in let d = length-drop at chars in let s = b.size in
    (not_empty (chars_of b.element) b.element refl b.heads.is_element s, omega (arith, n, m, d, s, lt), size_front (drop at chars) len)
  where
    not_empty : (xs : List ℕ) (e : Element) → chars_of e ≡ xs → IsElement e → len ≡ length (chars_of e) → 0 < len
    not_empty [] e q i s = absurd (filled e [] (append-nil (chars_of e) ∙ q) i)
    not_empty (x ∷ xs) e q i s = let n = ap length q in omega (arith, n, s)

pub place_there : (chars : List ℕ) (at place : ℕ) (after : Bool) (read : List Token) → Reached chars at place after read → place + size_of (drop at chars) ≡ size_of chars
place_there chars at place after read r = let a = size_append (spelled r.elements) (drop at chars) in let b = ap size_of r.spell in let c = r.place_is in omega (arith, a, b, c)

pub told_one : (bytes : List ℕ) (t : Option Reading) → IfSome t (IsRead bytes) → (r : Reading) → IsRead bytes r → IfSome t (λ q. q ≡ r)
told_one bytes None h r g = tt
told_one bytes (Some q) h r g = one_reading bytes q r h g
