-- What the first two characters tell of the element that they begin.
use Rattle.std.specs.Prelude.{◌≡◌, ℕ, ◌<◌, Bool, true, false, ◌||◌, ◌==◌, List, [], ◌∷◌, ◌++◌, ◌⊎◌, refl}
use Rattle.std.specs.Char.{is_digit, is_ascii_alphabetic}
use Rattle.std.proofs.Common.{sym, ◌∙◌, subst, arith, get_or, inl, inr}
use Rattle.std.proofs.lemmas.List.{append_assoc}
use Rattle.std.proofs.lemmas.List.Elements.{All-head}
use Rattle.std.proofs.lemmas.Bool.Decides.{nat_tests}
use Rattle.unicode_ident.proofs.Computing.{unicode_ident}
use Rattle.unicode_ident.proofs.IdentLemmas.{is_xid_start-ascii}
use Rattle.unicode_ident.specs.Ident.{is_xid_start}
use Rattle.host_lexer.specs.declared.token.Mark.{Mark}
use Rattle.host_lexer.specs.declared.token.Mark.TheVariants as marks
use Rattle.host_lexer.specs.Characters.{is_space, is_line_end, is_quote, is_name_start}
use Rattle.host_lexer.specs.Numerals.{Numeral, decimal, hexadecimal, numeral_chars, IsNumeral}
use Rattle.host_lexer.specs.Spellings.{word_chars, mark_chars}
use Rattle.host_lexer.specs.Steps.{Class, named, numbered, blank, line, quoted, line_commented, block_commented, marked, class_of}
use Rattle.host_lexer.specs.Tokens.{Element, space, line_end, line_comment, block_comment, name, word, number, big_int, text, mark, chars_of, IsElement, EndsBefore, IsIdentifier, BeginsNoComment}
use Rattle.host_lexer.proofs.Spelt.{word_identifier}

-- the class of an element
abbrev pub class_is : Element → Class
class_is (space c) = blank
class_is (line_end c) = line
class_is (line_comment cs) = line_commented
class_is (block_comment cs) = block_commented
class_is (name w) = named
class_is (word w) = named
class_is (number n) = numbered
class_is (big_int n) = numbered
class_is (text q ps) = quoted
class_is (mark m) = marked

-- the class of the element that begins some characters
abbrev pub class_at : List ℕ → Class
class_at xs = class_of (get_or xs 0 0) (get_or xs 1 0)

pub or_cases : (a b : Bool) → (a || b) ≡ true → (a ≡ true) ⊎ (b ≡ true)
or_cases true b h = inl refl
or_cases false b h = inr h

pub is_it : (c k : ℕ) → (c == k) ≡ true → c ≡ k
is_it c k h = grind (arith, nat_tests)

pub space_class : (c d : ℕ) → is_space c ≡ true → class_of c d ≡ blank
unfolding unicode_ident
space_class c d h = six (or_cases ((c == 9) || (c == 11) || (c == 12) || (c == 32) || (c == 160)) (c == 65279) h)
  where
    at : (k : ℕ) → (c == k) ≡ true → class_of k d ≡ blank → class_of c d ≡ blank
    at k e h = rw (is_it c k e) h

    two : ((c == 9) ≡ true) ⊎ ((c == 11) ≡ true) → class_of c d ≡ blank
    two (inl e) = at 9 e refl
    two (inr e) = at 11 e refl

    three : (((c == 9) || (c == 11)) ≡ true) ⊎ ((c == 12) ≡ true) → class_of c d ≡ blank
    three (inl e) = two (or_cases (c == 9) (c == 11) e)
    three (inr e) = at 12 e refl

    four : (((c == 9) || (c == 11) || (c == 12)) ≡ true) ⊎ ((c == 32) ≡ true) → class_of c d ≡ blank
    four (inl e) = three (or_cases ((c == 9) || (c == 11)) (c == 12) e)
    four (inr e) = at 32 e refl

    five : (((c == 9) || (c == 11) || (c == 12) || (c == 32)) ≡ true) ⊎ ((c == 160) ≡ true) → class_of c d ≡ blank
    five (inl e) = four (or_cases ((c == 9) || (c == 11) || (c == 12)) (c == 32) e)
    five (inr e) = at 160 e refl

    six : (((c == 9) || (c == 11) || (c == 12) || (c == 32) || (c == 160)) ≡ true) ⊎ ((c == 65279) ≡ true) → class_of c d ≡ blank
    six (inl e) = five (or_cases ((c == 9) || (c == 11) || (c == 12) || (c == 32)) (c == 160) e)
    six (inr e) = at 65279 e refl

pub line_class : (c d : ℕ) → is_line_end c ≡ true → class_of c d ≡ line
unfolding unicode_ident
line_class c d h = on (or_cases (c == 10) (c == 13) h)
  where
    on : ((c == 10) ≡ true) ⊎ ((c == 13) ≡ true) → class_of c d ≡ line
    on (inl e) = rw (is_it c 10 e) refl
    on (inr e) = rw (is_it c 13 e) refl

pub quote_is : (c : ℕ) → is_quote c ≡ true → (c ≡ 34) ⊎ (c ≡ 39)
quote_is c h = on (or_cases (c == 34) (c == 39) h)
  where
    on : ((c == 34) ≡ true) ⊎ ((c == 39) ≡ true) → (c ≡ 34) ⊎ (c ≡ 39)
    on (inl e) = inl (is_it c 34 e)
    on (inr e) = inr (is_it c 39 e)

pub quote_class : (c d : ℕ) → is_quote c ≡ true → class_of c d ≡ quoted
unfolding unicode_ident
quote_class c d h = on (quote_is c h)
  where
    on : (c ≡ 34) ⊎ (c ≡ 39) → class_of c d ≡ quoted
    on (inl e) = rw e refl
    on (inr e) = rw e refl

pub name_class : (c d : ℕ) → is_name_start c ≡ true → class_of c d ≡ named
name_class c d h = rw h refl

pub digit_no_start : (c : ℕ) → is_digit c 10 ≡ true → is_name_start c ≡ false
digit_no_start c h =
    let lt : c < 128 = grind (arith, nat_tests) in
    let a : is_ascii_alphabetic c ≡ false = grind (arith, nat_tests) in
    let x : is_xid_start c ≡ false = is_xid_start-ascii c lt ∙ a in
    let p : (c == 36) ≡ false = grind (arith, nat_tests) in
    let q : (c == 95) ≡ false = grind (arith, nat_tests) in
    rw (p, q, x) refl

pub digit_class : (c d : ℕ) → is_digit c 10 ≡ true → class_of c d ≡ numbered
digit_class c d h = let n = digit_no_start c h in rw (n, h) refl

-- a number begins with a digit
pub numeral_begins : (n : Numeral) → IsNumeral n → (c : ℕ) × (cs : List ℕ) × (numeral_chars n ≡ c ∷ cs) × (is_digit c 10 ≡ true)
numeral_begins (decimal []) h = absurd h
numeral_begins (decimal (d ∷ [])) h = (d, [], refl, All-head (λ x. is_digit x 10 ≡ true) d [] h)
numeral_begins (decimal (d ∷ e ∷ ds)) h = (d, e ∷ ds, refl, All-head (λ x. is_digit x 10 ≡ true) d (e ∷ ds) h.1)
numeral_begins (hexadecimal ds) h = (48, 120 ∷ ds, refl, refl)

identifier_class : (w rest : List ℕ) → IsIdentifier w → class_at (w ++ rest) ≡ named
identifier_class [] rest h = absurd h
identifier_class (c ∷ cs) rest h = name_class c (get_or (cs ++ rest) 0 0) h.0

numeral_class : (n : Numeral) (rest : List ℕ) → IsNumeral n → class_at (numeral_chars n ++ rest) ≡ numbered
numeral_class n rest h = let p = numeral_begins n h in
    subst (λ xs. class_at (xs ++ rest) ≡ numbered) (sym p.2) (digit_class p.0 (get_or (p.1 ++ rest) 0 0) p.3)

mark_class : (m : Mark) (rest : List ℕ) → BeginsNoComment m rest → class_at (mark_chars m ++ rest) ≡ marked
unfolding unicode_ident
mark_class marks.Slash [] h = refl
mark_class marks.Slash (d ∷ rest) h = on (d == 47) (d == 42) refl refl h
  where
    on : (a b : Bool) → (d == 47) ≡ a → (d == 42) ≡ b → (a || b) ≡ false → class_of 47 d ≡ marked
    on false false p q h = rw (p, q) refl
    on false true p q h = cc
    on true b p q h = cc
mark_class marks.StrictEquals rest h = refl
mark_class marks.StrictNotEquals rest h = refl
mark_class marks.LessEquals rest h = refl
mark_class marks.GreaterEquals rest h = refl
mark_class marks.And rest h = refl
mark_class marks.Or rest h = refl
mark_class marks.Increment rest h = refl
mark_class marks.Decrement rest h = refl
mark_class marks.OpenBrace rest h = refl
mark_class marks.CloseBrace rest h = refl
mark_class marks.OpenParen rest h = refl
mark_class marks.CloseParen rest h = refl
mark_class marks.OpenBracket rest h = refl
mark_class marks.CloseBracket rest h = refl
mark_class marks.Dot rest h = refl
mark_class marks.Semicolon rest h = refl
mark_class marks.Comma rest h = refl
mark_class marks.Colon rest h = refl
mark_class marks.Less rest h = refl
mark_class marks.Greater rest h = refl
mark_class marks.Equals rest h = refl
mark_class marks.Plus rest h = refl
mark_class marks.Minus rest h = refl
mark_class marks.Star rest h = refl
mark_class marks.Percent rest h = refl
mark_class marks.Not rest h = refl

-- an element's class is told by the characters that it begins
pub classified : (e : Element) (rest : List ℕ) → IsElement e → EndsBefore e rest → class_at (chars_of e ++ rest) ≡ class_is e
unfolding unicode_ident
classified (space c) rest h s = space_class c (get_or rest 0 0) h
classified (line_end c) rest h s = line_class c (get_or rest 0 0) h
classified (line_comment cs) rest h s = refl
classified (block_comment cs) rest h s = refl
classified (name w) rest h s = identifier_class w rest h.0
classified (word w) rest h s = identifier_class (word_chars w) rest (word_identifier w)
classified (number n) rest h s = numeral_class n rest h.0
classified (big_int n) rest h s = rw (append_assoc (numeral_chars n) (110 ∷ []) rest) (numeral_class n (110 ∷ rest) h.0)
classified (text q ps) rest h s = quote_class q _ h.0
classified (mark m) rest h s = mark_class m rest s.1

differs : (c k : ℕ) → ¬ (c ≡ k) → (c == k) ≡ false
differs c k h = grind (arith, nat_tests)

pub slash_class : (c d : ℕ) → c ≡ 47 → ¬ (d ≡ 47) → ¬ (d ≡ 42) → class_of c d ≡ marked
unfolding unicode_ident
slash_class c d e p q = rw (e, differs d 47 p, differs d 42 q) refl
