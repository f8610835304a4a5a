-- The definition of a text's tokens at small texts, each with its tokens written out.
use Rattle.std.specs.Prelude.{◌≡◌, ℕ, ◌<◌, ◌≤◌, Bool, true, false, not, ◌&&◌, ◌||◌, ◌==◌, nat_le, List, [], ◌∷◌, length, codes, All, Some, ◌⊎◌, refl}
use Rattle.std.specs.List.{list_any, list_all}
use Rattle.std.specs.Str.{bytes_eq}
use Rattle.std.proofs.Common.{inl, inr, lit<}
use Rattle.std.proofs.lemmas.List.Elements.{All-nil, All-cons, All-head}
use Rattle.std.proofs.lemmas.Slice.Eq.{bytes_eq-Decides}
use Rattle.std.proofs.lemmas.Bool.Decides.{leb_tells, eqb_tells}
use Rattle.small_lexer.specs.declared.token.Word.TheVariants as words
use Rattle.small_lexer.specs.declared.token.Mark.TheVariants as marks
use Rattle.small_lexer.specs.declared.token.TokenKind.{TokenKind}
use Rattle.small_lexer.specs.declared.token.TokenKind.TheVariants as kinds
use Rattle.small_lexer.specs.declared.token.Token.{Token}
use Rattle.small_lexer.specs.Tokens.{is_digit, is_name_start, is_name_part, is_number_part, is_text_part, Element, space, line_feed, name, number, text, mark, spelled, reserved_words, greatest_number, value_of, IsIdentifier, IsDecimal, IsElement, StopsAt, EndsBefore, AreElements, tokens_from, HasTokens}
use Rattle.small_lexer.specs.Steps.{Heads}
use Rattle.small_lexer.proofs.Among.{among_back}
use Rattle.small_lexer.proofs.Classes.{no_element}
use Rattle.small_lexer.proofs.Fronts.{front}
use Rattle.small_lexer.proofs.Reached.{start, none}

-- the conditions on a row of elements as a test, which computes
all_pass : (p : ℕ → Bool) (xs : List ℕ) → list_all p xs ≡ true → All (λ c. p c ≡ true) xs
all_pass p [] h = All-nil (λ c. p c ≡ true)
all_pass p (c ∷ cs) h = on (p c) refl h (all_pass p cs)
  where
    on : (b : Bool) → p c ≡ b → (b && list_all p cs) ≡ true → (list_all p cs ≡ true → All (λ c. p c ≡ true) cs) → All (λ c. p c ≡ true) (c ∷ cs)
    on true e h ih = All-cons (λ c. p c ≡ true) c cs e (ih h)
    on false e h ih = cc

both : (a b : Bool) → (a && b) ≡ true → (a ≡ true) × (b ≡ true)
both true b h = (refl, h)
both false b h = cc

opposite : (a : Bool) → not a ≡ true → a ≡ false
opposite true h = cc
opposite false h = refl

abbrev pub is_identifier : List ℕ → Bool
is_identifier [] = false
is_identifier (c ∷ cs) = is_name_start c && list_all is_name_part cs

abbrev pub is_decimal : List ℕ → Bool
is_decimal [] = false
is_decimal (d ∷ []) = is_digit d
is_decimal (d ∷ c ∷ ds) = is_digit d && (not (d == 48) && list_all is_digit (c ∷ ds))

abbrev pub is_element : Element → Bool
is_element (name w) = bytes_eq w (codes "let") || bytes_eq w (codes "new") || (is_identifier w && not (list_any (λ r. bytes_eq r w) reserved_words))
is_element (number ds) = is_decimal ds && nat_le (value_of ds) greatest_number
is_element (text s) = list_all is_text_part s
is_element _ = true

abbrev pub stops : (ℕ → Bool) → List ℕ → Bool
stops test [] = true
stops test (c ∷ cs) = not (test c)

abbrev pub ends : Element → List ℕ → Bool
ends (name w) rest = stops is_name_part rest
ends (number ds) rest = stops is_number_part rest
ends _ rest = true

abbrev pub are_elements : List Element → Bool
are_elements [] = true
are_elements (e ∷ es) = is_element e && (ends e (spelled es) && are_elements es)

identifier_passes : (w : List ℕ) → is_identifier w ≡ true → IsIdentifier w
identifier_passes [] h = cc
identifier_passes (c ∷ cs) h = let p = both (is_name_start c) (list_all is_name_part cs) h in (p.0, all_pass is_name_part cs p.1)

decimal_passes : (ds : List ℕ) → is_decimal ds ≡ true → IsDecimal ds
decimal_passes [] h = cc
decimal_passes (d ∷ []) h = h
decimal_passes (d ∷ c ∷ ds) h =
    let p = both (is_digit d) (not (d == 48) && list_all is_digit (c ∷ ds)) h in
    let q = both (not (d == 48)) (list_all is_digit (c ∷ ds)) p.1 in
    (p.0, λ e. differ (eqb_tells d 48) (opposite (d == 48) q.0) e, all_pass is_digit (c ∷ ds) q.1)
  where
    differ : (((d == 48) ≡ true) × (d ≡ 48)) ⊎ (((d == 48) ≡ false) × (d ≡ 48 → ⊥)) → (d == 48) ≡ false → d ≡ 48 → ⊥
    differ (inl (t, e)) f g = cc
    differ (inr (t, n)) f g = n g

name_passes : (w : List ℕ) → is_element (name w) ≡ true → IsElement (name w)
name_passes w h = on (bytes_eq w (codes "let")) (bytes_eq w (codes "new")) refl refl h
  where
    on : (b d : Bool) → bytes_eq w (codes "let") ≡ b → bytes_eq w (codes "new") ≡ d → (b || d || (is_identifier w && not (list_any (λ r. bytes_eq r w) reserved_words))) ≡ true → IsElement (name w)
    on true d e f h = inl ((bytes_eq-Decides w (codes "let")).0 e)
    on false true e f h = inr (inl ((bytes_eq-Decides w (codes "new")).0 f))
    on false false e f h = let p = both (is_identifier w) (not (list_any (λ r. bytes_eq r w) reserved_words)) h in
        inr (inr (identifier_passes w p.0, λ c. let t = among_back reserved_words w c in let f = opposite (list_any (λ r. bytes_eq r w) reserved_words) p.1 in cc))

element_passes : (e : Element) → is_element e ≡ true → IsElement e
element_passes space h = tt
element_passes line_feed h = tt
element_passes (name w) h = name_passes w h
element_passes (number ds) h = let p = both (is_decimal ds) (nat_le (value_of ds) greatest_number) h in (decimal_passes ds p.0, at_most (leb_tells (value_of ds) greatest_number) p.1)
  where
    at_most : ((nat_le (value_of ds) greatest_number ≡ true) × (value_of ds ≤ greatest_number)) ⊎ ((nat_le (value_of ds) greatest_number ≡ false) × (greatest_number < value_of ds))
        → nat_le (value_of ds) greatest_number ≡ true → value_of ds ≤ greatest_number
    at_most (inl (t, le)) q = le
    at_most (inr (f, lt)) q = cc
element_passes (text s) h = all_pass is_text_part s h
element_passes (mark m) h = tt

stop_passes : (test : ℕ → Bool) (rest : List ℕ) → stops test rest ≡ true → StopsAt test rest
stop_passes test [] h = tt
stop_passes test (c ∷ cs) h = opposite (test c) h

end_passes : (e : Element) (rest : List ℕ) → ends e rest ≡ true → EndsBefore e rest
end_passes space rest h = tt
end_passes line_feed rest h = tt
end_passes (name w) rest h = stop_passes is_name_part rest h
end_passes (number ds) rest h = stop_passes is_number_part rest h
end_passes (text s) rest h = tt
end_passes (mark m) rest h = tt

elements_pass : (es : List Element) → are_elements es ≡ true → AreElements es
elements_pass [] h = tt
elements_pass (e ∷ es) h =
    let p = both (is_element e) (ends e (spelled es) && are_elements es) h in
    let q = both (ends e (spelled es)) (are_elements es) p.1 in
    (element_passes e p.0, end_passes e (spelled es) q.0, elements_pass es q.1)

-- a row of elements that passes gives the tokens of the text that it spells
pub worked : (es : List Element) → are_elements es ≡ true → HasTokens (spelled es) (tokens_from 0 false es)
worked es h = record { elements = es; spell = refl; are_elements = elements_pass es h; are_theirs = refl }

abbrev pub token : TokenKind → ℕ → ℕ → Bool → Token
token kind from to after_line = record { kind = kind; from = from; to = to; after_line = after_line }

pub no_text : HasTokens [] []
no_text = worked [] refl

pub white_space : HasTokens (codes "   ") []
white_space = worked (space ∷ space ∷ space ∷ []) refl

pub declaration : HasTokens (codes "let a = 6;")
    (token (kinds.Word words.Let) 0 3 false ∷ token (kinds.Name (codes "a")) 4 5 false ∷ token (kinds.Mark marks.Equals) 6 7 false
    ∷ token (kinds.Number 6) 8 9 false ∷ token (kinds.Mark marks.Semicolon) 9 10 false ∷ [])
declaration = worked (name (codes "let") ∷ space ∷ name (codes "a") ∷ space ∷ mark marks.Equals ∷ space ∷ number (codes "6") ∷ mark marks.Semicolon ∷ []) refl

pub print_call : HasTokens (codes "print(\"a\", a);")
    (token (kinds.Name (codes "print")) 0 5 false ∷ token (kinds.Mark marks.Open) 5 6 false ∷ token (kinds.Text (codes "a")) 6 9 false
    ∷ token (kinds.Mark marks.Comma) 9 10 false ∷ token (kinds.Name (codes "a")) 11 12 false ∷ token (kinds.Mark marks.Close) 12 13 false ∷ token (kinds.Mark marks.Semicolon) 13 14 false ∷ [])
print_call = worked (name (codes "print") ∷ mark marks.Open ∷ text (codes "a") ∷ mark marks.Comma ∷ space ∷ name (codes "a") ∷ mark marks.Close ∷ mark marks.Semicolon ∷ []) refl

pub name_and_number : HasTokens (codes "a 1") (token (kinds.Name (codes "a")) 0 1 false ∷ token (kinds.Number 1) 2 3 false ∷ [])
name_and_number = worked (name (codes "a") ∷ space ∷ number (codes "1") ∷ []) refl

-- a line feed, and a space behind it
pub after_a_line : HasTokens (97 ∷ 10 ∷ 32 ∷ 98 ∷ []) (token (kinds.Name (codes "a")) 0 1 false ∷ token (kinds.Name (codes "b")) 3 4 true ∷ [])
after_a_line = worked (name (codes "a") ∷ line_feed ∷ space ∷ name (codes "b") ∷ []) refl

pub word_goes_on : HasTokens (codes "letx") (token (kinds.Name (codes "letx")) 0 4 false ∷ [])
word_goes_on = worked (name (codes "letx") ∷ []) refl

pub member_of_an_instance : HasTokens (codes "new A(f).b")
    (token (kinds.Word words.New) 0 3 false ∷ token (kinds.Name (codes "A")) 4 5 false ∷ token (kinds.Mark marks.Open) 5 6 false ∷ token (kinds.Name (codes "f")) 6 7 false
    ∷ token (kinds.Mark marks.Close) 7 8 false ∷ token (kinds.Mark marks.Dot) 8 9 false ∷ token (kinds.Name (codes "b")) 9 10 false ∷ [])
member_of_an_instance = worked (name (codes "new") ∷ space ∷ name (codes "A") ∷ mark marks.Open ∷ name (codes "f") ∷ mark marks.Close ∷ mark marks.Dot ∷ name (codes "b") ∷ []) refl

pub odd_name : HasTokens (codes "$_9") (token (kinds.Name (codes "$_9")) 0 3 false ∷ [])
odd_name = worked (name (codes "$_9") ∷ []) refl

pub sum_of_products : HasTokens (codes "0-1*(2+34)")
    (token (kinds.Number 0) 0 1 false ∷ token (kinds.Mark marks.Minus) 1 2 false ∷ token (kinds.Number 1) 2 3 false ∷ token (kinds.Mark marks.Star) 3 4 false
    ∷ token (kinds.Mark marks.Open) 4 5 false ∷ token (kinds.Number 2) 5 6 false ∷ token (kinds.Mark marks.Plus) 6 7 false ∷ token (kinds.Number 34) 7 9 false ∷ token (kinds.Mark marks.Close) 9 10 false ∷ [])
sum_of_products = worked (number (codes "0") ∷ mark marks.Minus ∷ number (codes "1") ∷ mark marks.Star ∷ mark marks.Open ∷ number (codes "2") ∷ mark marks.Plus ∷ number (codes "34") ∷ mark marks.Close ∷ []) refl

pub greatest : HasTokens (codes "9007199254740991") (token (kinds.Number 9007199254740991) 0 16 false ∷ [])
greatest = worked (number (codes "9007199254740991") ∷ []) refl

-- texts beside one another, the first with nothing between its quotes
pub two_texts : HasTokens (codes "\"\"\"b\"") (token (kinds.Text []) 0 2 false ∷ token (kinds.Text (codes "b")) 2 5 false ∷ [])
two_texts = worked (text [] ∷ text (codes "b") ∷ []) refl

-- texts without tokens
none_begins : (bytes : List ℕ) (e : Element) → 0 < length bytes → front bytes ≡ Some e → ((rest : List ℕ) → Heads bytes e rest → ⊥) → (ts : List Token) → HasTokens bytes ts → ⊥
none_begins bytes e lt f never ts h = none bytes 0 false [] lt (no_element bytes 0 e f never) (start bytes) ts h

pub digit_before_letter : (ts : List Token) → HasTokens (codes "1a") ts → ⊥
digit_before_letter = none_begins (codes "1a") (number (codes "1a")) (lit< tt) refl (λ rest h. let q : false ≡ true = All-head (λ c. is_digit c ≡ true) 97 [] h.is_element.0.2 in cc)

pub point_after_digit : (ts : List Token) → HasTokens (codes "1.a") ts → ⊥
point_after_digit = none_begins (codes "1.a") (number (codes "1.a")) (lit< tt) refl (λ rest h. let q : false ≡ true = All-head (λ c. is_digit c ≡ true) 46 (97 ∷ []) h.is_element.0.2 in cc)

pub zero_first : (ts : List Token) → HasTokens (codes "01") ts → ⊥
zero_first = none_begins (codes "01") (number (codes "01")) (lit< tt) refl (λ rest h. h.is_element.0.1 refl)

pub open_text : (ts : List Token) → HasTokens (codes "\"a") ts → ⊥
open_text = none_begins (codes "\"a") (text (codes "a")) (lit< tt) refl (λ rest h. let q : 34 ∷ (97 ∷ (34 ∷ rest)) ≡ 34 ∷ (97 ∷ []) = h.spell in cc)

pub reserved_word : (ts : List Token) → HasTokens (codes "while") ts → ⊥
reserved_word = none_begins (codes "while") (name (codes "while")) (lit< tt) refl (λ rest h. never h.is_element)
  where
    never : IsElement (name (codes "while")) → ⊥
    never (inl e) = cc
    never (inr (inl e)) = cc
    never (inr (inr n)) = n.1 (46, lit< tt, refl)
