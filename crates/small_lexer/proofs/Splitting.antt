-- Whether bytes split into tokens is decided, and they split in one way alone.
use Rattle.std.specs.Prelude.{◌≡◌, ℕ, zero, suc, ◌<◌, ◌≤◌, Bool, true, false, not, ◌&&◌, ◌||◌, ◌==◌, nat_le, List, [], ◌∷◌, ◌++◌, ◌⊎◌, length, All, codes, drop, Option, Some, None, refl}
use Rattle.std.specs.Bool.{Decides}
use Rattle.std.specs.List.{list_any, list_all}
use Rattle.std.specs.Str.{bytes_eq}
use Rattle.std.proofs.Common.{sym, ◌∙◌, ap, subst, arith, inl, inr}
use Rattle.std.proofs.lemmas.List.{length-append}
use Rattle.std.proofs.lemmas.Bool.{leb-true, le-leb, not-true, not_from_false}
use Rattle.std.proofs.lemmas.Bool.Decides.{Decides-by_and, Decides-and, Decides-or, Decides-not, Decides-eqb, Decides-like}
use Rattle.std.proofs.lemmas.Slice.Eq.{bytes_eq-Decides}
use Rattle.small_lexer.specs.declared.token.Token.{Token}
use Rattle.small_lexer.specs.Tokens.{is_digit, is_name_start, is_name_part, is_number_part, is_text_part, Element, space, line_feed, name, number, text, mark, spelling_of, spelled, reserved_words, IsIdentifier, value_of, IsDecimal, greatest_number, IsElement, StopsAt, EndsBefore, AreElements, tokens_from, HasTokens}
use Rattle.small_lexer.specs.Steps.{Heads}
use Rattle.small_lexer.proofs.Among.{among, among_back}
use Rattle.small_lexer.proofs.Fronts.{front, fronted, same_element, same_rest, identifier}
use Rattle.small_lexer.proofs.Reached.{nothing_left}

-- ---- tests of what an element is

all_pass : (p : ℕ → Bool) (xs : List ℕ) → Decides (list_all p xs) (All (λ c. p c ≡ true) xs)
all_pass p xs = Decides-by_and p (λ c. p c ≡ true) (list_all p) (λ c. (λ h. h, λ h. h)) refl (λ _ _. refl) xs

abbrev is_identifier : List ℕ → Bool
is_identifier [] = false
is_identifier (c ∷ cs) = is_name_start c && list_all is_name_part cs

identifiers : (w : List ℕ) → Decides (is_identifier w) (IsIdentifier w)
identifiers [] = (λ h. cc, λ h. absurd h)
identifiers (c ∷ cs) = Decides-and (is_name_start c) (list_all is_name_part cs) (λ h. h, λ h. h) (all_pass is_name_part cs)

abbrev is_reserved : List ℕ → Bool
is_reserved w = list_any (λ v. bytes_eq v w) reserved_words

abbrev is_name : List ℕ → Bool
is_name w = bytes_eq w (codes "let") || (bytes_eq w (codes "new") || (is_identifier w && not (is_reserved w)))

names : (w : List ℕ) → Decides (is_name w) (IsElement (name w))
names w = Decides-or (bytes_eq w (codes "let")) (bytes_eq w (codes "new") || (is_identifier w && not (is_reserved w))) (bytes_eq-Decides w (codes "let"))
    (Decides-or (bytes_eq w (codes "new")) (is_identifier w && not (is_reserved w)) (bytes_eq-Decides w (codes "new"))
    (Decides-and (is_identifier w) (not (is_reserved w)) (identifiers w) (Decides-not (is_reserved w) (among reserved_words w, among_back reserved_words w))))

abbrev is_decimal : List ℕ → Bool
is_decimal [] = false
is_decimal (d ∷ []) = is_digit d
is_decimal (d ∷ e ∷ ds) = is_digit d && (not (d == 48) && list_all is_digit (e ∷ ds))

decimals : (ds : List ℕ) → Decides (is_decimal ds) (IsDecimal ds)
decimals [] = (λ h. cc, λ h. absurd h)
decimals (d ∷ []) = (λ h. h, λ h. h)
decimals (d ∷ e ∷ ds) =
    Decides-like (is_digit d && (not (d == 48) && list_all is_digit (e ∷ ds))) (λ h. (h.0, h.1.0, h.1.1)) (λ h. (h.0, (h.1, h.2)))
    (Decides-and (is_digit d) (not (d == 48) && list_all is_digit (e ∷ ds)) (λ h. h, λ h. h)
    (Decides-and (not (d == 48)) (list_all is_digit (e ∷ ds)) (Decides-not (d == 48) (Decides-eqb d 48)) (all_pass is_digit (e ∷ ds))))

abbrev is_element : Element → Bool
is_element (name w) = is_name w
is_element (number ds) = is_decimal ds && nat_le (value_of ds) greatest_number
is_element (text s) = list_all is_text_part s
is_element _ = true

elements : (e : Element) → Decides (is_element e) (IsElement e)
elements space = (λ h. tt, λ h. refl)
elements line_feed = (λ h. tt, λ h. refl)
elements (name w) = names w
elements (number ds) = Decides-and (is_decimal ds) (nat_le (value_of ds) greatest_number) (decimals ds) (leb-true (value_of ds) greatest_number, le-leb (value_of ds) greatest_number)
elements (text s) = all_pass is_text_part s
elements (mark m) = (λ h. tt, λ h. refl)

abbrev stops : (ℕ → Bool) → List ℕ → Bool
stops test [] = true
stops test (c ∷ cs) = not (test c)

stopped : (test : ℕ → Bool) (xs : List ℕ) → Decides (stops test xs) (StopsAt test xs)
stopped test [] = (λ h. tt, λ h. refl)
stopped test (c ∷ cs) = (not-true (test c), not_from_false (test c))

abbrev is_ended : Element → List ℕ → Bool
is_ended (name w) rest = stops is_name_part rest
is_ended (number ds) rest = stops is_number_part rest
is_ended _ rest = true

ended : (e : Element) (rest : List ℕ) → Decides (is_ended e rest) (EndsBefore e rest)
ended space rest = (λ h. tt, λ h. refl)
ended line_feed rest = (λ h. tt, λ h. refl)
ended (name w) rest = stopped is_name_part rest
ended (number ds) rest = stopped is_number_part rest
ended (text s) rest = (λ h. tt, λ h. refl)
ended (mark m) rest = (λ h. tt, λ h. refl)

-- ---- the first element

abbrev is_head : List ℕ → Element → List ℕ → Bool
is_head bytes e rest = bytes_eq (spelling_of e ++ rest) bytes && (is_element e && is_ended e rest)

heads : (bytes : List ℕ) (e : Element) (rest : List ℕ) → Decides (is_head bytes e rest) (Heads bytes e rest)
heads bytes e rest =
    Decides-like (is_head bytes e rest) (λ h. record { spell = h.0; is_element = h.1.0; ends = h.1.1 }) (λ h. (h.spell, (h.is_element, h.ends)))
    (Decides-and (bytes_eq (spelling_of e ++ rest) bytes) (is_element e && is_ended e rest) (bytes_eq-Decides (spelling_of e ++ rest) bytes)
    (Decides-and (is_element e) (is_ended e rest) (elements e) (ended e rest)))

drop_front : (xs ys : List ℕ) → drop (length xs) (xs ++ ys) ≡ ys
drop_front [] ys = refl
drop_front (x ∷ xs) ys = drop_front xs ys

abbrev Head : List ℕ → Type 0
Head bytes = (e : Element) × (rest : List ℕ) × Heads bytes e rest

abbrev NoHead : List ℕ → Type 0
NoHead bytes = (e : Element) (rest : List ℕ) → Heads bytes e rest → ⊥

left_behind : (bytes : List ℕ) (d e : Element) (rest : List ℕ) → d ≡ e → Heads bytes d rest → Heads bytes e (drop (length (spelling_of e)) bytes)
left_behind bytes d e rest is h =
    let spell : spelling_of e ++ rest ≡ bytes = subst (λ x. spelling_of x ++ rest ≡ bytes) is h.spell in
    let same : rest ≡ drop (length (spelling_of e)) bytes = sym (drop_front (spelling_of e) rest) ∙ ap (λ xs. drop (length (spelling_of e)) xs) spell in
    subst (λ r. Heads bytes e r) same (subst (λ x. Heads bytes x rest) is h)

head_of : (bytes : List ℕ) (o : Option Element) → front bytes ≡ o → Head bytes ⊎ NoHead bytes
head_of bytes None q = inr (λ e rest h. let p = fronted bytes e rest h in cc)
head_of bytes (Some e) q = on (is_head bytes e (drop (length (spelling_of e)) bytes)) (heads bytes e (drop (length (spelling_of e)) bytes))
  where
    on : (b : Bool) → Decides b (Heads bytes e (drop (length (spelling_of e)) bytes)) → Head bytes ⊎ NoHead bytes
    on true decided = inl (e, drop (length (spelling_of e)) bytes, decided.0 refl)
    on false decided = inr (λ d rest h. let is : d ≡ e = (let p = fronted bytes d rest h in cc) in let t = decided.1 (left_behind bytes d e rest is h) in cc)

-- ---- a row of elements

some_byte : (e : Element) → IsElement e → 0 < length (spelling_of e)
some_byte space h = omega arith
some_byte line_feed h = omega arith
some_byte (name []) h = absurd (identifier [] h)
some_byte (name (c ∷ cs)) h = omega arith
some_byte (number []) h = absurd h.0
some_byte (number (d ∷ ds)) h = omega arith
some_byte (text s) h = omega arith
some_byte (mark m) h = omega arith

abbrev Row : List ℕ → Type 0
Row bytes = (es : List Element) × (spelled es ≡ bytes) × AreElements es

abbrev NoRow : List ℕ → Type 0
NoRow bytes = (es : List Element) → spelled es ≡ bytes → AreElements es → ⊥

shorter : (bytes : List ℕ) (e : Element) (rest : List ℕ) → Heads bytes e rest → length rest < length bytes
shorter bytes e rest h = let p : length (spelling_of e ++ rest) ≡ length bytes = ap length h.spell in omega (arith, p, length-append (spelling_of e) rest, some_byte e h.is_element)

no_bytes : (bytes : List ℕ) → 0 < length bytes → [] ≡ bytes → ⊥
no_bytes bytes some is = let p : 0 ≡ length bytes = ap length is in omega (arith, p, some)

-- an element and a row of what it leaves
row_from : (bytes : List ℕ) → 0 < length bytes → ((rest : List ℕ) → length rest < length bytes → Row rest ⊎ NoRow rest) → Head bytes ⊎ NoHead bytes → Row bytes ⊎ NoRow bytes
row_from bytes some ih (inr none) = inr never
  where
    never : NoRow bytes
    never [] s a = no_bytes bytes some s
    never (d ∷ ds) s a = none d (spelled ds) (record { spell = s; is_element = a.0; ends = a.1 })
row_from bytes some ih (inl (e, rest, h)) = on (ih rest (shorter bytes e rest h))
  where
    on : Row rest ⊎ NoRow rest → Row bytes ⊎ NoRow bytes
    on (inl (es, s, a)) = inl (e ∷ es, ap (λ x. spelling_of e ++ x) s ∙ h.spell, (h.is_element, subst (EndsBefore e) (sym s) h.ends, a))
    on (inr none) = inr never
      where
        never : NoRow bytes
        never [] s a = no_bytes bytes some s
        never (d ∷ ds) s a = none ds (same_rest bytes d e (spelled ds) rest (record { spell = s; is_element = a.0; ends = a.1 }) h) a.2

row_in : (most : ℕ) (bytes : List ℕ) → length bytes ≤ most → Row bytes ⊎ NoRow bytes
row_in most [] le = inl ([], refl, tt)
row_in zero (c ∷ cs) le = absurd (omega (arith, le))
row_in (suc most) (c ∷ cs) le = row_from (c ∷ cs) (omega arith) (λ rest lt. row_in most rest (omega (arith, le, lt))) (head_of (c ∷ cs) (front (c ∷ cs)) refl)

same_row : (es ds : List Element) → AreElements es → AreElements ds → spelled es ≡ spelled ds → es ≡ ds
same_row [] ds a b s = sym (nothing_left ds (sym s) b)
same_row (e ∷ es) [] a b s = nothing_left (e ∷ es) s a
same_row (e ∷ es) (d ∷ ds) a b s =
    let first : Heads (spelled (e ∷ es)) e (spelled es) = record { spell = refl; is_element = a.0; ends = a.1 } in
    let other : Heads (spelled (e ∷ es)) d (spelled ds) = record { spell = sym s; is_element = b.0; ends = b.1 } in
    let same : e ≡ d = same_element (spelled (e ∷ es)) e d (spelled es) (spelled ds) first other in
    let rest : es ≡ ds = same_row es ds a.2 b.2 (same_rest (spelled (e ∷ es)) e d (spelled es) (spelled ds) first other) in
    cc

-- ---- the tokens

pub split_or_not : (bytes : List ℕ) → ((ts : List Token) × HasTokens bytes ts) ⊎ ((ts : List Token) → HasTokens bytes ts → ⊥)
split_or_not bytes = on (row_in (length bytes) bytes (omega arith))
  where
    on : Row bytes ⊎ NoRow bytes → ((ts : List Token) × HasTokens bytes ts) ⊎ ((ts : List Token) → HasTokens bytes ts → ⊥)
    on (inl (es, s, a)) = inl (tokens_from 0 false es, record { elements = es; spell = s; are_elements = a; are_theirs = refl })
    on (inr none) = inr (λ ts h. none h.elements h.spell h.are_elements)

pub split_once : (bytes : List ℕ) (ts us : List Token) → HasTokens bytes ts → HasTokens bytes us → ts ≡ us
split_once bytes ts us h k = sym h.are_theirs ∙ ap (λ es. tokens_from 0 false es) (same_row h.elements k.elements h.are_elements k.are_elements (h.spell ∙ sym k.spell)) ∙ k.are_theirs
