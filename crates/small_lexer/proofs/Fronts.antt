-- The one element that may begin some bytes.
use Rattle.std.specs.Prelude.{◌≡◌, ℕ, true, false, cond, ◌==◌, List, [], ◌∷◌, ◌++◌, All, Option, Some, None, refl}
use Rattle.std.proofs.Common.{sym, ◌∙◌, ap, subst, arith, inl, inr}
use Rattle.std.proofs.lemmas.List.{append_cancel_left, append_assoc}
use Rattle.std.proofs.lemmas.List.Elements.{All-nil, All-cons, All-head, All-weaker, All-from_recursion}
use Rattle.std.proofs.lemmas.Bool.Decides.{nat_tests}
use Rattle.small_lexer.specs.declared.token.Mark.{Mark}
use Rattle.small_lexer.specs.declared.token.Mark.TheVariants as marks
use Rattle.small_lexer.specs.Tokens.{is_digit, is_name_start, is_name_part, is_number_part, is_text_part, Element, space, line_feed, name, number, text, mark, spelling_of, IsIdentifier, IsDecimal, IsElement, StopsAt, EndsBefore}
use Rattle.small_lexer.specs.Steps.{Heads}
use Rattle.small_lexer.proofs.Runs.{run_of, run_is}

-- the mark of a byte
abbrev pub mark_at : ℕ → Option Mark
mark_at c = cond (c == 61) (Some marks.Equals) (cond (c == 59) (Some marks.Semicolon) (cond (c == 40) (Some marks.Open) (cond (c == 41) (Some marks.Close)
    (cond (c == 44) (Some marks.Comma) (cond (c == 43) (Some marks.Plus) (cond (c == 45) (Some marks.Minus) (cond (c == 42) (Some marks.Star) (cond (c == 46) (Some marks.Dot) None))))))))

abbrev pub mark_front : Option Mark → Option Element
mark_front None = None
mark_front (Some m) = Some (mark m)

-- the element that may begin with a byte that begins no name and no number
abbrev pub other_front : ℕ → List ℕ → Option Element
other_front c cs = cond (c == 32) (Some space) (cond (c == 10) (Some line_feed) (cond (c == 34) (Some (text (run_of is_text_part cs))) (mark_front (mark_at c))))

-- the element that may begin some bytes
abbrev pub front : List ℕ → Option Element
front [] = None
front (c ∷ cs) = cond (is_name_start c) (Some (name (run_of is_name_part (c ∷ cs))))
    (cond (is_digit c) (Some (number (run_of is_number_part (c ∷ cs)))) (other_front c cs))

pub part_from_start : (c : ℕ) → is_name_start c ≡ true → is_name_part c ≡ true
part_from_start c h = rw h refl

pub digit_no_start : (c : ℕ) → is_digit c ≡ true → is_name_start c ≡ false
digit_no_start c h = grind (arith, nat_tests)

pub part_from_digit : (c : ℕ) → is_digit c ≡ true → is_number_part c ≡ true
part_from_digit c h = grind (arith, nat_tests)

pub letters : All (λ d. is_name_part d ≡ true) (101 ∷ 116 ∷ [])
letters = All-from_recursion (λ d. is_name_part d ≡ true) (101 ∷ 116 ∷ []) (refl, (refl, tt))

pub other_letters : All (λ d. is_name_part d ≡ true) (101 ∷ 119 ∷ [])
other_letters = All-from_recursion (λ d. is_name_part d ≡ true) (101 ∷ 119 ∷ []) (refl, (refl, tt))

-- the words `let` and `new` are spelt as names are
pub identifier : (w : List ℕ) → IsElement (name w) → IsIdentifier w
identifier w (inl e) = rw e (refl, letters)
identifier w (inr (inl e)) = rw e (refl, other_letters)
identifier w (inr (inr h)) = h.0

-- a decimal number is digits
pub digits : (ds : List ℕ) → IsDecimal ds → All (λ c. is_digit c ≡ true) ds
digits [] h = absurd h
digits (d ∷ []) h = All-cons (λ c. is_digit c ≡ true) d [] h (All-nil (λ c. is_digit c ≡ true))
digits (d ∷ e ∷ ds) h = All-cons (λ c. is_digit c ≡ true) d (e ∷ ds) h.0 h.2

pub parts_from_digits : (ds : List ℕ) → All (λ c. is_digit c ≡ true) ds → All (λ c. is_number_part c ≡ true) ds
parts_from_digits ds h = All-weaker (λ c. is_digit c ≡ true) (λ c. is_number_part c ≡ true) part_from_digit ds h

-- what the first byte alone tells
pub starts_name : (c : ℕ) (cs : List ℕ) → is_name_start c ≡ true → front (c ∷ cs) ≡ Some (name (run_of is_name_part (c ∷ cs)))
starts_name c cs h = ap (λ b. cond b (Some (name (run_of is_name_part (c ∷ cs)))) (cond (is_digit c) (Some (number (run_of is_number_part (c ∷ cs)))) (other_front c cs))) h

pub starts_number : (c : ℕ) (cs : List ℕ) → is_digit c ≡ true → front (c ∷ cs) ≡ Some (number (run_of is_number_part (c ∷ cs)))
starts_number c cs h =
    ap (λ b. cond b (Some (name (run_of is_name_part (c ∷ cs)))) (cond (is_digit c) (Some (number (run_of is_number_part (c ∷ cs)))) (other_front c cs))) (digit_no_start c h)
    ∙ ap (λ b. cond b (Some (number (run_of is_number_part (c ∷ cs)))) (other_front c cs)) h

front_name : (w rest : List ℕ) → IsIdentifier w → StopsAt is_name_part rest → front (w ++ rest) ≡ Some (name w)
front_name [] rest h s = absurd h
front_name (c ∷ cs) rest h s = starts_name c (cs ++ rest) h.0
    ∙ ap (λ w. Some (name w)) (run_is is_name_part (c ∷ cs) rest (All-cons (λ d. is_name_part d ≡ true) c cs (part_from_start c h.0) h.1) s)

front_number : (ds rest : List ℕ) → IsDecimal ds → StopsAt is_number_part rest → front (ds ++ rest) ≡ Some (number ds)
front_number [] rest h s = absurd h
front_number (d ∷ ds) rest h s =
    let all : All (λ c. is_digit c ≡ true) (d ∷ ds) = digits (d ∷ ds) h in
    starts_number d (ds ++ rest) (All-head (λ c. is_digit c ≡ true) d ds all)
    ∙ ap (λ w. Some (number w)) (run_is is_number_part (d ∷ ds) rest (parts_from_digits (d ∷ ds) all) s)

front_of : (e : Element) (rest : List ℕ) → IsElement e → EndsBefore e rest → front (spelling_of e ++ rest) ≡ Some e
front_of space rest h s = refl
front_of line_feed rest h s = refl
front_of (name w) rest h s = front_name w rest (identifier w h) s
front_of (number ds) rest h s = front_number ds rest h.0 s
front_of (text t) rest h s = ap (λ w. Some (text w)) (rw append_assoc (run_is is_text_part t (34 ∷ rest) h refl))
front_of (mark marks.Equals) rest h s = refl
front_of (mark marks.Semicolon) rest h s = refl
front_of (mark marks.Open) rest h s = refl
front_of (mark marks.Close) rest h s = refl
front_of (mark marks.Comma) rest h s = refl
front_of (mark marks.Plus) rest h s = refl
front_of (mark marks.Minus) rest h s = refl
front_of (mark marks.Star) rest h s = refl
front_of (mark marks.Dot) rest h s = refl

-- what begins some bytes is their front
pub fronted : (bytes : List ℕ) (e : Element) (rest : List ℕ) → Heads bytes e rest → front bytes ≡ Some e
fronted bytes e rest h = subst (λ xs. front xs ≡ Some e) h.spell (front_of e rest h.is_element h.ends)

-- at most one element begins some bytes, before one rest
pub same_element : (bytes : List ℕ) (e d : Element) (rest left : List ℕ) → Heads bytes e rest → Heads bytes d left → e ≡ d
same_element bytes e d rest left h g = let p = fronted bytes e rest h in let q = fronted bytes d left g in cc

pub same_rest : (bytes : List ℕ) (e d : Element) (rest left : List ℕ) → Heads bytes e rest → Heads bytes d left → rest ≡ left
same_rest bytes e d rest left h g =
    append_cancel_left (spelling_of e) rest left (h.spell ∙ sym (subst (λ x. spelling_of x ++ left ≡ bytes) (sym (same_element bytes e d rest left h g)) g.spell))
