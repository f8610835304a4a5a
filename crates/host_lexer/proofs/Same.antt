-- At most one element begins some characters.
use Rattle.std.specs.Prelude.{◌≡◌, ℕ, ◌<◌, Bool, true, false, ◌||◌, ◌==◌, List, [], ◌∷◌, ◌++◌, All, refl}
use Rattle.std.specs.Char.{is_digit, is_ascii_alphanumeric}
use Rattle.std.proofs.Common.{sym, ◌∙◌, ap, subst, arith}
use Rattle.std.proofs.lemmas.List.{append_assoc, append_cancel_left, append_cancel_right}
use Rattle.std.proofs.lemmas.List.Elements.{All-nil, All-cons, All-head, All-tail, All-weaker}
use Rattle.std.proofs.lemmas.Bool.Decides.{nat_tests}
use Rattle.unicode_ident.specs.Ident.{is_xid_start, is_xid_continue}
use Rattle.unicode_ident.proofs.IdentLemmas.{is_xid_continue-ascii, is_xid_start-is_xid_continue}
use Rattle.host_lexer.specs.declared.token.Mark.{Mark}
use Rattle.host_lexer.specs.Characters.{is_name_start, is_name_part, is_number_part, is_comment_part, StopsAt, HasNoEnd}
use Rattle.host_lexer.specs.Numerals.{Numeral, decimal, hexadecimal, numeral_chars, AreDigits, IsNumeral, IsDecimal}
use Rattle.host_lexer.specs.Spellings.{word_chars}
use Rattle.host_lexer.specs.Steps.{quoted, block_commented, marked}
use Rattle.host_lexer.specs.Texts.{Piece, pieces_chars, ArePieces}
use Rattle.host_lexer.specs.Tokens.{Element, space, line_end, line_comment, block_comment, name, word, number, big_int, text, mark, chars_of, IsElement, EndsBefore, IsIdentifier, Heads}
use Rattle.host_lexer.proofs.Classes.{class_is, class_at, classified, is_it}
use Rattle.host_lexer.proofs.Pieces.{same_pieces, pieces_go}
use Rattle.host_lexer.proofs.Runs.{run_of, run_is}
use Rattle.host_lexer.proofs.Spelt.{same_word, word_identifier, mark_at, mark_at_is, longest_stops}

-- names
pub part_from_start : (c : ℕ) → is_name_start c ≡ true → is_name_part c ≡ true
part_from_start c h = on (c == 36) (c == 95) (is_xid_start c) refl refl refl h
  where
    on : (a b x : Bool) → (c == 36) ≡ a → (c == 95) ≡ b → is_xid_start c ≡ x → (a || b || x) ≡ true → is_name_part c ≡ true
    on true b x p q r h = rw p refl
    on false true x p q r h = let k : c ≡ 95 = is_it c 95 q in let lt : 95 < 128 = omega arith in rw k (is_xid_continue-ascii 95 lt)
    on false false true p q r h = rw (p, is_xid_start-is_xid_continue c r) refl
    on false false false p q r h = cc

pub identifier_parts : (w : List ℕ) → IsIdentifier w → All (λ c. is_name_part c ≡ true) w
identifier_parts [] h = absurd h
identifier_parts (c ∷ cs) h = All-cons (λ c. is_name_part c ≡ true) c cs (part_from_start c h.0) h.1

pub name_run : (w rest : List ℕ) → IsIdentifier w → StopsAt is_name_part rest → run_of is_name_part (w ++ rest) ≡ w
name_run w rest h s = run_is is_name_part w rest (identifier_parts w h) s

-- numbers
alnum : (c : ℕ) → c < 128 → is_ascii_alphanumeric c ≡ true → is_number_part c ≡ true
alnum c lt h = on (c == 46) (c == 36) refl refl
  where
    x : is_xid_continue c ≡ true
    x = is_xid_continue-ascii c lt ∙ rw h refl

    on : (a b : Bool) → (c == 46) ≡ a → (c == 36) ≡ b → is_number_part c ≡ true
    on true b p q = rw p refl
    on false true p q = rw (p, q) refl
    on false false p q = rw (p, q, x) refl

pub digit_part : (c : ℕ) → is_digit c 10 ≡ true → is_number_part c ≡ true
digit_part c h = let lt : c < 128 = grind (arith, nat_tests) in let a : is_ascii_alphanumeric c ≡ true = grind (arith, nat_tests) in alnum c lt a

pub hex_part : (c : ℕ) → is_digit c 16 ≡ true → is_number_part c ≡ true
hex_part c h = let lt : c < 128 = grind (arith, nat_tests) in let a : is_ascii_alphanumeric c ≡ true = grind (arith, nat_tests) in alnum c lt a

letter_part : (c : ℕ) → c < 128 → is_ascii_alphanumeric c ≡ true → is_number_part c ≡ true
letter_part c lt h = alnum c lt h

pub decimal_digits : (ds : List ℕ) → IsDecimal ds → AreDigits 10 ds
decimal_digits [] h = absurd h
decimal_digits (d ∷ []) h = h
decimal_digits (d ∷ e ∷ ds) h = h.1

pub numeral_parts : (n : Numeral) → IsNumeral n → All (λ c. is_number_part c ≡ true) (numeral_chars n)
numeral_parts (decimal ds) h = All-weaker (λ c. is_digit c 10 ≡ true) (λ c. is_number_part c ≡ true) digit_part ds (decimal_digits ds h)
numeral_parts (hexadecimal ds) h =
    All-cons (λ c. is_number_part c ≡ true) 48 (120 ∷ ds) (digit_part 48 refl)
    (All-cons (λ c. is_number_part c ≡ true) 120 ds (let lt : 120 < 128 = omega arith in alnum 120 lt refl)
    (All-weaker (λ c. is_digit c 16 ≡ true) (λ c. is_number_part c ≡ true) hex_part ds h.1))

-- no numeral has an `n`
no_n : (c : ℕ) → is_digit c 16 ≡ true → (c == 110) ≡ false
no_n c h = on (c == 110) refl
  where
    on : (b : Bool) → (c == 110) ≡ b → (c == 110) ≡ false
    on false e = e
    on true e = let r : is_digit 110 16 ≡ true = subst (λ x. is_digit x 16 ≡ true) (is_it c 110 e) h in cc

hex_from_digit : (c : ℕ) → is_digit c 10 ≡ true → is_digit c 16 ≡ true
hex_from_digit c h = grind (arith, nat_tests)

pub numeral_no_n : (n : Numeral) → IsNumeral n → All (λ c. (c == 110) ≡ false) (numeral_chars n)
numeral_no_n (decimal ds) h = All-weaker (λ c. is_digit c 10 ≡ true) (λ c. (c == 110) ≡ false) (λ c h. no_n c (hex_from_digit c h)) ds (decimal_digits ds h)
numeral_no_n (hexadecimal ds) h =
    All-cons (λ c. (c == 110) ≡ false) 48 (120 ∷ ds) refl
    (All-cons (λ c. (c == 110) ≡ false) 120 ds refl
    (All-weaker (λ c. is_digit c 16 ≡ true) (λ c. (c == 110) ≡ false) no_n ds h.1))

pub has_n : (xs : List ℕ) → All (λ c. (c == 110) ≡ false) (xs ++ 110 ∷ []) → ⊥
has_n [] h = let q : (110 == 110) ≡ false = All-head (λ c. (c == 110) ≡ false) 110 [] h in cc
has_n (x ∷ xs) h = has_n xs (All-tail (λ c. (c == 110) ≡ false) x (xs ++ 110 ∷ []) h)

pub same_numeral : (m n : Numeral) → numeral_chars m ≡ numeral_chars n → IsNumeral m → IsNumeral n → m ≡ n
same_numeral (decimal ds) (decimal es) e h g = ap (λ x. decimal x) e
same_numeral (hexadecimal ds) (hexadecimal es) e h g = let k : ds ≡ es = cc in ap (λ x. hexadecimal x) k
same_numeral (decimal ds) (hexadecimal es) e h g = absurd (no_x es (subst (AreDigits 10) e (decimal_digits ds h)))
  where
    no_x : (es : List ℕ) → AreDigits 10 (48 ∷ 120 ∷ es) → ⊥
    no_x es h = let q : is_digit 120 10 ≡ true = All-head (λ x. is_digit x 10 ≡ true) 120 es (All-tail (λ x. is_digit x 10 ≡ true) 48 (120 ∷ es) h) in cc
same_numeral (hexadecimal es) (decimal ds) e h g = absurd (no_x es (subst (AreDigits 10) (sym e) (decimal_digits ds g)))
  where
    no_x : (es : List ℕ) → AreDigits 10 (48 ∷ 120 ∷ es) → ⊥
    no_x es h = let q : is_digit 120 10 ≡ true = All-head (λ x. is_digit x 10 ≡ true) 120 es (All-tail (λ x. is_digit x 10 ≡ true) 48 (120 ∷ es) h) in cc

pub big_parts : (n : Numeral) → IsNumeral n → All (λ c. is_number_part c ≡ true) (numeral_chars n ++ 110 ∷ [])
big_parts n h = All-append_n (numeral_chars n) (numeral_parts n h)
  where
    All-append_n : (xs : List ℕ) → All (λ c. is_number_part c ≡ true) xs → All (λ c. is_number_part c ≡ true) (xs ++ 110 ∷ [])
    All-append_n [] h = All-cons (λ c. is_number_part c ≡ true) 110 [] (let lt : 110 < 128 = omega arith in alnum 110 lt refl) (All-nil (λ c. is_number_part c ≡ true))
    All-append_n (x ∷ xs) h = All-cons (λ c. is_number_part c ≡ true) x (xs ++ 110 ∷ []) (All-head (λ c. is_number_part c ≡ true) x xs h) (All-append_n xs (All-tail (λ c. is_number_part c ≡ true) x xs h))

-- comments
pub same_inside : (b c rest left : List ℕ) → b ++ 42 ∷ 47 ∷ rest ≡ c ++ 42 ∷ 47 ∷ left → HasNoEnd b → HasNoEnd c → b ≡ c
same_inside [] [] rest left e h g = refl
same_inside (x ∷ b) (y ∷ c) rest left e h g =
    let p : x ≡ y = cc in let q : b ++ 42 ∷ 47 ∷ rest ≡ c ++ 42 ∷ 47 ∷ left = cc in
    let r : b ≡ c = same_inside b c rest left q h.1 g.1 in cc
same_inside [] (y ∷ []) rest left e h g = let p : 47 ∷ rest ≡ 42 ∷ 47 ∷ left = cc in cc
same_inside [] (y ∷ z ∷ c) rest left e h g =
    let p : 42 ≡ y = cc in let q : 47 ≡ z = cc in let r : (z == 47) ≡ false = g.0 (sym p) in
    let s : (47 == 47) ≡ false = subst (λ k. (k == 47) ≡ false) (sym q) r in absurd cc
same_inside (y ∷ []) [] rest left e h g = let p : 42 ∷ 47 ∷ rest ≡ 47 ∷ left = cc in cc
same_inside (y ∷ z ∷ c) [] rest left e h g =
    let p : y ≡ 42 = cc in let q : z ≡ 47 = cc in let r : (z == 47) ≡ false = h.0 p in
    let s : (47 == 47) ≡ false = subst (λ k. (k == 47) ≡ false) q r in absurd cc

-- elements of one class
same_names : (v w rest left : List ℕ) → v ++ rest ≡ w ++ left → IsIdentifier v → IsIdentifier w → StopsAt is_name_part rest → StopsAt is_name_part left → v ≡ w
same_names v w rest left e h g s t = sym (name_run v rest h s) ∙ ap (run_of is_name_part) e ∙ name_run w left g t

same_runs : (v w rest left : List ℕ) → v ++ rest ≡ w ++ left → All (λ c. is_number_part c ≡ true) v → All (λ c. is_number_part c ≡ true) w
    → StopsAt is_number_part rest → StopsAt is_number_part left → v ≡ w
same_runs v w rest left e h g s t = sym (run_is is_number_part v rest h s) ∙ ap (run_of is_number_part) e ∙ run_is is_number_part w left g t

quotes : (q r : ℕ) (ps ss : List Piece) (rest left : List ℕ) → (q ∷ (pieces_chars ps ++ q ∷ [])) ++ rest ≡ (r ∷ (pieces_chars ss ++ r ∷ [])) ++ left
    → IsElement (text q ps) → IsElement (text r ss) → text q ps ≡ text r ss
quotes q r ps ss rest left e h g =
    let k : q ≡ r = cc in
    let tails : (pieces_chars ps ++ q ∷ []) ++ rest ≡ (pieces_chars ss ++ r ∷ []) ++ left = cc in
    let l : pieces_chars ps ++ q ∷ rest ≡ pieces_chars ss ++ q ∷ left =
    sym (append_assoc (pieces_chars ps) (q ∷ []) rest) ∙ tails ∙ append_assoc (pieces_chars ss) (r ∷ []) left ∙ ap (λ x. pieces_chars ss ++ x ∷ left) (sym k) in
    let g' : ArePieces q ss (q ∷ []) = subst (λ x. ArePieces x ss (x ∷ [])) (sym k) g.1 in
    let m : ps ≡ ss = same_pieces q ps ss rest left h.0 l (pieces_go q ps [] rest h.1) (pieces_go q ss [] left g') in
    cc

same : (e d : Element) (r s : List ℕ) → chars_of e ++ r ≡ chars_of d ++ s → IsElement e → EndsBefore e r → IsElement d → EndsBefore d s → class_is e ≡ class_is d → e ≡ d
same (space c) (space d) r s q h t g u k = let p : c ≡ d = cc in ap (λ x. space x) p
same (space c) _ r s q h t g u k = absurd cc
same (line_end c) (line_end d) r s q h t g u k = let p : c ≡ d = cc in ap (λ x. line_end x) p
same (line_end c) _ r s q h t g u k = absurd cc
same (line_comment cs) (line_comment ds) r s q h t g u k =
    let p : cs ++ r ≡ ds ++ s = cc in
    ap (λ x. line_comment x) (sym (run_is is_comment_part cs r h t) ∙ ap (run_of is_comment_part) p ∙ run_is is_comment_part ds s g u)
same (line_comment cs) _ r s q h t g u k = absurd cc
same (block_comment cs) (block_comment ds) r s q h t g u k =
    let p : (cs ++ 42 ∷ 47 ∷ []) ++ r ≡ (ds ++ 42 ∷ 47 ∷ []) ++ s = cc in
    ap (λ x. block_comment x) (same_inside cs ds r s (sym (append_assoc cs (42 ∷ 47 ∷ []) r) ∙ p ∙ append_assoc ds (42 ∷ 47 ∷ []) s) h g)
same (block_comment cs) _ r s q h t g u k = absurd cc
same (name v) (name w) r s q h t g u k = ap (λ x. name x) (same_names v w r s q h.0 g.0 t u)
same (name v) (word w) r s q h t g u k = absurd (h.1 w (sym (same_names v (word_chars w) r s q h.0 (word_identifier w) t u)))
same (name v) _ r s q h t g u k = absurd cc
same (word v) (name w) r s q h t g u k = absurd (g.1 v (same_names (word_chars v) w r s q (word_identifier v) g.0 t u))
same (word v) (word w) r s q h t g u k = ap (λ x. word x) (same_word v w (same_names (word_chars v) (word_chars w) r s q (word_identifier v) (word_identifier w) t u))
same (word v) _ r s q h t g u k = absurd cc
same (number m) (number n) r s q h t g u k =
    ap (λ x. number x) (same_numeral m n (same_runs (numeral_chars m) (numeral_chars n) r s q (numeral_parts m h.0) (numeral_parts n g.0) t u) h.0 g.0)
same (number m) (big_int n) r s q h t g u k =
    let p = same_runs (numeral_chars m) (numeral_chars n ++ 110 ∷ []) r s q (numeral_parts m h.0) (big_parts n g.0) t u in
    absurd (has_n (numeral_chars n) (subst (All (λ c. (c == 110) ≡ false)) p (numeral_no_n m h.0)))
same (number m) _ r s q h t g u k = absurd cc
same (big_int m) (number n) r s q h t g u k =
    let p = same_runs (numeral_chars m ++ 110 ∷ []) (numeral_chars n) r s q (big_parts m h.0) (numeral_parts n g.0) t u in
    absurd (has_n (numeral_chars m) (subst (All (λ c. (c == 110) ≡ false)) (sym p) (numeral_no_n n g.0)))
same (big_int m) (big_int n) r s q h t g u k =
    let p = same_runs (numeral_chars m ++ 110 ∷ []) (numeral_chars n ++ 110 ∷ []) r s q (big_parts m h.0) (big_parts n g.0) t u in
    ap (λ x. big_int x) (same_numeral m n (append_cancel_right (numeral_chars m) (numeral_chars n) (110 ∷ []) p) h.0 g.0)
same (big_int m) _ r s q h t g u k = absurd cc
same (text q ps) (text r ss) rest left e h t g u k = quotes q r ps ss rest left e h g
same (text q ps) _ rest left e h t g u k = absurd cc
same (mark m) (mark n) r s q h t g u k =
    let a = mark_at_is m r (longest_stops m r t.0) in let b = mark_at_is n s (longest_stops n s u.0) in let c = ap mark_at q in
    let p : m ≡ n = cc in ap (λ x. mark x) p
same (mark m) _ r s q h t g u k = absurd cc

-- at most one element begins some characters, before one rest
pub class_heads : (chars : List ℕ) (e : Element) (rest : List ℕ) → Heads chars e rest → class_at chars ≡ class_is e
class_heads chars e rest h = subst (λ xs. class_at xs ≡ class_is e) h.spell (classified e rest h.is_element h.ends)

pub same_element : (chars : List ℕ) (e d : Element) (rest left : List ℕ) → Heads chars e rest → Heads chars d left → e ≡ d
same_element chars e d rest left h g =
    same e d rest left (h.spell ∙ sym g.spell) h.is_element h.ends g.is_element g.ends (sym (class_heads chars e rest h) ∙ class_heads chars d left g)

pub same_rest : (chars : List ℕ) (e d : Element) (rest left : List ℕ) → Heads chars e rest → Heads chars d left → rest ≡ left
same_rest chars e d rest left h g =
    append_cancel_left (chars_of e) rest left (h.spell ∙ sym (subst (λ x. chars_of x ++ left ≡ chars) (sym (same_element chars e d rest left h g)) g.spell))

-- what begins characters of a class
pub as_mark : (e : Element) → class_is e ≡ marked → (m : Mark) × (e ≡ mark m)
as_mark (mark m) k = (m, refl)
as_mark _ k = absurd cc

pub as_text : (e : Element) → class_is e ≡ quoted → (q : ℕ) × (ps : List Piece) × (e ≡ text q ps)
as_text (text q ps) k = (q, ps, refl)
as_text _ k = absurd cc

pub as_block : (e : Element) → class_is e ≡ block_commented → (cs : List ℕ) × (e ≡ block_comment cs)
as_block (block_comment cs) k = (cs, refl)
as_block _ k = absurd cc
