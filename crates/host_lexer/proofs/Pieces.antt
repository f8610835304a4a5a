-- The one piece that may begin some characters of a text, and the one row of pieces before a quote.
use Rattle.std.specs.Prelude.{◌≡◌, ℕ, Bool, true, false, cond, ◌||◌, ◌==◌, List, [], ◌∷◌, ◌++◌, ◌⊎◌, length, take, Option, Some, None, refl}
use Rattle.std.specs.Char.{is_digit}
use Rattle.std.proofs.Common.{sym, ◌∙◌, ap, subst, arith, inl, inr}
use Rattle.std.proofs.lemmas.List.{append_assoc, append_cancel_left, take_at}
use Rattle.std.proofs.lemmas.List.Elements.{All-head}
use Rattle.std.proofs.lemmas.Bool.Decides.{nat_tests}
use Rattle.host_lexer.specs.Characters.{is_quote}
use Rattle.host_lexer.specs.Numerals.{AreDigits}
use Rattle.host_lexer.specs.Texts.{Piece, plain, letter, null, byte, unit, braced, piece_chars, is_letter, IsPiece, pieces_chars, ArePieces}
use Rattle.host_lexer.proofs.Runs.{run_of, run_is}
use Rattle.host_lexer.proofs.Classes.{or_cases, is_it}

abbrev pub is_hex : ℕ → Bool
is_hex c = is_digit c 16

-- the piece that may begin some characters
abbrev pub unicode_front : List ℕ → Option Piece
unicode_front [] = None
unicode_front (e ∷ es) = cond (e == 123) (Some (braced (run_of is_hex es))) (Some (unit (take 4 (e ∷ es))))

abbrev pub escape_front : List ℕ → Option Piece
escape_front [] = None
escape_front (d ∷ ds) = cond (d == 120) (Some (byte (take 2 ds))) (cond (d == 117) (unicode_front ds) (cond (d == 48) (Some null) (Some (letter d))))

abbrev pub piece_front : List ℕ → Option Piece
piece_front [] = None
piece_front (c ∷ cs) = cond (c == 92) (escape_front cs) (Some (plain c))

pub differs : (c k : ℕ) → ¬ (c ≡ k) → (c == k) ≡ false
differs c k h = grind (arith, nat_tests)

letter_front : (c : ℕ) (rest : List ℕ) → is_letter c ≡ true → escape_front (c ∷ rest) ≡ Some (letter c)
letter_front c rest h = six (or_cases ((c == 110) || (c == 116) || (c == 114) || (c == 92) || (c == 34)) (c == 39) h)
  where
    at : (k : ℕ) → (c == k) ≡ true → escape_front (k ∷ rest) ≡ Some (letter k) → escape_front (c ∷ rest) ≡ Some (letter c)
    at k e h = let q : k ≡ c = sym (is_it c k e) in subst (λ x. escape_front (x ∷ rest) ≡ Some (letter x)) q h

    two : ((c == 110) ≡ true) ⊎ ((c == 116) ≡ true) → escape_front (c ∷ rest) ≡ Some (letter c)
    two (inl e) = at 110 e refl
    two (inr e) = at 116 e refl

    three : (((c == 110) || (c == 116)) ≡ true) ⊎ ((c == 114) ≡ true) → escape_front (c ∷ rest) ≡ Some (letter c)
    three (inl e) = two (or_cases (c == 110) (c == 116) e)
    three (inr e) = at 114 e refl

    four : (((c == 110) || (c == 116) || (c == 114)) ≡ true) ⊎ ((c == 92) ≡ true) → escape_front (c ∷ rest) ≡ Some (letter c)
    four (inl e) = three (or_cases ((c == 110) || (c == 116)) (c == 114) e)
    four (inr e) = at 92 e refl

    five : (((c == 110) || (c == 116) || (c == 114) || (c == 92)) ≡ true) ⊎ ((c == 34) ≡ true) → escape_front (c ∷ rest) ≡ Some (letter c)
    five (inl e) = four (or_cases ((c == 110) || (c == 116) || (c == 114)) (c == 92) e)
    five (inr e) = at 34 e refl

    six : (((c == 110) || (c == 116) || (c == 114) || (c == 92) || (c == 34)) ≡ true) ⊎ ((c == 39) ≡ true) → escape_front (c ∷ rest) ≡ Some (letter c)
    six (inl e) = five (or_cases ((c == 110) || (c == 116) || (c == 114) || (c == 92)) (c == 34) e)
    six (inr e) = at 39 e refl

hex_no_brace : (c : ℕ) → is_hex c ≡ true → (c == 123) ≡ false
hex_no_brace c h = on (c == 123) refl
  where
    on : (b : Bool) → (c == 123) ≡ b → (c == 123) ≡ false
    on false e = e
    on true e = let q : c ≡ 123 = is_it c 123 e in let r : is_hex 123 ≡ true = subst (λ x. is_hex x ≡ true) q h in cc

unit_front : (ds rest : List ℕ) → length ds ≡ 4 → AreDigits 16 ds → unicode_front (ds ++ rest) ≡ Some (unit ds)
unit_front [] rest l h = absurd (omega (arith, l))
unit_front (d ∷ ds) rest l h =
    rw (hex_no_brace d (All-head (λ x. is_hex x ≡ true) d ds h)) (ap (λ x. Some (unit x)) (take_at (d ∷ ds) rest 4 l))

pub fronted_piece : (q : ℕ) (p : Piece) (rest : List ℕ) → IsPiece q p rest → piece_front (piece_chars p ++ rest) ≡ Some p
fronted_piece q (plain c) rest h = rw (differs c 92 h.1) refl
fronted_piece q (letter c) rest h = letter_front c rest h
fronted_piece q null rest h = refl
fronted_piece q (byte ds) rest h = ap (λ x. Some (byte x)) (take_at ds rest 2 h.0)
fronted_piece q (unit ds) rest h = unit_front ds rest h.0 h.1
fronted_piece q (braced ds) rest h = rw (append_assoc ds (125 ∷ []) rest) (ap (λ x. Some (braced x)) (run_is is_hex ds (125 ∷ rest) h.1 refl))

-- at most one piece begins some characters
pub same_piece : (q r : ℕ) (p s : Piece) (rest left : List ℕ) → piece_chars p ++ rest ≡ piece_chars s ++ left → IsPiece q p rest → IsPiece r s left → p ≡ s
same_piece q r p s rest left e h g = let a = fronted_piece q p rest h in let b = fronted_piece r s left g in let c = ap piece_front e in cc

-- no piece begins with the quote of its text
pub no_quote : (q : ℕ) (p : Piece) (rest left : List ℕ) → is_quote q ≡ true → IsPiece q p rest → piece_chars p ++ rest ≡ q ∷ left → ⊥
no_quote q (plain c) rest left t h e = h.0 (let k : c ≡ q = cc in k)
no_quote q (letter c) rest left t h e = no_backslash q t (let k : 92 ≡ q = cc in k)
  where
    no_backslash : (q : ℕ) → is_quote q ≡ true → 92 ≡ q → ⊥
    no_backslash q t e = let r : is_quote 92 ≡ true = subst (λ x. is_quote x ≡ true) (sym e) t in cc
no_quote q null rest left t h e = let k : 92 ≡ q = cc in let r : is_quote 92 ≡ true = subst (λ x. is_quote x ≡ true) (sym k) t in cc
no_quote q (byte ds) rest left t h e = let k : 92 ≡ q = cc in let r : is_quote 92 ≡ true = subst (λ x. is_quote x ≡ true) (sym k) t in cc
no_quote q (unit ds) rest left t h e = let k : 92 ≡ q = cc in let r : is_quote 92 ≡ true = subst (λ x. is_quote x ≡ true) (sym k) t in cc
no_quote q (braced ds) rest left t h e = let k : 92 ≡ q = cc in let r : is_quote 92 ≡ true = subst (λ x. is_quote x ≡ true) (sym k) t in cc

-- what follows the closing quote makes no difference to a piece
pub piece_goes : (q : ℕ) (p : Piece) (xs rest left : List ℕ) → IsPiece q p (xs ++ q ∷ rest) → IsPiece q p (xs ++ q ∷ left)
piece_goes q (plain c) xs rest left h = h
piece_goes q (letter c) xs rest left h = h
piece_goes q null [] rest left h = h
piece_goes q null (x ∷ xs) rest left h = h
piece_goes q (byte ds) xs rest left h = h
piece_goes q (unit ds) xs rest left h = h
piece_goes q (braced ds) xs rest left h = h

pub pieces_go : (q : ℕ) (ps : List Piece) (rest left : List ℕ) → ArePieces q ps (q ∷ rest) → ArePieces q ps (q ∷ left)
pieces_go q [] rest left h = tt
pieces_go q (p ∷ ps) rest left h = (piece_goes q p (pieces_chars ps) rest left h.0, pieces_go q ps rest left h.1)

-- at most one row of pieces stands before a quote
pub same_pieces : (q : ℕ) (ps ss : List Piece) (rest left : List ℕ) → is_quote q ≡ true → pieces_chars ps ++ q ∷ rest ≡ pieces_chars ss ++ q ∷ left
    → ArePieces q ps (q ∷ rest) → ArePieces q ss (q ∷ left) → ps ≡ ss
same_pieces q [] [] rest left t e h g = refl
same_pieces q [] (s ∷ ss) rest left t e h g = absurd (no_quote q s (pieces_chars ss ++ q ∷ left) rest t g.0 (sym (e ∙ append_assoc (piece_chars s) (pieces_chars ss) (q ∷ left))))
same_pieces q (p ∷ ps) [] rest left t e h g = absurd (no_quote q p (pieces_chars ps ++ q ∷ rest) left t h.0 (sym (append_assoc (piece_chars p) (pieces_chars ps) (q ∷ rest)) ∙ e))
same_pieces q (p ∷ ps) (s ∷ ss) rest left t e h g =
    let k : piece_chars p ++ (pieces_chars ps ++ q ∷ rest) ≡ piece_chars s ++ (pieces_chars ss ++ q ∷ left) =
    sym (append_assoc (piece_chars p) (pieces_chars ps) (q ∷ rest)) ∙ e ∙ append_assoc (piece_chars s) (pieces_chars ss) (q ∷ left) in
    let same : p ≡ s = same_piece q q p s (pieces_chars ps ++ q ∷ rest) (pieces_chars ss ++ q ∷ left) k h.0 g.0 in
    let l : pieces_chars ps ++ q ∷ rest ≡ pieces_chars ss ++ q ∷ left =
    append_cancel_left (piece_chars p) (pieces_chars ps ++ q ∷ rest) (pieces_chars ss ++ q ∷ left) (k ∙ ap (λ x. piece_chars x ++ (pieces_chars ss ++ q ∷ left)) (sym same)) in
    let m : ps ≡ ss = same_pieces q ps ss rest left t l h.1 g.1 in cc
