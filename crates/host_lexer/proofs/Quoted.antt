-- How far the reader of a text has come, and what each of its pieces shows.
use Rattle.std.specs.Prelude.{◌≡◌, ℕ, ◌+◌, ◌-◌, ◌<◌, ◌≤◌, true, false, not, List, [], ◌∷◌, ◌++◌, length, take, drop, map, Option, Some, None, MatchOption, encode_utf8, encode_utf8_all, refl}
use Rattle.std.specs.Char.{is_digit}
use Rattle.std.specs.List.{prefix_len}
use Rattle.std.proofs.Common.{sym, ◌∙◌, ap, subst, arith, get_or}
use Rattle.std.proofs.lemmas.List.{append_assoc, append-nil, append_cancel_left, take-append-drop, drop-drop, drop_more, drop_all, drop_at, take_rest, length-append, length-drop, map-append}
use Rattle.std.proofs.lemmas.List.Folds.{length-prefix_len}
use Rattle.std.proofs.lemmas.Str.{encodes-append}
use Rattle.std.proofs.lemmas.Bool.Decides.{nat_tests}
use Rattle.host_lexer.specs.declared.token.TokenKind.TheVariants as kinds
use Rattle.host_lexer.specs.Characters.{is_quote, is_line_end, HasFirst}
use Rattle.host_lexer.specs.Texts.{Piece, plain, letter, null, byte, unit, braced, is_letter, code_of_letter, piece_chars, IsPiece, pieces_chars, ArePieces, code_of, text_of}
use Rattle.host_lexer.specs.Steps.{HasPiece, NoPiece, HasDigits, NoDigits, Begins}
use Rattle.host_lexer.specs.Tokens.{Element, text, Heads, EndsAt, no_token}
use Rattle.host_lexer.proofs.Classes.{quote_class}
use Rattle.host_lexer.proofs.Numbered.{at_default}
use Rattle.host_lexer.proofs.Pieces.{is_hex, piece_front, fronted_piece, same_piece, pieces_go, differs}
use Rattle.host_lexer.proofs.Runs.{run_of}
use Rattle.host_lexer.proofs.Same.{class_heads, as_text}

-- where the one piece that may begin can't, none begins
pub no_piece : (q : ℕ) (xs : List ℕ) (f : Option Piece) → piece_front xs ≡ f → ((p : Piece) (rest : List ℕ) → f ≡ Some p → piece_chars p ++ rest ≡ xs → IsPiece q p rest → ⊥) → NoPiece q xs
no_piece q xs f e never p rest s h = never p rest (sym e ∙ ap piece_front (sym s) ∙ fronted_piece q p rest h) s h

-- the first characters of some
pub first_two : (xs : List ℕ) (k : ℕ) → (r : List ℕ) × (xs ≡ 92 ∷ r) → 2 ≤ length xs → k ≡ get_or xs 1 k → xs ≡ 92 ∷ k ∷ drop 2 xs
first_two xs k (r, e) l g = on r e
  where
    on : (r : List ℕ) → xs ≡ 92 ∷ r → xs ≡ 92 ∷ k ∷ drop 2 xs
    on [] e = let n : length xs ≡ 1 = ap length e in absurd (omega (arith, n, l))
    on (d ∷ r) e = let n : k ≡ d = g ∙ ap (λ x. get_or x 1 k) e in e ∙ rw (e, n) refl

-- `\u{H..}`
brace_front : (xs : List ℕ) → (r : List ℕ) × (xs ≡ 92 ∷ 117 ∷ 123 ∷ r) → piece_front xs ≡ Some (braced (run_of is_hex (drop 3 xs)))
brace_front xs (r, e) = rw e refl

three_first : (xs : List ℕ) → (r : List ℕ) × (xs ≡ 92 ∷ 117 ∷ 123 ∷ r) → 92 ∷ 117 ∷ 123 ∷ drop 3 xs ≡ xs
three_first xs (r, e) = rw e refl

pub hex_is : (xs : List ℕ) (n : ℕ) → n ≡ prefix_len is_hex (take (length xs - 3) (drop 3 xs)) → n ≡ prefix_len is_hex (drop 3 xs)
hex_is xs n e = e ∙ ap (prefix_len is_hex) (take_rest xs 3)

-- what follows the digits of the one piece that may begin
brace_after : (q : ℕ) (xs : List ℕ) (n : ℕ) → (r : List ℕ) × (xs ≡ 92 ∷ 117 ∷ 123 ∷ r) → n ≡ prefix_len is_hex (drop 3 xs)
    → ((ds rest : List ℕ) → ds ++ 125 ∷ rest ≡ drop 3 xs → 125 ∷ rest ≡ drop (3 + n) xs → length ds ≡ n → IsPiece q (braced ds) rest → ⊥) → NoPiece q xs
brace_after q xs n b e never = no_piece q xs (Some (braced (run_of is_hex (drop 3 xs)))) (brace_front xs b) on
  where
    on : (p : Piece) (rest : List ℕ) → Some (braced (run_of is_hex (drop 3 xs))) ≡ Some p → piece_chars p ++ rest ≡ xs → IsPiece q p rest → ⊥
    on p rest f s h =
        let ds : List ℕ = run_of is_hex (drop 3 xs) in
        let k : p ≡ braced ds = cc in
        let s' : 92 ∷ 117 ∷ 123 ∷ ((ds ++ 125 ∷ []) ++ rest) ≡ xs = subst (λ x. piece_chars x ++ rest ≡ xs) k s in
        let t : 92 ∷ 117 ∷ 123 ∷ ((ds ++ 125 ∷ []) ++ rest) ≡ 92 ∷ 117 ∷ 123 ∷ drop 3 xs = s' ∙ sym (three_first xs b) in
        let u : (ds ++ 125 ∷ []) ++ rest ≡ drop 3 xs = cc in
        let v : ds ++ 125 ∷ rest ≡ drop 3 xs = sym (append_assoc ds (125 ∷ []) rest) ∙ u in
        let l : length ds ≡ n = length-prefix_len is_hex (drop 3 xs) ∙ sym e in
        never ds rest v (sym (drop_at ds (125 ∷ rest) n l) ∙ ap (drop n) v ∙ drop-drop n 3 xs) l (subst (λ x. IsPiece q x rest) k h)

pub brace_past : (q : ℕ) (xs : List ℕ) (n : ℕ) → (r : List ℕ) × (xs ≡ 92 ∷ 117 ∷ 123 ∷ r) → n ≡ prefix_len is_hex (take (length xs - 3) (drop 3 xs)) → length xs ≤ 3 + n → NoPiece q xs
brace_past q xs n b e l = brace_after q xs n b (hex_is xs n e) (λ ds rest s t k h. let z : 125 ∷ rest ≡ [] = t ∙ drop_all (3 + n) xs l in cc)

pub brace_other : (q : ℕ) (xs : List ℕ) (n k : ℕ) → (r : List ℕ) × (xs ≡ 92 ∷ 117 ∷ 123 ∷ r) → n ≡ prefix_len is_hex (take (length xs - 3) (drop 3 xs)) → 3 + n < length xs
    → k ≡ get_or xs (3 + n) k → ¬ (k ≡ 125) → NoPiece q xs
brace_other q xs n k b e l g other = brace_after q xs n b (hex_is xs n e)
    (λ ds rest s t m h. let z : 125 ∷ rest ≡ get_or xs (3 + n) k ∷ drop (3 + n + 1) xs = t ∙ drop_more xs (3 + n) k l in other (let y : k ≡ 125 = cc in y))

pub brace_wrong : (q : ℕ) (xs : List ℕ) (n : ℕ) → (r : List ℕ) × (xs ≡ 92 ∷ 117 ∷ 123 ∷ r) → n ≡ prefix_len is_hex (take (length xs - 3) (drop 3 xs)) → NoDigits xs 3 n → NoPiece q xs
brace_wrong q xs n b e never = brace_after q xs n b (hex_is xs n e) (λ ds rest s t m h. never ds (125 ∷ rest) s m h.1 h.2)

pub brace_piece : (q : ℕ) (xs : List ℕ) (n k code : ℕ) → (r : List ℕ) × (xs ≡ 92 ∷ 117 ∷ 123 ∷ r) → ¬ (n ≡ 0) → 3 + n < length xs → k ≡ get_or xs (3 + n) k → k ≡ 125
    → HasDigits xs 3 n code → HasPiece q xs (3 + n + 1) code
brace_piece q xs n k code b z l g is h =
    let ds : List ℕ = take n (drop 3 xs) in
    let c : drop (3 + n) xs ≡ 125 ∷ drop (3 + n + 1) xs = drop_more xs (3 + n) k l ∙ ap (λ x. x ∷ drop (3 + n + 1) xs) (sym g ∙ is) in
    let t : ds ++ drop (3 + n) xs ≡ drop 3 xs = ap (λ y. ds ++ y) (sym (drop-drop n 3 xs)) ∙ take-append-drop n (drop 3 xs) in
    let m : length ds ≡ n = length-take-all n (drop 3 xs) (let v = length-drop 3 xs in omega (arith, v, l)) in
    record {
      piece = braced ds;
      spell = ap (λ y. 92 ∷ 117 ∷ 123 ∷ y) (append_assoc ds (125 ∷ []) (drop (3 + n + 1) xs) ∙ ap (λ y. ds ++ y) (sym c) ∙ t) ∙ three_first xs b;
      is_piece = ((λ e. z (sym m ∙ ap length e)), h.are_digits, h.is_scalar);
      code_is = sym h.code_is;
      size = let w = length-append ds (125 ∷ []) in omega (arith, m, w);
    }
  where
    length-take-all : (n : ℕ) (ys : List ℕ) → n ≤ length ys → length (take n ys) ≡ n
    length-take-all n ys l = let a = length-append (take n ys) (drop n ys) in let b = ap length (take-append-drop n ys) in let c = length-drop n ys in omega (arith, a, b, c)

taken : (n : ℕ) (ys : List ℕ) → n ≤ length ys → length (take n ys) ≡ n
taken n ys l = let a = length-append (take n ys) (drop n ys) in let b = ap length (take-append-drop n ys) in let c = length-drop n ys in omega (arith, a, b, c)

-- `\xHH`
pub byte_piece : (q : ℕ) (xs : List ℕ) (len code : ℕ) → xs ≡ 92 ∷ 120 ∷ drop 2 xs → HasDigits xs 2 2 code → len ≡ 4 → HasPiece q xs len code
byte_piece q xs len code e h l =
    let m : length (take 2 (drop 2 xs)) ≡ 2 = taken 2 (drop 2 xs) (let v = length-drop 2 xs in let w = h.within in omega (arith, v, w)) in
    rw l (record {
      piece = byte (take 2 (drop 2 xs));
      spell = ap (λ y. 92 ∷ 120 ∷ (take 2 (drop 2 xs) ++ y)) (sym (drop-drop 2 2 xs)) ∙ ap (λ y. 92 ∷ 120 ∷ y) (take-append-drop 2 (drop 2 xs)) ∙ sym e;
      is_piece = (m, h.are_digits, h.is_scalar);
      code_is = sym h.code_is;
      size = omega (arith, m);
    })

pub no_byte : (q : ℕ) (xs : List ℕ) → xs ≡ 92 ∷ 120 ∷ drop 2 xs → NoDigits xs 2 2 → NoPiece q xs
no_byte q xs e never = no_piece q xs (Some (byte (take 2 (drop 2 xs)))) (ap piece_front e) on
  where
    on : (p : Piece) (rest : List ℕ) → Some (byte (take 2 (drop 2 xs))) ≡ Some p → piece_chars p ++ rest ≡ xs → IsPiece q p rest → ⊥
    on p rest f s h =
        let ds : List ℕ = take 2 (drop 2 xs) in
        let k : p ≡ byte ds = cc in
        let t : 92 ∷ 120 ∷ (ds ++ rest) ≡ 92 ∷ 120 ∷ drop 2 xs = subst (λ x. piece_chars x ++ rest ≡ xs) k s ∙ e in
        let u : ds ++ rest ≡ drop 2 xs = cc in
        let g : IsPiece q (byte ds) rest = subst (λ x. IsPiece q x rest) k h in never ds rest u g.0 g.1 g.2

-- `\uHHHH`
pub unit_piece : (q : ℕ) (xs : List ℕ) (len code : ℕ) → xs ≡ 92 ∷ 117 ∷ drop 2 xs → HasDigits xs 2 4 code → len ≡ 6 → HasPiece q xs len code
unit_piece q xs len code e h l =
    let m : length (take 4 (drop 2 xs)) ≡ 4 = taken 4 (drop 2 xs) (let v = length-drop 2 xs in let w = h.within in omega (arith, v, w)) in
    rw l (record {
      piece = unit (take 4 (drop 2 xs));
      spell = ap (λ y. 92 ∷ 117 ∷ (take 4 (drop 2 xs) ++ y)) (sym (drop-drop 4 2 xs)) ∙ ap (λ y. 92 ∷ 117 ∷ y) (take-append-drop 4 (drop 2 xs)) ∙ sym e;
      is_piece = (m, h.are_digits, h.is_scalar);
      code_is = sym h.code_is;
      size = omega (arith, m);
    })

pub no_unit : (q : ℕ) (xs : List ℕ) → xs ≡ 92 ∷ 117 ∷ drop 2 xs → ¬ (get_or xs 2 0 ≡ 123) → NoDigits xs 2 4 → NoPiece q xs
no_unit q xs e other never = on (drop 2 xs) refl
  where
    at_two : (d : ℕ) (ds : List ℕ) → drop 2 xs ≡ d ∷ ds → ¬ (d ≡ 123)
    at_two d ds f z = other (ap (λ y. get_or y 2 0) (e ∙ ap (λ y. 92 ∷ 117 ∷ y) f) ∙ z)

    last : (d : ℕ) (ds : List ℕ) → drop 2 xs ≡ d ∷ ds → (p : Piece) (rest : List ℕ) → Some (unit (take 4 (d ∷ ds))) ≡ Some p → piece_chars p ++ rest ≡ xs → IsPiece q p rest → ⊥
    last d ds f p rest g s h =
        let us : List ℕ = take 4 (d ∷ ds) in
        let k : p ≡ unit us = cc in
        let t : 92 ∷ 117 ∷ (us ++ rest) ≡ 92 ∷ 117 ∷ drop 2 xs = subst (λ x. piece_chars x ++ rest ≡ xs) k s ∙ e in
        let u : us ++ rest ≡ drop 2 xs = cc in
        let i : IsPiece q (unit us) rest = subst (λ x. IsPiece q x rest) k h in never us rest u i.0 i.1 i.2

    on : (ys : List ℕ) → drop 2 xs ≡ ys → NoPiece q xs
    on [] f = no_piece q xs None (ap piece_front (e ∙ ap (λ y. 92 ∷ 117 ∷ y) f)) (λ p rest g s h. cc)
    on (d ∷ ds) f = no_piece q xs (Some (unit (take 4 (d ∷ ds)))) (ap piece_front (e ∙ ap (λ y. 92 ∷ 117 ∷ y) f) ∙ rw (differs d 123 (at_two d ds f)) refl) (last d ds f)

-- a letter
pub letter_piece : (q : ℕ) (xs : List ℕ) (k code : ℕ) → (c : ℕ) × (rest : List ℕ) × (xs ≡ 92 ∷ c ∷ rest) × (¬ (c ≡ 120)) × (¬ (c ≡ 117)) × (¬ (c ≡ 48)) → k ≡ get_or xs 1 k
    → is_letter k ≡ true → code ≡ code_of_letter k → HasPiece q xs 2 code
letter_piece q xs k code (c, rest, e, n, m, o) g l is =
    let z : k ≡ c = g ∙ ap (λ x. get_or x 1 k) e in
    record { piece = letter k; spell = rw (e, z) refl; is_piece = l; code_is = sym is; size = refl }

-- a character that stands for itself
pub plain_piece : (q : ℕ) (xs : List ℕ) (k : ℕ) → 0 < length xs → k ≡ get_or xs 0 k → ¬ (k ≡ 92) → is_line_end k ≡ false → ¬ (get_or xs 0 0 ≡ q) → HasPiece q xs 1 k
plain_piece q [] k lt g n l o = absurd (omega arith)
plain_piece q (x ∷ xs) k lt g n l o = record { piece = plain k; spell = ap (λ y. y ∷ xs) g; is_piece = ((λ z. o (sym g ∙ z)), n, l); code_is = refl; size = refl }

-- after the quote stand pieces up to a place, which stand for some bytes; and a text that begins here goes on from them
pub record Quoting (q : ℕ) (chars : List ℕ) (at : ℕ) (bytes : List ℕ) : Type 0 where
  pub pieces : List Piece
  pub spell : q ∷ (pieces_chars pieces ++ drop at chars) ≡ chars
  pub are_pieces : ArePieces q pieces (drop at chars)
  pub bytes_are : text_of pieces ≡ bytes
  pub size : at ≡ 1 + length (pieces_chars pieces)
  pub goes_on : (all : List Piece) (rest : List ℕ) → q ∷ (pieces_chars all ++ q ∷ rest) ≡ chars → ArePieces q all (q ∷ rest)
      → (more : List Piece) × (pieces_chars more ++ q ∷ rest ≡ drop at chars) × ArePieces q more (q ∷ rest)

pub quoting : (q : ℕ) (xs : List ℕ) → 0 < length xs → q ≡ get_or xs 0 q → Quoting q xs 1 []
quoting q [] lt g = absurd (omega arith)
quoting q (x ∷ xs) lt g = record {
  pieces = [];
  spell = ap (λ y. y ∷ xs) g;
  are_pieces = tt;
  bytes_are = refl;
  size = refl;
  goes_on = λ all rest e a. (all, (let k : pieces_chars all ++ q ∷ rest ≡ xs = cc in k), a);
}

pieces_snoc : (ps : List Piece) (p : Piece) → pieces_chars (ps ++ p ∷ []) ≡ pieces_chars ps ++ piece_chars p
pieces_snoc [] p = append-nil (piece_chars p)
pieces_snoc (s ∷ ps) p = ap (λ y. piece_chars s ++ y) (pieces_snoc ps p) ∙ sym (append_assoc (piece_chars s) (pieces_chars ps) (piece_chars p))

are_snoc : (q : ℕ) (ps : List Piece) (p : Piece) (rest : List ℕ) → ArePieces q ps (piece_chars p ++ rest) → IsPiece q p rest → ArePieces q (ps ++ p ∷ []) rest
are_snoc q [] p rest h i = (i, tt)
are_snoc q (s ∷ ps) p rest h i =
    (subst (IsPiece q s) (sym (append_assoc (pieces_chars ps) (piece_chars p) rest) ∙ ap (λ y. y ++ rest) (sym (pieces_snoc ps p))) h.0, are_snoc q ps p rest h.1 i)

text_snoc : (ps : List Piece) (p : Piece) → text_of (ps ++ p ∷ []) ≡ text_of ps ++ encode_utf8 (code_of p)
text_snoc ps p = ap encode_utf8_all (map-append code_of ps (p ∷ [])) ∙ encodes-append (map code_of ps) (code_of p ∷ []) ∙ ap (λ y. text_of ps ++ y) (append-nil (encode_utf8 (code_of p)))

pub piece_step : (q : ℕ) (xs : List ℕ) (at len code : ℕ) (bytes : List ℕ) → at < length xs → ¬ (get_or xs at 0 ≡ q) → HasPiece q (drop at xs) len code
    → Quoting q xs at bytes → Quoting q xs (at + len) (bytes ++ encode_utf8 code)
piece_step q xs at len code bytes lt other h g =
    let rest : drop len (drop at xs) ≡ drop (at + len) xs = drop-drop len at xs in
    let s : piece_chars h.piece ++ drop (at + len) xs ≡ drop at xs = ap (λ y. piece_chars h.piece ++ y) (sym rest) ∙ h.spell in
    let i : IsPiece q h.piece (drop (at + len) xs) = subst (IsPiece q h.piece) rest h.is_piece in
    record {
      pieces = g.pieces ++ h.piece ∷ [];
      spell = ap (λ y. q ∷ (y ++ drop (at + len) xs)) (pieces_snoc g.pieces h.piece)
          ∙ ap (λ y. q ∷ y) (append_assoc (pieces_chars g.pieces) (piece_chars h.piece) (drop (at + len) xs) ∙ ap (λ y. pieces_chars g.pieces ++ y) s) ∙ g.spell;
      are_pieces = are_snoc q g.pieces h.piece (drop (at + len) xs) (subst (ArePieces q g.pieces) (sym s) g.are_pieces) i;
      bytes_are = text_snoc g.pieces h.piece ∙ ap (λ y. y ++ encode_utf8 (code_of h.piece)) g.bytes_are ∙ ap (λ c. bytes ++ encode_utf8 c) h.code_is;
      size = let a = ap length (pieces_snoc g.pieces h.piece) in let b = length-append (pieces_chars g.pieces) (piece_chars h.piece) in let c = g.size in let d = h.size in omega (arith, a, b, c, d);
      goes_on = λ all tail e a. more tail (g.goes_on all tail e a);
    }
  where
    more : (tail : List ℕ) → (more : List Piece) × (pieces_chars more ++ q ∷ tail ≡ drop at xs) × ArePieces q more (q ∷ tail)
        → (more : List Piece) × (pieces_chars more ++ q ∷ tail ≡ drop (at + len) xs) × ArePieces q more (q ∷ tail)
    more tail ([], e, a) = let k : q ∷ tail ≡ get_or xs at 0 ∷ drop (at + 1) xs = e ∙ drop_more xs at 0 lt in absurd (other (let j : get_or xs at 0 ≡ q = cc in j))
    more tail (p ∷ ps, e, a) =
        let rest : drop len (drop at xs) ≡ drop (at + len) xs = drop-drop len at xs in
        let k : piece_chars p ++ (pieces_chars ps ++ q ∷ tail) ≡ drop at xs = sym (append_assoc (piece_chars p) (pieces_chars ps) (q ∷ tail)) ∙ e in
        let same : p ≡ h.piece = same_piece q q p h.piece (pieces_chars ps ++ q ∷ tail) (drop len (drop at xs)) (k ∙ sym h.spell) a.0 h.is_piece in (
          ps,
          append_cancel_left (piece_chars h.piece) (pieces_chars ps ++ q ∷ tail) (drop (at + len) xs)
              (ap (λ x. piece_chars x ++ (pieces_chars ps ++ q ∷ tail)) (sym same) ∙ k ∙ sym h.spell ∙ ap (λ y. piece_chars h.piece ++ y) rest),
          a.1,
        )

pub quote_closes : (q : ℕ) (xs : List ℕ) (at : ℕ) (bytes : List ℕ) → is_quote q ≡ true → at < length xs → get_or xs at 0 ≡ q → Quoting q xs at bytes → Begins xs (at + 1) (Some (kinds.Text bytes)) false
quote_closes q xs at bytes t lt e g =
    let c : drop at xs ≡ q ∷ drop (at + 1) xs = drop_more xs at 0 lt ∙ ap (λ x. x ∷ drop (at + 1) xs) e in
    record {
      element = text q g.pieces;
      heads = record {
        spell = ap (λ y. q ∷ y) (append_assoc (pieces_chars g.pieces) (q ∷ []) (drop (at + 1) xs) ∙ ap (λ y. pieces_chars g.pieces ++ y) (sym c)) ∙ g.spell;
        is_element = (t, pieces_go q g.pieces (drop (at + 1) xs) [] (subst (ArePieces q g.pieces) c g.are_pieces));
        ends = tt;
      };
      no_separator = tt;
      makes = ap (λ y. Some (kinds.Text y)) g.bytes_are;
      line_is = refl;
      size = let a = length-append (pieces_chars g.pieces) (q ∷ []) in let b = g.size in omega (arith, a, b);
    }

quote_no_digit : (q : ℕ) → is_quote q ≡ true → not (is_digit q 10) ≡ true
quote_no_digit q t = grind (arith, nat_tests)

-- where what is left can't be gone on with, no text begins
pub no_text : (q : ℕ) (xs : List ℕ) (at : ℕ) (bytes : List ℕ) → is_quote q ≡ true → 0 < length xs → q ≡ get_or xs 0 q → Quoting q xs at bytes
    → ((more : List Piece) (rest : List ℕ) → pieces_chars more ++ q ∷ rest ≡ drop at xs → ArePieces q more (q ∷ rest) → ⊥) → EndsAt xs no_token
no_text q [] at bytes t lt f g never = absurd (omega arith)
no_text q (x ∷ xs) at bytes t lt f g never =
    (rw (sym f) (quote_no_digit q t), λ e rest h. on e rest h (as_text e (sym (class_heads (x ∷ xs) e rest h) ∙ quote_class x (get_or xs 0 0) (rw (sym f) t))))
  where
    on : (e : Element) (rest : List ℕ) → Heads (x ∷ xs) e rest → (r : ℕ) × (ps : List Piece) × (e ≡ text r ps) → ⊥
    on e rest h (r, ps, k) =
        let i : Heads (x ∷ xs) (text r ps) rest = subst (λ y. Heads (x ∷ xs) y rest) k h in
        let s = i.spell in
        let a : r ≡ q = (let b : r ∷ ((pieces_chars ps ++ r ∷ []) ++ rest) ≡ x ∷ xs = s in let c : r ≡ x = cc in c ∙ sym f) in
        let s' : q ∷ ((pieces_chars ps ++ q ∷ []) ++ rest) ≡ x ∷ xs = subst (λ y. y ∷ ((pieces_chars ps ++ y ∷ []) ++ rest) ≡ x ∷ xs) a s in
        let are : ArePieces q ps (q ∷ []) = subst (λ y. ArePieces y ps (y ∷ [])) a i.is_element.1 in
        let m = g.goes_on ps rest (ap (λ y. q ∷ y) (sym (append_assoc (pieces_chars ps) (q ∷ []) rest)) ∙ s') (pieces_go q ps [] rest are) in
        never m.0 rest m.1 m.2

pub bad_piece : (q : ℕ) (xs : List ℕ) (at : ℕ) (bytes : List ℕ) → is_quote q ≡ true → at < length xs → q ≡ get_or xs 0 q → ¬ (get_or xs at 0 ≡ q) → Quoting q xs at bytes → NoPiece q (drop at xs)
    → EndsAt xs no_token
bad_piece q xs at bytes t lt f other g never = no_text q xs at bytes t (omega arith) f g on
  where
    on : (more : List Piece) (rest : List ℕ) → pieces_chars more ++ q ∷ rest ≡ drop at xs → ArePieces q more (q ∷ rest) → ⊥
    on [] rest e a = let k : q ∷ rest ≡ get_or xs at 0 ∷ drop (at + 1) xs = e ∙ drop_more xs at 0 lt in other (let j : get_or xs at 0 ≡ q = cc in j)
    on (p ∷ ps) rest e a = never p (pieces_chars ps ++ q ∷ rest) (sym (append_assoc (piece_chars p) (pieces_chars ps) (q ∷ rest)) ∙ e) a.0

pub never_closes : (q : ℕ) (xs : List ℕ) (at : ℕ) (bytes : List ℕ) → is_quote q ≡ true → 0 < length xs → length xs ≤ at → q ≡ get_or xs 0 q → Quoting q xs at bytes → EndsAt xs no_token
never_closes q xs at bytes t lt past f g = no_text q xs at bytes t lt f g on
  where
    on : (more : List Piece) (rest : List ℕ) → pieces_chars more ++ q ∷ rest ≡ drop at xs → ArePieces q more (q ∷ rest) → ⊥
    on more rest e a = let n = ap length (e ∙ drop_all at xs past) in let m = length-append (pieces_chars more) (q ∷ rest) in omega (arith, n, m)

-- an answer's cases may be weaker
pub matched : {A : Type 0} (r : Option A) (P Q : Type 0) (F G : A → Type 0) → (P → Q) → ((a : A) → F a → G a) → MatchOption r P F → MatchOption r Q G
matched None P Q F G f g h = f h
matched (Some a) P Q F G f g h = g a h

-- the quote that the code has read
pub first_there : (xs : List ℕ) (k : ℕ) → HasFirst is_quote xs → k ≡ get_or xs 0 k → is_quote k ≡ true
first_there [] k h g = absurd h
first_there (x ∷ xs) k h g = subst (λ y. is_quote y ≡ true) (sym g) h

-- the same over what the code has read
pub not_there : (q : ℕ) (xs : List ℕ) (at k : ℕ) → at < length xs → k ≡ get_or xs at k → ¬ (k ≡ q) → ¬ (get_or xs at 0 ≡ q)
not_there q xs at k lt g n e = n (g ∙ at_default xs at k 0 lt ∙ e)

first_left : (xs : List ℕ) (at : ℕ) → at < length xs → get_or (take (length xs - at) (drop at xs)) 0 0 ≡ get_or xs at 0
first_left xs at lt = ap (λ y. get_or y 0 0) (take_rest xs at ∙ drop_more xs at 0 lt)

piece_there : (p : Piece) (q : ℕ) (rest : List ℕ) → IsPiece q p rest → 0 < length (piece_chars p)
piece_there (plain c) q rest h = omega arith
piece_there (letter c) q rest h = omega arith
piece_there null q rest h = omega arith
piece_there (byte ds) q rest h = omega arith
piece_there (unit ds) q rest h = omega arith
piece_there (braced ds) q rest h = omega arith

pub has_piece_at : (q : ℕ) (xs : List ℕ) (at k len code : ℕ) → at < length xs → k ≡ get_or xs at k → ¬ (k ≡ q)
    → ((r : ℕ) → ¬ (get_or (take (length xs - at) (drop at xs)) 0 0 ≡ r) → HasPiece r (take (length xs - at) (drop at xs)) len code) → HasPiece q (drop at xs) len code
has_piece_at q xs at k len code lt g n h =
    subst (λ y. HasPiece q y len code) (take_rest xs at) (h q (λ e. not_there q xs at k lt g n (sym (first_left xs at lt) ∙ e)))

pub piece_fits : (q : ℕ) (xs : List ℕ) (at len code : ℕ) → at < length xs → HasPiece q (drop at xs) len code → (0 < len) × (at + len ≤ length xs)
piece_fits q xs at len code lt h =
    let t : 0 < length (piece_chars h.piece) = piece_there h.piece q (drop len (drop at xs)) h.is_piece in
    let n = ap length h.spell in let m = length-append (piece_chars h.piece) (drop len (drop at xs)) in let d = length-drop at xs in
    let s = h.size in (omega (arith, t, s), omega (arith, n, m, d, s, lt))

pub bad_piece_at : (q : ℕ) (xs : List ℕ) (at k : ℕ) (bytes : List ℕ) → is_quote q ≡ true → at < length xs → q ≡ get_or xs 0 q → k ≡ get_or xs at k → ¬ (k ≡ q) → Quoting q xs at bytes
    → ((r : ℕ) → ¬ (get_or (take (length xs - at) (drop at xs)) 0 0 ≡ r) → NoPiece r (take (length xs - at) (drop at xs))) → EndsAt xs no_token
bad_piece_at q xs at k bytes t lt f g n r h =
    let m = not_there q xs at k lt g n in
    bad_piece q xs at bytes t lt f m r (subst (NoPiece q) (take_rest xs at) (h q (λ e. m (sym (first_left xs at lt) ∙ e))))

pub filled_first : (xs : List ℕ) → HasFirst is_quote xs → 0 < length xs
filled_first [] h = absurd h
filled_first (x ∷ xs) h = omega arith
