-- What stands between the quotes of a text, and what it stands for (ECMA-262, section 12.9.4, cut to the profile).
use Rattle.std.specs.Prelude.{◌≡◌, ℕ, Bool, true, false, cond, ◌||◌, ◌==◌, List, [], ◌∷◌, ◌++◌, length, map}
use Rattle.std.specs.Char.{IsScalar, is_ascii_digit}
use Rattle.std.specs.Str.{encode_utf8_all}
use Rattle.host_lexer.specs.Characters.{is_line_end, StopsAt}
use Rattle.host_lexer.specs.Numerals.{value_in, AreDigits}

-- a character that stands for itself, or an escape: a letter after `\`, `\0`, `\xHH`, `\uHHHH` or `\u{H..}`
pub data Piece : Type 0 where
  plain : (character : ℕ) → Piece
  letter : (letter : ℕ) → Piece
  null : Piece
  byte : (digits : List ℕ) → Piece
  unit : (digits : List ℕ) → Piece
  braced : (digits : List ℕ) → Piece

-- its characters
abbrev pub piece_chars : Piece → List ℕ
piece_chars (plain c) = c ∷ []
piece_chars (letter c) = 92 ∷ c ∷ []
piece_chars null = 92 ∷ 48 ∷ []
piece_chars (byte ds) = 92 ∷ 120 ∷ ds
piece_chars (unit ds) = 92 ∷ 117 ∷ ds
piece_chars (braced ds) = 92 ∷ 117 ∷ 123 ∷ (ds ++ 125 ∷ [])

-- the letters of escapes are `n`, `t`, `r`, `\`, `"` and `'`; the first three stand for line feed, tab and carriage return
abbrev pub is_letter : ℕ → Bool
is_letter c = (c == 110) || (c == 116) || (c == 114) || (c == 92) || (c == 34) || (c == 39)

abbrev pub code_of_letter : ℕ → ℕ
code_of_letter c = cond (c == 110) 10 (cond (c == 116) 9 (cond (c == 114) 13 c))

-- the character that it stands for
abbrev pub code_of : Piece → ℕ
code_of (plain c) = c
code_of (letter c) = code_of_letter c
code_of null = 0
code_of (byte ds) = value_in 16 ds
code_of (unit ds) = value_in 16 ds
code_of (braced ds) = value_in 16 ds

-- a piece between two quotes, before what follows it
abbrev pub IsPiece : ℕ → Piece → List ℕ → Type 0
IsPiece quote (plain c) rest = (¬ (c ≡ quote)) × (¬ (c ≡ 92)) × (is_line_end c ≡ false)
IsPiece quote (letter c) rest = is_letter c ≡ true
IsPiece quote null rest = StopsAt is_ascii_digit rest
IsPiece quote (byte ds) rest = (length ds ≡ 2) × AreDigits 16 ds × IsScalar (value_in 16 ds)
IsPiece quote (unit ds) rest = (length ds ≡ 4) × AreDigits 16 ds × IsScalar (value_in 16 ds)
IsPiece quote (braced ds) rest = (¬ (ds ≡ [])) × AreDigits 16 ds × IsScalar (value_in 16 ds)

abbrev pub pieces_chars : List Piece → List ℕ
pieces_chars [] = []
pieces_chars (p ∷ ps) = piece_chars p ++ pieces_chars ps

abbrev pub ArePieces : ℕ → List Piece → List ℕ → Type 0
ArePieces quote [] rest = Unit {0}
ArePieces quote (p ∷ ps) rest = IsPiece quote p (pieces_chars ps ++ rest) × ArePieces quote ps rest

-- the bytes of the text that pieces stand for
abbrev pub text_of : List Piece → List ℕ
text_of ps = encode_utf8_all (map code_of ps)
