-- Private: what the reader's functions say of some characters.
use Rattle.std.specs.Prelude.{◌∷◌, ◌++◌, ◌+◌, ◌≡◌, ℕ, ◌≤◌, Bool, false, cond, ◌&&◌, ◌==◌, List, length, take, drop, Option, Some, None}
use Rattle.std.specs.Char.{IsScalar, is_digit}
use Rattle.host_lexer.specs.declared.token.LexError.{LexError}
use Rattle.host_lexer.specs.declared.token.LexError.TheVariants as errors
use Rattle.host_lexer.specs.declared.token.Mark.{Mark}
use Rattle.host_lexer.specs.declared.token.Mark.TheVariants as marks
use Rattle.host_lexer.specs.declared.token.TokenKind.{TokenKind}
use Rattle.host_lexer.specs.declared.lexeme.Failure.{Failure}
use Rattle.host_lexer.specs.declared.lexeme.Failure.TheVariants as failures
use Rattle.host_lexer.specs.Characters.{is_space, is_line_end, is_name_start, is_quote, HasNoEnd}
use Rattle.host_lexer.specs.Numerals.{Numeral, numeral_chars, value_in, value_of, AreDigits, IsNumeral}
use Rattle.host_lexer.specs.Texts.{Piece, piece_chars, IsPiece, code_of}
use Rattle.host_lexer.specs.Tokens.{Element, number, big_int, chars_of, IsElement, Heads, HasNoSeparator, EndsAt, no_token, no_number, separator, kind_of, has_line_end, size_of}

-- some characters begin with an element of this many characters, which makes a token of a kind, or none, and is a line end or not
pub record Begins (chars : List ℕ) (len : ℕ) (kind : Option TokenKind) (line : Bool) : Type 0 where
  pub element : Element
  pub heads : Heads chars element (drop len chars)
  pub no_separator : HasNoSeparator element
  pub makes : kind_of element ≡ kind
  pub line_is : has_line_end element ≡ line
  pub size : len ≡ length (chars_of element)

-- where the reader refuses, a row of elements ends
abbrev pub Refuses : Failure → List ℕ → Type 0
Refuses failures.NoToken chars = EndsAt chars no_token
Refuses (failures.Separator n) chars = (before : List ℕ) × EndsAt chars (separator before) × (n ≡ length before)
Refuses failures.NoNumber chars = EndsAt chars no_number
Refuses failures.NoMemory chars = Unit {0}

-- the mark of one character that begins no longer mark
abbrev pub short_mark : ℕ → Option Mark
short_mark a = cond (a == 123) (Some marks.OpenBrace) (cond (a == 125) (Some marks.CloseBrace) (cond (a == 40) (Some marks.OpenParen) (cond (a == 41) (Some marks.CloseParen)
    (cond (a == 91) (Some marks.OpenBracket) (cond (a == 93) (Some marks.CloseBracket) (cond (a == 46) (Some marks.Dot) (cond (a == 59) (Some marks.Semicolon)
    (cond (a == 44) (Some marks.Comma) (cond (a == 58) (Some marks.Colon) (cond (a == 42) (Some marks.Star) (cond (a == 47) (Some marks.Slash) (cond (a == 37) (Some marks.Percent) None))))))))))))

-- the mark that begins with a character, before two more; 0 stands for none
abbrev pub mark_front : ℕ → ℕ → ℕ → Option Mark
mark_front a b c = cond (a == 61) (Some (cond (b == 61 && c == 61) marks.StrictEquals marks.Equals))
    (cond (a == 33) (Some (cond (b == 61 && c == 61) marks.StrictNotEquals marks.Not))
    (cond (a == 60) (Some (cond (b == 61) marks.LessEquals marks.Less))
    (cond (a == 62) (Some (cond (b == 61) marks.GreaterEquals marks.Greater))
    (cond (a == 43) (Some (cond (b == 43) marks.Increment marks.Plus))
    (cond (a == 45) (Some (cond (b == 45) marks.Decrement marks.Minus))
    (cond (a == 38) (cond (b == 38) (Some marks.And) None)
    (cond (a == 124) (cond (b == 124) (Some marks.Or) None) (short_mark a))))))))

-- the three characters at a mark, the longest there
abbrev pub IsSpelt : Mark → ℕ → ℕ → ℕ → Type 0
IsSpelt marks.StrictEquals a b c = (a ≡ 61) × (b ≡ 61) × (c ≡ 61)
IsSpelt marks.StrictNotEquals a b c = (a ≡ 33) × (b ≡ 61) × (c ≡ 61)
IsSpelt marks.LessEquals a b c = (a ≡ 60) × (b ≡ 61)
IsSpelt marks.GreaterEquals a b c = (a ≡ 62) × (b ≡ 61)
IsSpelt marks.And a b c = (a ≡ 38) × (b ≡ 38)
IsSpelt marks.Or a b c = (a ≡ 124) × (b ≡ 124)
IsSpelt marks.Increment a b c = (a ≡ 43) × (b ≡ 43)
IsSpelt marks.Decrement a b c = (a ≡ 45) × (b ≡ 45)
IsSpelt marks.OpenBrace a b c = a ≡ 123
IsSpelt marks.CloseBrace a b c = a ≡ 125
IsSpelt marks.OpenParen a b c = a ≡ 40
IsSpelt marks.CloseParen a b c = a ≡ 41
IsSpelt marks.OpenBracket a b c = a ≡ 91
IsSpelt marks.CloseBracket a b c = a ≡ 93
IsSpelt marks.Dot a b c = a ≡ 46
IsSpelt marks.Semicolon a b c = a ≡ 59
IsSpelt marks.Comma a b c = a ≡ 44
IsSpelt marks.Colon a b c = a ≡ 58
IsSpelt marks.Less a b c = (a ≡ 60) × ((b == 61) ≡ false)
IsSpelt marks.Greater a b c = (a ≡ 62) × ((b == 61) ≡ false)
IsSpelt marks.Equals a b c = (a ≡ 61) × ((b == 61 && c == 61) ≡ false)
IsSpelt marks.Plus a b c = (a ≡ 43) × ((b == 43) ≡ false)
IsSpelt marks.Minus a b c = (a ≡ 45) × ((b == 45) ≡ false)
IsSpelt marks.Star a b c = a ≡ 42
IsSpelt marks.Slash a b c = a ≡ 47
IsSpelt marks.Percent a b c = a ≡ 37
IsSpelt marks.Not a b c = (a ≡ 33) × ((b == 61 && c == 61) ≡ false)

-- some characters begin with a piece of this many, which stands for a character
pub record HasPiece (quote : ℕ) (chars : List ℕ) (len code : ℕ) : Type 0 where
  pub piece : Piece
  pub spell : piece_chars piece ++ drop len chars ≡ chars
  pub is_piece : IsPiece quote piece (drop len chars)
  pub code_is : code_of piece ≡ code
  pub size : len ≡ length (piece_chars piece)

abbrev pub NoPiece : ℕ → List ℕ → Type 0
NoPiece quote chars = (p : Piece) (rest : List ℕ) → piece_chars p ++ rest ≡ chars → IsPiece quote p rest → ⊥

-- digits of a radix whose value is at most so great
abbrev pub AreDigitsUpTo : ℕ → ℕ → List ℕ → Type 0
AreDigitsUpTo radix greatest ds = AreDigits radix ds × (value_in radix ds ≤ greatest)

-- a numeral whose value is this, and at most so great; or there is none
pub record HasNumeral (chars : List ℕ) (greatest value : ℕ) : Type 0 where
  pub numeral : Numeral
  pub spell : numeral_chars numeral ≡ chars
  pub is_numeral : IsNumeral numeral
  pub value_is : value_of numeral ≡ value
  pub small : value ≤ greatest

abbrev pub NoNumeral : List ℕ → ℕ → Type 0
NoNumeral chars greatest = (n : Numeral) → numeral_chars n ≡ chars → IsNumeral n → value_of n ≤ greatest → ⊥

-- characters that spell a number or a BigInt, which makes a token of a kind; or there is none
pub data Numeric : Type 0 where
  whole : Numeral → Numeric
  big : Numeral → Numeric

abbrev pub element_of : Numeric → Element
element_of (whole n) = number n
element_of (big n) = big_int n

pub record HasNumber (chars : List ℕ) (kind : TokenKind) : Type 0 where
  pub numeric : Numeric
  pub spell : chars_of (element_of numeric) ≡ chars
  pub is_element : IsElement (element_of numeric)
  pub makes : kind_of (element_of numeric) ≡ Some kind

abbrev pub NoNumber : List ℕ → Type 0
NoNumber chars = (n : Numeric) → chars_of (element_of n) ≡ chars → IsElement (element_of n) → ⊥

-- where what stands in a block comment has ended
abbrev pub EndsIn : List ℕ → ℕ → Type 0
EndsIn chars n = (drop n chars ≡ 42 ∷ 47 ∷ drop (n + 2) chars) × HasNoEnd (take n chars) × (n + 2 ≤ length chars)

abbrev pub NeverEnds : List ℕ → Type 0
NeverEnds chars = (inside rest : List ℕ) → inside ++ 42 ∷ 47 ∷ rest ≡ chars → HasNoEnd inside → ⊥

-- after so many characters stand so many hexadecimal digits, whose value is the code of a character; or they don't
pub record HasDigits (chars : List ℕ) (before digits code : ℕ) : Type 0 where
  pub within : before + digits ≤ length chars
  pub are_digits : AreDigits 16 (take digits (drop before chars))
  pub is_scalar : IsScalar (value_in 16 (take digits (drop before chars)))
  pub code_is : code ≡ value_in 16 (take digits (drop before chars))

abbrev pub NoDigits : List ℕ → ℕ → ℕ → Type 0
NoDigits chars before digits = (ds rest : List ℕ) → ds ++ rest ≡ drop before chars → length ds ≡ digits → AreDigits 16 ds → IsScalar (value_in 16 ds) → ⊥

-- what the first two characters tell of the element that they may begin; 0 stands for no second one
pub data Class : Type 0 where
  named : Class
  numbered : Class
  blank : Class
  line : Class
  quoted : Class
  line_commented : Class
  block_commented : Class
  marked : Class

abbrev pub class_of : ℕ → ℕ → Class
class_of c d = cond (is_name_start c) named (cond (is_digit c 10) numbered (cond (is_space c) blank (cond (is_line_end c) line
    (cond (is_quote c) quoted (cond ((c == 47) && (d == 47)) line_commented (cond ((c == 47) && (d == 42)) block_commented marked))))))

-- the error of a failure in some characters that begin at a byte
abbrev pub IsRefusal : List ℕ → ℕ → Failure → LexError → Type 0
IsRefusal chars place failures.NoToken e = e ≡ errors.BadToken place
IsRefusal chars place (failures.Separator n) e = e ≡ errors.BadToken (place + size_of (take (n + 2) chars))
IsRefusal chars place failures.NoNumber e = e ≡ errors.NumberOutside place
IsRefusal chars place failures.NoMemory e = e ≡ errors.NoMemory
