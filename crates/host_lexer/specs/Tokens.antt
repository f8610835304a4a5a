-- The splitting of a script's text into tokens (ECMA-262, section 12, cut to the profile): the text is a row of input
-- elements, each the longest that can stand there, up to its end or up to the first place where none begins or ends well.
use Rattle.std.specs.Prelude.{◌≡◌, ℕ, ◌+◌, ◌<◌, ◌≤◌, Bool, true, false, not, ◌||◌, ◌==◌, List, [], ◌∷◌, ◌++◌, Option, Some, None, length, All, Result, Ok, Err}
use Rattle.std.specs.declared.alloc.Global.{Global}
use Rattle.std.specs.declared.vec.Vec.{Vec}
use Rattle.std.specs.List.{list_any}
use Rattle.std.specs.Str.{encode_utf8_all}
use Rattle.std.specs.Char.{is_digit}
use Rattle.host_lexer.specs.declared.token.Word.{Word}
use Rattle.host_lexer.specs.declared.token.Mark.{Mark}
use Rattle.host_lexer.specs.declared.token.Mark.TheVariants as marks
use Rattle.host_lexer.specs.declared.token.TokenKind.{TokenKind}
use Rattle.host_lexer.specs.declared.token.TokenKind.TheVariants as kinds
use Rattle.host_lexer.specs.declared.token.Token.{Token}
use Rattle.host_lexer.specs.declared.token.LexError.{LexError}
use Rattle.host_lexer.specs.declared.token.LexError.TheVariants as errors
use Rattle.host_lexer.specs.Characters.{is_space, is_line_end, is_separator, is_comment_part, is_name_start, is_name_part, is_number_part, is_quote, HasFirst, StopsAt, HasNoEnd}
use Rattle.host_lexer.specs.Numerals.{Numeral, numeral_chars, value_of, IsNumeral, greatest_number, greatest_big_int}
use Rattle.host_lexer.specs.Spellings.{word_chars, mark_chars}
use Rattle.host_lexer.specs.Texts.{Piece, pieces_chars, ArePieces, text_of}

-- a white space, a line end, a comment by what stands in it, a name, a reserved word, a number, a text by its quote and
-- what stands between its quotes, or a mark
pub data Element : Type 0 where
  space : (character : ℕ) → Element
  line_end : (character : ℕ) → Element
  line_comment : (inside : List ℕ) → Element
  block_comment : (inside : List ℕ) → Element
  name : (spelling : List ℕ) → Element
  word : (word : Word) → Element
  number : (numeral : Numeral) → Element
  big_int : (numeral : Numeral) → Element
  text : (quote : ℕ) (pieces : List Piece) → Element
  mark : (mark : Mark) → Element

-- the characters of an element
abbrev pub chars_of : Element → List ℕ
chars_of (space c) = c ∷ []
chars_of (line_end c) = c ∷ []
chars_of (line_comment cs) = 47 ∷ 47 ∷ cs
chars_of (block_comment cs) = 47 ∷ 42 ∷ (cs ++ 42 ∷ 47 ∷ [])
chars_of (name w) = w
chars_of (word w) = word_chars w
chars_of (number n) = numeral_chars n
chars_of (big_int n) = numeral_chars n ++ 110 ∷ []
chars_of (text q ps) = q ∷ (pieces_chars ps ++ q ∷ [])
chars_of (mark m) = mark_chars m

-- the characters of a row of elements
abbrev pub spelled : List Element → List ℕ
spelled [] = []
spelled (e ∷ es) = chars_of e ++ spelled es

-- a name's start and then a name's parts (section 12.7)
abbrev pub IsIdentifier : List ℕ → Type 0
IsIdentifier [] = ⊥
IsIdentifier (c ∷ cs) = (is_name_start c ≡ true) × All (λ d. is_name_part d ≡ true) cs

-- an identifier that is no reserved word
abbrev pub IsName : List ℕ → Type 0
IsName w = IsIdentifier w × ((v : Word) → ¬ (word_chars v ≡ w))

-- what an element is by itself
abbrev pub IsElement : Element → Type 0
IsElement (space c) = is_space c ≡ true
IsElement (line_end c) = is_line_end c ≡ true
IsElement (line_comment cs) = All (λ c. is_comment_part c ≡ true) cs
IsElement (block_comment cs) = HasNoEnd cs
IsElement (name w) = IsName w
IsElement (word w) = Unit {0}
IsElement (number n) = IsNumeral n × (value_of n ≤ greatest_number)
IsElement (big_int n) = IsNumeral n × (value_of n ≤ greatest_big_int)
IsElement (text q ps) = (is_quote q ≡ true) × ArePieces q ps (q ∷ [])
IsElement (mark m) = Unit {0}

-- no mark that begins so is longer, and `/` begins no comment
abbrev pub IsLongest : Mark → List ℕ → Type 0
IsLongest m rest = (n : Mark) (more : List ℕ) → mark_chars n ++ more ≡ mark_chars m ++ rest → length (mark_chars n) ≤ length (mark_chars m)

abbrev pub BeginsNoComment : Mark → List ℕ → Type 0
BeginsNoComment marks.Slash rest = StopsAt (λ c. (c == 47) || (c == 42)) rest
BeginsNoComment _ rest = Unit {0}

-- an element is the longest at its place: the characters that follow don't go on with it
abbrev pub EndsBefore : Element → List ℕ → Type 0
EndsBefore (line_comment cs) rest = StopsAt is_comment_part rest
EndsBefore (name w) rest = StopsAt is_name_part rest
EndsBefore (word w) rest = StopsAt is_name_part rest
EndsBefore (number n) rest = StopsAt is_number_part rest
EndsBefore (big_int n) rest = StopsAt is_number_part rest
EndsBefore (mark m) rest = IsLongest m rest × BeginsNoComment m rest
EndsBefore _ rest = Unit {0}

-- some characters begin with an element, which the rest follows
pub record Heads (chars : List ℕ) (e : Element) (rest : List ℕ) : Type 0 where
  pub spell : chars_of e ++ rest ≡ chars
  pub is_element : IsElement e
  pub ends : EndsBefore e rest

abbrev pub NoElement : List ℕ → Type 0
NoElement chars = (e : Element) (rest : List ℕ) → ¬ Heads chars e rest

-- no comment has a line separator in it
abbrev pub HasNoSeparator : Element → Type 0
HasNoSeparator (block_comment cs) = All (λ c. is_separator c ≡ false) cs
HasNoSeparator _ = Unit {0}

-- each element is one, and the longest at its place, before some characters that are left
abbrev pub AreElements : List Element → List ℕ → Type 0
AreElements [] left = Unit {0}
AreElements (e ∷ es) left = IsElement e × EndsBefore e (spelled es ++ left) × HasNoSeparator e × AreElements es left

-- how a row of elements ends: with the text, where no element begins, at a line separator after some characters of a comment,
-- or where no number begins with the digit that stands there
pub data End : Type 0 where
  at_end : End
  no_token : End
  separator : (before : List ℕ) → End
  no_number : End

abbrev pub EndsAt : List ℕ → End → Type 0
EndsAt left at_end = left ≡ []
EndsAt left no_token = HasFirst (λ c. not (is_digit c 10)) left × NoElement left
EndsAt left (separator before) = (c : ℕ) × (after rest : List ℕ) × Heads left (block_comment (before ++ c ∷ after)) rest × (is_separator c ≡ true) × All (λ d. is_separator d ≡ false) before
EndsAt left no_number = HasFirst (λ c. is_digit c 10) left × NoElement left

-- the kind of an element's token, if it makes one
abbrev pub kind_of : Element → Option TokenKind
kind_of (name w) = Some (kinds.Name (encode_utf8_all w))
kind_of (word w) = Some (kinds.Word w)
kind_of (number n) = Some (kinds.Number (value_of n))
kind_of (big_int n) = Some (kinds.BigInt (value_of n))
kind_of (text q ps) = Some (kinds.Text (text_of ps))
kind_of (mark m) = Some (kinds.Mark m)
kind_of _ = None

-- whether an element that makes no token is a line end or has one in it
abbrev pub has_line_end : Element → Bool
has_line_end (line_end c) = true
has_line_end (block_comment cs) = list_any is_line_end cs
has_line_end _ = false

-- how many bytes characters have
abbrev pub size_of : List ℕ → ℕ
size_of cs = length (encode_utf8_all cs)

-- the token of an element at a byte, after a line end or not, and whether one stands before what follows
abbrev pub token_at : ℕ → ℕ → Bool → Option TokenKind → List Token
token_at at size after None = []
token_at at size after (Some kind) = (record { kind = kind; from = at; to = at + size; after_line = after }) ∷ []

abbrev pub after_next : Bool → Bool → Option TokenKind → Bool
after_next after line None = after || line
after_next after line (Some kind) = false

-- the tokens of a row of elements that begins at a byte
abbrev pub tokens_from : ℕ → Bool → List Element → List Token
tokens_from at after [] = []
tokens_from at after (e ∷ es) = token_at at (size_of (chars_of e)) after (kind_of e)
    ++ tokens_from (at + size_of (chars_of e)) (after_next after (has_line_end e) (kind_of e)) es

-- what a text is read as: its tokens, or the byte of the first bad token or number outside of the profile
pub data Reading : Type 0 where
  tokens : (tokens : List Token) → Reading
  bad_token : (place : ℕ) → Reading
  number_outside : (place : ℕ) → Reading

abbrev pub reading_of : List Element → End → Reading
reading_of es at_end = tokens (tokens_from 0 false es)
reading_of es no_token = bad_token (size_of (spelled es))
reading_of es (separator before) = bad_token (size_of (spelled es ++ 47 ∷ 42 ∷ before))
reading_of es no_number = number_outside (size_of (spelled es))

-- the bytes are a row of elements and what is left, where the row ends
pub record IsRead (bytes : List ℕ) (reading : Reading) : Type 0 where
  pub elements : List Element
  pub left : List ℕ
  pub ending : End
  pub spell : encode_utf8_all (spelled elements ++ left) ≡ bytes
  pub are_elements : AreElements elements left
  pub ends : EndsAt left ending
  pub tells : reading_of elements ending ≡ reading

-- what the kind of a token can be: a name's text is a name, and a number lies in the profile
abbrev pub IsTokenKind : TokenKind → Type 0
IsTokenKind (kinds.Name s) = (w : List ℕ) × IsName w × (encode_utf8_all w ≡ s)
IsTokenKind (kinds.Number n) = n ≤ greatest_number
IsTokenKind (kinds.BigInt n) = n ≤ greatest_big_int
IsTokenKind _ = Unit {0}

-- from a byte on the tokens stand in order and apart, within the length, and each kind can be
abbrev pub InOrder : ℕ → ℕ → List Token → Type 0
InOrder at len [] = at ≤ len
InOrder at len (t ∷ ts) = (at ≤ t.from) × (t.from < t.to) × IsTokenKind t.kind × InOrder t.to len ts

-- some bytes spell an element of a kind
pub record Spells (bytes : List ℕ) (kind : TokenKind) : Type 0 where
  pub element : Element
  pub spell : encode_utf8_all (chars_of element) ≡ bytes
  pub is_element : IsElement element
  pub is_its : kind_of element ≡ Some kind

-- what an answer tells, unless memory ran out
abbrev pub told : Result (Vec Token Global) LexError → Option Reading
told (Ok v) = Some (tokens v.items)
told (Err (errors.BadToken p)) = Some (bad_token p)
told (Err (errors.NumberOutside p)) = Some (number_outside p)
told (Err errors.NoMemory) = None
