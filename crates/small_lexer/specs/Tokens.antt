-- The splitting of a script's text into tokens (ECMA-262, section 12, cut to the profile's script form): the text
-- is a row of input elements, each the longest that can stand there.
use Rattle.std.specs.Prelude.{◌≡◌, ℕ, ◌+◌, ◌-◌, ◌*◌, ◌<◌, ◌≤◌, Bool, true, false, not, ◌&&◌, ◌||◌, ◌==◌, nat_le, List, [], ◌∷◌, ◌++◌, ◌⊎◌, length, fold, All, Contains, codes, if◌then◌else◌, Result, Ok, Err}
use Rattle.std.specs.Str.{bytes_eq}
use Rattle.std.specs.declared.alloc.Global.{Global}
use Rattle.std.specs.declared.vec.Vec.{Vec}
use Rattle.small_lexer.specs.declared.token.Word.TheVariants as words
use Rattle.small_lexer.specs.declared.token.Mark.{Mark}
use Rattle.small_lexer.specs.declared.token.Mark.TheVariants as marks
use Rattle.small_lexer.specs.declared.token.TokenKind.{TokenKind}
use Rattle.small_lexer.specs.declared.token.TokenKind.TheVariants as kinds
use Rattle.small_lexer.specs.declared.token.Token.{Token}
use Rattle.small_lexer.specs.declared.token.LexError.{LexError}
use Rattle.small_lexer.specs.declared.token.LexError.TheVariants as errors

-- a decimal digit
abbrev pub is_digit : ℕ → Bool
is_digit c = nat_le 48 c && nat_le c 57

-- a letter, `$` or `_`
abbrev pub is_name_start : ℕ → Bool
is_name_start c = (nat_le 65 c && nat_le c 90) || (nat_le 97 c && nat_le c 122) || (c == 36) || (c == 95)

-- what a name goes on with
abbrev pub is_name_part : ℕ → Bool
is_name_part c = is_name_start c || is_digit c

-- what a number's run goes on with: `.` and what a name goes on with
abbrev pub is_number_part : ℕ → Bool
is_number_part c = is_name_part c || (c == 46)

-- a printable ASCII character other than `"` and `\`
abbrev pub is_text_part : ℕ → Bool
is_text_part c = nat_le 32 c && nat_le c 126 && not (c == 34) && not (c == 92)

-- a white space, a line feed, a name or a word, a number by its digits, a text by what stands between its quotes, or a mark
pub data Element : Type 0 where
  space : Element
  line_feed : Element
  name : (spelling : List ℕ) → Element
  number : (digits : List ℕ) → Element
  text : (inside : List ℕ) → Element
  mark : (mark : Mark) → Element

-- the byte of a mark
abbrev pub byte_of : Mark → ℕ
byte_of marks.Equals = 61
byte_of marks.Semicolon = 59
byte_of marks.Open = 40
byte_of marks.Close = 41
byte_of marks.Comma = 44
byte_of marks.Plus = 43
byte_of marks.Minus = 45
byte_of marks.Star = 42
byte_of marks.Dot = 46

-- the bytes of an element
abbrev pub spelling_of : Element → List ℕ
spelling_of space = 32 ∷ []
spelling_of line_feed = 10 ∷ []
spelling_of (name w) = w
spelling_of (number ds) = ds
spelling_of (text s) = 34 ∷ (s ++ 34 ∷ [])
spelling_of (mark m) = byte_of m ∷ []

-- the bytes of a row of elements
abbrev pub spelled : List Element → List ℕ
spelled [] = []
spelled (e ∷ es) = spelling_of e ++ spelled es

-- the reserved words of scripts
abbrev pub reserved_words : List (List ℕ)
reserved_words =
    codes "arguments" ∷ codes "await" ∷ codes "break" ∷ codes "case" ∷ codes "catch" ∷ codes "class" ∷ codes "const"
    ∷ codes "continue" ∷ codes "debugger" ∷ codes "default" ∷ codes "delete" ∷ codes "do" ∷ codes "else" ∷ codes "enum"
    ∷ codes "eval" ∷ codes "export" ∷ codes "extends" ∷ codes "false" ∷ codes "finally" ∷ codes "for" ∷ codes "function"
    ∷ codes "if" ∷ codes "implements" ∷ codes "import" ∷ codes "in" ∷ codes "instanceof" ∷ codes "interface"
    ∷ codes "let" ∷ codes "new" ∷ codes "null" ∷ codes "package" ∷ codes "private" ∷ codes "protected" ∷ codes "public"
    ∷ codes "return" ∷ codes "static" ∷ codes "super" ∷ codes "switch" ∷ codes "this" ∷ codes "throw" ∷ codes "true"
    ∷ codes "try" ∷ codes "typeof" ∷ codes "undefined" ∷ codes "var" ∷ codes "void" ∷ codes "while" ∷ codes "with"
    ∷ codes "yield" ∷ []

-- a name's start and then a name's parts
abbrev pub IsIdentifier : List ℕ → Type 0
IsIdentifier [] = ⊥
IsIdentifier (c ∷ cs) = (is_name_start c ≡ true) × All (λ d. is_name_part d ≡ true) cs

-- an identifier that is no reserved word
abbrev pub IsName : List ℕ → Type 0
IsName w = IsIdentifier w × (¬ Contains reserved_words w)

-- the number that decimal digits stand for
abbrev pub value_of : List ℕ → ℕ
value_of ds = fold (λ n d. 10 * n + (d - 48)) 0 ds

-- `0`, or digits that don't begin with `0`
abbrev pub IsDecimal : List ℕ → Type 0
IsDecimal [] = ⊥
IsDecimal (d ∷ []) = is_digit d ≡ true
IsDecimal (d ∷ ds) = (is_digit d ≡ true) × (¬ (d ≡ 48)) × All (λ c. is_digit c ≡ true) ds

-- the greatest whole number that a Number may be
abbrev pub greatest_number : ℕ
greatest_number = 9007199254740991

-- what an element is by itself: a name is the word `let` or `new` or no reserved word, and a number lies in the profile
abbrev pub IsElement : Element → Type 0
IsElement (name w) = (w ≡ codes "let") ⊎ (w ≡ codes "new") ⊎ IsName w
IsElement (number ds) = IsDecimal ds × (value_of ds ≤ greatest_number)
IsElement (text s) = All (λ c. is_text_part c ≡ true) s
IsElement _ = Unit {0}

-- the first of these bytes, if there is one, fails a test
abbrev pub StopsAt : (ℕ → Bool) → List ℕ → Type 0
StopsAt test [] = Unit {0}
StopsAt test (c ∷ cs) = test c ≡ false

-- an element is the longest at its place: the bytes that follow don't go on with it
abbrev pub EndsBefore : Element → List ℕ → Type 0
EndsBefore (name w) rest = StopsAt is_name_part rest
EndsBefore (number ds) rest = StopsAt is_number_part rest
EndsBefore _ rest = Unit {0}

-- each element is one, and the longest at its place
abbrev pub AreElements : List Element → Type 0
AreElements [] = Unit {0}
AreElements (e ∷ es) = IsElement e × EndsBefore e (spelled es) × AreElements es

-- the kind of a name's token: the word `let` or `new`, or a name
abbrev pub kind_of_name : List ℕ → TokenKind
kind_of_name w = if bytes_eq w (codes "let") then kinds.Word words.Let else if bytes_eq w (codes "new") then kinds.Word words.New else kinds.Name w

-- a token of a kind with so many bytes
abbrev pub token_at : ℕ → ℕ → Bool → TokenKind → Token
token_at at size after_line kind = record { kind = kind; from = at; to = at + size; after_line = after_line }

-- the tokens of a row of elements that begins at a byte, after a line end or not
abbrev pub tokens_from : ℕ → Bool → List Element → List Token
tokens_from at after [] = []
tokens_from at after (space ∷ es) = tokens_from (at + 1) after es
tokens_from at after (line_feed ∷ es) = tokens_from (at + 1) true es
tokens_from at after (name w ∷ es) = token_at at (length w) after (kind_of_name w) ∷ tokens_from (at + length w) false es
tokens_from at after (number ds ∷ es) = token_at at (length ds) after (kinds.Number (value_of ds)) ∷ tokens_from (at + length ds) false es
tokens_from at after (text s ∷ es) = token_at at (length s + 2) after (kinds.Text s) ∷ tokens_from (at + (length s + 2)) false es
tokens_from at after (mark m ∷ es) = token_at at 1 after (kinds.Mark m) ∷ tokens_from (at + 1) false es

-- the text splits into these tokens
pub record HasTokens (bytes : List ℕ) (tokens : List Token) : Type 0 where
  pub elements : List Element
  pub spell : spelled elements ≡ bytes
  pub are_elements : AreElements elements
  pub are_theirs : tokens_from 0 false elements ≡ tokens

-- what the kind of a token can be: a name is no reserved word, and a number lies in the profile
abbrev pub IsTokenKind : TokenKind → Type 0
IsTokenKind (kinds.Name w) = IsName w
IsTokenKind (kinds.Number n) = n ≤ greatest_number
IsTokenKind _ = Unit {0}

-- from a byte on the tokens stand in order and apart, within the length, and each kind can be
abbrev pub InOrder : ℕ → ℕ → List Token → Type 0
InOrder at len [] = at ≤ len
InOrder at len (t ∷ ts) = (at ≤ t.from) × (t.from < t.to) × IsTokenKind t.kind × InOrder t.to len ts

-- the bytes of a token of a kind: those of a name or word, the decimal digits of a number, a text between its quotes, a mark
abbrev pub Spells : List ℕ → TokenKind → Type 0
Spells bytes (kinds.Name w) = bytes ≡ w
Spells bytes (kinds.Word words.Let) = bytes ≡ codes "let"
Spells bytes (kinds.Word words.New) = bytes ≡ codes "new"
Spells bytes (kinds.Number n) = IsDecimal bytes × (value_of bytes ≡ n)
Spells bytes (kinds.Text s) = bytes ≡ 34 ∷ (s ++ 34 ∷ [])
Spells bytes (kinds.Mark m) = bytes ≡ byte_of m ∷ []

-- the answer is these tokens, unless memory ran out
abbrev pub Gives : Result (Vec Token Global) LexError → List Token → Type 0
Gives (Ok v) ts = v.items ≡ ts
Gives (Err e) ts = e ≡ errors.NoMemory
