-- Private: what the reader's functions say of one place in the bytes.
use Rattle.std.specs.Prelude.{◌≡◌, ℕ, ◌+◌, ◌≤◌, List, ◌++◌, length, drop, Option, Some, None}
use Rattle.small_lexer.specs.declared.token.TokenKind.{TokenKind}
use Rattle.small_lexer.specs.declared.token.TokenKind.TheVariants as kinds
use Rattle.small_lexer.specs.declared.token.LexError.{LexError}
use Rattle.small_lexer.specs.declared.token.LexError.TheVariants as errors
use Rattle.small_lexer.specs.Tokens.{Element, space, line_feed, name, number, text, mark, spelling_of, IsElement, EndsBefore, kind_of_name, value_of}

-- the kind of an element's token, if it makes one
abbrev pub kind_of : Element → Option TokenKind
kind_of space = None
kind_of line_feed = None
kind_of (name w) = Some (kind_of_name w)
kind_of (number ds) = Some (kinds.Number (value_of ds))
kind_of (text s) = Some (kinds.Text s)
kind_of (mark m) = Some (kinds.Mark m)

-- the bytes begin with an element, which the rest follows
pub record Heads (bytes : List ℕ) (e : Element) (rest : List ℕ) : Type 0 where
  pub spell : spelling_of e ++ rest ≡ bytes
  pub is_element : IsElement e
  pub ends : EndsBefore e rest

-- at a byte begins an element that makes a token of a kind, up to another byte
pub record Reads (bytes : List ℕ) (at : ℕ) (kind : TokenKind) (to : ℕ) : Type 0 where
  pub element : Element
  pub heads : Heads (drop at bytes) element (drop to bytes)
  pub makes : kind_of element ≡ Some kind
  pub size : to ≡ at + length (spelling_of element)
  pub within : to ≤ length bytes

-- no element begins at a byte
abbrev pub NoElement : List ℕ → ℕ → Type 0
NoElement bytes at = (e : Element) (rest : List ℕ) → ¬ Heads (drop at bytes) e rest

-- an error of the text comes only where a fact holds
abbrev pub OnNotYet : LexError → Type 0 → Type 0
OnNotYet errors.NotYet P = P
OnNotYet errors.NoMemory P = Unit {0}
