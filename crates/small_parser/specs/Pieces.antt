-- Private: the tokens of an instance that are the same in each one.
use Rattle.std.specs.Prelude.{ℕ, List, [], ◌∷◌, Bool, true, false, codes}
use Rattle.std.specs.Str.{bytes_eq}
use Rattle.small_lexer.specs.declared.token.Word.TheVariants as words
use Rattle.small_lexer.specs.declared.token.Mark.TheVariants as marks
use Rattle.small_lexer.specs.declared.token.TokenKind.{TokenKind}
use Rattle.small_lexer.specs.declared.token.TokenKind.TheVariants as kinds
use Rattle.small_parser.specs.declared.instance.Piece.{Piece}
use Rattle.small_parser.specs.declared.instance.Piece.TheVariants as pieces
use Rattle.small_parser.specs.Grammar.{interface_name, reading_name}

abbrev pub kind_of : Piece → TokenKind
kind_of pieces.New = kinds.Word words.New
kind_of pieces.Interface = kinds.Name interface_name
kind_of pieces.Instance = kinds.Name (codes "Instance")
kind_of pieces.Module = kinds.Name (codes "Module")
kind_of pieces.Reading = kinds.Name reading_name
kind_of pieces.Exports = kinds.Name (codes "exports")
kind_of pieces.Open = kinds.Mark marks.Open
kind_of pieces.Close = kinds.Mark marks.Close
kind_of pieces.Dot = kinds.Mark marks.Dot

-- after the first `new` and before the file's name
abbrev pub pieces_before_file : List Piece
pieces_before_file = pieces.Interface ∷ pieces.Dot ∷ pieces.Instance ∷ pieces.Open ∷ pieces.New ∷ pieces.Interface ∷ pieces.Dot ∷ pieces.Module ∷ pieces.Open ∷ pieces.Reading ∷ pieces.Open ∷ []

-- between the file's name and the export's
abbrev pub pieces_after_file : List Piece
pieces_after_file = pieces.Close ∷ pieces.Close ∷ pieces.Close ∷ pieces.Dot ∷ pieces.Exports ∷ pieces.Dot ∷ []

abbrev pub is_new : TokenKind → Bool
is_new (kinds.Word words.New) = true
is_new _ = false

abbrev pub is_open : TokenKind → Bool
is_open (kinds.Mark marks.Open) = true
is_open _ = false

abbrev pub is_close : TokenKind → Bool
is_close (kinds.Mark marks.Close) = true
is_close _ = false

abbrev pub is_dot : TokenKind → Bool
is_dot (kinds.Mark marks.Dot) = true
is_dot _ = false

abbrev pub is_called : List ℕ → TokenKind → Bool
is_called v (kinds.Name w) = bytes_eq w v
is_called v _ = false

-- whether a token is such a one
abbrev pub fits : Piece → TokenKind → Bool
fits pieces.New t = is_new t
fits pieces.Interface t = is_called interface_name t
fits pieces.Instance t = is_called (codes "Instance") t
fits pieces.Module t = is_called (codes "Module") t
fits pieces.Reading t = is_called reading_name t
fits pieces.Exports t = is_called (codes "exports") t
fits pieces.Open t = is_open t
fits pieces.Close t = is_close t
fits pieces.Dot t = is_dot t
