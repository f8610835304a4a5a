-- A token that fits a piece is that piece.
use Rattle.std.specs.Prelude.{◌≡◌, ℕ, List, [], ◌∷◌, ◌++◌, map, true, codes, refl}
use Rattle.std.proofs.Common.{ap}
use Rattle.std.proofs.lemmas.Slice.Eq.{bytes_eq-Decides}
use Rattle.small_lexer.specs.declared.token.Word.TheVariants as words
use Rattle.small_lexer.specs.declared.token.Mark.TheVariants as marks
use Rattle.small_lexer.specs.declared.token.TokenKind.{TokenKind}
use Rattle.small_lexer.specs.declared.token.TokenKind.TheVariants as kinds
use Rattle.small_parser.specs.declared.instance.Piece.{Piece}
use Rattle.small_parser.specs.declared.instance.Piece.TheVariants as pieces
use Rattle.small_parser.specs.Grammar.{Sign, interface_name, reading_name}
use Rattle.small_parser.specs.Pieces.{kind_of, fits, is_new, is_open, is_close, is_dot, is_called}

pub fits_itself : (p : Piece) → fits p (kind_of p) ≡ true
fits_itself pieces.New = refl
fits_itself pieces.Interface = refl
fits_itself pieces.Instance = refl
fits_itself pieces.Module = refl
fits_itself pieces.Reading = refl
fits_itself pieces.Exports = refl
fits_itself pieces.Open = refl
fits_itself pieces.Close = refl
fits_itself pieces.Dot = refl

new_is : (t : TokenKind) → is_new t ≡ true → t ≡ kinds.Word words.New
new_is (kinds.Word words.New) h = refl
new_is _ h = cc

open_is : (t : TokenKind) → is_open t ≡ true → t ≡ kinds.Mark marks.Open
open_is (kinds.Mark marks.Open) h = refl
open_is _ h = cc

close_is : (t : TokenKind) → is_close t ≡ true → t ≡ kinds.Mark marks.Close
close_is (kinds.Mark marks.Close) h = refl
close_is _ h = cc

dot_is : (t : TokenKind) → is_dot t ≡ true → t ≡ kinds.Mark marks.Dot
dot_is (kinds.Mark marks.Dot) h = refl
dot_is _ h = cc

called_is : (v : List ℕ) (t : TokenKind) → is_called v t ≡ true → t ≡ kinds.Name v
called_is v (kinds.Name w) h = ap (λ x. kinds.Name x) ((bytes_eq-Decides w v).0 h)
called_is v _ h = cc

pub fit_is : (p : Piece) (t : TokenKind) → fits p t ≡ true → t ≡ kind_of p
fit_is pieces.New t h = new_is t h
fit_is pieces.Interface t h = called_is interface_name t h
fit_is pieces.Instance t h = called_is (codes "Instance") t h
fit_is pieces.Module t h = called_is (codes "Module") t h
fit_is pieces.Reading t h = called_is reading_name t h
fit_is pieces.Exports t h = called_is (codes "exports") t h
fit_is pieces.Open t h = open_is t h
fit_is pieces.Close t h = close_is t h
fit_is pieces.Dot t h = dot_is t h

-- the kinds of some tokens and one more
pub kinds_on : (read : List Sign) (t : Sign) (more : List TokenKind) → map (λ t. t.kind) (read ++ t ∷ []) ++ more ≡ map (λ t. t.kind) read ++ t.kind ∷ more
kinds_on [] t more = refl
kinds_on (r ∷ read) t more = ap (λ z. r.kind ∷ z) (kinds_on read t more)
