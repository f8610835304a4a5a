-- The conditions beside the productions: on a first `{`, `else`, line ends, `while` and functions.
use Rattle.std.specs.Prelude.{◌≡◌, ℕ, Bool, true, false, List}
use Rattle.host_lexer.specs.declared.token.Word.TheVariants as words
use Rattle.host_lexer.specs.declared.token.Mark.TheVariants as marks
use Rattle.host_lexer.specs.declared.token.TokenKind.{TokenKind}
use Rattle.host_lexer.specs.declared.token.TokenKind.TheVariants as kinds
use Rattle.host_grammar.specs.Derivations.{Spot, Chain, operand, lift, more, Unary, postfix, prefixed, Postfix, primary, member, index, call, Primary, literal, name, paren, array, object, new, Target, to_name, to_member, to_index, Stmt, empty, block, expression, assign, if_then, if_else, while_do, break_off, continue_on, return_none, return_value, throw_value, try_catch, try_catch_name, Block, braces, Items, no_item, and_item, Item, lets, consts, statement, Function, function, Script, no_part, and_function, and_part}
use Rattle.host_grammar.specs.Printing.{Sign, kind_of, prefix_kind, script_signs}

abbrev pub sign : TokenKind → Spot → Sign
sign k p = record { kind = k; spot = p }

-- the first token of an expression
abbrev pub first_of_primary : Primary → Sign
first_of_primary (literal l p) = sign (kind_of l) p
first_of_primary (name n) = sign (kinds.Name n.text) n.spot
first_of_primary (paren f e t) = sign (kinds.Mark marks.OpenParen) f
first_of_primary (array f l t) = sign (kinds.Mark marks.OpenBracket) f
first_of_primary (object f ps t) = sign (kinds.Mark marks.OpenBrace) f
first_of_primary (new w n ms f l t) = sign (kinds.Word words.New) w

abbrev pub first_of_postfix : Postfix → Sign
first_of_postfix (primary p) = first_of_primary p
first_of_postfix (member p d a) = first_of_postfix p
first_of_postfix (index p f e t) = first_of_postfix p
first_of_postfix (call p f l t) = first_of_postfix p

abbrev pub first_of_unary : Unary → Sign
first_of_unary (postfix p) = first_of_postfix p
first_of_unary (prefixed o p u) = sign (prefix_kind o) p

abbrev pub first_of : {n : ℕ} → Chain n → Sign
first_of (operand u) = first_of_unary u
first_of (lift c) = first_of c
first_of (more c o p e) = first_of c

abbrev pub first_of_target : Target → Sign
first_of_target (to_name n) = sign (kinds.Name n.text) n.spot
first_of_target (to_member p d a) = first_of_postfix p
first_of_target (to_index p f e t) = first_of_postfix p

-- neither an expression statement nor an assignment begins with `{` (ECMA-262, section 14.5)
abbrev pub BeginsWithNoBrace : Sign → Type 0
BeginsWithNoBrace s = ¬ (s.kind ≡ kinds.Mark marks.OpenBrace)

-- no line end stands before a token
abbrev pub OnOneLine : Sign → Type 0
OnOneLine s = s.spot.after_line ≡ false

-- a statement that ends in an `if` without `else`
abbrev pub ends_open : Stmt → Bool
ends_open (if_then w f e t s) = true
ends_open (if_else w f e t s o r) = ends_open r
ends_open (while_do w f e t s) = ends_open s
ends_open _ = false

-- An `else` belongs to the nearest `if`, `break` and `continue` stand in a `while`, and `return` in a function: loop and body
-- say whether one is open. No line end stands between `return` or `throw` and its expression.
abbrev mutual
  pub IsFine : (loop body : Bool) → Stmt → Type 0
  IsFine loop body (empty p) = Unit {0}
  IsFine loop body (block b) = IsFineBlock loop body b
  IsFine loop body (expression e q) = BeginsWithNoBrace (first_of e)
  IsFine loop body (assign g m e q) = BeginsWithNoBrace (first_of_target g)
  IsFine loop body (if_then w f e t s) = IsFine loop body s
  IsFine loop body (if_else w f e t s o r) = (ends_open s ≡ false) × IsFine loop body s × IsFine loop body r
  IsFine loop body (while_do w f e t s) = IsFine true body s
  IsFine loop body (break_off w q) = loop ≡ true
  IsFine loop body (continue_on w q) = loop ≡ true
  IsFine loop body (return_none w q) = body ≡ true
  IsFine loop body (return_value w e q) = (body ≡ true) × OnOneLine (first_of e)
  IsFine loop body (throw_value w e q) = OnOneLine (first_of e)
  IsFine loop body (try_catch w b c h) = IsFineBlock loop body b × IsFineBlock loop body h
  IsFine loop body (try_catch_name w b c f n t h) = IsFineBlock loop body b × IsFineBlock loop body h

  pub IsFineBlock : (loop body : Bool) → Block → Type 0
  IsFineBlock loop body (braces f xs t) = AreFine loop body xs

  pub AreFine : (loop body : Bool) → Items → Type 0
  AreFine loop body no_item = Unit {0}
  AreFine loop body (and_item xs x) = AreFine loop body xs × IsFineItem loop body x

  pub IsFineItem : (loop body : Bool) → Item → Type 0
  IsFineItem loop body (lets w ls q) = Unit {0}
  IsFineItem loop body (consts w ls q) = Unit {0}
  IsFineItem loop body (statement s) = IsFine loop body s

abbrev pub IsFineFunction : Function → Type 0
IsFineFunction (function w n f ps t b) = IsFineBlock false true b

abbrev pub IsFineScript : Script → Type 0
IsFineScript no_part = Unit {0}
IsFineScript (and_function s f) = IsFineScript s × IsFineFunction f
IsFineScript (and_part s x) = IsFineScript s × IsFineItem false false x

-- these tokens are spelt by a derivation whose conditions hold
pub record IsScript (signs : List Sign) (script : Script) : Type 0 where
  pub spelled : script_signs script ≡ signs
  pub fine : IsFineScript script
