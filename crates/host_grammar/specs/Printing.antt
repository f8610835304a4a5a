-- The tokens that a derivation is spelt by, each with the number of constructs that are open with it where it opens one. A
-- construct is open from `(`, `[` or `{` to its partner, from a prefix operator or `new` to its operand's end, and from `if`
-- or `while` to its statement's end.
use Rattle.std.specs.Prelude.{ℕ, suc, List, [], ◌∷◌, map}
use Rattle.host_lexer.specs.declared.token.Word.{Word}
use Rattle.host_lexer.specs.declared.token.Word.TheVariants as words
use Rattle.host_lexer.specs.declared.token.Mark.{Mark}
use Rattle.host_lexer.specs.declared.token.Mark.TheVariants as marks
use Rattle.host_lexer.specs.declared.token.Token.{Token}
use Rattle.host_lexer.specs.declared.token.TokenKind.{TokenKind}
use Rattle.host_lexer.specs.declared.token.TokenKind.TheVariants as kinds
use Rattle.host_grammar.specs.Derivations.{Spot, Named, Any, any_name, any_word, Key, any_key, text_key, Literal, number, big_int, text, true_word, false_word, null_word, undefined_word, Operator, times, divided, remainder, plus, minus, less, greater, less_equals, greater_equals, equals, not_equals, and, or, Prefix, negative, not_, type_of, Members, no_member, and_member, Chain, operand, lift, more, Unary, postfix, prefixed, Postfix, primary, member, index, call, Primary, literal, name, paren, array, object, new, Listed, nothing, listed, listed_on, Exprs, one, and_one, Props, no_props, props, props_on, PropList, one_prop, and_prop, Prop, keyed, short, Target, to_name, to_member, to_index, LetDecl, unset, set_to, LetDecls, one_let, and_let, ConstDecl, const_to, ConstDecls, one_const, and_const, Stmt, empty, block, expression, assign, if_then, if_else, while_do, break_off, continue_on, return_none, return_value, throw_value, try_catch, try_catch_name, Block, braces, Items, no_item, and_item, Item, lets, consts, statement, Names, one_name, and_name, Params, no_param, params, params_on, Function, function, Script, no_part, and_function, and_part}

-- a token as the grammar sees it: its kind and where it stands
pub record Sign : Type 0 where
  pub kind : TokenKind
  pub spot : Spot

abbrev pub seen : Token → Sign
seen t = record { kind = t.kind; spot = record { place = t.from; after_line = t.after_line } }

-- a token of a derivation, and the number of constructs that are open with it where it opens one, or 0
pub record Printed : Type 0 where
  pub sign : Sign
  pub nth : ℕ

abbrev pub plain : TokenKind → Spot → Printed
plain k p = record { sign = record { kind = k; spot = p }; nth = 0 }

-- a token that opens a construct inside d others
abbrev pub opening : ℕ → TokenKind → Spot → Printed
opening d k p = record { sign = record { kind = k; spot = p }; nth = suc d }

abbrev pub mark : Mark → Spot → Printed
mark m p = plain (kinds.Mark m) p

abbrev pub word : Word → Spot → Printed
word w p = plain (kinds.Word w) p

abbrev pub name_of : Named → Printed
name_of n = plain (kinds.Name n.text) n.spot

abbrev pub any_of : Any → Printed
any_of (any_name n) = name_of n
any_of (any_word w p) = word w p

abbrev pub key_of : Key → Printed
key_of (any_key a) = any_of a
key_of (text_key s p) = plain (kinds.Text s) p

abbrev pub kind_of : Literal → TokenKind
kind_of (number n) = kinds.Number n
kind_of (big_int n) = kinds.BigInt n
kind_of (text s) = kinds.Text s
kind_of true_word = kinds.Word words.True
kind_of false_word = kinds.Word words.False
kind_of null_word = kinds.Word words.Null
kind_of undefined_word = kinds.Word words.Undefined

abbrev pub operator_mark : {n : ℕ} → Operator n → Mark
operator_mark times = marks.Star
operator_mark divided = marks.Slash
operator_mark remainder = marks.Percent
operator_mark plus = marks.Plus
operator_mark minus = marks.Minus
operator_mark less = marks.Less
operator_mark greater = marks.Greater
operator_mark less_equals = marks.LessEquals
operator_mark greater_equals = marks.GreaterEquals
operator_mark equals = marks.StrictEquals
operator_mark not_equals = marks.StrictNotEquals
operator_mark and = marks.And
operator_mark or = marks.Or

abbrev pub prefix_kind : Prefix → TokenKind
prefix_kind negative = kinds.Mark marks.Minus
prefix_kind not_ = kinds.Mark marks.Not
prefix_kind type_of = kinds.Word words.TypeOf

abbrev pub members_then : Members → List Printed → List Printed
members_then no_member y = y
members_then (and_member ms d a) y = members_then ms (mark marks.Dot d ∷ any_of a ∷ y)

-- the tokens of a derivation inside d constructs, and what comes after them
abbrev mutual
  pub chain_then : {n : ℕ} → ℕ → Chain n → List Printed → List Printed
  chain_then d (operand u) y = unary_then d u y
  chain_then d (lift c) y = chain_then d c y
  chain_then d (more c o p e) y = chain_then d c (mark (operator_mark o) p ∷ chain_then d e y)

  pub unary_then : ℕ → Unary → List Printed → List Printed
  unary_then d (postfix p) y = postfix_then d p y
  unary_then d (prefixed o p u) y = opening d (prefix_kind o) p ∷ unary_then (suc d) u y

  pub postfix_then : ℕ → Postfix → List Printed → List Printed
  postfix_then d (primary p) y = primary_then d p y
  postfix_then d (member p q a) y = postfix_then d p (mark marks.Dot q ∷ any_of a ∷ y)
  postfix_then d (index p f e t) y = postfix_then d p (opening d (kinds.Mark marks.OpenBracket) f ∷ chain_then (suc d) e (mark marks.CloseBracket t ∷ y))
  postfix_then d (call p f l t) y = postfix_then d p (opening d (kinds.Mark marks.OpenParen) f ∷ listed_then (suc d) l (mark marks.CloseParen t ∷ y))

  pub primary_then : ℕ → Primary → List Printed → List Printed
  primary_then d (literal l p) y = plain (kind_of l) p ∷ y
  primary_then d (name n) y = name_of n ∷ y
  primary_then d (paren f e t) y = opening d (kinds.Mark marks.OpenParen) f ∷ chain_then (suc d) e (mark marks.CloseParen t ∷ y)
  primary_then d (array f l t) y = opening d (kinds.Mark marks.OpenBracket) f ∷ listed_then (suc d) l (mark marks.CloseBracket t ∷ y)
  primary_then d (object f ps t) y = opening d (kinds.Mark marks.OpenBrace) f ∷ props_then (suc d) ps (mark marks.CloseBrace t ∷ y)
  primary_then d (new w n ms f l t) y = opening d (kinds.Word words.New) w ∷ name_of n ∷ members_then ms
      (opening (suc d) (kinds.Mark marks.OpenParen) f ∷ listed_then (suc (suc d)) l (mark marks.CloseParen t ∷ y))

  pub listed_then : ℕ → Listed → List Printed → List Printed
  listed_then d nothing y = y
  listed_then d (listed es) y = exprs_then d es y
  listed_then d (listed_on es c) y = exprs_then d es (mark marks.Comma c ∷ y)

  pub exprs_then : ℕ → Exprs → List Printed → List Printed
  exprs_then d (one e) y = chain_then d e y
  exprs_then d (and_one es c e) y = exprs_then d es (mark marks.Comma c ∷ chain_then d e y)

  pub props_then : ℕ → Props → List Printed → List Printed
  props_then d no_props y = y
  props_then d (props ps) y = prop_list_then d ps y
  props_then d (props_on ps c) y = prop_list_then d ps (mark marks.Comma c ∷ y)

  pub prop_list_then : ℕ → PropList → List Printed → List Printed
  prop_list_then d (one_prop p) y = prop_then d p y
  prop_list_then d (and_prop ps c p) y = prop_list_then d ps (mark marks.Comma c ∷ prop_then d p y)

  pub prop_then : ℕ → Prop → List Printed → List Printed
  prop_then d (keyed k c e) y = key_of k ∷ mark marks.Colon c ∷ chain_then d e y
  prop_then d (short n) y = name_of n ∷ y

abbrev pub target_then : ℕ → Target → List Printed → List Printed
target_then d (to_name n) y = name_of n ∷ y
target_then d (to_member p q a) y = postfix_then d p (mark marks.Dot q ∷ any_of a ∷ y)
target_then d (to_index p f e t) y = postfix_then d p (opening d (kinds.Mark marks.OpenBracket) f ∷ chain_then (suc d) e (mark marks.CloseBracket t ∷ y))

abbrev pub let_then : ℕ → LetDecl → List Printed → List Printed
let_then d (unset n) y = name_of n ∷ y
let_then d (set_to n m e) y = name_of n ∷ mark marks.Equals m ∷ chain_then d e y

abbrev pub lets_then : ℕ → LetDecls → List Printed → List Printed
lets_then d (one_let l) y = let_then d l y
lets_then d (and_let ls c l) y = lets_then d ls (mark marks.Comma c ∷ let_then d l y)

abbrev pub const_then : ℕ → ConstDecl → List Printed → List Printed
const_then d (const_to n m e) y = name_of n ∷ mark marks.Equals m ∷ chain_then d e y

abbrev pub consts_then : ℕ → ConstDecls → List Printed → List Printed
consts_then d (one_const l) y = const_then d l y
consts_then d (and_const ls c l) y = consts_then d ls (mark marks.Comma c ∷ const_then d l y)

abbrev mutual
  pub stmt_then : ℕ → Stmt → List Printed → List Printed
  stmt_then d (empty p) y = mark marks.Semicolon p ∷ y
  stmt_then d (block b) y = block_then d b y
  stmt_then d (expression e q) y = chain_then d e (mark marks.Semicolon q ∷ y)
  stmt_then d (assign g m e q) y = target_then d g (mark marks.Equals m ∷ chain_then d e (mark marks.Semicolon q ∷ y))
  stmt_then d (if_then w f e t s) y = opening d (kinds.Word words.If) w ∷ opening (suc d) (kinds.Mark marks.OpenParen) f
      ∷ chain_then (suc (suc d)) e (mark marks.CloseParen t ∷ stmt_then (suc d) s y)
  stmt_then d (if_else w f e t s o r) y = opening d (kinds.Word words.If) w ∷ opening (suc d) (kinds.Mark marks.OpenParen) f
      ∷ chain_then (suc (suc d)) e (mark marks.CloseParen t ∷ stmt_then (suc d) s (word words.Else o ∷ stmt_then (suc d) r y))
  stmt_then d (while_do w f e t s) y = opening d (kinds.Word words.While) w ∷ opening (suc d) (kinds.Mark marks.OpenParen) f
      ∷ chain_then (suc (suc d)) e (mark marks.CloseParen t ∷ stmt_then (suc d) s y)
  stmt_then d (break_off w q) y = word words.Break w ∷ mark marks.Semicolon q ∷ y
  stmt_then d (continue_on w q) y = word words.Continue w ∷ mark marks.Semicolon q ∷ y
  stmt_then d (return_none w q) y = word words.Return w ∷ mark marks.Semicolon q ∷ y
  stmt_then d (return_value w e q) y = word words.Return w ∷ chain_then d e (mark marks.Semicolon q ∷ y)
  stmt_then d (throw_value w e q) y = word words.Throw w ∷ chain_then d e (mark marks.Semicolon q ∷ y)
  stmt_then d (try_catch w b c h) y = word words.Try w ∷ block_then d b (word words.Catch c ∷ block_then d h y)
  stmt_then d (try_catch_name w b c f n t h) y = word words.Try w ∷ block_then d b
      (word words.Catch c ∷ opening d (kinds.Mark marks.OpenParen) f ∷ name_of n ∷ mark marks.CloseParen t ∷ block_then d h y)

  pub block_then : ℕ → Block → List Printed → List Printed
  block_then d (braces f xs t) y = opening d (kinds.Mark marks.OpenBrace) f ∷ items_then (suc d) xs (mark marks.CloseBrace t ∷ y)

  pub items_then : ℕ → Items → List Printed → List Printed
  items_then d no_item y = y
  items_then d (and_item xs x) y = items_then d xs (item_then d x y)

  pub item_then : ℕ → Item → List Printed → List Printed
  item_then d (lets w ls q) y = word words.Let w ∷ lets_then d ls (mark marks.Semicolon q ∷ y)
  item_then d (consts w ls q) y = word words.Const w ∷ consts_then d ls (mark marks.Semicolon q ∷ y)
  item_then d (statement s) y = stmt_then d s y

abbrev pub names_then : Names → List Printed → List Printed
names_then (one_name n) y = name_of n ∷ y
names_then (and_name ns c n) y = names_then ns (mark marks.Comma c ∷ name_of n ∷ y)

abbrev pub params_then : Params → List Printed → List Printed
params_then no_param y = y
params_then (params ns) y = names_then ns y
params_then (params_on ns c) y = names_then ns (mark marks.Comma c ∷ y)

abbrev pub function_then : Function → List Printed → List Printed
function_then (function w n f ps t b) y = word words.Function w ∷ name_of n ∷ opening 0 (kinds.Mark marks.OpenParen) f
    ∷ params_then ps (mark marks.CloseParen t ∷ block_then 0 b y)

abbrev pub script_then : Script → List Printed → List Printed
script_then no_part y = y
script_then (and_function s f) y = script_then s (function_then f y)
script_then (and_part s x) y = script_then s (item_then 0 x y)

-- the tokens of a script
abbrev pub script_signs : Script → List Sign
script_signs s = map (λ p. p.sign) (script_then s [])
