-- The reader of scripts as a machine over one token, with what is open around it.
use Rattle.std.specs.Prelude.{ℕ, zero, suc, Bool, true, false, cond, List, [], ◌∷◌, Option, Some, None}
use Rattle.host_lexer.specs.declared.token.Word.TheVariants as words
use Rattle.host_lexer.specs.declared.token.Mark.{Mark}
use Rattle.host_lexer.specs.declared.token.Mark.TheVariants as marks
use Rattle.host_lexer.specs.declared.token.TokenKind.{TokenKind}
use Rattle.host_lexer.specs.declared.token.TokenKind.TheVariants as kinds
use Rattle.host_grammar.specs.Derivations.{Spot, Named, Any, any_name, any_word, Key, any_key, text_key, number, big_int, text, true_word, false_word, null_word, undefined_word, Operator, times, divided, remainder, plus, minus, less, greater, less_equals, greater_equals, equals, not_equals, and, or, Prefix, negative, not_, type_of, Members, no_member, and_member, Chain, operand, lift, more, Unary, postfix, prefixed, Postfix, primary, member, index, call, literal, name, paren, array, object, new, Listed, nothing, listed, listed_on, Exprs, one, and_one, Props, no_props, props, props_on, PropList, one_prop, and_prop, Prop, keyed, short, Expr, Target, to_name, to_member, to_index, LetDecl, unset, set_to, LetDecls, one_let, and_let, ConstDecl, const_to, ConstDecls, one_const, and_const, Stmt, empty, block, expression, assign, if_then, if_else, while_do, break_off, continue_on, return_none, return_value, throw_value, try_catch, try_catch_name, Block, braces, Items, no_item, and_item, Item, lets, consts, statement, Names, one_name, and_name, Params, no_param, params, params_on, function, Script, no_part, and_function, and_part}
use Rattle.host_grammar.specs.Printing.{Sign}

-- what stands before an operand at each level of operators, the outermost first
pub data Left (n : ℕ) : Type 0 where
  nothing_left : Left n
  before : Chain (suc n) → Operator n → Spot → Left n

pub data Lefts : ℕ → Type 0 where
  no_left : Lefts 0
  also : {n : ℕ} → Left n → Lefts n → Lefts (suc n)

abbrev pub fresh_lefts : (n : ℕ) → Lefts n
fresh_lefts zero = no_left
fresh_lefts (suc n) = also nothing_left (fresh_lefts n)

-- a prefix operator, and where it stands
pub data Sigil : Type 0 where
  sigil : Prefix → Spot → Sigil

-- the chains and prefixes that are open at an operand, the innermost prefix first
pub data Level : Type 0 where
  level : Lefts 6 → List Sigil → Level

abbrev pub fresh : Level
fresh = level (fresh_lefts 6) []

-- elements, properties, names and declarations before a comma
pub data Before (A : Type 0) : Type 0 where
  none_before : Before A
  comma_after : A → Spot → Before A

mutual
  -- what is open around an expression
  pub data OfExpr : Type 0 where
    in_paren : Spot → Level → OfExpr → OfExpr
    in_index : Postfix → Spot → Level → OfExpr → OfExpr
    in_call : Postfix → Spot → Before Exprs → Level → OfExpr → OfExpr
    in_array : Spot → Before Exprs → Level → OfExpr → OfExpr
    in_new : Spot → Named → Members → Spot → Before Exprs → Level → OfExpr → OfExpr
    in_prop : Spot → Before PropList → Key → Spot → Level → OfExpr → OfExpr
    in_expression : OfStmt → OfExpr
    in_assign : Target → Spot → OfStmt → OfExpr
    in_if : (word from : Spot) → OfStmt → OfExpr
    in_while : (word from : Spot) → OfStmt → OfExpr
    in_return : Spot → OfStmt → OfExpr
    in_throw : Spot → OfStmt → OfExpr
    in_let : Spot → Before LetDecls → Named → Spot → OfItem → OfExpr
    in_const : Spot → Before ConstDecls → Named → Spot → OfItem → OfExpr

  -- what is open around a statement
  pub data OfStmt : Type 0 where
    item_of : OfItem → OfStmt
    then_of : (word from : Spot) → Expr → (to : Spot) → OfStmt → OfStmt
    else_of : (word from : Spot) → Expr → (to : Spot) → Stmt → (other : Spot) → OfStmt → OfStmt
    body_of : (word from : Spot) → Expr → (to : Spot) → OfStmt → OfStmt

  -- what is open around an item, and the items before it
  pub data OfItem : Type 0 where
    in_script : Script → OfItem
    in_block : Items → OfBlock → OfItem

  -- what is open around the items of a block, with its `{`
  pub data OfBlock : Type 0 where
    block_of : Spot → OfStmt → OfBlock
    try_of : (word from : Spot) → OfStmt → OfBlock
    catch_of : (word : Spot) → Block → (catch from : Spot) → OfStmt → OfBlock
    catch_name_of : (word : Spot) → Block → (catch from : Spot) → Named → (to from : Spot) → OfStmt → OfBlock
    function_of : Script → (word : Spot) → Named → (from : Spot) → Params → (to from : Spot) → OfBlock

pub data State : Type 0 where
  -- an operand is wanted, or an operand is read
  want : Level → OfExpr → State
  have : Postfix → Level → OfExpr → State
  dotted : Postfix → (dot : Spot) → Level → OfExpr → State
  -- an expression of a list, or the list's end
  argument : Postfix → Spot → Before Exprs → Level → OfExpr → State
  element : Spot → Before Exprs → Level → OfExpr → State
  given : Spot → Named → Members → Spot → Before Exprs → Level → OfExpr → State
  -- after `new`, its name, and its dot
  new_begun : Spot → Level → OfExpr → State
  new_named : Spot → Named → Members → Level → OfExpr → State
  new_dotted : Spot → Named → Members → Spot → Level → OfExpr → State
  -- a property or the object's end; a key that may be a name alone; a key
  property : Spot → Before PropList → Level → OfExpr → State
  named_key : Spot → Before PropList → Named → Level → OfExpr → State
  other_key : Spot → Before PropList → Key → Level → OfExpr → State
  -- an item or the items' end, a statement, and a statement after which `else` may follow
  items : OfItem → State
  begun : OfStmt → State
  complete : Stmt → OfStmt → State
  if_begun : Spot → OfStmt → State
  while_begun : Spot → OfStmt → State
  break_begun : Spot → OfStmt → State
  continue_begun : Spot → OfStmt → State
  return_begun : Spot → OfStmt → State
  throw_begun : Spot → OfStmt → State
  try_begun : Spot → OfStmt → State
  try_read : (word : Spot) → Block → OfStmt → State
  catch_begun : (word : Spot) → Block → (catch : Spot) → OfStmt → State
  catch_opened : (word : Spot) → Block → (catch from : Spot) → OfStmt → State
  catch_named : (word : Spot) → Block → (catch from : Spot) → Named → OfStmt → State
  catch_closed : (word : Spot) → Block → (catch from : Spot) → Named → (to : Spot) → OfStmt → State
  let_begun : Spot → Before LetDecls → OfItem → State
  let_named : Spot → Before LetDecls → Named → OfItem → State
  const_begun : Spot → Before ConstDecls → OfItem → State
  const_named : Spot → Before ConstDecls → Named → OfItem → State
  function_begun : Script → Spot → State
  function_named : Script → Spot → Named → State
  -- a parameter or the parameters' end, a parameter is read, and the parameters are
  parameter : Script → Spot → Named → Spot → Before Names → State
  parameter_read : Script → Spot → Named → Spot → Names → State
  parameters_read : Script → Spot → Named → Spot → Params → Spot → State

abbrev pub start : State
start = items (in_script no_part)

-- closing the chains that are open
abbrev pub with_left : {n : ℕ} → Left n → Chain n → Chain (suc n)
with_left nothing_left c = lift c
with_left (before a o p) c = more a o p c

abbrev pub close : {n : ℕ} → Lefts n → Unary → Chain n
close no_left u = operand u
close (also l ls) u = with_left l (close ls u)

abbrev pub wrap : List Sigil → Unary → Unary
wrap [] u = u
wrap (sigil o p ∷ ps) u = wrap ps (prefixed o p u)

abbrev pub expr_of : Level → Postfix → Expr
expr_of (level ls ps) p = close ls (wrap ps (postfix p))

abbrev pub exprs_with : Before Exprs → Expr → Exprs
exprs_with none_before e = one e
exprs_with (comma_after es c) e = and_one es c e

abbrev pub listed_of : Before Exprs → Listed
listed_of none_before = nothing
listed_of (comma_after es c) = listed_on es c

abbrev pub props_with : Before PropList → Prop → PropList
props_with none_before p = one_prop p
props_with (comma_after ps c) p = and_prop ps c p

abbrev pub props_of : Before PropList → Props
props_of none_before = no_props
props_of (comma_after ps c) = props_on ps c

abbrev pub lets_with : Before LetDecls → LetDecl → LetDecls
lets_with none_before l = one_let l
lets_with (comma_after ls c) l = and_let ls c l

abbrev pub consts_with : Before ConstDecls → ConstDecl → ConstDecls
consts_with none_before l = one_const l
consts_with (comma_after ls c) l = and_const ls c l

abbrev pub names_with : Before Names → Named → Names
names_with none_before n = one_name n
names_with (comma_after ns c) n = and_name ns c n

abbrev pub params_of : Before Names → Params
params_of none_before = no_param
params_of (comma_after ns c) = params_on ns c

-- one more item
abbrev pub next_of : OfItem → Item → OfItem
next_of (in_script s) x = in_script (and_part s x)
next_of (in_block xs b) x = in_block (and_item xs x) b

abbrev pub next_item : OfItem → Item → State
next_item o x = items (next_of o x)

-- the operator of a mark at a level
abbrev pub operator_at : (n : ℕ) → Mark → Option (Operator n)
operator_at zero marks.Star = Some times
operator_at zero marks.Slash = Some divided
operator_at zero marks.Percent = Some remainder
operator_at (suc zero) marks.Plus = Some plus
operator_at (suc zero) marks.Minus = Some minus
operator_at (suc (suc zero)) marks.Less = Some less
operator_at (suc (suc zero)) marks.Greater = Some greater
operator_at (suc (suc zero)) marks.LessEquals = Some less_equals
operator_at (suc (suc zero)) marks.GreaterEquals = Some greater_equals
operator_at (suc (suc (suc zero))) marks.StrictEquals = Some equals
operator_at (suc (suc (suc zero))) marks.StrictNotEquals = Some not_equals
operator_at (suc (suc (suc (suc zero)))) marks.And = Some and
operator_at (suc (suc (suc (suc (suc zero))))) marks.Or = Some or
operator_at _ _ = None

-- an operator after an operand: the chains of its level and within it are closed
abbrev pub pushed : Mark → Spot → Unary → {n : ℕ} → Lefts n → Option (Lefts n)
pushed m p u no_left = None
pushed m p u (also {n} l ls) = elim (operator_at n m) [
  | Some o ↦ Some (also (before (with_left l (close ls u)) o p) (fresh_lefts n))
  | None ↦ elim (pushed m p u ls) [ None ↦ None | Some q ↦ Some (also l q) ]
]

abbrev pub operated : Level → Postfix → OfExpr → Spot → Mark → Option State
operated (level ls ps) u s p m = elim (pushed m p (wrap ps (postfix u)) ls) [ None ↦ None | Some q ↦ Some (want (level q []) s) ]

abbrev pub with_sigil : Level → Prefix → Spot → Level
with_sigil (level ls ps) o p = level ls (sigil o p ∷ ps)

abbrev pub named_at : List ℕ → Spot → Named
named_at n p = record { text = n; spot = p }

-- an operand begins
abbrev pub wanted : Level → OfExpr → Spot → TokenKind → Option State
wanted l s p (kinds.Name n) = Some (have (primary (name (named_at n p))) l s)
wanted l s p (kinds.Number n) = Some (have (primary (literal (number n) p)) l s)
wanted l s p (kinds.BigInt n) = Some (have (primary (literal (big_int n) p)) l s)
wanted l s p (kinds.Text t) = Some (have (primary (literal (text t) p)) l s)
wanted l s p (kinds.Word words.True) = Some (have (primary (literal true_word p)) l s)
wanted l s p (kinds.Word words.False) = Some (have (primary (literal false_word p)) l s)
wanted l s p (kinds.Word words.Null) = Some (have (primary (literal null_word p)) l s)
wanted l s p (kinds.Word words.Undefined) = Some (have (primary (literal undefined_word p)) l s)
wanted l s p (kinds.Word words.TypeOf) = Some (want (with_sigil l type_of p) s)
wanted l s p (kinds.Word words.New) = Some (new_begun p l s)
wanted l s p (kinds.Mark marks.Minus) = Some (want (with_sigil l negative p) s)
wanted l s p (kinds.Mark marks.Not) = Some (want (with_sigil l not_ p) s)
wanted l s p (kinds.Mark marks.OpenParen) = Some (want fresh (in_paren p l s))
wanted l s p (kinds.Mark marks.OpenBracket) = Some (element p none_before l s)
wanted l s p (kinds.Mark marks.OpenBrace) = Some (property p none_before l s)
wanted l s p _ = None

-- `)`, `]`, `}`, `,`, `;` and `=` after an operand
abbrev pub closed : Postfix → Level → OfExpr → Spot → Option State
closed u l (in_paren f k s) p = Some (have (primary (paren f (expr_of l u) p)) k s)
closed u l (in_call g f es k s) p = Some (have (call g f (listed (exprs_with es (expr_of l u))) p) k s)
closed u l (in_new w n ms f es k s) p = Some (have (primary (new w n ms f (listed (exprs_with es (expr_of l u))) p)) k s)
closed u l (in_if w f s) p = Some (begun (then_of w f (expr_of l u) p s))
closed u l (in_while w f s) p = Some (begun (body_of w f (expr_of l u) p s))
closed u l _ p = None

abbrev pub bracketed : Postfix → Level → OfExpr → Spot → Option State
bracketed u l (in_index g f k s) p = Some (have (index g f (expr_of l u) p) k s)
bracketed u l (in_array f es k s) p = Some (have (primary (array f (listed (exprs_with es (expr_of l u))) p)) k s)
bracketed u l _ p = None

abbrev pub braced : Postfix → Level → OfExpr → Spot → Option State
braced u l (in_prop f ps y c k s) p = Some (have (primary (object f (props (props_with ps (keyed y c (expr_of l u)))) p)) k s)
braced u l _ p = None

abbrev pub parted : Postfix → Level → OfExpr → Spot → Option State
parted u l (in_call g f es k s) p = Some (argument g f (comma_after (exprs_with es (expr_of l u)) p) k s)
parted u l (in_new w n ms f es k s) p = Some (given w n ms f (comma_after (exprs_with es (expr_of l u)) p) k s)
parted u l (in_array f es k s) p = Some (element f (comma_after (exprs_with es (expr_of l u)) p) k s)
parted u l (in_prop f ps y c k s) p = Some (property f (comma_after (props_with ps (keyed y c (expr_of l u))) p) k s)
parted u l (in_let w ls n m s) p = Some (let_begun w (comma_after (lets_with ls (set_to n m (expr_of l u))) p) s)
parted u l (in_const w ls n m s) p = Some (const_begun w (comma_after (consts_with ls (const_to n m (expr_of l u))) p) s)
parted u l _ p = None

abbrev pub ended : Postfix → Level → OfExpr → Spot → Option State
ended u l (in_expression s) p = Some (complete (expression (expr_of l u) p) s)
ended u l (in_assign g m s) p = Some (complete (assign g m (expr_of l u) p) s)
ended u l (in_return w s) p = Some (complete (return_value w (expr_of l u) p) s)
ended u l (in_throw w s) p = Some (complete (throw_value w (expr_of l u) p) s)
ended u l (in_let w ls n m s) p = Some (next_item s (lets w (lets_with ls (set_to n m (expr_of l u))) p))
ended u l (in_const w ls n m s) p = Some (next_item s (consts w (consts_with ls (const_to n m (expr_of l u))) p))
ended u l _ p = None

-- an operand by itself that may be assigned to
abbrev pub is_fresh : {n : ℕ} → Lefts n → Bool
is_fresh no_left = true
is_fresh (also nothing_left ls) = is_fresh ls
is_fresh (also (before c o p) ls) = false

abbrev pub target_of : Postfix → Option Target
target_of (primary (name n)) = Some (to_name n)
target_of (primary _) = None
target_of (member g d a) = Some (to_member g d a)
target_of (index g f e t) = Some (to_index g f e t)
target_of (call g f es t) = None

abbrev pub assigned : Option Target → OfStmt → Spot → Option State
assigned None s p = None
assigned (Some g) s p = Some (want fresh (in_assign g p s))

abbrev pub equated : Postfix → Level → OfExpr → Spot → Option State
equated u (level ls []) (in_expression s) p = cond (is_fresh ls) (assigned (target_of u) s p) None
equated u l s p = None

abbrev pub had : Postfix → Level → OfExpr → Spot → TokenKind → Option State
had u l s p (kinds.Mark marks.Dot) = Some (dotted u p l s)
had u l s p (kinds.Mark marks.OpenBracket) = Some (want fresh (in_index u p l s))
had u l s p (kinds.Mark marks.OpenParen) = Some (argument u p none_before l s)
had u l s p (kinds.Mark marks.CloseParen) = closed u l s p
had u l s p (kinds.Mark marks.CloseBracket) = bracketed u l s p
had u l s p (kinds.Mark marks.CloseBrace) = braced u l s p
had u l s p (kinds.Mark marks.Comma) = parted u l s p
had u l s p (kinds.Mark marks.Semicolon) = ended u l s p
had u l s p (kinds.Mark marks.Equals) = equated u l s p
had u l s p (kinds.Mark m) = operated l u s p m
had u l s p _ = None

abbrev pub any_at : Spot → TokenKind → Option Any
any_at p (kinds.Name n) = Some (any_name (named_at n p))
any_at p (kinds.Word w) = Some (any_word w p)
any_at p _ = None

-- the lists in parentheses, brackets and braces
abbrev pub argued : Postfix → Spot → Before Exprs → Level → OfExpr → Spot → TokenKind → Option State
argued g f es l s p (kinds.Mark marks.CloseParen) = Some (have (call g f (listed_of es) p) l s)
argued g f es l s p t = wanted fresh (in_call g f es l s) p t

abbrev pub elemented : Spot → Before Exprs → Level → OfExpr → Spot → TokenKind → Option State
elemented f es l s p (kinds.Mark marks.CloseBracket) = Some (have (primary (array f (listed_of es) p)) l s)
elemented f es l s p t = wanted fresh (in_array f es l s) p t

abbrev pub giving : Spot → Named → Members → Spot → Before Exprs → Level → OfExpr → Spot → TokenKind → Option State
giving w n ms f es l s p (kinds.Mark marks.CloseParen) = Some (have (primary (new w n ms f (listed_of es) p)) l s)
giving w n ms f es l s p t = wanted fresh (in_new w n ms f es l s) p t

abbrev pub newly_named : Spot → Named → Members → Level → OfExpr → Spot → TokenKind → Option State
newly_named w n ms l s p (kinds.Mark marks.Dot) = Some (new_dotted w n ms p l s)
newly_named w n ms l s p (kinds.Mark marks.OpenParen) = Some (given w n ms p none_before l s)
newly_named w n ms l s p _ = None

abbrev pub propertied : Spot → Before PropList → Level → OfExpr → Spot → TokenKind → Option State
propertied f ps l s p (kinds.Mark marks.CloseBrace) = Some (have (primary (object f (props_of ps) p)) l s)
propertied f ps l s p (kinds.Name n) = Some (named_key f ps (named_at n p) l s)
propertied f ps l s p (kinds.Word w) = Some (other_key f ps (any_key (any_word w p)) l s)
propertied f ps l s p (kinds.Text t) = Some (other_key f ps (text_key t p) l s)
propertied f ps l s p _ = None

abbrev pub name_keyed : Spot → Before PropList → Named → Level → OfExpr → Spot → TokenKind → Option State
name_keyed f ps n l s p (kinds.Mark marks.Colon) = Some (want fresh (in_prop f ps (any_key (any_name n)) p l s))
name_keyed f ps n l s p (kinds.Mark marks.Comma) = Some (property f (comma_after (props_with ps (short n)) p) l s)
name_keyed f ps n l s p (kinds.Mark marks.CloseBrace) = Some (have (primary (object f (props (props_with ps (short n))) p)) l s)
name_keyed f ps n l s p _ = None

-- whether a `while` or a function is open
abbrev mutual
  pub in_loop : OfStmt → Bool
  in_loop (item_of x) = item_in_loop x
  in_loop (then_of w f e t s) = in_loop s
  in_loop (else_of w f e t st o s) = in_loop s
  in_loop (body_of w f e t s) = true

  pub item_in_loop : OfItem → Bool
  item_in_loop (in_script s) = false
  item_in_loop (in_block xs b) = block_in_loop b

  pub block_in_loop : OfBlock → Bool
  block_in_loop (block_of f s) = in_loop s
  block_in_loop (try_of w f s) = in_loop s
  block_in_loop (catch_of w b c f s) = in_loop s
  block_in_loop (catch_name_of w b c f n t g s) = in_loop s
  block_in_loop (function_of s w n f ps t g) = false

abbrev mutual
  pub in_function : OfStmt → Bool
  in_function (item_of x) = item_in_function x
  in_function (then_of w f e t s) = in_function s
  in_function (else_of w f e t st o s) = in_function s
  in_function (body_of w f e t s) = in_function s

  pub item_in_function : OfItem → Bool
  item_in_function (in_script s) = false
  item_in_function (in_block xs b) = block_in_function b

  pub block_in_function : OfBlock → Bool
  block_in_function (block_of f s) = in_function s
  block_in_function (try_of w f s) = in_function s
  block_in_function (catch_of w b c f s) = in_function s
  block_in_function (catch_name_of w b c f n t g s) = in_function s
  block_in_function (function_of s w n f ps t g) = true

-- a statement begins
abbrev pub started : OfStmt → Spot → TokenKind → Option State
started s p (kinds.Mark marks.Semicolon) = Some (complete (empty p) s)
started s p (kinds.Mark marks.OpenBrace) = Some (items (in_block no_item (block_of p s)))
started s p (kinds.Word words.If) = Some (if_begun p s)
started s p (kinds.Word words.While) = Some (while_begun p s)
started s p (kinds.Word words.Break) = cond (in_loop s) (Some (break_begun p s)) None
started s p (kinds.Word words.Continue) = cond (in_loop s) (Some (continue_begun p s)) None
started s p (kinds.Word words.Return) = cond (in_function s) (Some (return_begun p s)) None
started s p (kinds.Word words.Throw) = Some (throw_begun p s)
started s p (kinds.Word words.Try) = Some (try_begun p s)
started s p t = wanted fresh (in_expression s) p t

-- the end of a block
abbrev pub block_ended : Items → OfBlock → Spot → Option State
block_ended xs (block_of f s) p = Some (complete (block (braces f xs p)) s)
block_ended xs (try_of w f s) p = Some (try_read w (braces f xs p) s)
block_ended xs (catch_of w b c f s) p = Some (complete (try_catch w b c (braces f xs p)) s)
block_ended xs (catch_name_of w b c f n t g s) p = Some (complete (try_catch_name w b c f n t (braces g xs p)) s)
block_ended xs (function_of s w n f ps t g) p = Some (items (in_script (and_function s (function w n f ps t (braces g xs p)))))

-- an item begins, or the items end
abbrev pub itemed : OfItem → Spot → TokenKind → Option State
itemed (in_block xs b) p (kinds.Mark marks.CloseBrace) = block_ended xs b p
itemed (in_script s) p (kinds.Word words.Function) = Some (function_begun s p)
itemed o p (kinds.Word words.Let) = Some (let_begun p none_before o)
itemed o p (kinds.Word words.Const) = Some (const_begun p none_before o)
itemed o p t = started (item_of o) p t

-- a token after a statement
abbrev pub after : Stmt → OfStmt → Spot → TokenKind → Option State
after st (item_of o) p t = itemed (next_of o (statement st)) p t
after st (then_of w f e c s) p (kinds.Word words.Else) = Some (begun (else_of w f e c st p s))
after st (then_of w f e c s) p t = after (if_then w f e c st) s p t
after st (else_of w f e c a o s) p t = after (if_else w f e c a o st) s p t
after st (body_of w f e c s) p t = after (while_do w f e c st) s p t

abbrev pub let_goes_on : Spot → Before LetDecls → Named → OfItem → Spot → TokenKind → Option State
let_goes_on w ls n o p (kinds.Mark marks.Equals) = Some (want fresh (in_let w ls n p o))
let_goes_on w ls n o p (kinds.Mark marks.Comma) = Some (let_begun w (comma_after (lets_with ls (unset n)) p) o)
let_goes_on w ls n o p (kinds.Mark marks.Semicolon) = Some (next_item o (lets w (lets_with ls (unset n)) p))
let_goes_on w ls n o p _ = None

abbrev pub returned : Spot → OfStmt → Spot → TokenKind → Option State
returned w s p (kinds.Mark marks.Semicolon) = Some (complete (return_none w p) s)
returned w s p t = cond p.after_line None (wanted fresh (in_return w s) p t)

abbrev pub parametered : Script → Spot → Named → Spot → Before Names → Spot → TokenKind → Option State
parametered s w n f ns p (kinds.Mark marks.CloseParen) = Some (parameters_read s w n f (params_of ns) p)
parametered s w n f ns p (kinds.Name m) = Some (parameter_read s w n f (names_with ns (named_at m p)))
parametered s w n f ns p _ = None

abbrev pub parameter_goes_on : Script → Spot → Named → Spot → Names → Spot → TokenKind → Option State
parameter_goes_on s w n f ns p (kinds.Mark marks.Comma) = Some (parameter s w n f (comma_after ns p))
parameter_goes_on s w n f ns p (kinds.Mark marks.CloseParen) = Some (parameters_read s w n f (params ns) p)
parameter_goes_on s w n f ns p _ = None

-- a token of one kind, and a name
abbrev pub at_mark : Mark → TokenKind → State → Option State
at_mark marks.OpenParen (kinds.Mark marks.OpenParen) r = Some r
at_mark marks.CloseParen (kinds.Mark marks.CloseParen) r = Some r
at_mark marks.OpenBrace (kinds.Mark marks.OpenBrace) r = Some r
at_mark marks.Semicolon (kinds.Mark marks.Semicolon) r = Some r
at_mark marks.Equals (kinds.Mark marks.Equals) r = Some r
at_mark marks.Colon (kinds.Mark marks.Colon) r = Some r
at_mark _ _ r = None

abbrev pub at_name : TokenKind → (List ℕ → State) → Option State
at_name (kinds.Name n) r = Some (r n)
at_name _ r = None

abbrev pub at_any : Option Any → (Any → State) → Option State
at_any None r = None
at_any (Some a) r = Some (r a)

abbrev pub at_catch : TokenKind → State → Option State
at_catch (kinds.Word words.Catch) r = Some r
at_catch _ r = None

abbrev pub caught : Spot → Block → Spot → OfStmt → Spot → TokenKind → Option State
caught w b c s p (kinds.Mark marks.OpenBrace) = Some (items (in_block no_item (catch_of w b c p s)))
caught w b c s p (kinds.Mark marks.OpenParen) = Some (catch_opened w b c p s)
caught w b c s p _ = None

-- what a token leads to
abbrev pub moved : State → Spot → TokenKind → Option State
moved (want l s) p t = wanted l s p t
moved (have u l s) p t = had u l s p t
moved (dotted u d l s) p t = at_any (any_at p t) (λ a. have (member u d a) l s)
moved (argument g f es l s) p t = argued g f es l s p t
moved (element f es l s) p t = elemented f es l s p t
moved (given w n ms f es l s) p t = giving w n ms f es l s p t
moved (new_begun w l s) p t = at_name t (λ n. new_named w (named_at n p) no_member l s)
moved (new_named w n ms l s) p t = newly_named w n ms l s p t
moved (new_dotted w n ms d l s) p t = at_any (any_at p t) (λ a. new_named w n (and_member ms d a) l s)
moved (property f ps l s) p t = propertied f ps l s p t
moved (named_key f ps n l s) p t = name_keyed f ps n l s p t
moved (other_key f ps k l s) p t = at_mark marks.Colon t (want fresh (in_prop f ps k p l s))
moved (items o) p t = itemed o p t
moved (begun s) p t = started s p t
moved (complete st s) p t = after st s p t
moved (if_begun w s) p t = at_mark marks.OpenParen t (want fresh (in_if w p s))
moved (while_begun w s) p t = at_mark marks.OpenParen t (want fresh (in_while w p s))
moved (break_begun w s) p t = at_mark marks.Semicolon t (complete (break_off w p) s)
moved (continue_begun w s) p t = at_mark marks.Semicolon t (complete (continue_on w p) s)
moved (return_begun w s) p t = returned w s p t
moved (throw_begun w s) p t = cond p.after_line None (wanted fresh (in_throw w s) p t)
moved (try_begun w s) p t = at_mark marks.OpenBrace t (items (in_block no_item (try_of w p s)))
moved (try_read w b s) p t = at_catch t (catch_begun w b p s)
moved (catch_begun w b c s) p t = caught w b c s p t
moved (catch_opened w b c f s) p t = at_name t (λ n. catch_named w b c f (named_at n p) s)
moved (catch_named w b c f n s) p t = at_mark marks.CloseParen t (catch_closed w b c f n p s)
moved (catch_closed w b c f n q s) p t = at_mark marks.OpenBrace t (items (in_block no_item (catch_name_of w b c f n q p s)))
moved (let_begun w ls o) p t = at_name t (λ n. let_named w ls (named_at n p) o)
moved (let_named w ls n o) p t = let_goes_on w ls n o p t
moved (const_begun w ls o) p t = at_name t (λ n. const_named w ls (named_at n p) o)
moved (const_named w ls n o) p t = at_mark marks.Equals t (want fresh (in_const w ls n p o))
moved (function_begun s w) p t = at_name t (λ n. function_named s w (named_at n p))
moved (function_named s w n) p t = at_mark marks.OpenParen t (parameter s w n p none_before)
moved (parameter s w n f ns) p t = parametered s w n f ns p t
moved (parameter_read s w n f ns) p t = parameter_goes_on s w n f ns p t
moved (parameters_read s w n f ps q) p t = at_mark marks.OpenBrace t (items (in_block no_item (function_of s w n f ps q p)))

abbrev pub step : State → Sign → Option State
step s t = moved s t.spot t.kind

abbrev pub run : State → List Sign → Option State
run s [] = Some s
run s (t ∷ ts) = elim (step s t) [ None ↦ None | Some r ↦ run r ts ]

-- the script that ends where the tokens end
abbrev pub ends : Stmt → OfStmt → Option Script
ends st (item_of (in_script s)) = Some (and_part s (statement st))
ends st (item_of (in_block xs b)) = None
ends st (then_of w f e c s) = ends (if_then w f e c st) s
ends st (else_of w f e c a o s) = ends (if_else w f e c a o st) s
ends st (body_of w f e c s) = ends (while_do w f e c st) s

abbrev pub accept : State → Option Script
accept (items (in_script s)) = Some s
accept (complete st s) = ends st s
accept _ = None
