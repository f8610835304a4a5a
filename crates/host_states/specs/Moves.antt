-- What a token does where the reader is, as a function of what is open alone.
use Rattle.std.specs.Prelude.{◌≡◌, ℕ, suc, Bool, true, false, cond, nat_lt, List, [], ◌∷◌, Option, Some, None}
use Rattle.host_lexer.specs.declared.token.Word.{Word}
use Rattle.host_lexer.specs.declared.token.Word.TheVariants as words
use Rattle.host_lexer.specs.declared.token.Mark.{Mark}
use Rattle.host_lexer.specs.declared.token.Mark.TheVariants as marks
use Rattle.host_lexer.specs.declared.token.TokenKind.{TokenKind}
use Rattle.host_lexer.specs.declared.token.TokenKind.TheVariants as kinds
use Rattle.host_states.specs.declared.state.Level.{Level}
use Rattle.host_states.specs.declared.state.Around.{Around}
use Rattle.host_states.specs.declared.state.InExpression.{InExpression}
use Rattle.host_states.specs.declared.state.InExpression.TheVariants as at
use Rattle.host_states.specs.declared.state.InStatement.{InStatement}
use Rattle.host_states.specs.declared.state.InStatement.TheVariants as on
use Rattle.host_states.specs.declared.state.InFunction.{InFunction}
use Rattle.host_states.specs.declared.state.InFunction.TheVariants as heads
use Rattle.host_states.specs.declared.state.State.TheVariants as states
use Rattle.host_states.specs.declared.state.Open.{Open}
use Rattle.host_states.specs.declared.state.Open.TheVariants as opens
use Rattle.host_states.specs.declared.state.Move.{Move}
use Rattle.host_states.specs.declared.state.Move.TheVariants as moves
use Rattle.host_states.specs.declared.reader.Reader.{Reader}
use Rattle.host_grammar.specs.Refusals.{most_open}

-- what a token does
pub data Outcome : Type 0 where
  refused : Outcome
  too_deep : Outcome
  went : Reader → Outcome

-- an answer, and the reader after it
abbrev pub Moves : Outcome → Move → Reader → Type 0
Moves refused m r = m ≡ moves.Refused
Moves too_deep m r = m ≡ moves.TooDeep
Moves (went q) m r = (m ≡ moves.Went) × (r ≡ q)

abbrev pub in_expression : InExpression → Level → List Open → Reader
in_expression a l st = record { state = states.Expression a l; stack = st }

abbrev pub in_statement : InStatement → Around → List Open → Reader
in_statement a r st = record { state = states.Statement a r; stack = st }

abbrev pub in_function : InFunction → List Open → Reader
in_function a st = record { state = states.Function a; stack = st }

-- one construct more, where there is room for it
abbrev pub deeper_of : ℕ → Option ℕ
deeper_of d = cond (nat_lt most_open (suc d)) None (Some (suc d))

abbrev pub opening : ℕ → (ℕ → Outcome) → Outcome
opening d k = elim (deeper_of d) [ None ↦ too_deep | Some e ↦ k e ]

abbrev pub fresh_at : ℕ → Level
fresh_at d = record { bare = true; base = d; depth = d }

-- after an operator or in a prefix something stands before the operand
abbrev pub later_at : ℕ → ℕ → Level
later_at b d = record { bare = false; base = b; depth = d }

abbrev pub around_at : ℕ → Around → Around
around_at d a = record { depth = d; in_loop = a.in_loop; in_function = a.in_function }

abbrev pub loop_at : ℕ → Around → Around
loop_at d a = record { depth = d; in_loop = true; in_function = a.in_function }

abbrev pub script_around : Around
script_around = record { depth = 0; in_loop = false; in_function = false }

abbrev pub body_around : Around
body_around = record { depth = 1; in_loop = false; in_function = true }

abbrev pub enters : ℕ → InExpression → Open → List Open → Outcome
enters d a o st = opening d (λ e. went (in_expression a (fresh_at e) (o ∷ st)))

abbrev pub prefixes : Level → List Open → Outcome
prefixes l st = opening l.depth (λ e. went (in_expression at.Want (later_at l.base e) st))

-- an operand begins
abbrev pub wanted_word : Level → List Open → Word → Outcome
wanted_word l st words.True = went (in_expression at.Have l st)
wanted_word l st words.False = went (in_expression at.Have l st)
wanted_word l st words.Null = went (in_expression at.Have l st)
wanted_word l st words.Undefined = went (in_expression at.Have l st)
wanted_word l st words.TypeOf = prefixes l st
wanted_word l st words.New = opening l.depth (λ e. went (in_expression at.NewBegun l st))
wanted_word l st _ = refused

abbrev pub wanted_mark : Level → List Open → Mark → Outcome
wanted_mark l st marks.Minus = prefixes l st
wanted_mark l st marks.Not = prefixes l st
wanted_mark l st marks.OpenParen = enters l.depth at.Want (opens.Paren l) st
wanted_mark l st marks.OpenBracket = enters l.depth at.Element (opens.Array l) st
wanted_mark l st marks.OpenBrace = enters l.depth at.Property (opens.Object l) st
wanted_mark l st _ = refused

abbrev pub wanted : Level → List Open → TokenKind → Outcome
wanted l st (kinds.Name n) = went (in_expression at.Target l st)
wanted l st (kinds.Number n) = went (in_expression at.Have l st)
wanted l st (kinds.BigInt n) = went (in_expression at.Have l st)
wanted l st (kinds.Text t) = went (in_expression at.Have l st)
wanted l st (kinds.Word w) = wanted_word l st w
wanted l st (kinds.Mark m) = wanted_mark l st m

-- after an operand
abbrev pub closed : List Open → Outcome
closed (opens.Paren k ∷ st) = went (in_expression at.Have k st)
closed (opens.Call k ∷ st) = went (in_expression at.Have k st)
closed (opens.New k ∷ st) = went (in_expression at.Have k st)
closed (opens.If a ∷ st) = went (in_statement on.Begun a st)
closed (opens.While a ∷ st) = went (in_statement on.Begun a st)
closed _ = refused

abbrev pub bracketed : List Open → Outcome
bracketed (opens.Index k ∷ st) = went (in_expression at.Target k st)
bracketed (opens.Array k ∷ st) = went (in_expression at.Have k st)
bracketed _ = refused

abbrev pub braced : List Open → Outcome
braced (opens.Object k ∷ st) = went (in_expression at.Have k st)
braced _ = refused

abbrev pub parted : Level → List Open → Outcome
parted l (opens.Call k ∷ st) = went (in_expression at.Argument (fresh_at l.base) (opens.Call k ∷ st))
parted l (opens.New k ∷ st) = went (in_expression at.Given (fresh_at l.base) (opens.New k ∷ st))
parted l (opens.Array k ∷ st) = went (in_expression at.Element (fresh_at l.base) (opens.Array k ∷ st))
parted l (opens.Object k ∷ st) = went (in_expression at.Property (fresh_at l.base) (opens.Object k ∷ st))
parted l (opens.Let a ∷ st) = went (in_statement on.LetBegun a st)
parted l (opens.Const a ∷ st) = went (in_statement on.ConstBegun a st)
parted l _ = refused

abbrev pub ended : List Open → Outcome
ended (opens.Expression a ∷ st) = went (in_statement on.Complete a st)
ended (opens.Assign a ∷ st) = went (in_statement on.Complete a st)
ended (opens.Return a ∷ st) = went (in_statement on.Complete a st)
ended (opens.Throw a ∷ st) = went (in_statement on.Complete a st)
ended (opens.Let a ∷ st) = went (in_statement on.Items a st)
ended (opens.Const a ∷ st) = went (in_statement on.Items a st)
ended _ = refused

abbrev pub equated : Bool → Level → List Open → Outcome
equated true l (opens.Expression a ∷ st) = cond l.bare (went (in_expression at.Want (fresh_at l.base) (opens.Assign a ∷ st))) refused
equated _ l _ = refused

abbrev pub is_operator : Mark → Bool
is_operator marks.Star = true
is_operator marks.Slash = true
is_operator marks.Percent = true
is_operator marks.Plus = true
is_operator marks.Minus = true
is_operator marks.Less = true
is_operator marks.Greater = true
is_operator marks.LessEquals = true
is_operator marks.GreaterEquals = true
is_operator marks.StrictEquals = true
is_operator marks.StrictNotEquals = true
is_operator marks.And = true
is_operator marks.Or = true
is_operator _ = false

abbrev pub operated : Level → List Open → Mark → Outcome
operated l st m = cond (is_operator m) (went (in_expression at.Want (later_at l.base l.base) st)) refused

abbrev pub had_mark : Bool → Level → List Open → Mark → Outcome
had_mark b l st marks.Dot = went (in_expression at.Dotted l st)
had_mark b l st marks.OpenBracket = enters l.depth at.Want (opens.Index l) st
had_mark b l st marks.OpenParen = enters l.depth at.Argument (opens.Call l) st
had_mark b l st marks.CloseParen = closed st
had_mark b l st marks.CloseBracket = bracketed st
had_mark b l st marks.CloseBrace = braced st
had_mark b l st marks.Comma = parted l st
had_mark b l st marks.Semicolon = ended st
had_mark b l st marks.Equals = equated b l st
had_mark b l st m = operated l st m

abbrev pub had : Bool → Level → List Open → TokenKind → Outcome
had b l st (kinds.Mark m) = had_mark b l st m
had b l st _ = refused

abbrev pub any_to : InExpression → Level → List Open → TokenKind → Outcome
any_to a l st (kinds.Name n) = went (in_expression a l st)
any_to a l st (kinds.Word w) = went (in_expression a l st)
any_to a l st _ = refused

abbrev pub name_to : Reader → TokenKind → Outcome
name_to r (kinds.Name n) = went r
name_to r _ = refused

abbrev pub list_goes_on : Mark → Level → List Open → TokenKind → Outcome
list_goes_on marks.CloseParen l st (kinds.Mark marks.CloseParen) = closed st
list_goes_on marks.CloseBracket l st (kinds.Mark marks.CloseBracket) = bracketed st
list_goes_on _ l st t = wanted l st t

-- the list after `new` stands in the `new` too
abbrev pub enters_new : Level → List Open → Outcome
enters_new l st = opening l.depth (λ d. enters d at.Given (opens.New l) st)

abbrev pub newly_named : Level → List Open → TokenKind → Outcome
newly_named l st (kinds.Mark marks.Dot) = went (in_expression at.NewDotted l st)
newly_named l st (kinds.Mark marks.OpenParen) = enters_new l st
newly_named l st _ = refused

abbrev pub propertied : Level → List Open → TokenKind → Outcome
propertied l st (kinds.Mark marks.CloseBrace) = braced st
propertied l st (kinds.Name n) = went (in_expression at.NamedKey l st)
propertied l st (kinds.Word w) = went (in_expression at.OtherKey l st)
propertied l st (kinds.Text t) = went (in_expression at.OtherKey l st)
propertied l st _ = refused

abbrev pub name_keyed : Level → List Open → TokenKind → Outcome
name_keyed l st (kinds.Mark marks.Colon) = went (in_expression at.Want l st)
name_keyed l st (kinds.Mark marks.Comma) = went (in_expression at.Property l st)
name_keyed l st (kinds.Mark marks.CloseBrace) = braced st
name_keyed l st _ = refused

-- a token of one kind
abbrev pub mark_to : Mark → Outcome → TokenKind → Outcome
mark_to marks.Colon o (kinds.Mark marks.Colon) = o
mark_to marks.OpenParen o (kinds.Mark marks.OpenParen) = o
mark_to marks.CloseParen o (kinds.Mark marks.CloseParen) = o
mark_to marks.OpenBrace o (kinds.Mark marks.OpenBrace) = o
mark_to marks.Semicolon o (kinds.Mark marks.Semicolon) = o
mark_to marks.Equals o (kinds.Mark marks.Equals) = o
mark_to _ o _ = refused

abbrev pub catch_to : Outcome → TokenKind → Outcome
catch_to o (kinds.Word words.Catch) = o
catch_to o _ = refused

abbrev pub expression_moved : InExpression → Level → List Open → TokenKind → Outcome
expression_moved at.Want l st t = wanted l st t
expression_moved at.Have l st t = had false l st t
expression_moved at.Target l st t = had true l st t
expression_moved at.Dotted l st t = any_to at.Target l st t
expression_moved at.Argument l st t = list_goes_on marks.CloseParen l st t
expression_moved at.Element l st t = list_goes_on marks.CloseBracket l st t
expression_moved at.Given l st t = list_goes_on marks.CloseParen l st t
expression_moved at.NewBegun l st t = name_to (in_expression at.NewNamed l st) t
expression_moved at.NewNamed l st t = newly_named l st t
expression_moved at.NewDotted l st t = any_to at.NewNamed l st t
expression_moved at.Property l st t = propertied l st t
expression_moved at.NamedKey l st t = name_keyed l st t
expression_moved at.OtherKey l st t = mark_to marks.Colon (went (in_expression at.Want l st)) t

-- a statement begins
abbrev pub begins_inside : InStatement → Around → Open → List Open → Outcome
begins_inside s a o st = opening a.depth (λ d. went (in_statement s (around_at d a) (o ∷ st)))

abbrev pub started_word : Around → List Open → Word → Outcome
started_word a st words.If = begins_inside on.IfBegun a (opens.Then a) st
started_word a st words.While = opening a.depth (λ d. went (in_statement on.WhileBegun (loop_at d a) (opens.Body a ∷ st)))
started_word a st words.Break = cond a.in_loop (went (in_statement on.BreakBegun a st)) refused
started_word a st words.Continue = cond a.in_loop (went (in_statement on.ContinueBegun a st)) refused
started_word a st words.Return = cond a.in_function (went (in_statement on.ReturnBegun a st)) refused
started_word a st words.Throw = went (in_statement on.ThrowBegun a st)
started_word a st words.Try = went (in_statement on.TryBegun a st)
started_word a st w = wanted_word (fresh_at a.depth) (opens.Expression a ∷ st) w

abbrev pub started_mark : Around → List Open → Mark → Outcome
started_mark a st marks.Semicolon = went (in_statement on.Complete a st)
started_mark a st marks.OpenBrace = begins_inside on.Items a (opens.Block a) st
started_mark a st m = wanted_mark (fresh_at a.depth) (opens.Expression a ∷ st) m

abbrev pub started : Around → List Open → TokenKind → Outcome
started a st (kinds.Word w) = started_word a st w
started a st (kinds.Mark m) = started_mark a st m
started a st t = wanted (fresh_at a.depth) (opens.Expression a ∷ st) t

-- an item begins, or the items end
abbrev pub block_ended : List Open → Outcome
block_ended (opens.Block a ∷ st) = went (in_statement on.Complete a st)
block_ended (opens.Try a ∷ st) = went (in_statement on.TryRead a st)
block_ended (opens.Catch a ∷ st) = went (in_statement on.Complete a st)
block_ended (opens.Function ∷ st) = went (in_statement on.Items script_around st)
block_ended _ = refused

abbrev pub function_begins : List Open → Outcome
function_begins [] = went (in_function heads.Begun [])
function_begins (o ∷ st) = refused

abbrev pub itemed_word : Around → List Open → Word → Outcome
itemed_word a st words.Function = function_begins st
itemed_word a st words.Let = went (in_statement on.LetBegun a st)
itemed_word a st words.Const = went (in_statement on.ConstBegun a st)
itemed_word a st w = started_word a st w

abbrev pub itemed : Around → List Open → TokenKind → Outcome
itemed a st (kinds.Mark marks.CloseBrace) = block_ended st
itemed a st (kinds.Word w) = itemed_word a st w
itemed a st t = started a st t

-- the statements that end before a token that is an `else` or another
abbrev pub settled : Around → List Open → Bool → Around × List Open
settled a (opens.Then b ∷ st) true = (a, opens.Then b ∷ st)
settled a (opens.Then b ∷ st) false = settled b st false
settled a (opens.Else b ∷ st) e = settled b st e
settled a (opens.Body b ∷ st) e = settled b st e
settled a st e = (a, st)

-- what stood around a statement that ends
abbrev pub ends_so : Option Open → Bool → Option Around
ends_so (Some (opens.Then b)) e = cond e None (Some b)
ends_so (Some (opens.Else b)) e = Some b
ends_so (Some (opens.Body b)) e = Some b
ends_so _ e = None

abbrev pub else_goes_on : Around → List Open → Outcome
else_goes_on a (opens.Then b ∷ st) = went (in_statement on.Begun a (opens.Else b ∷ st))
else_goes_on a _ = refused

abbrev pub after : Around → List Open → TokenKind → Outcome
after a st (kinds.Word words.Else) = else_goes_on (settled a st true).0 (settled a st true).1
after a st t = itemed (settled a st false).0 (settled a st false).1 t

abbrev pub let_goes_on : Around → List Open → TokenKind → Outcome
let_goes_on a st (kinds.Mark marks.Equals) = went (in_expression at.Want (fresh_at a.depth) (opens.Let a ∷ st))
let_goes_on a st (kinds.Mark marks.Comma) = went (in_statement on.LetBegun a st)
let_goes_on a st (kinds.Mark marks.Semicolon) = went (in_statement on.Items a st)
let_goes_on a st _ = refused

abbrev pub returned : Bool → Around → List Open → TokenKind → Outcome
returned b a st (kinds.Mark marks.Semicolon) = went (in_statement on.Complete a st)
returned b a st t = cond b refused (wanted (fresh_at a.depth) (opens.Return a ∷ st) t)

abbrev pub caught : Around → List Open → TokenKind → Outcome
caught a st (kinds.Mark marks.OpenBrace) = begins_inside on.Items a (opens.Catch a) st
caught a st (kinds.Mark marks.OpenParen) = opening a.depth (λ d. went (in_statement on.CatchOpened a st))
caught a st _ = refused

abbrev pub statement_moved : InStatement → Around → List Open → Bool → TokenKind → Outcome
statement_moved on.Items a st b t = itemed a st t
statement_moved on.Begun a st b t = started a st t
statement_moved on.Complete a st b t = after a st t
statement_moved on.IfBegun a st b t = mark_to marks.OpenParen (enters a.depth at.Want (opens.If a) st) t
statement_moved on.WhileBegun a st b t = mark_to marks.OpenParen (enters a.depth at.Want (opens.While a) st) t
statement_moved on.BreakBegun a st b t = mark_to marks.Semicolon (went (in_statement on.Complete a st)) t
statement_moved on.ContinueBegun a st b t = mark_to marks.Semicolon (went (in_statement on.Complete a st)) t
statement_moved on.ReturnBegun a st b t = returned b a st t
statement_moved on.ThrowBegun a st b t = cond b refused (wanted (fresh_at a.depth) (opens.Throw a ∷ st) t)
statement_moved on.TryBegun a st b t = mark_to marks.OpenBrace (begins_inside on.Items a (opens.Try a) st) t
statement_moved on.TryRead a st b t = catch_to (went (in_statement on.CatchBegun a st)) t
statement_moved on.CatchBegun a st b t = caught a st t
statement_moved on.CatchOpened a st b t = name_to (in_statement on.CatchNamed a st) t
statement_moved on.CatchNamed a st b t = mark_to marks.CloseParen (went (in_statement on.CatchClosed a st)) t
statement_moved on.CatchClosed a st b t = mark_to marks.OpenBrace (begins_inside on.Items a (opens.Catch a) st) t
statement_moved on.LetBegun a st b t = name_to (in_statement on.LetNamed a st) t
statement_moved on.LetNamed a st b t = let_goes_on a st t
statement_moved on.ConstBegun a st b t = name_to (in_statement on.ConstNamed a st) t
statement_moved on.ConstNamed a st b t = mark_to marks.Equals (went (in_expression at.Want (fresh_at a.depth) (opens.Const a ∷ st))) t

abbrev pub parametered : List Open → TokenKind → Outcome
parametered st (kinds.Mark marks.CloseParen) = went (in_function heads.ParametersRead st)
parametered st (kinds.Name n) = went (in_function heads.ParameterRead st)
parametered st _ = refused

abbrev pub parameter_goes_on : List Open → TokenKind → Outcome
parameter_goes_on st (kinds.Mark marks.Comma) = went (in_function heads.Parameter st)
parameter_goes_on st (kinds.Mark marks.CloseParen) = went (in_function heads.ParametersRead st)
parameter_goes_on st _ = refused

abbrev pub function_moved : InFunction → List Open → TokenKind → Outcome
function_moved heads.Begun st t = name_to (in_function heads.Named st) t
function_moved heads.Named st t = mark_to marks.OpenParen (went (in_function heads.Parameter st)) t
function_moved heads.Parameter st t = parametered st t
function_moved heads.ParameterRead st t = parameter_goes_on st t
function_moved heads.ParametersRead st t = mark_to marks.OpenBrace (went (in_statement on.Items body_around (opens.Function ∷ st))) t

abbrev pub moved : Reader → Bool → TokenKind → Outcome
moved r b t = elim r.state [
  | states.Expression a l ↦ expression_moved a l r.stack t
  | states.Statement a s ↦ statement_moved a s r.stack b t
  | states.Function a ↦ function_moved a r.stack t
]

-- whether the tokens may end
abbrev pub is_empty : List Open → Bool
is_empty [] = true
is_empty (o ∷ st) = false

abbrev pub is_whole : Reader → Bool
is_whole r = elim r.state [
  | states.Expression a l ↦ false
  | states.Statement a s ↦ elim a [
    | on.Items ↦ is_empty r.stack
    | on.Complete ↦ is_empty (settled s r.stack false).1
    | _ ↦ false
  ]
  | states.Function a ↦ false
]
