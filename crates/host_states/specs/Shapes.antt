-- What the reader shows of a state of the grammar's machine, and what follows from a token.
use Rattle.std.specs.Prelude.{◌≡◌, ℕ, suc, ◌<◌, ◌≤◌, Bool, true, false, List, [], ◌∷◌, Option, Some, None}
use Rattle.std.proofs.Common.{◌⊎◌}
use Rattle.host_states.specs.declared.state.Level as code_level
use Rattle.host_states.specs.declared.state.Around.{Around}
use Rattle.host_states.specs.declared.state.InExpression.{InExpression}
use Rattle.host_states.specs.declared.state.InExpression.TheVariants as at
use Rattle.host_states.specs.declared.state.InStatement.TheVariants as on
use Rattle.host_states.specs.declared.state.InFunction.TheVariants as heads
use Rattle.host_states.specs.declared.state.Open.{Open}
use Rattle.host_states.specs.declared.state.Open.TheVariants as opens
use Rattle.host_states.specs.declared.state.Move.{Move}
use Rattle.host_states.specs.declared.state.Move.TheVariants as moves
use Rattle.host_states.specs.declared.reader.Reader.{Reader}
use Rattle.host_states.specs.Moves.{in_expression, in_statement, in_function}
use Rattle.host_grammar.specs.Derivations.{Postfix, Script}
use Rattle.host_grammar.specs.Refusals.{most_open}
use Rattle.host_grammar.specs.Machine as machine
use Rattle.host_grammar.specs.Machine.{Level, level, OfExpr, in_paren, in_index, in_call, in_array, in_new, in_prop, in_assign, in_if, in_while, in_return, in_throw, in_let, in_const, OfStmt, item_of, then_of, else_of, body_of, OfItem, in_script, in_block, OfBlock, block_of, try_of, catch_of, catch_name_of, function_of, State, want, have, dotted, argument, element, given, new_begun, new_named, new_dotted, property, named_key, other_key, items, begun, complete, if_begun, while_begun, break_begun, continue_begun, return_begun, throw_begun, try_begun, try_read, catch_begun, catch_opened, catch_named, catch_closed, let_begun, let_named, const_begun, const_named, function_begun, function_named, parameter, parameter_read, parameters_read, is_fresh, target_of}
use Rattle.host_grammar.specs.Spelling.{depth, stmt_depth, item_depth, under}

-- whether nothing stands before an operand
abbrev pub is_bare : Level → Bool
is_bare (level ls []) = is_fresh ls
is_bare (level ls (p ∷ ps)) = false

abbrev pub level_of : Level → OfExpr → code_level.Level
level_of l s = record { bare = is_bare l; base = depth s; depth = under l s }

abbrev pub around : OfStmt → Around
around s = record { depth = stmt_depth s; in_loop = machine.in_loop s; in_function = machine.in_function s }

abbrev pub item_around : OfItem → Around
item_around o = record { depth = item_depth o; in_loop = machine.item_in_loop o; in_function = machine.item_in_function o }

-- what stands around a statement of an `if`, an `else` or a `while`
abbrev pub inner : Bool → OfStmt → Around
inner b s = record { depth = suc (stmt_depth s); in_loop = b; in_function = machine.in_function s }

abbrev mutual
  pub expr_stack : OfExpr → List Open
  expr_stack (in_paren f l s) = opens.Paren (level_of l s) ∷ expr_stack s
  expr_stack (in_index g f l s) = opens.Index (level_of l s) ∷ expr_stack s
  expr_stack (in_call g f es l s) = opens.Call (level_of l s) ∷ expr_stack s
  expr_stack (in_array f es l s) = opens.Array (level_of l s) ∷ expr_stack s
  expr_stack (in_new w n ms f es l s) = opens.New (level_of l s) ∷ expr_stack s
  expr_stack (in_prop f ps k c l s) = opens.Object (level_of l s) ∷ expr_stack s
  expr_stack (machine.in_expression s) = opens.Expression (around s) ∷ stmt_stack s
  expr_stack (in_assign g m s) = opens.Assign (around s) ∷ stmt_stack s
  expr_stack (in_if w f s) = opens.If (inner (machine.in_loop s) s) ∷ opens.Then (around s) ∷ stmt_stack s
  expr_stack (in_while w f s) = opens.While (inner true s) ∷ opens.Body (around s) ∷ stmt_stack s
  expr_stack (in_return w s) = opens.Return (around s) ∷ stmt_stack s
  expr_stack (in_throw w s) = opens.Throw (around s) ∷ stmt_stack s
  expr_stack (in_let w ls n m o) = opens.Let (item_around o) ∷ item_stack o
  expr_stack (in_const w ls n m o) = opens.Const (item_around o) ∷ item_stack o

  pub stmt_stack : OfStmt → List Open
  stmt_stack (item_of o) = item_stack o
  stmt_stack (then_of w f e t s) = opens.Then (around s) ∷ stmt_stack s
  stmt_stack (else_of w f e t st q s) = opens.Else (around s) ∷ stmt_stack s
  stmt_stack (body_of w f e t s) = opens.Body (around s) ∷ stmt_stack s

  pub item_stack : OfItem → List Open
  item_stack (in_script s) = []
  item_stack (in_block xs b) = block_stack b

  pub block_stack : OfBlock → List Open
  block_stack (block_of f s) = opens.Block (around s) ∷ stmt_stack s
  block_stack (try_of w f s) = opens.Try (around s) ∷ stmt_stack s
  block_stack (catch_of w b c f s) = opens.Catch (around s) ∷ stmt_stack s
  block_stack (catch_name_of w b c f n t g s) = opens.Catch (around s) ∷ stmt_stack s
  block_stack (function_of s w n f ps t g) = opens.Function ∷ []

-- an operand that may be assigned to, or another
abbrev pub operand_at : Postfix → InExpression
operand_at u = elim (target_of u) [ None ↦ at.Have | Some g ↦ at.Target ]

-- in a list or an object, whose item is on top
abbrev pub at_inner : InExpression → OfExpr → Reader
at_inner a s = in_expression a (record { bare = true; base = depth s; depth = depth s }) (expr_stack s)

abbrev pub at_operand : InExpression → Level → OfExpr → Reader
at_operand a l s = in_expression a (level_of l s) (expr_stack s)

-- what the reader shows of a state
abbrev pub shape : State → Reader
shape (want l s) = at_operand at.Want l s
shape (have u l s) = at_operand (operand_at u) l s
shape (dotted u d l s) = at_operand at.Dotted l s
shape (argument g f es l s) = at_inner at.Argument (in_call g f es l s)
shape (element f es l s) = at_inner at.Element (in_array f es l s)
shape (given w n ms f es l s) = at_inner at.Given (in_new w n ms f es l s)
shape (new_begun w l s) = at_operand at.NewBegun l s
shape (new_named w n ms l s) = at_operand at.NewNamed l s
shape (new_dotted w n ms d l s) = at_operand at.NewDotted l s
shape (property f ps l s) = in_expression at.Property (record { bare = true; base = suc (under l s); depth = suc (under l s) }) (opens.Object (level_of l s) ∷ expr_stack s)
shape (named_key f ps n l s) = in_expression at.NamedKey (record { bare = true; base = suc (under l s); depth = suc (under l s) }) (opens.Object (level_of l s) ∷ expr_stack s)
shape (other_key f ps k l s) = in_expression at.OtherKey (record { bare = true; base = suc (under l s); depth = suc (under l s) }) (opens.Object (level_of l s) ∷ expr_stack s)
shape (items o) = in_statement on.Items (item_around o) (item_stack o)
shape (begun s) = in_statement on.Begun (around s) (stmt_stack s)
shape (complete st s) = in_statement on.Complete (around s) (stmt_stack s)
shape (if_begun w s) = in_statement on.IfBegun (inner (machine.in_loop s) s) (opens.Then (around s) ∷ stmt_stack s)
shape (while_begun w s) = in_statement on.WhileBegun (inner true s) (opens.Body (around s) ∷ stmt_stack s)
shape (break_begun w s) = in_statement on.BreakBegun (around s) (stmt_stack s)
shape (continue_begun w s) = in_statement on.ContinueBegun (around s) (stmt_stack s)
shape (return_begun w s) = in_statement on.ReturnBegun (around s) (stmt_stack s)
shape (throw_begun w s) = in_statement on.ThrowBegun (around s) (stmt_stack s)
shape (try_begun w s) = in_statement on.TryBegun (around s) (stmt_stack s)
shape (try_read w b s) = in_statement on.TryRead (around s) (stmt_stack s)
shape (catch_begun w b c s) = in_statement on.CatchBegun (around s) (stmt_stack s)
shape (catch_opened w b c f s) = in_statement on.CatchOpened (around s) (stmt_stack s)
shape (catch_named w b c f n s) = in_statement on.CatchNamed (around s) (stmt_stack s)
shape (catch_closed w b c f n t s) = in_statement on.CatchClosed (around s) (stmt_stack s)
shape (let_begun w ls o) = in_statement on.LetBegun (item_around o) (item_stack o)
shape (let_named w ls n o) = in_statement on.LetNamed (item_around o) (item_stack o)
shape (const_begun w ls o) = in_statement on.ConstBegun (item_around o) (item_stack o)
shape (const_named w ls n o) = in_statement on.ConstNamed (item_around o) (item_stack o)
shape (function_begun s w) = in_function heads.Begun []
shape (function_named s w n) = in_function heads.Named []
shape (parameter s w n f ns) = in_function heads.Parameter []
shape (parameter_read s w n f ns) = in_function heads.ParameterRead []
shape (parameters_read s w n f ps t) = in_function heads.ParametersRead []

-- whether the tokens may end
abbrev pub accepts : Option Script → Bool
accepts None = false
accepts (Some x) = true

-- what a token that opens the n-th construct, or none, leads to
abbrev pub Follows : Option State → ℕ → Move → Reader → Type 0
Follows None n m r = m ≡ moves.Refused
Follows (Some q) n m r = ((most_open < n) × (m ≡ moves.TooDeep)) ⊎ ((n ≤ most_open) × (m ≡ moves.Went) × (r ≡ shape q))
