-- The tokens that a state of the reader has read, and how many constructs are open there.
use Rattle.std.specs.Prelude.{ℕ, suc, List, [], ◌∷◌}
use Rattle.host_lexer.specs.declared.token.Word.TheVariants as words
use Rattle.host_lexer.specs.declared.token.Mark.TheVariants as marks
use Rattle.host_lexer.specs.declared.token.TokenKind.TheVariants as kinds
use Rattle.host_grammar.specs.Derivations.{Exprs, PropList, LetDecls, ConstDecls, Names}
use Rattle.host_grammar.specs.Printing.{Printed, opening, mark, word, name_of, key_of, operator_mark, prefix_kind, members_then, chain_then, postfix_then, exprs_then, prop_list_then, target_then, lets_then, consts_then, stmt_then, block_then, items_then, names_then, params_then, script_then}
use Rattle.host_grammar.specs.Machine.{Left, nothing_left, before, Lefts, no_left, also, Sigil, sigil, Level, level, Before, none_before, comma_after, OfExpr, in_paren, in_index, in_call, in_array, in_new, in_prop, in_expression, in_assign, in_if, in_while, in_return, in_throw, in_let, in_const, OfStmt, item_of, then_of, else_of, body_of, OfItem, in_script, in_block, OfBlock, block_of, try_of, catch_of, catch_name_of, function_of, State, want, have, dotted, argument, element, given, new_begun, new_named, new_dotted, property, named_key, other_key, items, begun, complete, if_begun, while_begun, break_begun, continue_begun, return_begun, throw_begun, try_begun, try_read, catch_begun, catch_opened, catch_named, catch_closed, let_begun, let_named, const_begun, const_named, function_begun, function_named, parameter, parameter_read, parameters_read}

abbrev pub left_then : {n : ℕ} → ℕ → Left n → List Printed → List Printed
left_then d nothing_left y = y
left_then d (before a o p) y = chain_then d a (mark (operator_mark o) p ∷ y)

abbrev pub lefts_then : {n : ℕ} → ℕ → Lefts n → List Printed → List Printed
lefts_then d no_left y = y
lefts_then d (also l ls) y = left_then d l (lefts_then d ls y)

-- how many constructs are open inside prefix operators
abbrev pub deeper : List Sigil → ℕ → ℕ
deeper [] d = d
deeper (p ∷ ps) d = suc (deeper ps d)

abbrev pub sigils_then : ℕ → List Sigil → List Printed → List Printed
sigils_then d [] y = y
sigils_then d (sigil o p ∷ ps) y = sigils_then d ps (opening (deeper ps d) (prefix_kind o) p ∷ y)

abbrev pub within : Level → ℕ → ℕ
within (level ls ps) d = deeper ps d

abbrev pub level_then : ℕ → Level → List Printed → List Printed
level_then d (level ls ps) y = lefts_then d ls (sigils_then d ps y)

abbrev pub exprs_before : ℕ → Before Exprs → List Printed → List Printed
exprs_before d none_before y = y
exprs_before d (comma_after es c) y = exprs_then d es (mark marks.Comma c ∷ y)

abbrev pub props_before : ℕ → Before PropList → List Printed → List Printed
props_before d none_before y = y
props_before d (comma_after ps c) y = prop_list_then d ps (mark marks.Comma c ∷ y)

abbrev pub lets_before : ℕ → Before LetDecls → List Printed → List Printed
lets_before d none_before y = y
lets_before d (comma_after ls c) y = lets_then d ls (mark marks.Comma c ∷ y)

abbrev pub consts_before : ℕ → Before ConstDecls → List Printed → List Printed
consts_before d none_before y = y
consts_before d (comma_after ls c) y = consts_then d ls (mark marks.Comma c ∷ y)

abbrev pub names_before : Before Names → List Printed → List Printed
names_before none_before y = y
names_before (comma_after ns c) y = names_then ns (mark marks.Comma c ∷ y)

-- how many constructs are open where an expression, a statement or an item is read
abbrev mutual
  pub depth : OfExpr → ℕ
  depth (in_paren f l s) = suc (within l (depth s))
  depth (in_index g f l s) = suc (within l (depth s))
  depth (in_call g f es l s) = suc (within l (depth s))
  depth (in_array f es l s) = suc (within l (depth s))
  depth (in_new w n ms f es l s) = suc (suc (within l (depth s)))
  depth (in_prop f ps k c l s) = suc (within l (depth s))
  depth (in_expression s) = stmt_depth s
  depth (in_assign g m s) = stmt_depth s
  depth (in_if w f s) = suc (suc (stmt_depth s))
  depth (in_while w f s) = suc (suc (stmt_depth s))
  depth (in_return w s) = stmt_depth s
  depth (in_throw w s) = stmt_depth s
  depth (in_let w ls n m o) = item_depth o
  depth (in_const w ls n m o) = item_depth o

  pub stmt_depth : OfStmt → ℕ
  stmt_depth (item_of o) = item_depth o
  stmt_depth (then_of w f e t s) = suc (stmt_depth s)
  stmt_depth (else_of w f e t st o s) = suc (stmt_depth s)
  stmt_depth (body_of w f e t s) = suc (stmt_depth s)

  pub item_depth : OfItem → ℕ
  item_depth (in_script s) = 0
  item_depth (in_block xs b) = block_depth b

  pub block_depth : OfBlock → ℕ
  block_depth (block_of f s) = suc (stmt_depth s)
  block_depth (try_of w f s) = suc (stmt_depth s)
  block_depth (catch_of w b c f s) = suc (stmt_depth s)
  block_depth (catch_name_of w b c f n t g s) = suc (stmt_depth s)
  block_depth (function_of s w n f ps t g) = 1

-- how many constructs are open around an operand
abbrev pub under : Level → OfExpr → ℕ
under l s = within l (depth s)

-- the tokens before what is read
abbrev mutual
  pub expr_before : OfExpr → List Printed → List Printed
  expr_before (in_paren f l s) y = expr_before s (level_then (depth s) l (opening (under l s) (kinds.Mark marks.OpenParen) f ∷ y))
  expr_before (in_index g f l s) y = expr_before s (level_then (depth s) l (postfix_then (under l s) g (opening (under l s) (kinds.Mark marks.OpenBracket) f ∷ y)))
  expr_before (in_call g f es l s) y = expr_before s (level_then (depth s) l (postfix_then (under l s) g
      (opening (under l s) (kinds.Mark marks.OpenParen) f ∷ exprs_before (suc (under l s)) es y)))
  expr_before (in_array f es l s) y = expr_before s (level_then (depth s) l (opening (under l s) (kinds.Mark marks.OpenBracket) f ∷ exprs_before (suc (under l s)) es y))
  expr_before (in_new w n ms f es l s) y = expr_before s (level_then (depth s) l (opening (under l s) (kinds.Word words.New) w ∷ name_of n ∷ members_then ms
      (opening (suc (under l s)) (kinds.Mark marks.OpenParen) f ∷ exprs_before (suc (suc (under l s))) es y)))
  expr_before (in_prop f ps k c l s) y = expr_before s (level_then (depth s) l (opening (under l s) (kinds.Mark marks.OpenBrace) f
      ∷ props_before (suc (under l s)) ps (key_of k ∷ mark marks.Colon c ∷ y)))
  expr_before (in_expression s) y = stmt_before s y
  expr_before (in_assign g m s) y = stmt_before s (target_then (stmt_depth s) g (mark marks.Equals m ∷ y))
  expr_before (in_if w f s) y = stmt_before s (opening (stmt_depth s) (kinds.Word words.If) w ∷ opening (suc (stmt_depth s)) (kinds.Mark marks.OpenParen) f ∷ y)
  expr_before (in_while w f s) y = stmt_before s (opening (stmt_depth s) (kinds.Word words.While) w ∷ opening (suc (stmt_depth s)) (kinds.Mark marks.OpenParen) f ∷ y)
  expr_before (in_return w s) y = stmt_before s (word words.Return w ∷ y)
  expr_before (in_throw w s) y = stmt_before s (word words.Throw w ∷ y)
  expr_before (in_let w ls n m o) y = item_before o (word words.Let w ∷ lets_before (item_depth o) ls (name_of n ∷ mark marks.Equals m ∷ y))
  expr_before (in_const w ls n m o) y = item_before o (word words.Const w ∷ consts_before (item_depth o) ls (name_of n ∷ mark marks.Equals m ∷ y))

  pub stmt_before : OfStmt → List Printed → List Printed
  stmt_before (item_of o) y = item_before o y
  stmt_before (then_of w f e t s) y = stmt_before s (opening (stmt_depth s) (kinds.Word words.If) w ∷ opening (suc (stmt_depth s)) (kinds.Mark marks.OpenParen) f
      ∷ chain_then (suc (suc (stmt_depth s))) e (mark marks.CloseParen t ∷ y))
  stmt_before (else_of w f e t st o s) y = stmt_before s (opening (stmt_depth s) (kinds.Word words.If) w ∷ opening (suc (stmt_depth s)) (kinds.Mark marks.OpenParen) f
      ∷ chain_then (suc (suc (stmt_depth s))) e (mark marks.CloseParen t ∷ stmt_then (suc (stmt_depth s)) st (word words.Else o ∷ y)))
  stmt_before (body_of w f e t s) y = stmt_before s (opening (stmt_depth s) (kinds.Word words.While) w ∷ opening (suc (stmt_depth s)) (kinds.Mark marks.OpenParen) f
      ∷ chain_then (suc (suc (stmt_depth s))) e (mark marks.CloseParen t ∷ y))

  pub item_before : OfItem → List Printed → List Printed
  item_before (in_script s) y = script_then s y
  item_before (in_block xs b) y = block_before b (items_then (block_depth b) xs y)

  pub block_before : OfBlock → List Printed → List Printed
  block_before (block_of f s) y = stmt_before s (opening (stmt_depth s) (kinds.Mark marks.OpenBrace) f ∷ y)
  block_before (try_of w f s) y = stmt_before s (word words.Try w ∷ opening (stmt_depth s) (kinds.Mark marks.OpenBrace) f ∷ y)
  block_before (catch_of w b c f s) y = stmt_before s (word words.Try w ∷ block_then (stmt_depth s) b (word words.Catch c ∷ opening (stmt_depth s) (kinds.Mark marks.OpenBrace) f ∷ y))
  block_before (catch_name_of w b c f n t g s) y = stmt_before s (word words.Try w ∷ block_then (stmt_depth s) b (word words.Catch c
      ∷ opening (stmt_depth s) (kinds.Mark marks.OpenParen) f ∷ name_of n ∷ mark marks.CloseParen t ∷ opening (stmt_depth s) (kinds.Mark marks.OpenBrace) g ∷ y))
  block_before (function_of s w n f ps t g) y = script_then s (word words.Function w ∷ name_of n ∷ opening 0 (kinds.Mark marks.OpenParen) f
      ∷ params_then ps (mark marks.CloseParen t ∷ opening 0 (kinds.Mark marks.OpenBrace) g ∷ y))

abbrev pub at_operand : Level → OfExpr → List Printed → List Printed
at_operand l s y = expr_before s (level_then (depth s) l y)

-- the tokens that a state has read, and what comes after them
abbrev pub state_then : State → List Printed → List Printed
state_then (want l s) y = at_operand l s y
state_then (have u l s) y = at_operand l s (postfix_then (under l s) u y)
state_then (dotted u d l s) y = at_operand l s (postfix_then (under l s) u (mark marks.Dot d ∷ y))
state_then (argument g f es l s) y = expr_before (in_call g f es l s) y
state_then (element f es l s) y = expr_before (in_array f es l s) y
state_then (given w n ms f es l s) y = expr_before (in_new w n ms f es l s) y
state_then (new_begun w l s) y = at_operand l s (opening (under l s) (kinds.Word words.New) w ∷ y)
state_then (new_named w n ms l s) y = at_operand l s (opening (under l s) (kinds.Word words.New) w ∷ name_of n ∷ members_then ms y)
state_then (new_dotted w n ms d l s) y = at_operand l s (opening (under l s) (kinds.Word words.New) w ∷ name_of n ∷ members_then ms (mark marks.Dot d ∷ y))
state_then (property f ps l s) y = at_operand l s (opening (under l s) (kinds.Mark marks.OpenBrace) f ∷ props_before (suc (under l s)) ps y)
state_then (named_key f ps n l s) y = at_operand l s (opening (under l s) (kinds.Mark marks.OpenBrace) f ∷ props_before (suc (under l s)) ps (name_of n ∷ y))
state_then (other_key f ps k l s) y = at_operand l s (opening (under l s) (kinds.Mark marks.OpenBrace) f ∷ props_before (suc (under l s)) ps (key_of k ∷ y))
state_then (items o) y = item_before o y
state_then (begun s) y = stmt_before s y
state_then (complete st s) y = stmt_before s (stmt_then (stmt_depth s) st y)
state_then (if_begun w s) y = stmt_before s (opening (stmt_depth s) (kinds.Word words.If) w ∷ y)
state_then (while_begun w s) y = stmt_before s (opening (stmt_depth s) (kinds.Word words.While) w ∷ y)
state_then (break_begun w s) y = stmt_before s (word words.Break w ∷ y)
state_then (continue_begun w s) y = stmt_before s (word words.Continue w ∷ y)
state_then (return_begun w s) y = stmt_before s (word words.Return w ∷ y)
state_then (throw_begun w s) y = stmt_before s (word words.Throw w ∷ y)
state_then (try_begun w s) y = stmt_before s (word words.Try w ∷ y)
state_then (try_read w b s) y = stmt_before s (word words.Try w ∷ block_then (stmt_depth s) b y)
state_then (catch_begun w b c s) y = stmt_before s (word words.Try w ∷ block_then (stmt_depth s) b (word words.Catch c ∷ y))
state_then (catch_opened w b c f s) y = stmt_before s (word words.Try w ∷ block_then (stmt_depth s) b (word words.Catch c ∷ opening (stmt_depth s) (kinds.Mark marks.OpenParen) f ∷ y))
state_then (catch_named w b c f n s) y = stmt_before s (word words.Try w ∷ block_then (stmt_depth s) b (word words.Catch c ∷ opening (stmt_depth s) (kinds.Mark marks.OpenParen) f ∷ name_of n ∷ y))
state_then (catch_closed w b c f n t s) y = stmt_before s (word words.Try w ∷ block_then (stmt_depth s) b (word words.Catch c ∷ opening (stmt_depth s) (kinds.Mark marks.OpenParen) f ∷ name_of n
    ∷ mark marks.CloseParen t ∷ y))
state_then (let_begun w ls o) y = item_before o (word words.Let w ∷ lets_before (item_depth o) ls y)
state_then (let_named w ls n o) y = item_before o (word words.Let w ∷ lets_before (item_depth o) ls (name_of n ∷ y))
state_then (const_begun w ls o) y = item_before o (word words.Const w ∷ consts_before (item_depth o) ls y)
state_then (const_named w ls n o) y = item_before o (word words.Const w ∷ consts_before (item_depth o) ls (name_of n ∷ y))
state_then (function_begun s w) y = script_then s (word words.Function w ∷ y)
state_then (function_named s w n) y = script_then s (word words.Function w ∷ name_of n ∷ y)
state_then (parameter s w n f ns) y = script_then s (word words.Function w ∷ name_of n ∷ opening 0 (kinds.Mark marks.OpenParen) f ∷ names_before ns y)
state_then (parameter_read s w n f ns) y = script_then s (word words.Function w ∷ name_of n ∷ opening 0 (kinds.Mark marks.OpenParen) f ∷ names_then ns y)
state_then (parameters_read s w n f ps t) y = script_then s (word words.Function w ∷ name_of n ∷ opening 0 (kinds.Mark marks.OpenParen) f ∷ params_then ps (mark marks.CloseParen t ∷ y))
