-- Each state of the machine can be completed.
use Rattle.std.specs.Prelude.{◌≡◌, List, [], ◌∷◌, Some, false, refl}
use Rattle.std.proofs.Common.{◌∙◌}
use Rattle.host_lexer.specs.declared.token.Word.TheVariants as words
use Rattle.host_lexer.specs.declared.token.Mark.TheVariants as marks
use Rattle.host_lexer.specs.declared.token.TokenKind.TheVariants as kinds
use Rattle.host_grammar.specs.Derivations.{Block, ConstDecls, Item, Items, LetDecls, Members, Named, Names, Params, Postfix, Script, Spot, Stmt, and_function, and_item, and_member, and_part, any_name, array, assign, block, braces, break_off, call, const_to, consts, continue_on, empty, expression, function, if_else, index, keyed, lets, listed, literal, member, new, no_item, no_member, nothing, number, object, params, paren, primary, props, return_none, return_value, set_to, short, statement, throw_value, try_catch, try_catch_name, unset, while_do}
use Rattle.host_grammar.specs.Printing.{Printed, mark, name_of, plain, word}
use Rattle.host_grammar.specs.Machine.{Before, Level, OfBlock, OfExpr, OfItem, OfStmt, State, argument, begun, block_of, body_of, break_begun, catch_begun, catch_closed, catch_name_of, catch_named, catch_of, catch_opened, complete, const_begun, const_named, consts_with, continue_begun, dotted, element, else_of, expr_of, exprs_with, fresh, function_begun, function_named, function_of, given, have, if_begun, in_array, in_assign, in_block, in_call, in_const, in_expression, in_if, in_index, in_let, in_new, in_paren, in_prop, in_return, in_script, in_throw, in_while, item_of, items, let_begun, let_named, lets_with, listed_of, named_key, new_begun, new_dotted, new_named, next_of, none_before, other_key, parameter, parameter_read, parameters_read, params_of, property, props_of, props_with, return_begun, step, then_of, throw_begun, try_begun, try_of, try_read, want, while_begun}
use Rattle.host_grammar.proofs.Complete.{else_closes, item_closes, loop_closes}
use Rattle.host_grammar.proofs.Heads.{read, read_step}

-- some tokens complete the state
abbrev pub Ends : State → Type 0
Ends s = (rest : List Printed) × (r : Script) × (read s rest ≡ Some r)

next_token : (s r : State) (m : Printed) → step s m.sign ≡ Some r → Ends r → Ends s
next_token s r m e (rest, x, h) = (m ∷ rest, x, read_step s r m rest e ∙ h)

same : (s r : State) → ((y : List Printed) → read s y ≡ read r y) → Ends r → Ends s
same s r e (rest, x, h) = (rest, x, e rest ∙ h)

abbrev somewhere : Spot
somewhere = record { place = 0; after_line = false }

abbrev close_paren : Printed
close_paren = mark marks.CloseParen somewhere

abbrev close_bracket : Printed
close_bracket = mark marks.CloseBracket somewhere

abbrev close_brace : Printed
close_brace = mark marks.CloseBrace somewhere

abbrev open_paren : Printed
open_paren = mark marks.OpenParen somewhere

abbrev open_brace : Printed
open_brace = mark marks.OpenBrace somewhere

abbrev semicolon : Printed
semicolon = mark marks.Semicolon somewhere

abbrev equals_mark : Printed
equals_mark = mark marks.Equals somewhere

abbrev colon : Printed
colon = mark marks.Colon somewhere

abbrev else_word : Printed
else_word = word words.Else somewhere

abbrev catch_word : Printed
catch_word = word words.Catch somewhere

abbrev some_name : Named
some_name = record { text = []; spot = somewhere }

abbrev name_token : Printed
name_token = name_of some_name

abbrev number_token : Printed
number_token = plain (kinds.Number 0) somewhere

abbrev nothing_done : Stmt
nothing_done = empty somewhere

mutual
  pub expr_ends : (s : OfExpr) (u : Postfix) (l : Level) → Ends (have u l s)
  expr_ends (in_paren f k s) u l = next_token _ _ close_paren refl (expr_ends s (primary (paren f (expr_of l u) somewhere)) k)
  expr_ends (in_index g f k s) u l = next_token _ _ close_bracket refl (expr_ends s (index g f (expr_of l u) somewhere) k)
  expr_ends (in_call g f es k s) u l = next_token _ _ close_paren refl (expr_ends s (call g f (listed (exprs_with es (expr_of l u))) somewhere) k)
  expr_ends (in_array f es k s) u l = next_token _ _ close_bracket refl (expr_ends s (primary (array f (listed (exprs_with es (expr_of l u))) somewhere)) k)
  expr_ends (in_new w n ms f es k s) u l = next_token _ _ close_paren refl (expr_ends s (primary (new w n ms f (listed (exprs_with es (expr_of l u))) somewhere)) k)
  expr_ends (in_prop f ps y c k s) u l = next_token _ _ close_brace refl (expr_ends s (primary (object f (props (props_with ps (keyed y c (expr_of l u)))) somewhere)) k)
  expr_ends (in_expression s) u l = next_token _ _ semicolon refl (stmt_ends s (expression (expr_of l u) somewhere))
  expr_ends (in_assign g m s) u l = next_token _ _ semicolon refl (stmt_ends s (assign g m (expr_of l u) somewhere))
  expr_ends (in_if w f s) u l = next_token _ _ close_paren refl (next_token _ _ semicolon refl (next_token _ _ else_word refl (next_token _ _ semicolon refl
      (same _ _ (else_closes nothing_done w f (expr_of l u) somewhere nothing_done somewhere s) (stmt_ends s (if_else w f (expr_of l u) somewhere nothing_done somewhere nothing_done))))))
  expr_ends (in_while w f s) u l = next_token _ _ close_paren refl (next_token _ _ semicolon refl
      (same _ _ (loop_closes nothing_done w f (expr_of l u) somewhere s) (stmt_ends s (while_do w f (expr_of l u) somewhere nothing_done))))
  expr_ends (in_return w s) u l = next_token _ _ semicolon refl (stmt_ends s (return_value w (expr_of l u) somewhere))
  expr_ends (in_throw w s) u l = next_token _ _ semicolon refl (stmt_ends s (throw_value w (expr_of l u) somewhere))
  expr_ends (in_let w ls n m o) u l = next_token _ _ semicolon refl (next_ends o (lets w (lets_with ls (set_to n m (expr_of l u))) somewhere))
  expr_ends (in_const w ls n m o) u l = next_token _ _ semicolon refl (next_ends o (consts w (consts_with ls (const_to n m (expr_of l u))) somewhere))

  pub stmt_ends : (s : OfStmt) (st : Stmt) → Ends (complete st s)
  stmt_ends (item_of o) st = same _ _ (item_closes st o) (next_ends o (statement st))
  stmt_ends (then_of w f e t s) st = next_token _ _ else_word refl (next_token _ _ semicolon refl
      (same _ _ (else_closes nothing_done w f e t st somewhere s) (stmt_ends s (if_else w f e t st somewhere nothing_done))))
  stmt_ends (else_of w f e t a q s) st = same _ _ (else_closes st w f e t a q s) (stmt_ends s (if_else w f e t a q st))
  stmt_ends (body_of w f e t s) st = same _ _ (loop_closes st w f e t s) (stmt_ends s (while_do w f e t st))

  pub next_ends : (o : OfItem) (x : Item) → Ends (items (next_of o x))
  next_ends (in_script s) x = ([], and_part s x, refl)
  next_ends (in_block xs b) x = block_ends b (and_item xs x)

  pub block_ends : (b : OfBlock) (xs : Items) → Ends (items (in_block xs b))
  block_ends (block_of f s) xs = next_token _ _ close_brace refl (stmt_ends s (block (braces f xs somewhere)))
  block_ends (try_of w f s) xs = next_token _ _ close_brace refl (next_token _ _ catch_word refl (next_token _ _ open_brace refl (next_token _ _ close_brace refl
      (stmt_ends s (try_catch w (braces f xs somewhere) somewhere (braces somewhere no_item somewhere))))))
  block_ends (catch_of w b c f s) xs = next_token _ _ close_brace refl (stmt_ends s (try_catch w b c (braces f xs somewhere)))
  block_ends (catch_name_of w b c f n t g s) xs = next_token _ _ close_brace refl (stmt_ends s (try_catch_name w b c f n t (braces g xs somewhere)))
  block_ends (function_of s w n f ps t g) xs = next_token _ _ close_brace refl ([], and_function s (function w n f ps t (braces g xs somewhere)), refl)

item_ends : (o : OfItem) → Ends (items o)
item_ends (in_script s) = ([], s, refl)
item_ends (in_block xs b) = block_ends b xs

want_ends : (l : Level) (s : OfExpr) → Ends (want l s)
want_ends l s = next_token _ _ number_token refl (expr_ends s (primary (literal (number 0) somewhere)) l)

begun_ends : (s : OfStmt) → Ends (begun s)
begun_ends s = next_token _ _ semicolon refl (stmt_ends s nothing_done)

named_ends : (w : Spot) (n : Named) (ms : Members) (l : Level) (s : OfExpr) → Ends (new_named w n ms l s)
named_ends w n ms l s = next_token _ _ open_paren refl (next_token _ _ close_paren refl (expr_ends s (primary (new w n ms somewhere nothing somewhere)) l))

params_end : (s : Script) (w : Spot) (n : Named) (f : Spot) (ps : Params) (t : Spot) → Ends (parameters_read s w n f ps t)
params_end s w n f ps t = next_token _ _ open_brace refl (block_ends (function_of s w n f ps t somewhere) no_item)

parameter_ends : (s : Script) (w : Spot) (n : Named) (f : Spot) (b : Before Names) → Ends (parameter s w n f b)
parameter_ends s w n f b = next_token _ _ close_paren refl (params_end s w n f (params_of b) somewhere)

let_ends_at : (w : Spot) (ls : Before LetDecls) (n : Named) (o : OfItem) → Ends (let_named w ls n o)
let_ends_at w ls n o = next_token _ _ semicolon refl (next_ends o (lets w (lets_with ls (unset n)) somewhere))

const_ends_at : (w : Spot) (ls : Before ConstDecls) (n : Named) (o : OfItem) → Ends (const_named w ls n o)
const_ends_at w ls n o = next_token _ _ equals_mark refl (want_ends fresh (in_const w ls n somewhere o))

closed_ends : (w : Spot) (b : Block) (c f : Spot) (n : Named) (t : Spot) (s : OfStmt) → Ends (catch_closed w b c f n t s)
closed_ends w b c f n t s = next_token _ _ open_brace refl (block_ends (catch_name_of w b c f n t somewhere s) no_item)

pub states_end : (s : State) → Ends s
states_end (want l s) = want_ends l s
states_end (have u l s) = expr_ends s u l
states_end (dotted u d l s) = next_token _ _ name_token refl (expr_ends s (member u d (any_name some_name)) l)
states_end (argument g f es l s) = next_token _ _ close_paren refl (expr_ends s (call g f (listed_of es) somewhere) l)
states_end (element f es l s) = next_token _ _ close_bracket refl (expr_ends s (primary (array f (listed_of es) somewhere)) l)
states_end (given w n ms f es l s) = next_token _ _ close_paren refl (expr_ends s (primary (new w n ms f (listed_of es) somewhere)) l)
states_end (new_begun w l s) = next_token _ _ name_token refl (named_ends w some_name no_member l s)
states_end (new_named w n ms l s) = named_ends w n ms l s
states_end (new_dotted w n ms d l s) = next_token _ _ name_token refl (named_ends w n (and_member ms d (any_name some_name)) l s)
states_end (property f ps l s) = next_token _ _ close_brace refl (expr_ends s (primary (object f (props_of ps) somewhere)) l)
states_end (named_key f ps n l s) = next_token _ _ close_brace refl (expr_ends s (primary (object f (props (props_with ps (short n))) somewhere)) l)
states_end (other_key f ps k l s) = next_token _ _ colon refl (want_ends fresh (in_prop f ps k somewhere l s))
states_end (items o) = item_ends o
states_end (begun s) = begun_ends s
states_end (complete st s) = stmt_ends s st
states_end (if_begun w s) = next_token _ _ open_paren refl (want_ends fresh (in_if w somewhere s))
states_end (while_begun w s) = next_token _ _ open_paren refl (want_ends fresh (in_while w somewhere s))
states_end (break_begun w s) = next_token _ _ semicolon refl (stmt_ends s (break_off w somewhere))
states_end (continue_begun w s) = next_token _ _ semicolon refl (stmt_ends s (continue_on w somewhere))
states_end (return_begun w s) = next_token _ _ semicolon refl (stmt_ends s (return_none w somewhere))
states_end (throw_begun w s) = next_token _ _ number_token refl (expr_ends (in_throw w s) (primary (literal (number 0) somewhere)) fresh)
states_end (try_begun w s) = next_token _ _ open_brace refl (block_ends (try_of w somewhere s) no_item)
states_end (try_read w b s) = next_token _ _ catch_word refl (next_token _ _ open_brace refl (block_ends (catch_of w b somewhere somewhere s) no_item))
states_end (catch_begun w b c s) = next_token _ _ open_brace refl (block_ends (catch_of w b c somewhere s) no_item)
states_end (catch_opened w b c f s) = next_token _ _ name_token refl (next_token _ _ close_paren refl (closed_ends w b c f some_name somewhere s))
states_end (catch_named w b c f n s) = next_token _ _ close_paren refl (closed_ends w b c f n somewhere s)
states_end (catch_closed w b c f n t s) = closed_ends w b c f n t s
states_end (let_begun w ls o) = next_token _ _ name_token refl (let_ends_at w ls some_name o)
states_end (let_named w ls n o) = let_ends_at w ls n o
states_end (const_begun w ls o) = next_token _ _ name_token refl (const_ends_at w ls some_name o)
states_end (const_named w ls n o) = const_ends_at w ls n o
states_end (function_begun s w) = next_token _ _ name_token refl (next_token _ _ open_paren refl (parameter_ends s w some_name somewhere none_before))
states_end (function_named s w n) = next_token _ _ open_paren refl (parameter_ends s w n somewhere none_before)
states_end (parameter s w n f b) = parameter_ends s w n f b
states_end (parameter_read s w n f ns) = next_token _ _ close_paren refl (params_end s w n f (params ns) somewhere)
states_end (parameters_read s w n f ps t) = params_end s w n f ps t
