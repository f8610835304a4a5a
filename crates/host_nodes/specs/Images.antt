-- Private: what the builder holds of a state of the grammar's machine.
use Rattle.std.specs.Prelude.{ℕ, true, false, Option, Some, None, List, [], ◌∷◌, ◌++◌, length}
use Rattle.host_grammar.specs.Derivations.{Named, Exprs, PropList, LetDecls, ConstDecls, Names, Block, Script}
use Rattle.host_grammar.specs.Conditions.{first_of, first_of_postfix, first_of_target}
use Rattle.host_grammar.specs.Machine as machine
use Rattle.host_grammar.specs.Machine.{Left, nothing_left, before, Lefts, no_left, also, Sigil, sigil, level, Before, none_before, comma_after, OfExpr, in_paren, in_index, in_call, in_array, in_new, in_prop, in_expression, in_assign, in_if, in_while, in_return, in_throw, in_let, in_const, OfStmt, item_of, then_of, else_of, body_of, OfItem, in_script, in_block, OfBlock, block_of, try_of, catch_of, catch_name_of, function_of, State, want, have, dotted, argument, element, given, new_begun, new_named, new_dotted, property, named_key, other_key, items, begun, complete, if_begun, while_begun, break_begun, continue_begun, return_begun, throw_begun, try_begun, try_read, catch_begun, catch_opened, catch_named, catch_closed, let_begun, let_named, const_begun, const_named, function_begun, function_named, parameter, parameter_read, parameters_read}
use Rattle.host_nodes.specs.Tables.{Table, last, begins, name_after, operator_of, prefix_of, key_of, key_place, parts_after, operands, chain_after, postfix_after, members_after, exprs_after, exprs_nodes, prop_list_after, properties, target_after, declared, lets_after, lets_told, lets_declared, consts_after, consts_told, consts_declared, items_declared, stmt_after, block_after, items_after, items_nodes, names_declared, params_declared, script_table, script_functions, script_top, script_declared}
use Rattle.host_nodes.specs.Building.{builder, fresh, group_of, object_so_far}
use Rattle.host_nodes.specs.declared.form.NodeId.{NodeId}
use Rattle.host_nodes.specs.declared.form.Property.{Property}
use Rattle.host_nodes.specs.declared.form.Declaration.{Declaration}
use Rattle.host_nodes.specs.declared.form.Declares.TheVariants as declares
use Rattle.host_nodes.specs.declared.form.Declared.{Declared}
use Rattle.host_nodes.specs.declared.form.Key.TheVariants as keys
use Rattle.host_nodes.specs.declared.state.Prefixed.{Prefixed}
use Rattle.host_nodes.specs.declared.state.Group.{Group}
use Rattle.host_nodes.specs.declared.state.Level.{Level}
use Rattle.host_nodes.specs.declared.state.ObjectSoFar.{ObjectSoFar}
use Rattle.host_nodes.specs.declared.state.Owner.{Owner}
use Rattle.host_nodes.specs.declared.state.Owner.TheVariants as owners
use Rattle.host_nodes.specs.declared.state.Item.{Item}
use Rattle.host_nodes.specs.declared.state.Item.TheVariants as open_items
use Rattle.host_nodes.specs.declared.state.At.{At}
use Rattle.host_nodes.specs.declared.state.At.TheVariants as at
use Rattle.host_nodes.specs.declared.builder.Builder.{Builder}

-- what stands before an operand: the table after it, its chains, its prefixes, and its first token's place
abbrev pub left_after : {n : ℕ} → Left n → Table → Table
left_after nothing_left t = t
left_after (before c o p) t = parts_after c t

abbrev pub left_group : {n : ℕ} → Left n → Table → List Group → List Group
left_group nothing_left t gs = gs
left_group {n} (before c o p) t gs = group_of n (operands c (operator_of o) p.place t) ∷ gs

abbrev pub lefts_after : {n : ℕ} → Lefts n → Table → Table
lefts_after no_left t = t
lefts_after (also l ls) t = lefts_after ls (left_after l t)

abbrev pub groups_on : {n : ℕ} → Lefts n → Table → List Group → List Group
groups_on no_left t gs = gs
groups_on (also l ls) t gs = groups_on ls (left_after l t) (left_group l t gs)

abbrev pub prefixes : List Sigil → List Prefixed
prefixes [] = []
prefixes (sigil o p ∷ ps) = record { operator = prefix_of o; place = p.place } ∷ prefixes ps

abbrev pub left_first : {n : ℕ} → Left n → Option ℕ → Option ℕ
left_first nothing_left f = f
left_first (before c o p) f = Some (first_of c).spot.place

abbrev pub lefts_first : {n : ℕ} → Lefts n → Option ℕ → Option ℕ
lefts_first no_left f = f
lefts_first (also l ls) f = left_first l (lefts_first ls f)

abbrev pub sigils_first : List Sigil → Option ℕ → Option ℕ
sigils_first [] f = f
sigils_first (sigil o p ∷ ps) f = sigils_first ps (Some p.place)

abbrev pub level_after : machine.Level → Table → Table
level_after (level ls ps) t = lefts_after ls t

-- with the place of the operand that follows
abbrev pub level_of : machine.Level → Table → Option ℕ → Level
level_of (level ls ps) t f = record { groups = groups_on ls t []; prefixes = prefixes ps; first = lefts_first ls (sigils_first ps f) }

-- lists before a comma
abbrev pub exprs_before : Before Exprs → Table → Table
exprs_before none_before t = t
exprs_before (comma_after es c) t = exprs_after es t

abbrev pub nodes_before : Before Exprs → Table → List NodeId
nodes_before none_before t = []
nodes_before (comma_after es c) t = exprs_nodes es t

abbrev pub props_before : Before PropList → Table → Table
props_before none_before t = t
props_before (comma_after ps c) t = prop_list_after ps t

abbrev pub properties_before : Before PropList → Table → List Property
properties_before none_before t = []
properties_before (comma_after ps c) t = properties ps t

abbrev pub lets_before : Before LetDecls → Table → Table
lets_before none_before t = t
lets_before (comma_after ls c) t = lets_after ls t

abbrev pub lets_told_before : Before LetDecls → Table → List Declaration
lets_told_before none_before t = []
lets_told_before (comma_after ls c) t = lets_told ls t

abbrev pub lets_declared_before : Before LetDecls → List Declared → List Declared
lets_declared_before none_before ds = ds
lets_declared_before (comma_after ls c) ds = lets_declared ls ds

abbrev pub consts_before : Before ConstDecls → Table → Table
consts_before none_before t = t
consts_before (comma_after ls c) t = consts_after ls t

abbrev pub consts_told_before : Before ConstDecls → Table → List Declaration
consts_told_before none_before t = []
consts_told_before (comma_after ls c) t = consts_told ls t

abbrev pub consts_declared_before : Before ConstDecls → List Declared → List Declared
consts_declared_before none_before ds = ds
consts_declared_before (comma_after ls c) ds = consts_declared ls ds

abbrev pub names_before : Before Names → List Declared
names_before none_before = []
names_before (comma_after ns c) = names_declared ns

-- the table where an expression, a statement, an item and a block's items begin
abbrev mutual
  pub expr_table : OfExpr → Table
  expr_table (in_paren f l s) = level_after l (expr_table s)
  expr_table (in_index g f l s) = postfix_after g (level_after l (expr_table s))
  expr_table (in_call g f es l s) = exprs_before es (postfix_after g (level_after l (expr_table s)))
  expr_table (in_array f es l s) = exprs_before es (level_after l (expr_table s))
  expr_table (in_new w n ms f es l s) = exprs_before es (members_after ms (name_after n (level_after l (expr_table s))))
  expr_table (in_prop f ps k c l s) = props_before ps (level_after l (expr_table s))
  expr_table (in_expression s) = stmt_table s
  expr_table (in_assign g m s) = target_after g (stmt_table s)
  expr_table (in_if w f s) = stmt_table s
  expr_table (in_while w f s) = stmt_table s
  expr_table (in_return w s) = stmt_table s
  expr_table (in_throw w s) = stmt_table s
  expr_table (in_let w ls n m o) = name_after n (lets_before ls (item_table o))
  expr_table (in_const w ls n m o) = name_after n (consts_before ls (item_table o))

  pub stmt_table : OfStmt → Table
  stmt_table (item_of o) = item_table o
  stmt_table (then_of w f e c s) = chain_after e (stmt_table s)
  stmt_table (else_of w f e c st o s) = stmt_after st (chain_after e (stmt_table s))
  stmt_table (body_of w f e c s) = chain_after e (stmt_table s)

  pub item_table : OfItem → Table
  item_table (in_script s) = script_table s
  item_table (in_block xs b) = items_after xs (block_table b)

  pub block_table : OfBlock → Table
  block_table (block_of f s) = begins (stmt_table s)
  block_table (try_of w f s) = begins (stmt_table s)
  block_table (catch_of w b c f s) = begins (block_after [] b (stmt_table s))
  block_table (catch_name_of w b c f n q g s) = begins (block_after [] b (stmt_table s))
  block_table (function_of s w n f ps q g) = begins (script_table s)

-- the names that a scope declares before its items, and so far
abbrev pub block_declared : OfBlock → List Declared
block_declared (catch_name_of w b c f n q g s) = declared declares.Variable n ∷ []
block_declared (function_of s w n f ps q g) = params_declared ps
block_declared _ = []

abbrev pub item_declared : OfItem → List Declared
item_declared (in_script s) = script_declared s
item_declared (in_block xs b) = items_declared xs (block_declared b)

abbrev pub script_scope : Script → List Declared → Item
script_scope s ds = open_items.Scope (record { place = 0; declared = ds; items = script_top s }) (owners.Script (script_functions s))

abbrev pub within_function : Script → Named → List Item
within_function s n = script_scope s (script_declared s ++ declared declares.Function n ∷ []) ∷ []

-- a `let` that goes on
abbrev pub let_so_far : ℕ → Before LetDecls → Named → Table → Item
let_so_far p ls n t = open_items.Let p (lets_told_before ls t) (last (name_after n (lets_before ls t)))

abbrev pub const_so_far : ℕ → Before ConstDecls → Named → Table → Item
const_so_far p ls n t = open_items.Const p (consts_told_before ls t) (last (name_after n (consts_before ls t)))

abbrev pub object_before : ℕ → Before PropList → machine.Level → Table → ObjectSoFar
object_before p ps l t = object_so_far p (properties_before ps (level_after l t)) (level_of l t (Some p))

-- what is open around an expression, a statement, an item with the names of its scope, and a block
abbrev mutual
  pub expr_items : OfExpr → List Item
  expr_items (in_paren f l s) = open_items.Paren (level_of l (expr_table s) (Some f.place)) ∷ expr_items s
  expr_items (in_index g f l s) = open_items.Index (last (postfix_after g (level_after l (expr_table s)))) f.place (level_of l (expr_table s) (Some (first_of_postfix g).spot.place)) ∷ expr_items s
  expr_items (in_call g f es l s) = open_items.Call (last (postfix_after g (level_after l (expr_table s)))) f.place (nodes_before es (postfix_after g (level_after l (expr_table s))))
      (level_of l (expr_table s) (Some (first_of_postfix g).spot.place)) ∷ expr_items s
  expr_items (in_array f es l s) = open_items.Array f.place (nodes_before es (level_after l (expr_table s))) (level_of l (expr_table s) (Some f.place)) ∷ expr_items s
  expr_items (in_new w n ms f es l s) = open_items.New (last (members_after ms (name_after n (level_after l (expr_table s))))) f.place
      (nodes_before es (members_after ms (name_after n (level_after l (expr_table s))))) (level_of l (expr_table s) (Some w.place)) ∷ expr_items s
  expr_items (in_prop f ps k c l s) = open_items.Keyed (object_before f.place ps l (expr_table s)) (key_of k) (key_place k) ∷ expr_items s
  expr_items (in_expression s) = open_items.Expression ∷ stmt_items s
  expr_items (in_assign g m s) = open_items.Assign (last (target_after g (stmt_table s))) (first_of_target g).spot.place ∷ stmt_items s
  expr_items (in_if w f s) = open_items.IfTest w.place ∷ stmt_items s
  expr_items (in_while w f s) = open_items.WhileTest w.place ∷ stmt_items s
  expr_items (in_return w s) = open_items.Return w.place ∷ stmt_items s
  expr_items (in_throw w s) = open_items.Throw w.place ∷ stmt_items s
  expr_items (in_let w ls n m o) = let_so_far w.place ls n (item_table o) ∷ item_items o (lets_declared_before ls (item_declared o) ++ declared declares.Variable n ∷ [])
  expr_items (in_const w ls n m o) = const_so_far w.place ls n (item_table o) ∷ item_items o (consts_declared_before ls (item_declared o) ++ declared declares.Constant n ∷ [])

  pub stmt_items : OfStmt → List Item
  stmt_items (item_of o) = item_items o (item_declared o)
  stmt_items (then_of w f e c s) = open_items.Then w.place (last (chain_after e (stmt_table s))) ∷ stmt_items s
  stmt_items (else_of w f e c st o s) = open_items.Else w.place (last (chain_after e (stmt_table s))) (last (stmt_after st (chain_after e (stmt_table s)))) ∷ stmt_items s
  stmt_items (body_of w f e c s) = open_items.Body w.place (last (chain_after e (stmt_table s))) ∷ stmt_items s

  pub item_items : OfItem → List Declared → List Item
  item_items (in_script s) ds = script_scope s ds ∷ []
  item_items (in_block xs b) ds = open_items.Scope (record { place = brace_place b; declared = ds; items = items_nodes xs (block_table b) }) (owner_of b) ∷ block_items b

  pub brace_place : OfBlock → ℕ
  brace_place (block_of f s) = f.place
  brace_place (try_of w f s) = f.place
  brace_place (catch_of w b c f s) = f.place
  brace_place (catch_name_of w b c f n q g s) = g.place
  brace_place (function_of s w n f ps q g) = g.place

  pub owner_of : OfBlock → Owner
  owner_of (block_of f s) = owners.Block
  owner_of (try_of w f s) = owners.Try w.place
  owner_of (catch_of w b c f s) = owners.Catch w.place (last (block_after [] b (stmt_table s))) false
  owner_of (catch_name_of w b c f n q g s) = owners.Catch w.place (last (block_after [] b (stmt_table s))) true
  owner_of (function_of s w n f ps q g) = owners.Function n.text w.place (length (params_declared ps))

  pub block_items : OfBlock → List Item
  block_items (block_of f s) = stmt_items s
  block_items (try_of w f s) = stmt_items s
  block_items (catch_of w b c f s) = stmt_items s
  block_items (catch_name_of w b c f n q g s) = stmt_items s
  block_items (function_of s w n f ps q g) = within_function s n

-- a builder in an expression, and among statements
abbrev pub at_operand : At → machine.Level → OfExpr → Option ℕ → Table → Builder
at_operand a l s f t = builder a (level_of l (expr_table s) f) [] (expr_items s) t

abbrev pub in_list : At → OfExpr → Builder
in_list a s = builder a fresh [] (expr_items s) (expr_table s)

abbrev pub among : At → List Item → Table → Builder
among a is t = builder a fresh [] is t

abbrev pub tried : ℕ → Block → List Declared → OfStmt → List Item
tried p b ds s = open_items.Tried p (last (block_after [] b (stmt_table s))) ds ∷ stmt_items s

abbrev pub headed : Named → ℕ → List Declared → Script → List Item
headed n p ds s = open_items.Head n.text p ds ∷ within_function s n

-- the image of a state
abbrev pub image : State → Builder
image (want l s) = at_operand at.Want l s None (level_after l (expr_table s))
image (have u l s) = at_operand at.Have l s (Some (first_of_postfix u).spot.place) (postfix_after u (level_after l (expr_table s)))
image (dotted u d l s) = at_operand (at.Dotted d.place) l s (Some (first_of_postfix u).spot.place) (postfix_after u (level_after l (expr_table s)))
image (argument g f es l s) = in_list at.Argument (in_call g f es l s)
image (element f es l s) = in_list at.Element (in_array f es l s)
image (given w n ms f es l s) = in_list at.Given (in_new w n ms f es l s)
image (new_begun w l s) = at_operand at.NewBegun l s (Some w.place) (level_after l (expr_table s))
image (new_named w n ms l s) = at_operand at.NewNamed l s (Some w.place) (members_after ms (name_after n (level_after l (expr_table s))))
image (new_dotted w n ms d l s) = at_operand (at.NewDotted d.place) l s (Some w.place) (members_after ms (name_after n (level_after l (expr_table s))))
image (property f ps l s) = among at.Property (open_items.Object (object_before f.place ps l (expr_table s)) ∷ expr_items s) (props_before ps (level_after l (expr_table s)))
image (named_key f ps n l s) = among at.NamedKey (open_items.Keyed (object_before f.place ps l (expr_table s)) (keys.Word n.text) n.spot.place ∷ expr_items s) (props_before ps (level_after l (expr_table s)))
image (other_key f ps k l s) = among at.OtherKey (open_items.Keyed (object_before f.place ps l (expr_table s)) (key_of k) (key_place k) ∷ expr_items s) (props_before ps (level_after l (expr_table s)))
image (items o) = among at.Items (item_items o (item_declared o)) (item_table o)
image (begun s) = among at.Begun (stmt_items s) (stmt_table s)
image (complete st s) = among at.Complete (stmt_items s) (stmt_after st (stmt_table s))
image (if_begun w s) = among (at.IfBegun w.place) (stmt_items s) (stmt_table s)
image (while_begun w s) = among (at.WhileBegun w.place) (stmt_items s) (stmt_table s)
image (break_begun w s) = among (at.BreakBegun w.place) (stmt_items s) (stmt_table s)
image (continue_begun w s) = among (at.ContinueBegun w.place) (stmt_items s) (stmt_table s)
image (return_begun w s) = among (at.ReturnBegun w.place) (stmt_items s) (stmt_table s)
image (throw_begun w s) = among (at.ThrowBegun w.place) (stmt_items s) (stmt_table s)
image (try_begun w s) = among (at.TryBegun w.place) (stmt_items s) (stmt_table s)
image (try_read w b s) = among at.TryRead (tried w.place b [] s) (block_after [] b (stmt_table s))
image (catch_begun w b c s) = among at.CatchBegun (tried w.place b [] s) (block_after [] b (stmt_table s))
image (catch_opened w b c f s) = among at.CatchOpened (tried w.place b [] s) (block_after [] b (stmt_table s))
image (catch_named w b c f n s) = among at.CatchNamed (tried w.place b (declared declares.Variable n ∷ []) s) (block_after [] b (stmt_table s))
image (catch_closed w b c f n q s) = among at.CatchClosed (tried w.place b (declared declares.Variable n ∷ []) s) (block_after [] b (stmt_table s))
image (let_begun w ls o) = builder (at.LetBegun w.place) fresh (lets_told_before ls (item_table o)) (item_items o (lets_declared_before ls (item_declared o))) (lets_before ls (item_table o))
image (let_named w ls n o) = builder (at.LetNamed w.place) fresh (lets_told_before ls (item_table o)) (item_items o (lets_declared_before ls (item_declared o) ++ declared declares.Variable n ∷ []))
    (name_after n (lets_before ls (item_table o)))
image (const_begun w ls o) = builder (at.ConstBegun w.place) fresh (consts_told_before ls (item_table o)) (item_items o (consts_declared_before ls (item_declared o))) (consts_before ls (item_table o))
image (const_named w ls n o) = builder (at.ConstNamed w.place) fresh (consts_told_before ls (item_table o)) (item_items o (consts_declared_before ls (item_declared o) ++ declared declares.Constant n ∷ []))
    (name_after n (consts_before ls (item_table o)))
image (function_begun s w) = among (at.FunctionBegun w.place) (script_scope s (script_declared s) ∷ []) (script_table s)
image (function_named s w n) = among at.FunctionNamed (headed n w.place [] s) (script_table s)
image (parameter s w n f ns) = among at.Parameter (headed n w.place (names_before ns) s) (script_table s)
image (parameter_read s w n f ns) = among at.ParameterRead (headed n w.place (names_declared ns) s) (script_table s)
image (parameters_read s w n f ps q) = among at.ParametersRead (headed n w.place (params_declared ps) s) (script_table s)
