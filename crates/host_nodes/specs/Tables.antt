-- The table of nodes of a script: a node for each form of its derivation, after the nodes of its parts, with the names that are
-- mentioned in the order of the text. Nodes and mentions stand with the last one first.
use Rattle.std.specs.Prelude.{ℕ, suc, ◌-◌, true, false, Some, None, List, [], ◌∷◌, ◌++◌, length}
use Rattle.host_lexer.specs.Spellings.{word_chars}
use Rattle.host_grammar.specs.Derivations.{Named, Any, any_name, any_word, Key, any_key, text_key, Literal, number, big_int, text, true_word, false_word, null_word, undefined_word, Operator, times, divided, remainder, plus, minus, less, greater, less_equals, greater_equals, equals, not_equals, and, or, Prefix, negative, not_, type_of, Members, no_member, and_member, Chain, operand, lift, more, Unary, postfix, prefixed, Postfix, primary, member, index, call, Primary, literal, name, paren, array, object, new, Listed, nothing, listed, listed_on, Exprs, one, and_one, Props, no_props, props, props_on, PropList, one_prop, and_prop, Prop, keyed, short, Target, to_name, to_member, to_index, LetDecl, unset, set_to, LetDecls, one_let, and_let, ConstDecl, const_to, ConstDecls, one_const, and_const, Stmt, empty, block, expression, assign, if_then, if_else, while_do, break_off, continue_on, return_none, return_value, throw_value, try_catch, try_catch_name, Block, braces, Items, no_item, and_item, Item, lets, consts, statement, Names, one_name, and_name, Params, no_param, params, params_on, Function, function, Script, no_part, and_function, and_part}
use Rattle.host_grammar.specs.Conditions.{first_of, first_of_target}
use Rattle.host_nodes.specs.declared.form.NodeId.{NodeId}
use Rattle.host_nodes.specs.declared.form.BinaryOperator.{BinaryOperator}
use Rattle.host_nodes.specs.declared.form.BinaryOperator.TheVariants as binary
use Rattle.host_nodes.specs.declared.form.PrefixOperator.{PrefixOperator}
use Rattle.host_nodes.specs.declared.form.PrefixOperator.TheVariants as before
use Rattle.host_nodes.specs.declared.form.Operand.{Operand}
use Rattle.host_nodes.specs.declared.form.Key as code_key
use Rattle.host_nodes.specs.declared.form.Key.TheVariants as keys
use Rattle.host_nodes.specs.declared.form.Property.{Property}
use Rattle.host_nodes.specs.declared.form.Declaration.{Declaration}
use Rattle.host_nodes.specs.declared.form.Form.{Form}
use Rattle.host_nodes.specs.declared.form.Form.TheVariants as forms
use Rattle.host_nodes.specs.declared.form.Node.{Node}
use Rattle.host_nodes.specs.declared.form.Declares.{Declares}
use Rattle.host_nodes.specs.declared.form.Declares.TheVariants as kinds
use Rattle.host_nodes.specs.declared.form.Declared.{Declared}
use Rattle.host_nodes.specs.declared.form.Mention.{Mention}
use Rattle.host_nodes.specs.declared.form.Mention.TheVariants as mentions
use Rattle.host_nodes.specs.declared.form.Function as code_function

-- the nodes, the mentions, and how many references there are, so far
pub record Table : Type 0 where
  pub nodes : List Node
  pub mentions : List Mention
  pub references : ℕ

abbrev pub no_table : Table
no_table = record { nodes = []; mentions = []; references = 0 }

-- one node more
abbrev pub add : Form → ℕ → Table → Table
add f p t = record { nodes = record { form = f; place = p } ∷ t.nodes; mentions = t.mentions; references = t.references }

-- the node that was added last
abbrev pub last : Table → NodeId
last t = record { 0 = length t.nodes - 1 }

-- a name that is referred to
abbrev pub name_form : List ℕ → ℕ → Form
name_form n r = forms.Name n (record { 0 = r })

abbrev pub add_name : List ℕ → ℕ → Table → Table
add_name n p t = record { nodes = record { form = name_form n t.references; place = p } ∷ t.nodes; mentions = mentions.Name n ∷ t.mentions; references = suc t.references }

abbrev pub name_after : Named → Table → Table
name_after n t = add_name n.text n.spot.place t

-- a scope begins, and ends with the names that it declares
abbrev pub begins : Table → Table
begins t = record { nodes = t.nodes; mentions = mentions.Begins ∷ t.mentions; references = t.references }

abbrev pub ends : List Declared → Table → Table
ends ds t = record { nodes = t.nodes; mentions = mentions.Ends ds ∷ t.mentions; references = t.references }

abbrev pub operator_of : {n : ℕ} → Operator n → BinaryOperator
operator_of times = binary.Times
operator_of divided = binary.Divided
operator_of remainder = binary.Remainder
operator_of plus = binary.Plus
operator_of minus = binary.Minus
operator_of less = binary.Less
operator_of greater = binary.Greater
operator_of less_equals = binary.LessEquals
operator_of greater_equals = binary.GreaterEquals
operator_of equals = binary.StrictEquals
operator_of not_equals = binary.StrictNotEquals
operator_of and = binary.And
operator_of or = binary.Or

abbrev pub prefix_of : Prefix → PrefixOperator
prefix_of negative = before.Negative
prefix_of not_ = before.Not
prefix_of type_of = before.TypeOf

abbrev pub literal_form : Literal → Form
literal_form (number n) = forms.Number n
literal_form (big_int n) = forms.BigInt n
literal_form (text s) = forms.Text s
literal_form true_word = forms.Boolean true
literal_form false_word = forms.Boolean false
literal_form null_word = forms.Null
literal_form undefined_word = forms.Undefined

-- a name, or a reserved word by its spelling
abbrev pub any_text : Any → List ℕ
any_text (any_name n) = n.text
any_text (any_word w p) = word_chars w

abbrev pub any_place : Any → ℕ
any_place (any_name n) = n.spot.place
any_place (any_word w p) = p.place

abbrev pub key_of : Key → code_key.Key
key_of (any_key a) = keys.Word (any_text a)
key_of (text_key s p) = keys.Text s

abbrev pub key_place : Key → ℕ
key_place (any_key a) = any_place a
key_place (text_key s p) = p.place

abbrev pub operand_of : NodeId → BinaryOperator → ℕ → Operand
operand_of x o p = record { node = x; operator = o; place = p }

-- the place of the first operator of a chain
abbrev pub operator_place : List Operand → ℕ
operator_place [] = 0
operator_place (x ∷ xs) = x.place

-- the members after the name of a `new`
abbrev pub members_after : Members → Table → Table
members_after no_member t = t
members_after (and_member ms d a) t = add (forms.Member (last (members_after ms t)) (any_text a)) d.place (members_after ms t)

-- the table after a part
abbrev mutual
  pub chain_after : {n : ℕ} → Chain n → Table → Table
  chain_after (operand u) t = unary_after u t
  chain_after (lift c) t = chain_after c t
  chain_after (more c o p e) t = add (forms.Chain (operands c (operator_of o) p.place t) (last (chain_after e (parts_after c t)))) (operator_place (operands c (operator_of o) p.place t)) (chain_after e (parts_after c t))

  -- the operands of a chain that goes on
  pub parts_after : {n : ℕ} → Chain (suc n) → Table → Table
  parts_after (lift c) t = chain_after c t
  parts_after (more c o p e) t = chain_after e (parts_after c t)

  -- these operands, the last one with the operator that follows it
  pub operands : {n : ℕ} → Chain (suc n) → BinaryOperator → ℕ → Table → List Operand
  operands (lift c) o p t = operand_of (last (chain_after c t)) o p ∷ []
  operands (more c q r e) o p t = operands c (operator_of q) r.place t ++ operand_of (last (chain_after e (parts_after c t))) o p ∷ []

  pub unary_after : Unary → Table → Table
  unary_after (postfix p) t = postfix_after p t
  unary_after (prefixed o p u) t = add (forms.Prefix (prefix_of o) (last (unary_after u t))) p.place (unary_after u t)

  pub postfix_after : Postfix → Table → Table
  postfix_after (primary p) t = primary_after p t
  postfix_after (member p d a) t = add (forms.Member (last (postfix_after p t)) (any_text a)) d.place (postfix_after p t)
  postfix_after (index p f e q) t = add (forms.Index (last (postfix_after p t)) (last (chain_after e (postfix_after p t)))) f.place (chain_after e (postfix_after p t))
  postfix_after (call p f l q) t = add (forms.Call (last (postfix_after p t)) (listed_nodes l (postfix_after p t))) f.place (listed_after l (postfix_after p t))

  pub primary_after : Primary → Table → Table
  primary_after (literal l p) t = add (literal_form l) p.place t
  primary_after (name n) t = name_after n t
  primary_after (paren f e q) t = chain_after e t
  primary_after (array f l q) t = add (forms.Array (listed_nodes l t)) f.place (listed_after l t)
  primary_after (object f ps q) t = add (forms.Object (props_list ps t)) f.place (props_after ps t)
  primary_after (new w n ms f l q) t = add (forms.New (last (members_after ms (name_after n t))) (listed_nodes l (members_after ms (name_after n t)))) f.place
      (listed_after l (members_after ms (name_after n t)))

  pub listed_after : Listed → Table → Table
  listed_after nothing t = t
  listed_after (listed es) t = exprs_after es t
  listed_after (listed_on es c) t = exprs_after es t

  pub listed_nodes : Listed → Table → List NodeId
  listed_nodes nothing t = []
  listed_nodes (listed es) t = exprs_nodes es t
  listed_nodes (listed_on es c) t = exprs_nodes es t

  pub exprs_after : Exprs → Table → Table
  exprs_after (one e) t = chain_after e t
  exprs_after (and_one es c e) t = chain_after e (exprs_after es t)

  pub exprs_nodes : Exprs → Table → List NodeId
  exprs_nodes (one e) t = last (chain_after e t) ∷ []
  exprs_nodes (and_one es c e) t = exprs_nodes es t ++ last (chain_after e (exprs_after es t)) ∷ []

  pub props_after : Props → Table → Table
  props_after no_props t = t
  props_after (props ps) t = prop_list_after ps t
  props_after (props_on ps c) t = prop_list_after ps t

  pub props_list : Props → Table → List Property
  props_list no_props t = []
  props_list (props ps) t = properties ps t
  props_list (props_on ps c) t = properties ps t

  pub prop_list_after : PropList → Table → Table
  prop_list_after (one_prop p) t = prop_after p t
  prop_list_after (and_prop ps c p) t = prop_after p (prop_list_after ps t)

  pub properties : PropList → Table → List Property
  properties (one_prop p) t = property p t ∷ []
  properties (and_prop ps c p) t = properties ps t ++ property p (prop_list_after ps t) ∷ []

  pub prop_after : Prop → Table → Table
  prop_after (keyed k c e) t = chain_after e t
  prop_after (short n) t = name_after n t

  pub property : Prop → Table → Property
  property (keyed k c e) t = record { key = key_of k; place = key_place k; value = last (chain_after e t) }
  property (short n) t = record { key = keys.Alone n.text; place = n.spot.place; value = last (name_after n t) }

abbrev pub target_after : Target → Table → Table
target_after (to_name n) t = name_after n t
target_after (to_member p d a) t = postfix_after (member p d a) t
target_after (to_index p f e q) t = postfix_after (index p f e q) t

abbrev pub declared : Declares → Named → Declared
declared k n = record { name = n.text; place = n.spot.place; declares = k }

abbrev pub unset_declaration : NodeId → Declaration
unset_declaration x = record { name = x; value = None }

abbrev pub set_declaration : NodeId → NodeId → Declaration
set_declaration x y = record { name = x; value = Some y }

-- declarations: the table after them, what is told of them, and the names that they declare
abbrev pub let_after : LetDecl → Table → Table
let_after (unset n) t = name_after n t
let_after (set_to n m e) t = chain_after e (name_after n t)

abbrev pub let_told : LetDecl → Table → Declaration
let_told (unset n) t = unset_declaration (last (name_after n t))
let_told (set_to n m e) t = set_declaration (last (name_after n t)) (last (chain_after e (name_after n t)))

abbrev pub let_declared : LetDecl → Declared
let_declared (unset n) = declared kinds.Variable n
let_declared (set_to n m e) = declared kinds.Variable n

abbrev pub lets_after : LetDecls → Table → Table
lets_after (one_let l) t = let_after l t
lets_after (and_let ls c l) t = let_after l (lets_after ls t)

abbrev pub lets_told : LetDecls → Table → List Declaration
lets_told (one_let l) t = let_told l t ∷ []
lets_told (and_let ls c l) t = lets_told ls t ++ let_told l (lets_after ls t) ∷ []

-- the names that are declared after these
abbrev pub lets_declared : LetDecls → List Declared → List Declared
lets_declared (one_let l) ds = ds ++ let_declared l ∷ []
lets_declared (and_let ls c l) ds = lets_declared ls ds ++ let_declared l ∷ []

abbrev pub const_after : ConstDecl → Table → Table
const_after (const_to n m e) t = chain_after e (name_after n t)

abbrev pub const_told : ConstDecl → Table → Declaration
const_told (const_to n m e) t = set_declaration (last (name_after n t)) (last (chain_after e (name_after n t)))

abbrev pub const_declared : ConstDecl → Declared
const_declared (const_to n m e) = declared kinds.Constant n

abbrev pub consts_after : ConstDecls → Table → Table
consts_after (one_const l) t = const_after l t
consts_after (and_const ls c l) t = const_after l (consts_after ls t)

abbrev pub consts_told : ConstDecls → Table → List Declaration
consts_told (one_const l) t = const_told l t ∷ []
consts_told (and_const ls c l) t = consts_told ls t ++ const_told l (consts_after ls t) ∷ []

abbrev pub consts_declared : ConstDecls → List Declared → List Declared
consts_declared (one_const l) ds = ds ++ const_declared l ∷ []
consts_declared (and_const ls c l) ds = consts_declared ls ds ++ const_declared l ∷ []

abbrev pub item_declared : Item → List Declared → List Declared
item_declared (lets w ls q) ds = lets_declared ls ds
item_declared (consts w ls q) ds = consts_declared ls ds
item_declared (statement s) ds = ds

abbrev pub items_declared : Items → List Declared → List Declared
items_declared no_item ds = ds
items_declared (and_item xs x) ds = item_declared x (items_declared xs ds)

abbrev mutual
  pub stmt_after : Stmt → Table → Table
  stmt_after (empty p) t = add forms.Empty p.place t
  stmt_after (block b) t = block_after [] b t
  stmt_after (expression e q) t = add (forms.Expression (last (chain_after e t))) (first_of e).spot.place (chain_after e t)
  stmt_after (assign g m e q) t = add (forms.Assign (last (target_after g t)) (last (chain_after e (target_after g t)))) (first_of_target g).spot.place (chain_after e (target_after g t))
  stmt_after (if_then w f e c s) t = add (forms.If (last (chain_after e t)) (last (stmt_after s (chain_after e t)))) w.place (stmt_after s (chain_after e t))
  stmt_after (if_else w f e c s o r) t = add (forms.IfElse (last (chain_after e t)) (last (stmt_after s (chain_after e t))) (last (stmt_after r (stmt_after s (chain_after e t))))) w.place
      (stmt_after r (stmt_after s (chain_after e t)))
  stmt_after (while_do w f e c s) t = add (forms.While (last (chain_after e t)) (last (stmt_after s (chain_after e t)))) w.place (stmt_after s (chain_after e t))
  stmt_after (break_off w q) t = add forms.Break w.place t
  stmt_after (continue_on w q) t = add forms.Continue w.place t
  stmt_after (return_none w q) t = add (forms.Return None) w.place t
  stmt_after (return_value w e q) t = add (forms.Return (Some (last (chain_after e t)))) w.place (chain_after e t)
  stmt_after (throw_value w e q) t = add (forms.Throw (last (chain_after e t))) w.place (chain_after e t)
  stmt_after (try_catch w b c h) t = add (forms.Try (last (block_after [] b t)) false (last (block_after [] h (block_after [] b t)))) w.place (block_after [] h (block_after [] b t))
  stmt_after (try_catch_name w b c f n q h) t = add (forms.Try (last (block_after [] b t)) true (last (block_after (declared kinds.Variable n ∷ []) h (block_after [] b t)))) w.place
      (block_after (declared kinds.Variable n ∷ []) h (block_after [] b t))

  -- a block, whose scope declares these names before its own
  pub block_after : List Declared → Block → Table → Table
  block_after ds (braces f xs q) t = add (forms.Block (length (items_declared xs ds)) (items_nodes xs (begins t))) f.place (ends (items_declared xs ds) (items_after xs (begins t)))

  pub items_after : Items → Table → Table
  items_after no_item t = t
  items_after (and_item xs x) t = item_after x (items_after xs t)

  pub items_nodes : Items → Table → List NodeId
  items_nodes no_item t = []
  items_nodes (and_item xs x) t = items_nodes xs t ++ last (item_after x (items_after xs t)) ∷ []

  pub item_after : Item → Table → Table
  item_after (lets w ls q) t = add (forms.Let (lets_told ls t)) w.place (lets_after ls t)
  item_after (consts w ls q) t = add (forms.Const (consts_told ls t)) w.place (consts_after ls t)
  item_after (statement s) t = stmt_after s t

abbrev pub names_declared : Names → List Declared
names_declared (one_name n) = declared kinds.Variable n ∷ []
names_declared (and_name ns c n) = names_declared ns ++ declared kinds.Variable n ∷ []

abbrev pub params_declared : Params → List Declared
params_declared no_param = []
params_declared (params ns) = names_declared ns
params_declared (params_on ns c) = names_declared ns

abbrev pub function_after : Function → Table → Table
function_after (function w n f ps q b) t = block_after (params_declared ps) b t

abbrev pub function_told : Function → Table → code_function.Function
function_told (function w n f ps q b) t = record { name = n.text; place = w.place; parameters = length (params_declared ps); body = last (block_after (params_declared ps) b t) }

abbrev pub function_declared : Function → Declared
function_declared (function w n f ps q b) = declared kinds.Function n

-- a script: its table, its functions, its statements, and the names that it declares in the order of the text
abbrev pub script_table : Script → Table
script_table no_part = no_table
script_table (and_function s f) = function_after f (script_table s)
script_table (and_part s x) = item_after x (script_table s)

abbrev pub script_functions : Script → List code_function.Function
script_functions no_part = []
script_functions (and_function s f) = script_functions s ++ function_told f (script_table s) ∷ []
script_functions (and_part s x) = script_functions s

abbrev pub script_top : Script → List NodeId
script_top no_part = []
script_top (and_function s f) = script_top s
script_top (and_part s x) = script_top s ++ last (item_after x (script_table s)) ∷ []

abbrev pub script_declared : Script → List Declared
script_declared no_part = []
script_declared (and_function s f) = script_declared s ++ function_declared f ∷ []
script_declared (and_part s x) = item_declared x (script_declared s)
