-- What the references of a script are bound to, in the order of the text (ECMA-262, sections 9.1.2.1 and 16.1.7): all names of a scope
-- exist from its start, and a reference is bound by the innermost scope around it that declares its name.
use Rattle.std.specs.Prelude.{ℕ, suc, Bool, true, false, cond, Option, Some, None, List, [], ◌∷◌, ◌++◌, length}
use Rattle.std.specs.Str.{bytes_eq}
use Rattle.host_grammar.specs.Derivations.{Named, Chain, operand, lift, more, Unary, postfix, prefixed, Postfix, primary, member, index, call, Primary, literal, name, paren, array, object, new, Listed, nothing, listed, listed_on, Exprs, one, and_one, Props, no_props, props, props_on, PropList, one_prop, and_prop, Prop, keyed, short, Target, to_name, to_member, to_index, LetDecl, unset, set_to, LetDecls, one_let, and_let, ConstDecl, const_to, ConstDecls, one_const, and_const, Stmt, empty, block, expression, assign, if_then, if_else, while_do, break_off, continue_on, return_none, return_value, throw_value, try_catch, try_catch_name, Block, braces, Items, no_item, and_item, Item, lets, consts, statement, Function, function, Script, no_part, and_function, and_part}
use Rattle.host_nodes.specs.declared.form.Declares.{Declares}
use Rattle.host_nodes.specs.declared.form.Declares.TheVariants as declares
use Rattle.host_nodes.specs.declared.form.Declared.{Declared}
use Rattle.host_nodes.specs.Tables.{declared, items_declared, params_declared, script_declared}
use Rattle.host_parser.specs.declared.predefined.Predefined.{Predefined}
use Rattle.host_parser.specs.Predefined.{predefined_of}
use Rattle.host_parser.specs.declared.binding.Binding.{Binding}
use Rattle.host_parser.specs.declared.binding.Binding.TheVariants as bindings

-- a name that is bound
pub record Entry : Type 0 where
  pub name : List ℕ
  pub binding : Binding

-- the global bindings, and the local ones that are in scope, the innermost first
pub record Environment : Type 0 where
  pub globals : List Entry
  pub locals : List Entry

abbrev pub found : List ℕ → List Entry → Option Binding
found n [] = None
found n (e ∷ es) = cond (bytes_eq e.name n) (Some e.binding) (found n es)

-- a name that no declaration binds
abbrev pub predefined_or_unknown : Option Predefined → Binding
predefined_or_unknown None = bindings.Unknown
predefined_or_unknown (Some p) = bindings.Predefined p

abbrev pub unbound : List ℕ → Binding
unbound n = predefined_or_unknown (predefined_of n)

-- a declared name comes before a predefined one
abbrev pub binding_or_unbound : List ℕ → Option Binding → Binding
binding_or_unbound n None = unbound n
binding_or_unbound n (Some b) = b

abbrev pub binding_of : List ℕ → Environment → Binding
binding_of n e = binding_or_unbound n (found n (e.locals ++ e.globals))

abbrev pub is_constant : Declares → Bool
is_constant declares.Constant = true
is_constant _ = false

abbrev pub entry : List ℕ → Binding → Entry
entry n b = record { name = n; binding = b }

abbrev pub local : ℕ → Declared → Entry
local k d = entry d.name (bindings.Local (record { number = k; constant = is_constant d.declares }))

abbrev pub global : ℕ → Declared → Entry
global k d = entry d.name (bindings.Global (record { number = k; constant = is_constant d.declares }))

-- in a scope that declares these names
abbrev pub enter_one : Declared → Environment → Environment
enter_one d e = record { globals = e.globals; locals = local (length e.locals) d ∷ e.locals }

abbrev pub enter : List Declared → Environment → Environment
enter [] e = e
enter (d ∷ ds) e = enter ds (enter_one d e)

-- the script's scope: functions from one number on, and other declarations from another
abbrev pub global_at : Declares → ℕ → ℕ → ℕ
global_at declares.Function f v = f
global_at _ f v = v

abbrev pub next_function : Declares → ℕ → ℕ
next_function declares.Function f = suc f
next_function _ f = f

abbrev pub next_variable : Declares → ℕ → ℕ
next_variable declares.Function v = v
next_variable _ v = suc v

abbrev pub global_entries : ℕ → ℕ → List Declared → List Entry → List Entry
global_entries f v [] es = es
global_entries f v (d ∷ ds) es = global_entries (next_function d.declares f) (next_variable d.declares v) ds (global (global_at d.declares f v) d ∷ es)

abbrev pub function_count : List Declared → ℕ
function_count [] = 0
function_count (d ∷ ds) = next_function d.declares (function_count ds)

abbrev pub script_environment : List Declared → Environment
script_environment ds = record { globals = global_entries 0 (function_count ds) ds []; locals = [] }

abbrev pub bound_then : Environment → Named → List Binding → List Binding
bound_then e n y = binding_of n.text e ∷ y

-- what the references of a part are bound to, and those after it
abbrev mutual
  pub chain_bound : {n : ℕ} → Environment → Chain n → List Binding → List Binding
  chain_bound e (operand u) y = unary_bound e u y
  chain_bound e (lift c) y = chain_bound e c y
  chain_bound e (more c o p d) y = chain_bound e c (chain_bound e d y)

  pub unary_bound : Environment → Unary → List Binding → List Binding
  unary_bound e (postfix p) y = postfix_bound e p y
  unary_bound e (prefixed o p u) y = unary_bound e u y

  pub postfix_bound : Environment → Postfix → List Binding → List Binding
  postfix_bound e (primary p) y = primary_bound e p y
  postfix_bound e (member p d a) y = postfix_bound e p y
  postfix_bound e (index p f d q) y = postfix_bound e p (chain_bound e d y)
  postfix_bound e (call p f l q) y = postfix_bound e p (listed_bound e l y)

  pub primary_bound : Environment → Primary → List Binding → List Binding
  primary_bound e (literal l p) y = y
  primary_bound e (name n) y = bound_then e n y
  primary_bound e (paren f d q) y = chain_bound e d y
  primary_bound e (array f l q) y = listed_bound e l y
  primary_bound e (object f ps q) y = props_bound e ps y
  primary_bound e (new w n ms f l q) y = bound_then e n (listed_bound e l y)

  pub listed_bound : Environment → Listed → List Binding → List Binding
  listed_bound e nothing y = y
  listed_bound e (listed es) y = exprs_bound e es y
  listed_bound e (listed_on es c) y = exprs_bound e es y

  pub exprs_bound : Environment → Exprs → List Binding → List Binding
  exprs_bound e (one d) y = chain_bound e d y
  exprs_bound e (and_one es c d) y = exprs_bound e es (chain_bound e d y)

  pub props_bound : Environment → Props → List Binding → List Binding
  props_bound e no_props y = y
  props_bound e (props ps) y = prop_list_bound e ps y
  props_bound e (props_on ps c) y = prop_list_bound e ps y

  pub prop_list_bound : Environment → PropList → List Binding → List Binding
  prop_list_bound e (one_prop p) y = prop_bound e p y
  prop_list_bound e (and_prop ps c p) y = prop_list_bound e ps (prop_bound e p y)

  pub prop_bound : Environment → Prop → List Binding → List Binding
  prop_bound e (keyed k c d) y = chain_bound e d y
  prop_bound e (short n) y = bound_then e n y

abbrev pub target_bound : Environment → Target → List Binding → List Binding
target_bound e (to_name n) y = bound_then e n y
target_bound e (to_member p d a) y = postfix_bound e p y
target_bound e (to_index p f d q) y = postfix_bound e p (chain_bound e d y)

abbrev pub let_bound : Environment → LetDecl → List Binding → List Binding
let_bound e (unset n) y = bound_then e n y
let_bound e (set_to n m d) y = bound_then e n (chain_bound e d y)

abbrev pub lets_bound : Environment → LetDecls → List Binding → List Binding
lets_bound e (one_let l) y = let_bound e l y
lets_bound e (and_let ls c l) y = lets_bound e ls (let_bound e l y)

abbrev pub const_bound : Environment → ConstDecl → List Binding → List Binding
const_bound e (const_to n m d) y = bound_then e n (chain_bound e d y)

abbrev pub consts_bound : Environment → ConstDecls → List Binding → List Binding
consts_bound e (one_const l) y = const_bound e l y
consts_bound e (and_const ls c l) y = consts_bound e ls (const_bound e l y)

abbrev mutual
  pub stmt_bound : Environment → Stmt → List Binding → List Binding
  stmt_bound e (empty p) y = y
  stmt_bound e (block b) y = block_bound e [] b y
  stmt_bound e (expression d q) y = chain_bound e d y
  stmt_bound e (assign g m d q) y = target_bound e g (chain_bound e d y)
  stmt_bound e (if_then w f d c s) y = chain_bound e d (stmt_bound e s y)
  stmt_bound e (if_else w f d c s o r) y = chain_bound e d (stmt_bound e s (stmt_bound e r y))
  stmt_bound e (while_do w f d c s) y = chain_bound e d (stmt_bound e s y)
  stmt_bound e (break_off w q) y = y
  stmt_bound e (continue_on w q) y = y
  stmt_bound e (return_none w q) y = y
  stmt_bound e (return_value w d q) y = chain_bound e d y
  stmt_bound e (throw_value w d q) y = chain_bound e d y
  stmt_bound e (try_catch w b c h) y = block_bound e [] b (block_bound e [] h y)
  stmt_bound e (try_catch_name w b c f n q h) y = block_bound e [] b (block_bound e (declared declares.Variable n ∷ []) h y)

  -- a block, whose scope declares these names before its own
  pub block_bound : Environment → List Declared → Block → List Binding → List Binding
  block_bound e ds (braces f xs q) y = items_bound (enter (items_declared xs ds) e) xs y

  pub items_bound : Environment → Items → List Binding → List Binding
  items_bound e no_item y = y
  items_bound e (and_item xs x) y = items_bound e xs (item_bound e x y)

  pub item_bound : Environment → Item → List Binding → List Binding
  item_bound e (lets w ls q) y = lets_bound e ls y
  item_bound e (consts w ls q) y = consts_bound e ls y
  item_bound e (statement s) y = stmt_bound e s y

abbrev pub function_bound : Environment → Function → List Binding → List Binding
function_bound e (function w n f ps q b) y = block_bound e (params_declared ps) b y

abbrev pub parts_bound : Environment → Script → List Binding → List Binding
parts_bound e no_part y = y
parts_bound e (and_function s f) y = parts_bound e s (function_bound e f y)
parts_bound e (and_part s x) y = parts_bound e s (item_bound e x y)

-- what each reference of a script is bound to, by its number
abbrev pub script_bound : Script → List Binding
script_bound s = parts_bound (script_environment (script_declared s)) s []
