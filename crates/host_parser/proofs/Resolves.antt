-- The mentions of a script are bound as its names are.
use Rattle.std.specs.Prelude.{◌≡◌, ℕ, zero, suc, List, [], ◌∷◌, drop, length, refl}
use Rattle.std.proofs.Common.{◌∙◌, ap}
use Rattle.host_grammar.specs.Derivations.{Named, Members, no_member, and_member, Chain, operand, lift, more, Unary, postfix, prefixed, Postfix, primary, member, index, call, Primary, literal, name, paren, array, object, new, Listed, nothing, listed, listed_on, Exprs, one, and_one, Props, no_props, props, props_on, PropList, one_prop, and_prop, Prop, keyed, short, Target, to_name, to_member, to_index, LetDecl, unset, set_to, LetDecls, one_let, and_let, ConstDecl, const_to, ConstDecls, one_const, and_const, Stmt, empty, block, expression, assign, if_then, if_else, while_do, break_off, continue_on, return_none, return_value, throw_value, try_catch, try_catch_name, Block, braces, Items, no_item, and_item, Item, lets, consts, statement, Function, function, Script, no_part, and_function, and_part}
use Rattle.host_nodes.specs.declared.form.Declares.TheVariants as declares
use Rattle.host_nodes.specs.declared.form.Declared.{Declared}
use Rattle.host_nodes.specs.Tables.{Table, declared, begins, name_after, members_after, chain_after, parts_after, unary_after, postfix_after, primary_after, listed_after, exprs_after, props_after, prop_list_after, prop_after, target_after, let_after, lets_after, const_after, consts_after, stmt_after, block_after, items_after, item_after, items_declared, params_declared, function_after, script_table}
use Rattle.host_parser.specs.declared.binding.Binding.{Binding}
use Rattle.host_parser.specs.Names.{Entry, Environment, local, enter, bound_then, chain_bound, unary_bound, postfix_bound, primary_bound, listed_bound, exprs_bound, props_bound, prop_list_bound, prop_bound, target_bound, let_bound, lets_bound, const_bound, consts_bound, stmt_bound, block_bound, items_bound, item_bound, function_bound, parts_bound}
use Rattle.host_parser.specs.Resolving.{left, resolved}

abbrev pub with_locals : Environment → List Entry → Environment
with_locals e zs = record { globals = e.globals; locals = zs }

abbrev pub with_local : Declared → Environment → Environment
with_local d e = with_locals e (local (length e.locals) d ∷ e.locals)

-- what is entered is left
drop_more : {A : Type 0} (k : ℕ) (zs : List A) → drop (suc k) zs ≡ drop 1 (drop k zs)
drop_more zero zs = refl
drop_more (suc k) [] = refl
drop_more (suc k) (z ∷ zs) = drop_more k zs

left_entered : (ds : List Declared) (e : Environment) → left (length ds) (enter ds e) ≡ e
left_entered [] e = refl
left_entered (d ∷ ds) e = ap (λ (zs : List Entry). (with_locals (enter ds (with_local d e)) zs)) (drop_more (length ds) (enter ds (with_local d e)).locals) ∙ ap (left 1) (left_entered ds (with_local d e))

name_res : (n : Named) (t : Table) (e : Environment) (cs : List ℕ) (y : List Binding) → resolved e cs (name_after n t).mentions y ≡ resolved e cs t.mentions (bound_then e n y)
name_res n t e cs y = refl

members_res : (ms : Members) (t : Table) (e : Environment) (cs : List ℕ) (y : List Binding) → resolved e cs (members_after ms t).mentions y ≡ resolved e cs t.mentions y
members_res no_member t e cs y = refl
members_res (and_member ms d a) t e cs y = members_res ms t e cs y

mutual
  chain_res : {n : ℕ} (c : Chain n) (t : Table) (e : Environment) (cs : List ℕ) (y : List Binding) → resolved e cs (chain_after c t).mentions y ≡ resolved e cs t.mentions (chain_bound e c y)
  chain_res (operand u) t e cs y = unary_res u t e cs y
  chain_res (lift c) t e cs y = chain_res c t e cs y
  chain_res (more c o p d) t e cs y = chain_res d (parts_after c t) e cs y ∙ parts_res c t e cs (chain_bound e d y)

  parts_res : {n : ℕ} (c : Chain (suc n)) (t : Table) (e : Environment) (cs : List ℕ) (y : List Binding) → resolved e cs (parts_after c t).mentions y ≡ resolved e cs t.mentions (chain_bound e c y)
  parts_res (lift c) t e cs y = chain_res c t e cs y
  parts_res (more c o p d) t e cs y = chain_res d (parts_after c t) e cs y ∙ parts_res c t e cs (chain_bound e d y)

  unary_res : (u : Unary) (t : Table) (e : Environment) (cs : List ℕ) (y : List Binding) → resolved e cs (unary_after u t).mentions y ≡ resolved e cs t.mentions (unary_bound e u y)
  unary_res (postfix p) t e cs y = postfix_res p t e cs y
  unary_res (prefixed o p u) t e cs y = unary_res u t e cs y

  postfix_res : (p : Postfix) (t : Table) (e : Environment) (cs : List ℕ) (y : List Binding) → resolved e cs (postfix_after p t).mentions y ≡ resolved e cs t.mentions (postfix_bound e p y)
  postfix_res (primary p) t e cs y = primary_res p t e cs y
  postfix_res (member p d a) t e cs y = postfix_res p t e cs y
  postfix_res (index p f d q) t e cs y = chain_res d (postfix_after p t) e cs y ∙ postfix_res p t e cs (chain_bound e d y)
  postfix_res (call p f l q) t e cs y = listed_res l (postfix_after p t) e cs y ∙ postfix_res p t e cs (listed_bound e l y)

  primary_res : (p : Primary) (t : Table) (e : Environment) (cs : List ℕ) (y : List Binding) → resolved e cs (primary_after p t).mentions y ≡ resolved e cs t.mentions (primary_bound e p y)
  primary_res (literal l p) t e cs y = refl
  primary_res (name n) t e cs y = refl
  primary_res (paren f d q) t e cs y = chain_res d t e cs y
  primary_res (array f l q) t e cs y = listed_res l t e cs y
  primary_res (object f ps q) t e cs y = props_res ps t e cs y
  primary_res (new w n ms f l q) t e cs y = listed_res l (members_after ms (name_after n t)) e cs y ∙ members_res ms (name_after n t) e cs (listed_bound e l y)

  listed_res : (l : Listed) (t : Table) (e : Environment) (cs : List ℕ) (y : List Binding) → resolved e cs (listed_after l t).mentions y ≡ resolved e cs t.mentions (listed_bound e l y)
  listed_res nothing t e cs y = refl
  listed_res (listed es) t e cs y = exprs_res es t e cs y
  listed_res (listed_on es c) t e cs y = exprs_res es t e cs y

  exprs_res : (es : Exprs) (t : Table) (e : Environment) (cs : List ℕ) (y : List Binding) → resolved e cs (exprs_after es t).mentions y ≡ resolved e cs t.mentions (exprs_bound e es y)
  exprs_res (one d) t e cs y = chain_res d t e cs y
  exprs_res (and_one es c d) t e cs y = chain_res d (exprs_after es t) e cs y ∙ exprs_res es t e cs (chain_bound e d y)

  props_res : (ps : Props) (t : Table) (e : Environment) (cs : List ℕ) (y : List Binding) → resolved e cs (props_after ps t).mentions y ≡ resolved e cs t.mentions (props_bound e ps y)
  props_res no_props t e cs y = refl
  props_res (props ps) t e cs y = prop_list_res ps t e cs y
  props_res (props_on ps c) t e cs y = prop_list_res ps t e cs y

  prop_list_res : (ps : PropList) (t : Table) (e : Environment) (cs : List ℕ) (y : List Binding) → resolved e cs (prop_list_after ps t).mentions y ≡ resolved e cs t.mentions (prop_list_bound e ps y)
  prop_list_res (one_prop p) t e cs y = prop_res p t e cs y
  prop_list_res (and_prop ps c p) t e cs y = prop_res p (prop_list_after ps t) e cs y ∙ prop_list_res ps t e cs (prop_bound e p y)

  prop_res : (p : Prop) (t : Table) (e : Environment) (cs : List ℕ) (y : List Binding) → resolved e cs (prop_after p t).mentions y ≡ resolved e cs t.mentions (prop_bound e p y)
  prop_res (keyed k c d) t e cs y = chain_res d t e cs y
  prop_res (short n) t e cs y = refl

target_res : (g : Target) (t : Table) (e : Environment) (cs : List ℕ) (y : List Binding) → resolved e cs (target_after g t).mentions y ≡ resolved e cs t.mentions (target_bound e g y)
target_res (to_name n) t e cs y = refl
target_res (to_member p d a) t e cs y = postfix_res p t e cs y
target_res (to_index p f d q) t e cs y = chain_res d (postfix_after p t) e cs y ∙ postfix_res p t e cs (chain_bound e d y)

let_res : (l : LetDecl) (t : Table) (e : Environment) (cs : List ℕ) (y : List Binding) → resolved e cs (let_after l t).mentions y ≡ resolved e cs t.mentions (let_bound e l y)
let_res (unset n) t e cs y = refl
let_res (set_to n m d) t e cs y = chain_res d (name_after n t) e cs y

lets_res : (ls : LetDecls) (t : Table) (e : Environment) (cs : List ℕ) (y : List Binding) → resolved e cs (lets_after ls t).mentions y ≡ resolved e cs t.mentions (lets_bound e ls y)
lets_res (one_let l) t e cs y = let_res l t e cs y
lets_res (and_let ls c l) t e cs y = let_res l (lets_after ls t) e cs y ∙ lets_res ls t e cs (let_bound e l y)

const_res : (l : ConstDecl) (t : Table) (e : Environment) (cs : List ℕ) (y : List Binding) → resolved e cs (const_after l t).mentions y ≡ resolved e cs t.mentions (const_bound e l y)
const_res (const_to n m d) t e cs y = chain_res d (name_after n t) e cs y

consts_res : (ls : ConstDecls) (t : Table) (e : Environment) (cs : List ℕ) (y : List Binding) → resolved e cs (consts_after ls t).mentions y ≡ resolved e cs t.mentions (consts_bound e ls y)
consts_res (one_const l) t e cs y = const_res l t e cs y
consts_res (and_const ls c l) t e cs y = const_res l (consts_after ls t) e cs y ∙ consts_res ls t e cs (const_bound e l y)

mutual
  stmt_res : (s : Stmt) (t : Table) (e : Environment) (cs : List ℕ) (y : List Binding) → resolved e cs (stmt_after s t).mentions y ≡ resolved e cs t.mentions (stmt_bound e s y)
  stmt_res (empty p) t e cs y = refl
  stmt_res (block b) t e cs y = block_res [] b t e cs y
  stmt_res (expression d q) t e cs y = chain_res d t e cs y
  stmt_res (assign g m d q) t e cs y = chain_res d (target_after g t) e cs y ∙ target_res g t e cs (chain_bound e d y)
  stmt_res (if_then w f d c s) t e cs y = stmt_res s (chain_after d t) e cs y ∙ chain_res d t e cs (stmt_bound e s y)
  stmt_res (if_else w f d c s o r) t e cs y = stmt_res r (stmt_after s (chain_after d t)) e cs y ∙ stmt_res s (chain_after d t) e cs (stmt_bound e r y) ∙ chain_res d t e cs (stmt_bound e s (stmt_bound e r y))
  stmt_res (while_do w f d c s) t e cs y = stmt_res s (chain_after d t) e cs y ∙ chain_res d t e cs (stmt_bound e s y)
  stmt_res (break_off w q) t e cs y = refl
  stmt_res (continue_on w q) t e cs y = refl
  stmt_res (return_none w q) t e cs y = refl
  stmt_res (return_value w d q) t e cs y = chain_res d t e cs y
  stmt_res (throw_value w d q) t e cs y = chain_res d t e cs y
  stmt_res (try_catch w b c h) t e cs y = block_res [] h (block_after [] b t) e cs y ∙ block_res [] b t e cs (block_bound e [] h y)
  stmt_res (try_catch_name w b c f n q h) t e cs y = block_res (declared declares.Variable n ∷ []) h (block_after [] b t) e cs y ∙ block_res [] b t e cs (block_bound e (declared declares.Variable n ∷ []) h y)

  block_res : (ds : List Declared) (b : Block) (t : Table) (e : Environment) (cs : List ℕ) (y : List Binding) → resolved e cs (block_after ds b t).mentions y ≡ resolved e cs t.mentions (block_bound e ds b y)
  block_res ds (braces f xs q) t e cs y = items_res xs (begins t) (enter (items_declared xs ds) e) (length (items_declared xs ds) ∷ cs) y
      ∙ ap (λ (z : Environment). resolved z cs t.mentions (items_bound (enter (items_declared xs ds) e) xs y)) (left_entered (items_declared xs ds) e)

  items_res : (xs : Items) (t : Table) (e : Environment) (cs : List ℕ) (y : List Binding) → resolved e cs (items_after xs t).mentions y ≡ resolved e cs t.mentions (items_bound e xs y)
  items_res no_item t e cs y = refl
  items_res (and_item xs x) t e cs y = item_res x (items_after xs t) e cs y ∙ items_res xs t e cs (item_bound e x y)

  item_res : (x : Item) (t : Table) (e : Environment) (cs : List ℕ) (y : List Binding) → resolved e cs (item_after x t).mentions y ≡ resolved e cs t.mentions (item_bound e x y)
  item_res (lets w ls q) t e cs y = lets_res ls t e cs y
  item_res (consts w ls q) t e cs y = consts_res ls t e cs y
  item_res (statement s) t e cs y = stmt_res s t e cs y

function_res : (f : Function) (t : Table) (e : Environment) (cs : List ℕ) (y : List Binding) → resolved e cs (function_after f t).mentions y ≡ resolved e cs t.mentions (function_bound e f y)
function_res (function w n f ps q b) t e cs y = block_res (params_declared ps) b t e cs y

pub script_res : (s : Script) (e : Environment) (y : List Binding) → resolved e [] (script_table s).mentions y ≡ parts_bound e s y
script_res no_part e y = refl
script_res (and_function s f) e y = function_res f (script_table s) e [] y ∙ script_res s e (function_bound e f y)
script_res (and_part s x) e y = item_res x (script_table s) e [] y ∙ script_res s e (item_bound e x y)
