-- The numbers of a table's nodes lie in the profile, as those of the tokens that it is made of do.
use Rattle.std.specs.Prelude.{◌≡◌, ℕ, suc, ◌<◌, ◌≤◌, ◌^◌, Some, List, [], ◌∷◌, map, reverse}
use Rattle.std.specs.List.{slice_get}
use Rattle.std.proofs.Common.{sym, subst, arith}
use Rattle.host_lexer.specs.declared.token.Token.{Token}
use Rattle.host_lexer.specs.Numerals.{greatest_big_int}
use Rattle.host_lexer.specs.Tokens.{IsTokenKind, InOrder}
use Rattle.host_grammar.specs.Derivations.{Named, Literal, number, big_int, text, true_word, false_word, null_word, undefined_word, Members, no_member, and_member, Chain, operand, lift, more, Unary, postfix, prefixed, Postfix, primary, member, index, call, Primary, literal, name, paren, array, object, new, Listed, nothing, listed, listed_on, Exprs, one, and_one, Props, no_props, props, props_on, PropList, one_prop, and_prop, Prop, keyed, short, Target, to_name, to_member, to_index, LetDecl, unset, set_to, LetDecls, one_let, and_let, ConstDecl, const_to, ConstDecls, one_const, and_const, Stmt, empty, block, expression, assign, if_then, if_else, while_do, break_off, continue_on, return_none, return_value, throw_value, try_catch, try_catch_name, Block, braces, Items, no_item, and_item, Item, lets, consts, statement, Names, one_name, and_name, Params, no_param, params, params_on, Function, function, Script, no_part, and_function, and_part}
use Rattle.host_grammar.specs.Printing.{Sign, Printed, seen, kind_of, name_of, members_then, chain_then, unary_then, postfix_then, primary_then, listed_then, exprs_then, props_then, prop_list_then, prop_then, target_then, let_then, lets_then, const_then, consts_then, stmt_then, block_then, items_then, item_then, names_then, params_then, function_then, script_then, script_signs}
use Rattle.host_nodes.specs.declared.form.Form.{Form}
use Rattle.host_nodes.specs.declared.form.Node.{Node}
use Rattle.host_nodes.specs.declared.form.Declared.{Declared}
use Rattle.host_nodes.specs.declared.form.Declares.TheVariants as kinds
use Rattle.host_nodes.specs.Tables.{Table, no_table, add, begins, ends, name_after, members_after, literal_form, chain_after, parts_after, unary_after, postfix_after, primary_after, listed_after, exprs_after, props_after, prop_list_after, prop_after, target_after, declared, let_after, lets_after, const_after, consts_after, stmt_after, block_after, items_after, item_after, items_declared, params_declared, function_after, script_table}
use Rattle.host_parser.specs.Trees.{Tree, tree_of, IsTree}
use Rattle.host_parser.specs.Laws.{NumberFits, NumbersFit}
use Rattle.host_parser.proofs.There.{last_or_earlier, last_first}

-- tokens and nodes with numbers of the profile
abbrev AreKinds : List Sign → Type 0
AreKinds [] = Unit {0}
AreKinds (s ∷ ss) = IsTokenKind s.kind × AreKinds ss

abbrev AreNodes : List Node → Type 0
AreNodes [] = Unit {0}
AreNodes (n ∷ ns) = NumberFits n.form × AreNodes ns

in_order_kinds : (at len : ℕ) (ts : List Token) → InOrder at len ts → AreKinds (map seen ts)
in_order_kinds at len [] o = tt
in_order_kinds at len (t ∷ ts) o = (o.2, in_order_kinds t.to len ts o.3)

-- the tokens that are left and the table of those before them
record Fits (y : List Printed) (t : Table) : Type 0 where
  kinds : AreKinds (map (λ p. p.sign) y)
  nodes : AreNodes t.nodes

skip : {p : Printed} {y : List Printed} {t : Table} → Fits (p ∷ y) t → Fits y t
skip h = record { kinds = h.kinds.1; nodes = h.nodes }

one_more : {f : Form} {p : ℕ} {y : List Printed} (t : Table) → NumberFits f → Fits y t → Fits y (add f p t)
one_more t n h = record { kinds = h.kinds; nodes = (n, h.nodes) }

named : {y : List Printed} (n : Named) (t : Table) → Fits (name_of n ∷ y) t → Fits y (name_after n t)
named n t h = record { kinds = h.kinds.1; nodes = (tt, h.nodes) }

-- a literal's number is its token's
literal_fits : (l : Literal) → IsTokenKind (kind_of l) → NumberFits (literal_form l)
literal_fits (number n) h = h
literal_fits (big_int n) h = below n h
  where
    below : (z : ℕ) → z ≤ greatest_big_int → z < 2 ^ 127
    below z h = omega arith
literal_fits (text s) h = tt
literal_fits true_word h = tt
literal_fits false_word h = tt
literal_fits null_word h = tt
literal_fits undefined_word h = tt

members_fit : (ms : Members) (y : List Printed) (t : Table) → Fits (members_then ms y) t → Fits y (members_after ms t)
members_fit no_member y t h = h
members_fit (and_member ms d a) y t h = one_more (members_after ms t) tt (skip (skip (members_fit ms _ t h)))

-- expressions inside d constructs
mutual
  chain_fits : {n : ℕ} (d : ℕ) (c : Chain n) (y : List Printed) (t : Table) → Fits (chain_then d c y) t → Fits y (chain_after c t)
  chain_fits d (operand u) y t h = unary_fits d u y t h
  chain_fits d (lift c) y t h = chain_fits d c y t h
  chain_fits d (more c o p e) y t h = one_more (chain_after e (parts_after c t)) tt (chain_fits d e y (parts_after c t) (skip (parts_fit d c _ t h)))

  parts_fit : {n : ℕ} (d : ℕ) (c : Chain (suc n)) (y : List Printed) (t : Table) → Fits (chain_then d c y) t → Fits y (parts_after c t)
  parts_fit d (lift c) y t h = chain_fits d c y t h
  parts_fit d (more c o p e) y t h = chain_fits d e y (parts_after c t) (skip (parts_fit d c _ t h))

  unary_fits : (d : ℕ) (u : Unary) (y : List Printed) (t : Table) → Fits (unary_then d u y) t → Fits y (unary_after u t)
  unary_fits d (postfix p) y t h = postfix_fits d p y t h
  unary_fits d (prefixed o p u) y t h = one_more (unary_after u t) tt (unary_fits (suc d) u y t (skip h))

  postfix_fits : (d : ℕ) (p : Postfix) (y : List Printed) (t : Table) → Fits (postfix_then d p y) t → Fits y (postfix_after p t)
  postfix_fits d (primary p) y t h = primary_fits d p y t h
  postfix_fits d (member p q a) y t h = one_more (postfix_after p t) tt (skip (skip (postfix_fits d p _ t h)))
  postfix_fits d (index p f e q) y t h = one_more (chain_after e (postfix_after p t)) tt (skip (chain_fits (suc d) e _ (postfix_after p t) (skip (postfix_fits d p _ t h))))
  postfix_fits d (call p f l q) y t h = one_more (listed_after l (postfix_after p t)) tt (skip (listed_fits (suc d) l _ (postfix_after p t) (skip (postfix_fits d p _ t h))))

  primary_fits : (d : ℕ) (p : Primary) (y : List Printed) (t : Table) → Fits (primary_then d p y) t → Fits y (primary_after p t)
  primary_fits d (literal l p) y t h = one_more t (literal_fits l h.kinds.0) (skip h)
  primary_fits d (name n) y t h = named n t h
  primary_fits d (paren f e q) y t h = skip (chain_fits (suc d) e _ t (skip h))
  primary_fits d (array f l q) y t h = one_more (listed_after l t) tt (skip (listed_fits (suc d) l _ t (skip h)))
  primary_fits d (object f ps q) y t h = one_more (props_after ps t) tt (skip (props_fit (suc d) ps _ t (skip h)))
  primary_fits d (new w n ms f l q) y t h = one_more (listed_after l (members_after ms (name_after n t))) tt
      (skip (listed_fits (suc (suc d)) l _ (members_after ms (name_after n t)) (skip (members_fit ms _ (name_after n t) (named n t (skip h))))))

  listed_fits : (d : ℕ) (l : Listed) (y : List Printed) (t : Table) → Fits (listed_then d l y) t → Fits y (listed_after l t)
  listed_fits d nothing y t h = h
  listed_fits d (listed es) y t h = exprs_fit d es y t h
  listed_fits d (listed_on es c) y t h = skip (exprs_fit d es _ t h)

  exprs_fit : (d : ℕ) (es : Exprs) (y : List Printed) (t : Table) → Fits (exprs_then d es y) t → Fits y (exprs_after es t)
  exprs_fit d (one e) y t h = chain_fits d e y t h
  exprs_fit d (and_one es c e) y t h = chain_fits d e y (exprs_after es t) (skip (exprs_fit d es _ t h))

  props_fit : (d : ℕ) (ps : Props) (y : List Printed) (t : Table) → Fits (props_then d ps y) t → Fits y (props_after ps t)
  props_fit d no_props y t h = h
  props_fit d (props ps) y t h = prop_list_fits d ps y t h
  props_fit d (props_on ps c) y t h = skip (prop_list_fits d ps _ t h)

  prop_list_fits : (d : ℕ) (ps : PropList) (y : List Printed) (t : Table) → Fits (prop_list_then d ps y) t → Fits y (prop_list_after ps t)
  prop_list_fits d (one_prop p) y t h = prop_fits d p y t h
  prop_list_fits d (and_prop ps c p) y t h = prop_fits d p y (prop_list_after ps t) (skip (prop_list_fits d ps _ t h))

  prop_fits : (d : ℕ) (p : Prop) (y : List Printed) (t : Table) → Fits (prop_then d p y) t → Fits y (prop_after p t)
  prop_fits d (keyed k c e) y t h = chain_fits d e y t (skip (skip h))
  prop_fits d (short n) y t h = named n t h

target_fits : (d : ℕ) (g : Target) (y : List Printed) (t : Table) → Fits (target_then d g y) t → Fits y (target_after g t)
target_fits d (to_name n) y t h = named n t h
target_fits d (to_member p q a) y t h = postfix_fits d (member p q a) y t h
target_fits d (to_index p f e q) y t h = postfix_fits d (index p f e q) y t h

-- declarations
let_fits : (d : ℕ) (l : LetDecl) (y : List Printed) (t : Table) → Fits (let_then d l y) t → Fits y (let_after l t)
let_fits d (unset n) y t h = named n t h
let_fits d (set_to n m e) y t h = chain_fits d e y (name_after n t) (skip (named n t h))

lets_fit : (d : ℕ) (ls : LetDecls) (y : List Printed) (t : Table) → Fits (lets_then d ls y) t → Fits y (lets_after ls t)
lets_fit d (one_let l) y t h = let_fits d l y t h
lets_fit d (and_let ls c l) y t h = let_fits d l y (lets_after ls t) (skip (lets_fit d ls _ t h))

const_fits : (d : ℕ) (l : ConstDecl) (y : List Printed) (t : Table) → Fits (const_then d l y) t → Fits y (const_after l t)
const_fits d (const_to n m e) y t h = chain_fits d e y (name_after n t) (skip (named n t h))

consts_fit : (d : ℕ) (ls : ConstDecls) (y : List Printed) (t : Table) → Fits (consts_then d ls y) t → Fits y (consts_after ls t)
consts_fit d (one_const l) y t h = const_fits d l y t h
consts_fit d (and_const ls c l) y t h = const_fits d l y (consts_after ls t) (skip (consts_fit d ls _ t h))

-- a scope's begin and end
begun : {y : List Printed} (t : Table) → Fits y t → Fits y (begins t)
begun t h = record { kinds = h.kinds; nodes = h.nodes }

ended : {y : List Printed} (ds : List Declared) (t : Table) → Fits y t → Fits y (ends ds t)
ended ds t h = record { kinds = h.kinds; nodes = h.nodes }

-- statements
mutual
  stmt_fits : (d : ℕ) (s : Stmt) (y : List Printed) (t : Table) → Fits (stmt_then d s y) t → Fits y (stmt_after s t)
  stmt_fits d (empty p) y t h = one_more t tt (skip h)
  stmt_fits d (block b) y t h = block_fits d [] b y t h
  stmt_fits d (expression e q) y t h = one_more (chain_after e t) tt (skip (chain_fits d e _ t h))
  stmt_fits d (assign g m e q) y t h = one_more (chain_after e (target_after g t)) tt (skip (chain_fits d e _ (target_after g t) (skip (target_fits d g _ t h))))
  stmt_fits d (if_then w f e c s) y t h = one_more (stmt_after s (chain_after e t)) tt (stmt_fits (suc d) s y (chain_after e t) (skip (chain_fits (suc (suc d)) e _ t (skip (skip h)))))
  stmt_fits d (if_else w f e c s o r) y t h = one_more (stmt_after r (stmt_after s (chain_after e t))) tt
      (stmt_fits (suc d) r y (stmt_after s (chain_after e t)) (skip (stmt_fits (suc d) s _ (chain_after e t) (skip (chain_fits (suc (suc d)) e _ t (skip (skip h)))))))
  stmt_fits d (while_do w f e c s) y t h = one_more (stmt_after s (chain_after e t)) tt (stmt_fits (suc d) s y (chain_after e t) (skip (chain_fits (suc (suc d)) e _ t (skip (skip h)))))
  stmt_fits d (break_off w q) y t h = one_more t tt (skip (skip h))
  stmt_fits d (continue_on w q) y t h = one_more t tt (skip (skip h))
  stmt_fits d (return_none w q) y t h = one_more t tt (skip (skip h))
  stmt_fits d (return_value w e q) y t h = one_more (chain_after e t) tt (skip (chain_fits d e _ t (skip h)))
  stmt_fits d (throw_value w e q) y t h = one_more (chain_after e t) tt (skip (chain_fits d e _ t (skip h)))
  stmt_fits d (try_catch w b c k) y t h = one_more (block_after [] k (block_after [] b t)) tt (block_fits d [] k y (block_after [] b t) (skip (block_fits d [] b _ t (skip h))))
  stmt_fits d (try_catch_name w b c f n q k) y t h = one_more (block_after (declared kinds.Variable n ∷ []) k (block_after [] b t)) tt
      (block_fits d (declared kinds.Variable n ∷ []) k y (block_after [] b t) (skip (skip (skip (skip (block_fits d [] b _ t (skip h)))))))

  block_fits : (d : ℕ) (ds : List Declared) (b : Block) (y : List Printed) (t : Table) → Fits (block_then d b y) t → Fits y (block_after ds b t)
  block_fits d ds (braces f xs q) y t h = one_more (ends (items_declared xs ds) (items_after xs (begins t))) tt
      (ended (items_declared xs ds) (items_after xs (begins t)) (skip (items_fit (suc d) xs _ (begins t) (begun t (skip h)))))

  items_fit : (d : ℕ) (xs : Items) (y : List Printed) (t : Table) → Fits (items_then d xs y) t → Fits y (items_after xs t)
  items_fit d no_item y t h = h
  items_fit d (and_item xs x) y t h = item_fits d x y (items_after xs t) (items_fit d xs _ t h)

  item_fits : (d : ℕ) (x : Item) (y : List Printed) (t : Table) → Fits (item_then d x y) t → Fits y (item_after x t)
  item_fits d (lets w ls q) y t h = one_more (lets_after ls t) tt (skip (lets_fit d ls _ t (skip h)))
  item_fits d (consts w ls q) y t h = one_more (consts_after ls t) tt (skip (consts_fit d ls _ t (skip h)))
  item_fits d (statement s) y t h = stmt_fits d s y t h

names_fit : (ns : Names) (y : List Printed) (t : Table) → Fits (names_then ns y) t → Fits y t
names_fit (one_name n) y t h = skip h
names_fit (and_name ns c n) y t h = skip (skip (names_fit ns _ t h))

params_fit : (ps : Params) (y : List Printed) (t : Table) → Fits (params_then ps y) t → Fits y t
params_fit no_param y t h = h
params_fit (params ns) y t h = names_fit ns y t h
params_fit (params_on ns c) y t h = skip (names_fit ns _ t h)

function_fits : (f : Function) (y : List Printed) (t : Table) → Fits (function_then f y) t → Fits y (function_after f t)
function_fits (function w n f ps q b) y t h = block_fits 0 (params_declared ps) b y t (skip (params_fit ps _ t (skip (skip (skip h)))))

script_fits : (s : Script) (y : List Printed) → Fits (script_then s y) no_table → Fits y (script_table s)
script_fits no_part y h = h
script_fits (and_function s f) y h = function_fits f y (script_table s) (script_fits s _ h)
script_fits (and_part s x) y h = item_fits 0 x y (script_table s) (script_fits s _ h)

number_at : (ns : List Node) → AreNodes ns → (k : ℕ) (n : Node) → slice_get (reverse ns) k ≡ Some n → NumberFits n.form
number_at [] h k n e = absurd cc
number_at (x ∷ ns) h k n e = last_or_earlier (reverse ns) x n k (subst (λ z. slice_get z k ≡ Some n) (last_first ns x) e) (number_at ns h.1 k n) (λ f g. subst (λ (z : Node). NumberFits z.form) g h.0)

numbers_of : (s : Script) (len : ℕ) → AreKinds (script_signs s) → NumbersFit (tree_of s len)
numbers_of s len h = number_at (script_table s).nodes (script_fits s [] (record { kinds = h; nodes = tt })).nodes

pub numbers_fit : (t : Tree) → IsTree t → NumbersFit t
numbers_fit t h = subst NumbersFit (sym h.is_tree) (numbers_of h.script t.len (subst AreKinds (sym h.is_script.spelled) (in_order_kinds 0 t.len h.tokens h.in_order)))
