-- The names that the scopes of a script declare stand among its tokens, so that one place has one of them.
use Rattle.std.specs.Prelude.{◌≡◌, ℕ, suc, ◌≤◌, ◌<◌, List, [], ◌∷◌, ◌++◌, map, refl}
use Rattle.std.proofs.Common.{sym, ◌∙◌, ap, subst, arith, ◌⊎◌, inl, inr}
use Rattle.host_lexer.specs.declared.token.Token.{Token}
use Rattle.host_lexer.specs.declared.token.TokenKind.{TokenKind}
use Rattle.host_lexer.specs.declared.token.TokenKind.TheVariants as kinds
use Rattle.host_lexer.specs.Tokens.{InOrder}
use Rattle.host_grammar.specs.Derivations.{Named, Members, no_member, and_member, Chain, operand, lift, more, Unary, postfix, prefixed, Postfix, primary, member, index, call, Primary, literal, name, paren, array, object, new, Listed, nothing, listed, listed_on, Exprs, one, and_one, Props, no_props, props, props_on, PropList, one_prop, and_prop, Prop, keyed, short, Target, to_name, to_member, to_index, LetDecl, unset, set_to, LetDecls, one_let, and_let, ConstDecl, const_to, ConstDecls, one_const, and_const, Stmt, empty, block, expression, assign, if_then, if_else, while_do, break_off, continue_on, return_none, return_value, throw_value, try_catch, try_catch_name, Block, braces, Items, no_item, and_item, Item, lets, consts, statement, Names, one_name, and_name, Params, no_param, params, params_on, Function, function, Script, no_part, and_function, and_part}
use Rattle.host_grammar.specs.Printing.{Sign, Printed, seen, name_of, members_then, chain_then, unary_then, postfix_then, primary_then, listed_then, exprs_then, props_then, prop_list_then, prop_then, target_then, let_then, lets_then, const_then, consts_then, stmt_then, block_then, items_then, item_then, names_then, params_then, function_then, script_then}
use Rattle.host_grammar.specs.Conditions.{IsScript}
use Rattle.host_grammar.specs.Scopes.{of_let, of_lets, of_const, of_consts, of_item, of_items, of_names, of_params, of_function, of_script, scopes_of, block_scopes, items_scopes, item_scopes, function_scopes, part_scopes, script_scopes, IsAgain, IsFirstAgain}
use Rattle.host_parser.proofs.Scoped.{In, in_right, in_either, in_contains}

-- a name among these tokens
abbrev Has : Named → List Printed → Type 0
Has n y = In (name_of n) y

members_keep : (n : Named) (ms : Members) (y : List Printed) → Has n y → Has n (members_then ms y)
members_keep n no_member y h = h
members_keep n (and_member ms d a) y h = members_keep n ms _ (inr (inr h))

-- what comes after a part
mutual
  chain_keeps : {k : ℕ} (n : Named) (d : ℕ) (c : Chain k) (y : List Printed) → Has n y → Has n (chain_then d c y)
  chain_keeps n d (operand u) y h = unary_keeps n d u y h
  chain_keeps n d (lift c) y h = chain_keeps n d c y h
  chain_keeps n d (more c o p e) y h = chain_keeps n d c _ (inr (chain_keeps n d e y h))

  unary_keeps : (n : Named) (d : ℕ) (u : Unary) (y : List Printed) → Has n y → Has n (unary_then d u y)
  unary_keeps n d (postfix p) y h = postfix_keeps n d p y h
  unary_keeps n d (prefixed o p u) y h = inr (unary_keeps n (suc d) u y h)

  postfix_keeps : (n : Named) (d : ℕ) (p : Postfix) (y : List Printed) → Has n y → Has n (postfix_then d p y)
  postfix_keeps n d (primary p) y h = primary_keeps n d p y h
  postfix_keeps n d (member p q a) y h = postfix_keeps n d p _ (inr (inr h))
  postfix_keeps n d (index p f e t) y h = postfix_keeps n d p _ (inr (chain_keeps n (suc d) e _ (inr h)))
  postfix_keeps n d (call p f l t) y h = postfix_keeps n d p _ (inr (listed_keeps n (suc d) l _ (inr h)))

  primary_keeps : (n : Named) (d : ℕ) (p : Primary) (y : List Printed) → Has n y → Has n (primary_then d p y)
  primary_keeps n d (literal l p) y h = inr h
  primary_keeps n d (name m) y h = inr h
  primary_keeps n d (paren f e t) y h = inr (chain_keeps n (suc d) e _ (inr h))
  primary_keeps n d (array f l t) y h = inr (listed_keeps n (suc d) l _ (inr h))
  primary_keeps n d (object f ps t) y h = inr (props_keep n (suc d) ps _ (inr h))
  primary_keeps n d (new w m ms f l t) y h = inr (inr (members_keep n ms _ (inr (listed_keeps n (suc (suc d)) l _ (inr h)))))

  listed_keeps : (n : Named) (d : ℕ) (l : Listed) (y : List Printed) → Has n y → Has n (listed_then d l y)
  listed_keeps n d nothing y h = h
  listed_keeps n d (listed es) y h = exprs_keep n d es y h
  listed_keeps n d (listed_on es c) y h = exprs_keep n d es _ (inr h)

  exprs_keep : (n : Named) (d : ℕ) (es : Exprs) (y : List Printed) → Has n y → Has n (exprs_then d es y)
  exprs_keep n d (one e) y h = chain_keeps n d e y h
  exprs_keep n d (and_one es c e) y h = exprs_keep n d es _ (inr (chain_keeps n d e y h))

  props_keep : (n : Named) (d : ℕ) (ps : Props) (y : List Printed) → Has n y → Has n (props_then d ps y)
  props_keep n d no_props y h = h
  props_keep n d (props ps) y h = prop_list_keeps n d ps y h
  props_keep n d (props_on ps c) y h = prop_list_keeps n d ps _ (inr h)

  prop_list_keeps : (n : Named) (d : ℕ) (ps : PropList) (y : List Printed) → Has n y → Has n (prop_list_then d ps y)
  prop_list_keeps n d (one_prop p) y h = prop_keeps n d p y h
  prop_list_keeps n d (and_prop ps c p) y h = prop_list_keeps n d ps _ (inr (prop_keeps n d p y h))

  prop_keeps : (n : Named) (d : ℕ) (p : Prop) (y : List Printed) → Has n y → Has n (prop_then d p y)
  prop_keeps n d (keyed k c e) y h = inr (inr (chain_keeps n d e y h))
  prop_keeps n d (short m) y h = inr h

target_keeps : (n : Named) (d : ℕ) (g : Target) (y : List Printed) → Has n y → Has n (target_then d g y)
target_keeps n d (to_name m) y h = inr h
target_keeps n d (to_member p q a) y h = postfix_keeps n d p _ (inr (inr h))
target_keeps n d (to_index p f e t) y h = postfix_keeps n d p _ (inr (chain_keeps n (suc d) e _ (inr h)))

let_keeps : (n : Named) (d : ℕ) (l : LetDecl) (y : List Printed) → Has n y → Has n (let_then d l y)
let_keeps n d (unset m) y h = inr h
let_keeps n d (set_to m q e) y h = inr (inr (chain_keeps n d e y h))

lets_keep : (n : Named) (d : ℕ) (ls : LetDecls) (y : List Printed) → Has n y → Has n (lets_then d ls y)
lets_keep n d (one_let l) y h = let_keeps n d l y h
lets_keep n d (and_let ls c l) y h = lets_keep n d ls _ (inr (let_keeps n d l y h))

const_keeps : (n : Named) (d : ℕ) (l : ConstDecl) (y : List Printed) → Has n y → Has n (const_then d l y)
const_keeps n d (const_to m q e) y h = inr (inr (chain_keeps n d e y h))

consts_keep : (n : Named) (d : ℕ) (ls : ConstDecls) (y : List Printed) → Has n y → Has n (consts_then d ls y)
consts_keep n d (one_const l) y h = const_keeps n d l y h
consts_keep n d (and_const ls c l) y h = consts_keep n d ls _ (inr (const_keeps n d l y h))

mutual
  stmt_keeps : (n : Named) (d : ℕ) (s : Stmt) (y : List Printed) → Has n y → Has n (stmt_then d s y)
  stmt_keeps n d (empty p) y h = inr h
  stmt_keeps n d (block b) y h = block_keeps n d b y h
  stmt_keeps n d (expression e q) y h = chain_keeps n d e _ (inr h)
  stmt_keeps n d (assign g m e q) y h = target_keeps n d g _ (inr (chain_keeps n d e _ (inr h)))
  stmt_keeps n d (if_then w f e t s) y h = inr (inr (chain_keeps n (suc (suc d)) e _ (inr (stmt_keeps n (suc d) s y h))))
  stmt_keeps n d (if_else w f e t s o r) y h = inr (inr (chain_keeps n (suc (suc d)) e _ (inr (stmt_keeps n (suc d) s _ (inr (stmt_keeps n (suc d) r y h))))))
  stmt_keeps n d (while_do w f e t s) y h = inr (inr (chain_keeps n (suc (suc d)) e _ (inr (stmt_keeps n (suc d) s y h))))
  stmt_keeps n d (break_off w q) y h = inr (inr h)
  stmt_keeps n d (continue_on w q) y h = inr (inr h)
  stmt_keeps n d (return_none w q) y h = inr (inr h)
  stmt_keeps n d (return_value w e q) y h = inr (chain_keeps n d e _ (inr h))
  stmt_keeps n d (throw_value w e q) y h = inr (chain_keeps n d e _ (inr h))
  stmt_keeps n d (try_catch w b c k) y h = inr (block_keeps n d b _ (inr (block_keeps n d k y h)))
  stmt_keeps n d (try_catch_name w b c f m t k) y h = inr (block_keeps n d b _ (inr (inr (inr (inr (block_keeps n d k y h))))))

  block_keeps : (n : Named) (d : ℕ) (b : Block) (y : List Printed) → Has n y → Has n (block_then d b y)
  block_keeps n d (braces f xs t) y h = inr (items_keep n (suc d) xs _ (inr h))

  items_keep : (n : Named) (d : ℕ) (xs : Items) (y : List Printed) → Has n y → Has n (items_then d xs y)
  items_keep n d no_item y h = h
  items_keep n d (and_item xs x) y h = items_keep n d xs _ (item_keeps n d x y h)

  item_keeps : (n : Named) (d : ℕ) (x : Item) (y : List Printed) → Has n y → Has n (item_then d x y)
  item_keeps n d (lets w ls q) y h = inr (lets_keep n d ls _ (inr h))
  item_keeps n d (consts w ls q) y h = inr (consts_keep n d ls _ (inr h))
  item_keeps n d (statement s) y h = stmt_keeps n d s y h

names_keep : (n : Named) (ns : Names) (y : List Printed) → Has n y → Has n (names_then ns y)
names_keep n (one_name m) y h = inr h
names_keep n (and_name ns c m) y h = names_keep n ns _ (inr (inr h))

params_keep : (n : Named) (ps : Params) (y : List Printed) → Has n y → Has n (params_then ps y)
params_keep n no_param y h = h
params_keep n (params ns) y h = names_keep n ns y h
params_keep n (params_on ns c) y h = names_keep n ns _ (inr h)

function_keeps : (n : Named) (f : Function) (y : List Printed) → Has n y → Has n (function_then f y)
function_keeps n (function w m f ps t b) y h = inr (inr (inr (params_keep n ps _ (inr (block_keeps n 0 b y h)))))

script_keeps : (n : Named) (s : Script) (y : List Printed) → Has n y → Has n (script_then s y)
script_keeps n no_part y h = h
script_keeps n (and_function s f) y h = script_keeps n s _ (function_keeps n f y h)
script_keeps n (and_part s x) y h = script_keeps n s _ (item_keeps n 0 x y h)

-- one name, and a name of one part or another
only_one : (n m : Named) → In n (m ∷ []) → name_of m ≡ name_of n
only_one n m (inl e) = ap name_of e
only_one n m (inr h) = absurd h

of_either : {A B P : Type 0} → (A → P) → (B → P) → A ⊎ B → P
of_either f g (inl a) = f a
of_either f g (inr b) = g b

-- the names that declarations declare
let_has : (n : Named) (d : ℕ) (l : LetDecl) (y : List Printed) → In n (of_let l) → Has n (let_then d l y)
let_has n d (unset m) y i = inl (only_one n m i)
let_has n d (set_to m q e) y i = inl (only_one n m i)

lets_have : (n : Named) (d : ℕ) (ls : LetDecls) (y : List Printed) → In n (of_lets ls) → Has n (lets_then d ls y)
lets_have n d (one_let l) y i = let_has n d l y i
lets_have n d (and_let ls c l) y i = of_either (λ k. lets_have n d ls _ k) (λ k. lets_keep n d ls _ (inr (let_has n d l y k))) (in_either n (of_lets ls) (of_let l) i)

const_has : (n : Named) (d : ℕ) (l : ConstDecl) (y : List Printed) → In n (of_const l) → Has n (const_then d l y)
const_has n d (const_to m q e) y i = inl (only_one n m i)

consts_have : (n : Named) (d : ℕ) (ls : ConstDecls) (y : List Printed) → In n (of_consts ls) → Has n (consts_then d ls y)
consts_have n d (one_const l) y i = const_has n d l y i
consts_have n d (and_const ls c l) y i = of_either (λ k. consts_have n d ls _ k) (λ k. consts_keep n d ls _ (inr (const_has n d l y k))) (in_either n (of_consts ls) (of_const l) i)

item_declares : (n : Named) (d : ℕ) (x : Item) (y : List Printed) → In n (of_item x) → Has n (item_then d x y)
item_declares n d (lets w ls q) y i = inr (lets_have n d ls _ i)
item_declares n d (consts w ls q) y i = inr (consts_have n d ls _ i)
item_declares n d (statement s) y i = absurd i

items_declare : (n : Named) (d : ℕ) (xs : Items) (y : List Printed) → In n (of_items xs) → Has n (items_then d xs y)
items_declare n d no_item y i = absurd i
items_declare n d (and_item xs x) y i = of_either (λ k. items_declare n d xs _ k) (λ k. items_keep n d xs _ (item_declares n d x y k)) (in_either n (of_items xs) (of_item x) i)

names_have : (n : Named) (ns : Names) (y : List Printed) → In n (of_names ns) → Has n (names_then ns y)
names_have n (one_name m) y i = inl (only_one n m i)
names_have n (and_name ns c m) y i = of_either (λ k. names_have n ns _ k) (λ k. names_keep n ns _ (inr (inl (only_one n m k)))) (in_either n (of_names ns) (m ∷ []) i)

params_have : (n : Named) (ps : Params) (y : List Printed) → In n (of_params ps) → Has n (params_then ps y)
params_have n no_param y i = absurd i
params_have n (params ns) y i = names_have n ns y i
params_have n (params_on ns c) y i = names_have n ns _ i

-- a scope of these
abbrev IsOf : Named → List (List Named) → Type 0
IsOf n ss = (ns : List Named) × In ns ss × In n ns

of_first_or_rest : {P : Type 0} (n : Named) (own : List Named) (ss : List (List Named)) → (In n own → P) → (IsOf n ss → P) → IsOf n (own ∷ ss) → P
of_first_or_rest n own ss f g (ns, inl e, i) = f (subst (In n) (sym e) i)
of_first_or_rest n own ss f g (ns, inr k, i) = g (ns, k, i)

of_scopes : {P : Type 0} (n : Named) (ss rs : List (List Named)) → (IsOf n ss → P) → (IsOf n rs → P) → IsOf n (ss ++ rs) → P
of_scopes n ss rs f g h = of_either (λ k. f (h.0, k, h.2)) (λ k. g (h.0, k, h.2)) (in_either h.0 ss rs h.1)

of_none : {P : Type 0} (n : Named) → IsOf n [] → P
of_none n h = absurd h.1

-- the names that the scopes of statements declare
mutual
  stmt_has : (n : Named) (d : ℕ) (s : Stmt) (y : List Printed) → IsOf n (scopes_of s) → Has n (stmt_then d s y)
  stmt_has n d (block b) y h = of_either (λ k. absurd k) (λ k. k) (block_has n d [] b y h)
  stmt_has n d (if_then w f e t s) y h = inr (inr (chain_keeps n (suc (suc d)) e _ (inr (stmt_has n (suc d) s y h))))
  stmt_has n d (if_else w f e t s o r) y h = inr (inr (chain_keeps n (suc (suc d)) e _ (inr (of_scopes n (scopes_of s) (scopes_of r) (λ k. stmt_has n (suc d) s _ k) (λ k. stmt_keeps n (suc d) s _ (inr (stmt_has n (suc d) r y k))) h))))
  stmt_has n d (while_do w f e t s) y h = inr (inr (chain_keeps n (suc (suc d)) e _ (inr (stmt_has n (suc d) s y h))))
  stmt_has n d (try_catch w b c k) y h = inr (of_scopes n (block_scopes [] b) (block_scopes [] k) (λ i. of_either (λ j. absurd j) (λ j. j) (block_has n d [] b _ i))
      (λ i. block_keeps n d b _ (inr (of_either (λ j. absurd j) (λ j. j) (block_has n d [] k y i)))) h)
  stmt_has n d (try_catch_name w b c f m t k) y h = inr (of_scopes n (block_scopes [] b) (block_scopes (m ∷ []) k) (λ i. of_either (λ j. absurd j) (λ j. j) (block_has n d [] b _ i))
      (λ i. block_keeps n d b _ (inr (inr (of_either (λ j. inl (only_one n m j)) (λ j. inr (inr j)) (block_has n d (m ∷ []) k y i))))) h)
  stmt_has n d (empty p) y h = of_none n h
  stmt_has n d (expression e q) y h = of_none n h
  stmt_has n d (assign g m e q) y h = of_none n h
  stmt_has n d (break_off w q) y h = of_none n h
  stmt_has n d (continue_on w q) y h = of_none n h
  stmt_has n d (return_none w q) y h = of_none n h
  stmt_has n d (return_value w e q) y h = of_none n h
  stmt_has n d (throw_value w e q) y h = of_none n h

  -- of a block, which has names that stand before it
  block_has : (n : Named) (d : ℕ) (own : List Named) (b : Block) (y : List Printed) → IsOf n (block_scopes own b) → In n own ⊎ Has n (block_then d b y)
  block_has n d own (braces f xs t) y h = of_first_or_rest n (own ++ of_items xs) (items_scopes xs)
      (λ i. of_either (λ k. inl k) (λ k. inr (inr (items_declare n (suc d) xs _ k))) (in_either n own (of_items xs) i)) (λ i. inr (inr (items_have n (suc d) xs _ i))) h

  items_have : (n : Named) (d : ℕ) (xs : Items) (y : List Printed) → IsOf n (items_scopes xs) → Has n (items_then d xs y)
  items_have n d no_item y h = of_none n h
  items_have n d (and_item xs x) y h = of_scopes n (items_scopes xs) (item_scopes x) (λ k. items_have n d xs _ k) (λ k. items_keep n d xs _ (item_has n d x y k)) h

  item_has : (n : Named) (d : ℕ) (x : Item) (y : List Printed) → IsOf n (item_scopes x) → Has n (item_then d x y)
  item_has n d (lets w ls q) y h = of_none n h
  item_has n d (consts w ls q) y h = of_none n h
  item_has n d (statement s) y h = stmt_has n d s y h

function_declares : (n : Named) (f : Function) (y : List Printed) → In n (of_function f) → Has n (function_then f y)
function_declares n (function w m f ps t b) y i = inr (inl (only_one n m i))

function_has : (n : Named) (f : Function) (y : List Printed) → IsOf n (function_scopes f) → Has n (function_then f y)
function_has n (function w m f ps t b) y h = inr (inr (inr (of_either (λ k. params_have n ps _ k) (λ k. params_keep n ps _ (inr k)) (block_has n 0 (of_params ps) b y h))))

script_declares : (n : Named) (s : Script) (y : List Printed) → In n (of_script s) → Has n (script_then s y)
script_declares n no_part y i = absurd i
script_declares n (and_function s f) y i = of_either (λ k. script_declares n s _ k) (λ k. script_keeps n s _ (function_declares n f y k)) (in_either n (of_script s) (of_function f) i)
script_declares n (and_part s x) y i = of_either (λ k. script_declares n s _ k) (λ k. script_keeps n s _ (item_declares n 0 x y k)) (in_either n (of_script s) (of_item x) i)

parts_have : (n : Named) (s : Script) (y : List Printed) → IsOf n (part_scopes s) → Has n (script_then s y)
parts_have n no_part y h = of_none n h
parts_have n (and_function s f) y h = of_scopes n (part_scopes s) (function_scopes f) (λ k. parts_have n s _ k) (λ k. script_keeps n s _ (function_has n f y k)) h
parts_have n (and_part s x) y h = of_scopes n (part_scopes s) (item_scopes x) (λ k. parts_have n s _ k) (λ k. script_keeps n s _ (item_has n 0 x y k)) h

script_has : (n : Named) (s : Script) → IsOf n (script_scopes s) → Has n (script_then s [])
script_has n s h = of_first_or_rest n (of_script s) (part_scopes s) (λ i. script_declares n s [] i) (λ i. parts_have n s [] i) h

-- a later declaration is one of its scope's names
is_again_in : (ns : List Named) (n : Named) → IsAgain ns n → In n ns
is_again_in ns n h = subst (In n) (sym h.parts) (in_right n h.front (h.first ∷ (h.middle ++ n ∷ h.back)) (inr (in_right n h.middle (n ∷ h.back) (inl refl))))

-- a name among the tokens of a script
abbrev sign_of : Named → Sign
sign_of n = (name_of n).sign

signed : (n : Named) (y : List Printed) → Has n y → In (sign_of n) (map (λ p. p.sign) y)
signed n [] h = absurd h
signed n (p ∷ y) (inl e) = inl (ap (λ (q : Printed). q.sign) e)
signed n (p ∷ y) (inr h) = inr (signed n y h)

again_seen : (ts : List Token) (s : Script) (n : Named) → IsScript (map seen ts) s → IsFirstAgain s n → In (sign_of n) (map seen ts)
again_seen ts s n h a = subst (In (sign_of n)) h.spelled (signed n (script_then s []) (script_has n s (a.scope, in_contains a.scope (script_scopes s) a.is_scope, is_again_in a.scope n a.again)))

-- tokens in order stand at different places
not_before : (at len : ℕ) (ts : List Token) (a : Sign) → InOrder at len ts → In a (map seen ts) → at ≤ a.spot.place
not_before at len [] a o i = absurd i
not_before at len (t ∷ ts) a o (inl e) = subst (λ (z : Sign). at ≤ z.spot.place) e o.0
not_before at len (t ∷ ts) a o (inr i) = later at t.from t.to a.spot.place o.0 o.1 (not_before t.to len ts a o.3 i)
  where
    later : (a b c d : ℕ) → a ≤ b → b < c → c ≤ d → a ≤ d
    later a b c d h g k = omega arith

past : (a b c d : ℕ) → a ≡ b → b < c → c ≤ d → d ≡ a → ⊥
past a b c d e h k f = omega arith

one_at_a_place : (at len : ℕ) (ts : List Token) (a b : Sign) → InOrder at len ts → In a (map seen ts) → In b (map seen ts) → a.spot.place ≡ b.spot.place → a ≡ b
one_at_a_place at len [] a b o i j e = absurd i
one_at_a_place at len (t ∷ ts) a b o (inl p) (inl q) e = sym p ∙ q
one_at_a_place at len (t ∷ ts) a b o (inl p) (inr j) e = absurd (past a.spot.place t.from t.to b.spot.place (ap (λ (z : Sign). z.spot.place) (sym p)) o.1 (not_before t.to len ts b o.3 j) (sym e))
one_at_a_place at len (t ∷ ts) a b o (inr i) (inl q) e = absurd (past b.spot.place t.from t.to a.spot.place (ap (λ (z : Sign). z.spot.place) (sym q)) o.1 (not_before t.to len ts a o.3 i) e)
one_at_a_place at len (t ∷ ts) a b o (inr i) (inr j) e = one_at_a_place t.to len ts a b o.3 i j e

abbrev text_of : TokenKind → List ℕ
text_of (kinds.Name t) = t
text_of _ = []

same_text : (a b : Named) → sign_of a ≡ sign_of b → a.text ≡ b.text
same_text a b e = ap (λ (s : Sign). text_of s.kind) e

pub one_name_at : (ts : List Token) (len : ℕ) (s : Script) (a b : Named) → InOrder 0 len ts → IsScript (map seen ts) s → IsFirstAgain s a → IsFirstAgain s b → a.spot.place ≡ b.spot.place → a.text ≡ b.text
one_name_at ts len s a b o h f g e = same_text a b (one_at_a_place 0 len ts (sign_of a) (sign_of b) o (again_seen ts s a h f) (again_seen ts s b h g) e)
