-- The scopes that the mentions of a script end are its scopes.
use Rattle.std.specs.Prelude.{◌≡◌, ℕ, zero, suc, ◌≤◌, Option, Some, None, List, [], ◌∷◌, ◌++◌, reverse, Contains, refl}
use Rattle.std.proofs.Common.{sym, ◌∙◌, ap, subst, arith, ◌⊎◌, inl, inr}
use Rattle.std.proofs.lemmas.List.{append_assoc, append-nil, reverse-append}
use Rattle.host_grammar.specs.Derivations.{Named, Members, no_member, and_member, Chain, operand, lift, more, Unary, postfix, prefixed, Postfix, primary, member, index, call, Primary, literal, name, paren, array, object, new, Listed, nothing, listed, listed_on, Exprs, one, and_one, Props, no_props, props, props_on, PropList, one_prop, and_prop, Prop, keyed, short, Target, to_name, to_member, to_index, LetDecl, unset, set_to, LetDecls, one_let, and_let, ConstDecl, const_to, ConstDecls, one_const, and_const, Stmt, empty, block, expression, assign, if_then, if_else, while_do, break_off, continue_on, return_none, return_value, throw_value, try_catch, try_catch_name, Block, braces, Items, no_item, and_item, Item, lets, consts, statement, Names, one_name, and_name, Params, no_param, params, params_on, Function, function, Script, no_part, and_function, and_part}
use Rattle.host_grammar.specs.Scopes.{of_let, of_lets, of_const, of_consts, of_item, of_items, of_names, of_params, of_script, scopes_of, block_scopes, items_scopes, item_scopes, function_scopes, part_scopes, script_scopes, IsAgain}
use Rattle.host_nodes.specs.declared.form.Declares.TheVariants as declares
use Rattle.host_nodes.specs.declared.form.Declared.{Declared}
use Rattle.host_nodes.specs.declared.form.Mention.{Mention}
use Rattle.host_nodes.specs.Tables.{Table, declared, begins, name_after, members_after, chain_after, parts_after, unary_after, postfix_after, primary_after, listed_after, exprs_after, props_after, prop_list_after, prop_after, target_after, let_after, lets_after, let_declared, lets_declared, const_after, consts_after, const_declared, consts_declared, item_declared, stmt_after, block_after, items_after, item_after, items_declared, names_declared, params_declared, function_after, script_table, script_declared}
use Rattle.host_nodes.specs.declared.form.Mention.TheVariants as mentions
use Rattle.host_parser.specs.declared.again.Again.{Again}
use Rattle.host_parser.specs.Repeats.{repeated, repeated_in, TellsAgain}
use Rattle.host_parser.proofs.Repeated.{Ended, IsTold, InEnded, Repeats, IsFor, IsLeast, Or, least_of, again_repeats, repeats_again, repeated_least, repeated_in_least}

members_end : (ms : Members) (t : Table) → Ended (members_after ms t).mentions ≡ Ended t.mentions
members_end no_member t = refl
members_end (and_member ms d a) t = members_end ms t

mutual
  chain_end : {n : ℕ} (c : Chain n) (t : Table) → Ended (chain_after c t).mentions ≡ Ended t.mentions
  chain_end (operand u) t = unary_end u t
  chain_end (lift c) t = chain_end c t
  chain_end (more c o p d) t = chain_end d (parts_after c t) ∙ parts_end c t

  parts_end : {n : ℕ} (c : Chain (suc n)) (t : Table) → Ended (parts_after c t).mentions ≡ Ended t.mentions
  parts_end (lift c) t = chain_end c t
  parts_end (more c o p d) t = chain_end d (parts_after c t) ∙ parts_end c t

  unary_end : (u : Unary) (t : Table) → Ended (unary_after u t).mentions ≡ Ended t.mentions
  unary_end (postfix p) t = postfix_end p t
  unary_end (prefixed o p u) t = unary_end u t

  postfix_end : (p : Postfix) (t : Table) → Ended (postfix_after p t).mentions ≡ Ended t.mentions
  postfix_end (primary p) t = primary_end p t
  postfix_end (member p d a) t = postfix_end p t
  postfix_end (index p f d q) t = chain_end d (postfix_after p t) ∙ postfix_end p t
  postfix_end (call p f l q) t = listed_end l (postfix_after p t) ∙ postfix_end p t

  primary_end : (p : Primary) (t : Table) → Ended (primary_after p t).mentions ≡ Ended t.mentions
  primary_end (literal l p) t = refl
  primary_end (name n) t = refl
  primary_end (paren f d q) t = chain_end d t
  primary_end (array f l q) t = listed_end l t
  primary_end (object f ps q) t = props_end ps t
  primary_end (new w n ms f l q) t = listed_end l (members_after ms (name_after n t)) ∙ members_end ms (name_after n t)

  listed_end : (l : Listed) (t : Table) → Ended (listed_after l t).mentions ≡ Ended t.mentions
  listed_end nothing t = refl
  listed_end (listed es) t = exprs_end es t
  listed_end (listed_on es c) t = exprs_end es t

  exprs_end : (es : Exprs) (t : Table) → Ended (exprs_after es t).mentions ≡ Ended t.mentions
  exprs_end (one d) t = chain_end d t
  exprs_end (and_one es c d) t = chain_end d (exprs_after es t) ∙ exprs_end es t

  props_end : (ps : Props) (t : Table) → Ended (props_after ps t).mentions ≡ Ended t.mentions
  props_end no_props t = refl
  props_end (props ps) t = prop_list_end ps t
  props_end (props_on ps c) t = prop_list_end ps t

  prop_list_end : (ps : PropList) (t : Table) → Ended (prop_list_after ps t).mentions ≡ Ended t.mentions
  prop_list_end (one_prop p) t = prop_end p t
  prop_list_end (and_prop ps c p) t = prop_end p (prop_list_after ps t) ∙ prop_list_end ps t

  prop_end : (p : Prop) (t : Table) → Ended (prop_after p t).mentions ≡ Ended t.mentions
  prop_end (keyed k c d) t = chain_end d t
  prop_end (short n) t = refl

target_end : (g : Target) (t : Table) → Ended (target_after g t).mentions ≡ Ended t.mentions
target_end (to_name n) t = refl
target_end (to_member p d a) t = postfix_end p t
target_end (to_index p f d q) t = chain_end d (postfix_after p t) ∙ postfix_end p t

let_end : (l : LetDecl) (t : Table) → Ended (let_after l t).mentions ≡ Ended t.mentions
let_end (unset n) t = refl
let_end (set_to n m d) t = chain_end d (name_after n t)

lets_end : (ls : LetDecls) (t : Table) → Ended (lets_after ls t).mentions ≡ Ended t.mentions
lets_end (one_let l) t = let_end l t
lets_end (and_let ls c l) t = let_end l (lets_after ls t) ∙ lets_end ls t

const_end : (l : ConstDecl) (t : Table) → Ended (const_after l t).mentions ≡ Ended t.mentions
const_end (const_to n m d) t = chain_end d (name_after n t)

consts_end : (ls : ConstDecls) (t : Table) → Ended (consts_after ls t).mentions ≡ Ended t.mentions
consts_end (one_const l) t = const_end l t
consts_end (and_const ls c l) t = const_end l (consts_after ls t) ∙ consts_end ls t

-- the names of a scope are told
told_one : (ns : List Named) (ds : List Declared) (n : Named) (d : Declared) → IsTold ns ds → (d.name ≡ n.text) → (d.place ≡ n.spot.place) → IsTold (ns ++ n ∷ []) (ds ++ d ∷ [])
told_one [] [] n d t e f = (e, f, tt)
told_one [] (x ∷ ds) n d t e f = absurd t
told_one (m ∷ ns) [] n d t e f = absurd t
told_one (m ∷ ns) (x ∷ ds) n d t e f = (t.0, t.1, told_one ns ds n d t.2 e f)

told_let : (l : LetDecl) (ns : List Named) (ds : List Declared) → IsTold ns ds → IsTold (ns ++ of_let l) (ds ++ let_declared l ∷ [])
told_let (unset n) ns ds t = told_one ns ds n (declared declares.Variable n) t refl refl
told_let (set_to n m d) ns ds t = told_one ns ds n (declared declares.Variable n) t refl refl

told_lets : (ls : LetDecls) (ns : List Named) (ds : List Declared) → IsTold ns ds → IsTold (ns ++ of_lets ls) (lets_declared ls ds)
told_lets (one_let l) ns ds t = told_let l ns ds t
told_lets (and_let ls c l) ns ds t = subst (λ z. IsTold z (lets_declared ls ds ++ let_declared l ∷ [])) (append_assoc ns (of_lets ls) (of_let l)) (told_let l (ns ++ of_lets ls) (lets_declared ls ds) (told_lets ls ns ds t))

told_const : (l : ConstDecl) (ns : List Named) (ds : List Declared) → IsTold ns ds → IsTold (ns ++ of_const l) (ds ++ const_declared l ∷ [])
told_const (const_to n m d) ns ds t = told_one ns ds n (declared declares.Constant n) t refl refl

told_consts : (ls : ConstDecls) (ns : List Named) (ds : List Declared) → IsTold ns ds → IsTold (ns ++ of_consts ls) (consts_declared ls ds)
told_consts (one_const l) ns ds t = told_const l ns ds t
told_consts (and_const ls c l) ns ds t = subst (λ z. IsTold z (consts_declared ls ds ++ const_declared l ∷ [])) (append_assoc ns (of_consts ls) (of_const l)) (told_const l (ns ++ of_consts ls) (consts_declared ls ds) (told_consts ls ns ds t))

told_item : (x : Item) (ns : List Named) (ds : List Declared) → IsTold ns ds → IsTold (ns ++ of_item x) (item_declared x ds)
told_item (lets w ls q) ns ds t = told_lets ls ns ds t
told_item (consts w ls q) ns ds t = told_consts ls ns ds t
told_item (statement s) ns ds t = subst (λ z. IsTold z ds) (sym (append-nil ns)) t

told_items : (xs : Items) (ns : List Named) (ds : List Declared) → IsTold ns ds → IsTold (ns ++ of_items xs) (items_declared xs ds)
told_items no_item ns ds t = subst (λ z. IsTold z ds) (sym (append-nil ns)) t
told_items (and_item xs x) ns ds t = subst (λ z. IsTold z (item_declared x (items_declared xs ds))) (append_assoc ns (of_items xs) (of_item x)) (told_item x (ns ++ of_items xs) (items_declared xs ds) (told_items xs ns ds t))

told_names : (ns : Names) → IsTold (of_names ns) (names_declared ns)
told_names (one_name n) = (refl, refl, tt)
told_names (and_name ns c n) = told_one (of_names ns) (names_declared ns) n (declared declares.Variable n) (told_names ns) refl refl

told_params : (ps : Params) → IsTold (of_params ps) (params_declared ps)
told_params no_param = tt
told_params (params ns) = told_names ns
told_params (params_on ns c) = told_names ns

pub told_script : (s : Script) → IsTold (of_script s) (script_declared s)
told_script no_part = tt
told_script (and_function s (function w n f ps q b)) = told_one (of_script s) (script_declared s) n (declared declares.Function n) (told_script s) refl refl
told_script (and_part s x) = told_item x (of_script s) (script_declared s) (told_script s)

-- an element of a list
abbrev pub In : {A : Type 0} → A → List A → Type 0
In x [] = ⊥
In x (y ∷ ys) = (y ≡ x) ⊎ In x ys

pub in_left : {A : Type 0} (x : A) (xs ys : List A) → In x xs → In x (xs ++ ys)
in_left x [] ys h = absurd h
in_left x (z ∷ xs) ys (inl e) = inl e
in_left x (z ∷ xs) ys (inr h) = inr (in_left x xs ys h)

pub in_right : {A : Type 0} (x : A) (xs ys : List A) → In x ys → In x (xs ++ ys)
in_right x [] ys h = h
in_right x (z ∷ xs) ys h = inr (in_right x xs ys h)

pub in_either : {A : Type 0} (x : A) (xs ys : List A) → In x (xs ++ ys) → In x xs ⊎ In x ys
in_either x [] ys h = inr h
in_either x (z ∷ xs) ys (inl e) = inl (inl e)
in_either x (z ∷ xs) ys (inr h) = later (in_either x xs ys h)
  where
    later : In x xs ⊎ In x ys → In x (z ∷ xs) ⊎ In x ys
    later (inl k) = inl (inr k)
    later (inr k) = inr k

pub contains_in : {A : Type 0} (x : A) (xs : List A) → In x xs → Contains xs x
contains_in x [] h = absurd h
contains_in x (y ∷ ys) (inl e) = (0, omega arith, e)
contains_in x (y ∷ ys) (inr h) = let k : Contains ys x = contains_in x ys h in (suc k.0, omega arith, k.2)

pub in_contains : {A : Type 0} (x : A) (xs : List A) → Contains xs x → In x xs
in_contains x [] k = absurd (omega arith)
in_contains x (y ∷ ys) (zero, b, e) = inl e
in_contains x (y ∷ ys) (suc k, b, e) = inr (in_contains x ys (k, omega arith, e))

-- a scope that is told by one that ends
pub record IsEnded (ms : List Mention) (ns : List Named) : Type 0 where
  pub declared : List Declared
  pub told : IsTold ns declared
  pub ended : Ended ms declared

pub record IsScope (ss : List (List Named)) (ds : List Declared) : Type 0 where
  pub names : List Named
  pub told : IsTold names ds
  pub is_in : In names ss

-- these scopes end between two moments
pub record Scopes (ss : List (List Named)) (before after : List Mention) : Type 0 where
  pub stays : (ds : List Declared) → Ended before ds → Ended after ds
  pub there : (ns : List Named) → In ns ss → IsEnded after ns
  pub back : (ds : List Declared) → Ended after ds → IsScope ss ds ⊎ Ended before ds

none_end : (a b : List Mention) → Ended b ≡ Ended a → Scopes [] a b
none_end a b e = record {
  stays = λ ds h. subst (λ (F : List Declared → Type 0). F ds) (sym e) h;
  there = λ ns h. absurd h;
  back = λ ds h. inr (subst (λ (F : List Declared → Type 0). F ds) e h);
}

scope_left : (ss rs : List (List Named)) (ds : List Declared) → IsScope ss ds → IsScope (ss ++ rs) ds
scope_left ss rs ds s = record { names = s.names; told = s.told; is_in = in_left s.names ss rs s.is_in }

scope_right : (ss rs : List (List Named)) (ds : List Declared) → IsScope rs ds → IsScope (ss ++ rs) ds
scope_right ss rs ds s = record { names = s.names; told = s.told; is_in = in_right s.names ss rs s.is_in }

ended_later : (a b : List Mention) (ns : List Named) → ((ds : List Declared) → Ended a ds → Ended b ds) → IsEnded a ns → IsEnded b ns
ended_later a b ns h e = record { declared = e.declared; told = e.told; ended = h e.declared e.ended }

then_end : (ss rs : List (List Named)) (a b c : List Mention) → Scopes ss a b → Scopes rs b c → Scopes (ss ++ rs) a c
then_end ss rs a b c s r = record {
  stays = λ ds h. r.stays ds (s.stays ds h);
  there = λ ns h. from_either ns (in_either ns ss rs h);
  back = λ ds h. from_last ds (r.back ds h);
}
  where
    from_either : (ns : List Named) → In ns ss ⊎ In ns rs → IsEnded c ns
    from_either ns (inl k) = ended_later b c ns r.stays (s.there ns k)
    from_either ns (inr k) = r.there ns k

    from_first : (ds : List Declared) → IsScope ss ds ⊎ Ended a ds → IsScope (ss ++ rs) ds ⊎ Ended a ds
    from_first ds (inl k) = inl (scope_left ss rs ds k)
    from_first ds (inr k) = inr k

    from_last : (ds : List Declared) → IsScope rs ds ⊎ Ended b ds → IsScope (ss ++ rs) ds ⊎ Ended a ds
    from_last ds (inl k) = inl (scope_right ss rs ds k)
    from_last ds (inr k) = from_first ds (s.back ds k)

own_end : (own : List Named) (os : List Declared) (ss : List (List Named)) (a b : List Mention) → IsTold own os → Scopes ss (mentions.Begins ∷ a) b → Scopes (own ∷ ss) a (mentions.Ends os ∷ b)
own_end own os ss a b t s = record {
  stays = λ ds h. inr (s.stays ds h);
  there = λ ns h. from_in ns h;
  back = λ ds h. from_ended ds h;
}
  where
    from_in : (ns : List Named) → (own ≡ ns) ⊎ In ns ss → IsEnded (mentions.Ends os ∷ b) ns
    from_in ns (inl e) = record { declared = os; told = subst (λ z. IsTold z os) e t; ended = inl refl }
    from_in ns (inr h) = let k : IsEnded b ns = s.there ns h in record { declared = k.declared; told = k.told; ended = inr k.ended }

    from_back : (ds : List Declared) → IsScope ss ds ⊎ Ended a ds → IsScope (own ∷ ss) ds ⊎ Ended a ds
    from_back ds (inl k) = inl (record { names = k.names; told = k.told; is_in = inr k.is_in })
    from_back ds (inr k) = inr k

    from_ended : (ds : List Declared) → (os ≡ ds) ⊎ Ended b ds → IsScope (own ∷ ss) ds ⊎ Ended a ds
    from_ended ds (inl e) = inl (record { names = own; told = subst (λ z. IsTold own z) e t; is_in = inl refl })
    from_ended ds (inr h) = from_back ds (s.back ds h)

-- after a part in which no scope ends
none_then : (ss : List (List Named)) (a b c : List Mention) → Ended b ≡ Ended a → Scopes ss b c → Scopes ss a c
none_then ss a b c e s = then_end [] ss a b c (none_end a b e) s

mutual
  stmt_scopes : (s : Stmt) (t : Table) → Scopes (scopes_of s) t.mentions (stmt_after s t).mentions
  stmt_scopes (empty p) t = none_end _ _ refl
  stmt_scopes (block b) t = block_ends [] [] b t tt
  stmt_scopes (expression d q) t = none_end _ _ (chain_end d t)
  stmt_scopes (assign g m d q) t = none_end _ _ (chain_end d (target_after g t) ∙ target_end g t)
  stmt_scopes (if_then w f d c s) t = none_then (scopes_of s) t.mentions (chain_after d t).mentions _ (chain_end d t) (stmt_scopes s (chain_after d t))
  stmt_scopes (if_else w f d c s o r) t = none_then (scopes_of s ++ scopes_of r) t.mentions (chain_after d t).mentions _ (chain_end d t)
      (then_end (scopes_of s) (scopes_of r) (chain_after d t).mentions (stmt_after s (chain_after d t)).mentions _ (stmt_scopes s (chain_after d t)) (stmt_scopes r (stmt_after s (chain_after d t))))
  stmt_scopes (while_do w f d c s) t = none_then (scopes_of s) t.mentions (chain_after d t).mentions _ (chain_end d t) (stmt_scopes s (chain_after d t))
  stmt_scopes (break_off w q) t = none_end _ _ refl
  stmt_scopes (continue_on w q) t = none_end _ _ refl
  stmt_scopes (return_none w q) t = none_end _ _ refl
  stmt_scopes (return_value w d q) t = none_end _ _ (chain_end d t)
  stmt_scopes (throw_value w d q) t = none_end _ _ (chain_end d t)
  stmt_scopes (try_catch w b c h) t = then_end (block_scopes [] b) (block_scopes [] h) t.mentions (block_after [] b t).mentions _ (block_ends [] [] b t tt) (block_ends [] [] h (block_after [] b t) tt)
  stmt_scopes (try_catch_name w b c f n q h) t = then_end (block_scopes [] b) (block_scopes (n ∷ []) h) t.mentions (block_after [] b t).mentions _ (block_ends [] [] b t tt)
      (block_ends (n ∷ []) (declared declares.Variable n ∷ []) h (block_after [] b t) (refl, refl, tt))

  block_ends : (own : List Named) (ds : List Declared) (b : Block) (t : Table) → IsTold own ds → Scopes (block_scopes own b) t.mentions (block_after ds b t).mentions
  block_ends own ds (braces f xs q) t h = own_end (own ++ of_items xs) (items_declared xs ds) (items_scopes xs) t.mentions (items_after xs (begins t)).mentions (told_items xs own ds h) (items_end xs (begins t))

  items_end : (xs : Items) (t : Table) → Scopes (items_scopes xs) t.mentions (items_after xs t).mentions
  items_end no_item t = none_end _ _ refl
  items_end (and_item xs x) t = then_end (items_scopes xs) (item_scopes x) t.mentions (items_after xs t).mentions _ (items_end xs t) (item_end x (items_after xs t))

  item_end : (x : Item) (t : Table) → Scopes (item_scopes x) t.mentions (item_after x t).mentions
  item_end (lets w ls q) t = none_end _ _ (lets_end ls t)
  item_end (consts w ls q) t = none_end _ _ (consts_end ls t)
  item_end (statement s) t = stmt_scopes s t

function_ends : (f : Function) (t : Table) → Scopes (function_scopes f) t.mentions (function_after f t).mentions
function_ends (function w n f ps q b) t = block_ends (of_params ps) (params_declared ps) b t (told_params ps)

pub script_ends : (s : Script) → Scopes (part_scopes s) [] (script_table s).mentions
script_ends no_part = none_end _ _ refl
script_ends (and_function s f) = then_end (part_scopes s) (function_scopes f) [] (script_table s).mentions _ (script_ends s) (function_ends f (script_table s))
script_ends (and_part s x) = then_end (part_scopes s) (item_scopes x) [] (script_table s).mentions _ (script_ends s) (item_end x (script_table s))

-- what repeats a name somewhere in a script, by its scope
abbrev pub InScript : Script → Declared → Type 0
InScript s d = (⊥ ⊎ Repeats [] (script_declared s) d) ⊎ InEnded (script_table s).mentions d

pub record IsAgainIn (s : Script) (d : Declared) : Type 0 where
  pub scope : List Named
  pub is_scope : Contains (script_scopes s) scope
  pub name : Named
  pub again : IsAgain scope name
  pub is_for : IsFor name d

again_in : (s : Script) (ns : List Named) (ds : List Declared) (d : Declared) → In ns (script_scopes s) → IsTold ns ds → Repeats [] ds d → IsAgainIn s d
again_in s ns ds d k t q = let g : (n : Named) × IsAgain ns n × IsFor n d = again_repeats ns ds d t q in
    record { scope = ns; is_scope = contains_in ns (script_scopes s) k; name = g.0; again = g.1; is_for = g.2 }

ended_in_script : (s : Script) (ds : List Declared) (d : Declared) → IsScope (part_scopes s) ds ⊎ Ended [] ds → Repeats [] ds d → IsAgainIn s d
ended_in_script s ds d (inl k) q = again_in s k.names ds d (inr k.is_in) k.told q
ended_in_script s ds d (inr k) q = absurd k

pub is_again_in : (s : Script) (d : Declared) → InScript s d → IsAgainIn s d
is_again_in s d (inl (inl h)) = absurd h
is_again_in s d (inl (inr q)) = again_in s (of_script s) (script_declared s) d (inl refl) (told_script s) q
is_again_in s d (inr q) = ended_in_script s q.0 d ((script_ends s).back q.0 q.1) q.2

pub record Repeating (s : Script) (n : Named) : Type 0 where
  pub declared : Declared
  pub is_in : InScript s declared
  pub is_for : IsFor n declared

in_script : (s : Script) (scope : List Named) (n : Named) → (of_script s ≡ scope) ⊎ In scope (part_scopes s) → IsAgain scope n → Repeating s n
in_script s scope n (inl e) a = let g : (d : Declared) × Repeats [] (script_declared s) d × IsFor n d = repeats_again scope (script_declared s) n (subst (λ z. IsTold z (script_declared s)) e (told_script s)) a in
    record { declared = g.0; is_in = inl (inr g.1); is_for = g.2 }
in_script s scope n (inr h) a = let k : IsEnded (script_table s).mentions scope = (script_ends s).there scope h in
    let g : (d : Declared) × Repeats [] k.declared d × IsFor n d = repeats_again scope k.declared n k.told a in
    record { declared = g.0; is_in = inr (k.declared, k.ended, g.1); is_for = g.2 }

pub is_repeating : (s : Script) (scope : List Named) (n : Named) → Contains (script_scopes s) scope → IsAgain scope n → Repeating s n
is_repeating s scope n c a = in_script s scope n (in_contains scope (script_scopes s) c) a

tells : (s : Script) (r : Option Again) → IsLeast r (InScript s) → TellsAgain s r
tells s None l = λ scope n c a. let g : Repeating s n = is_repeating s scope n c a in l.bounds g.declared g.is_in
tells s (Some a) l = let g : IsAgainIn s l.from.0 = is_again_in s l.from.0 l.from.1 in (
  g.name,
  record { scope = g.scope; is_scope = g.is_scope; again = g.again; first = λ other m c b. at_least g (is_repeating s other m c b) },
  sym (ap (λ (z : Again). z.place) l.from.2) ∙ g.is_for.1,
  sym (ap (λ (z : Again). z.name) l.from.2) ∙ g.is_for.0,
)
  where
    at_least : (g : IsAgainIn s l.from.0) {m : Named} (h : Repeating s m) → g.name.spot.place ≤ m.spot.place
    at_least g {m} h = let u : a.place ≤ h.declared.place = l.bounds h.declared h.is_in in
        let v : a.place ≡ g.name.spot.place = sym (ap (λ (z : Again). z.place) l.from.2) ∙ g.is_for.1 in
        let w : h.declared.place ≡ m.spot.place = h.is_for.1 in omega arith

nothing_least : IsLeast None (λ (d : Declared). ⊥)
nothing_least = record { bounds = λ d h. h; from = tt }

-- in the order of the text
ended_left : (xs ys : List Mention) (ds : List Declared) → Ended xs ds → Ended (xs ++ ys) ds
ended_left [] ys ds h = absurd h
ended_left (mentions.Ends es ∷ xs) ys ds (inl e) = inl e
ended_left (mentions.Ends es ∷ xs) ys ds (inr h) = inr (ended_left xs ys ds h)
ended_left (mentions.Name n ∷ xs) ys ds h = ended_left xs ys ds h
ended_left (mentions.Begins ∷ xs) ys ds h = ended_left xs ys ds h

ended_right : (xs ys : List Mention) (ds : List Declared) → Ended ys ds → Ended (xs ++ ys) ds
ended_right [] ys ds h = h
ended_right (mentions.Ends es ∷ xs) ys ds h = inr (ended_right xs ys ds h)
ended_right (mentions.Name n ∷ xs) ys ds h = ended_right xs ys ds h
ended_right (mentions.Begins ∷ xs) ys ds h = ended_right xs ys ds h

ended_either : (xs ys : List Mention) (ds : List Declared) → Ended (xs ++ ys) ds → Ended xs ds ⊎ Ended ys ds
ended_either [] ys ds h = inr h
ended_either (mentions.Ends es ∷ xs) ys ds (inl e) = inl (inl e)
ended_either (mentions.Ends es ∷ xs) ys ds (inr h) = later (ended_either xs ys ds h)
  where
    later : Ended xs ds ⊎ Ended ys ds → ((es ≡ ds) ⊎ Ended xs ds) ⊎ Ended ys ds
    later (inl k) = inl (inr k)
    later (inr k) = inr k
ended_either (mentions.Name n ∷ xs) ys ds h = ended_either xs ys ds h
ended_either (mentions.Begins ∷ xs) ys ds h = ended_either xs ys ds h

one_ended : (m : Mention) (xs : List Mention) (ds : List Declared) → Ended (m ∷ []) ds → Ended (m ∷ xs) ds
one_ended m xs ds h = ended_left (m ∷ []) xs ds h

rest_ended : (m : Mention) (xs : List Mention) (ds : List Declared) → Ended xs ds → Ended (m ∷ xs) ds
rest_ended m xs ds h = ended_right (m ∷ []) xs ds h

back_from : (m : Mention) (xs : List Mention) (ds : List Declared) → (Ended (reverse xs) ds → Ended xs ds) → Ended (reverse xs) ds ⊎ Ended (m ∷ []) ds → Ended (m ∷ xs) ds
back_from m xs ds g (inl k) = rest_ended m xs ds (g k)
back_from m xs ds g (inr k) = one_ended m xs ds k

ended_back : (xs : List Mention) (ds : List Declared) → Ended (reverse xs) ds → Ended xs ds
ended_back [] ds h = h
ended_back (m ∷ xs) ds h = back_from m xs ds (λ k. ended_back xs ds k) (ended_either (reverse xs) (m ∷ []) ds (subst (λ z. Ended z ds) (reverse-append (m ∷ []) xs) h))

there_from : (m : Mention) (xs : List Mention) (ds : List Declared) → (Ended xs ds → Ended (reverse xs) ds) → Ended (m ∷ []) ds ⊎ Ended xs ds → Ended (reverse xs ++ m ∷ []) ds
there_from m xs ds g (inl k) = ended_right (reverse xs) (m ∷ []) ds k
there_from m xs ds g (inr k) = ended_left (reverse xs) (m ∷ []) ds (g k)

ended_there : (xs : List Mention) (ds : List Declared) → Ended xs ds → Ended (reverse xs) ds
ended_there [] ds h = h
ended_there (m ∷ xs) ds h = subst (λ z. Ended z ds) (sym (reverse-append (m ∷ []) xs)) (there_from m xs ds (λ k. ended_there xs ds k) (ended_either (m ∷ []) xs ds h))

in_text_order : (s : Script) (d : Declared) → (⊥ ⊎ Repeats [] (script_declared s) d) ⊎ InEnded (reverse (script_table s).mentions) d → InScript s d
in_text_order s d (inl h) = inl h
in_text_order s d (inr h) = inr (h.0, ended_back (script_table s).mentions h.0 h.1, h.2)

from_last : (s : Script) (d : Declared) → InScript s d → (⊥ ⊎ Repeats [] (script_declared s) d) ⊎ InEnded (reverse (script_table s).mentions) d
from_last s d (inl h) = inl h
from_last s d (inr h) = inr (h.0, ended_there (script_table s).mentions h.0 h.1, h.2)

pub tells_in_order : (s : Script) → TellsAgain s (repeated_in (repeated [] None (script_declared s)) (reverse (script_table s).mentions))
tells_in_order s = tells s _ (least_of _ (Or (Or (λ (d : Declared). ⊥) (Repeats [] (script_declared s))) (InEnded (reverse (script_table s).mentions))) (InScript s) (λ d h. in_text_order s d h) (λ d h. from_last s d h)
    (repeated_in_least (reverse (script_table s).mentions) (repeated [] None (script_declared s)) _ (repeated_least (script_declared s) [] None _ nothing_least)))
