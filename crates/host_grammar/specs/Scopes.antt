-- The scopes of a script and the names that they declare (ECMA-262, section 16.1.1 and 14.2.1, cut to the profile): the script
-- with its functions, a function's parameters with its body, a catch name with its block, and each other block.
use Rattle.std.specs.Prelude.{◌≡◌, ◌≤◌, List, [], ◌∷◌, ◌++◌, Contains}
use Rattle.host_grammar.specs.Derivations.{Named, LetDecl, unset, set_to, LetDecls, one_let, and_let, ConstDecl, const_to, ConstDecls, one_const, and_const, Stmt, block, if_then, if_else, while_do, try_catch, try_catch_name, Block, braces, Items, no_item, and_item, Item, lets, consts, statement, Names, one_name, and_name, Params, no_param, params, params_on, Function, function, Script, no_part, and_function, and_part}

-- the names that declarations declare, in the order of the text
abbrev pub of_let : LetDecl → List Named
of_let (unset n) = n ∷ []
of_let (set_to n m e) = n ∷ []

abbrev pub of_lets : LetDecls → List Named
of_lets (one_let l) = of_let l
of_lets (and_let ls c l) = of_lets ls ++ of_let l

abbrev pub of_const : ConstDecl → List Named
of_const (const_to n m e) = n ∷ []

abbrev pub of_consts : ConstDecls → List Named
of_consts (one_const l) = of_const l
of_consts (and_const ls c l) = of_consts ls ++ of_const l

abbrev pub of_item : Item → List Named
of_item (lets w ls q) = of_lets ls
of_item (consts w ls q) = of_consts ls
of_item (statement s) = []

abbrev pub of_items : Items → List Named
of_items no_item = []
of_items (and_item xs x) = of_items xs ++ of_item x

abbrev pub of_names : Names → List Named
of_names (one_name n) = n ∷ []
of_names (and_name ns c n) = of_names ns ++ n ∷ []

abbrev pub of_params : Params → List Named
of_params no_param = []
of_params (params ns) = of_names ns
of_params (params_on ns c) = of_names ns

abbrev pub of_function : Function → List Named
of_function (function w n f ps t b) = n ∷ []

abbrev pub of_script : Script → List Named
of_script no_part = []
of_script (and_function s f) = of_script s ++ of_function f
of_script (and_part s x) = of_script s ++ of_item x

-- the scopes of a part, each by the names that it declares
abbrev mutual
  pub scopes_of : Stmt → List (List Named)
  scopes_of (block b) = block_scopes [] b
  scopes_of (if_then w f e t s) = scopes_of s
  scopes_of (if_else w f e t s o r) = scopes_of s ++ scopes_of r
  scopes_of (while_do w f e t s) = scopes_of s
  scopes_of (try_catch w b c h) = block_scopes [] b ++ block_scopes [] h
  scopes_of (try_catch_name w b c f n t h) = block_scopes [] b ++ block_scopes (n ∷ []) h
  scopes_of _ = []

  -- a block's own scope, with names that stand before it, and the scopes in it
  pub block_scopes : List Named → Block → List (List Named)
  block_scopes own (braces f xs t) = (own ++ of_items xs) ∷ items_scopes xs

  pub items_scopes : Items → List (List Named)
  items_scopes no_item = []
  items_scopes (and_item xs x) = items_scopes xs ++ item_scopes x

  pub item_scopes : Item → List (List Named)
  item_scopes (lets w ls q) = []
  item_scopes (consts w ls q) = []
  item_scopes (statement s) = scopes_of s

abbrev pub function_scopes : Function → List (List Named)
function_scopes (function w n f ps t b) = block_scopes (of_params ps) b

abbrev pub part_scopes : Script → List (List Named)
part_scopes no_part = []
part_scopes (and_function s f) = part_scopes s ++ function_scopes f
part_scopes (and_part s x) = part_scopes s ++ item_scopes x

abbrev pub script_scopes : Script → List (List Named)
script_scopes s = of_script s ∷ part_scopes s

-- a name that a scope has declared before
pub record IsAgain (scope : List Named) (n : Named) : Type 0 where
  pub front : List Named
  pub first : Named
  pub middle : List Named
  pub back : List Named
  pub parts : scope ≡ front ++ first ∷ (middle ++ n ∷ back)
  pub same : first.text ≡ n.text

-- the first later declaration of a script: in a scope it is one, and none stands before it
pub record IsFirstAgain (script : Script) (n : Named) : Type 0 where
  pub scope : List Named
  pub is_scope : Contains (script_scopes script) scope
  pub again : IsAgain scope n
  pub first : (other : List Named) (m : Named) → Contains (script_scopes script) other → IsAgain other m → n.spot.place ≤ m.spot.place

-- no name is declared twice in one scope
abbrev pub HasNoAgain : Script → Type 0
HasNoAgain script = (scope : List Named) (n : Named) → Contains (script_scopes script) scope → ¬ IsAgain scope n
