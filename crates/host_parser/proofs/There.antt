-- The nodes and bindings that a script's tree names are there.
use Rattle.std.specs.Prelude.{◌≡◌, ℕ, zero, suc, ◌+◌, ◌<◌, ◌≤◌, Bool, true, false, cond, Option, Some, None, List, [], ◌∷◌, ◌++◌, length, reverse, drop, refl}
use Rattle.std.specs.List.{All, AllByRecursion, slice_get}
use Rattle.std.specs.Str.{bytes_eq}
use Rattle.std.proofs.Common.{sym, ◌∙◌, ap, subst, arith}
use Rattle.std.proofs.lemmas.List.{length-reverse, reverse-append}
use Rattle.std.proofs.lemmas.List.Elements.{All-nil, All-push, All-from_recursion}
use Rattle.host_grammar.specs.Derivations.{Function, function, Script, no_part, and_function, and_part}
use Rattle.host_nodes.specs.declared.form.Node.{Node}
use Rattle.host_nodes.specs.declared.form.Function as code_function
use Rattle.host_nodes.specs.declared.form.Declares.{Declares}
use Rattle.host_nodes.specs.declared.form.Declares.TheVariants as declares
use Rattle.host_nodes.specs.declared.form.Declared.{Declared}
use Rattle.host_nodes.specs.declared.form.Mention.{Mention}
use Rattle.host_nodes.specs.declared.form.Mention.TheVariants as mentions
use Rattle.host_nodes.specs.Tables.{Table, last, item_after, function_after, function_told, script_table, script_functions, script_top, script_declared}
use Rattle.host_parser.specs.declared.binding.Binding.{Binding}
use Rattle.host_parser.specs.Names.{Entry, Environment, found, binding_or_unbound, predefined_or_unknown, unbound, binding_of, enter, enter_one, global, global_at, global_entries, function_count, next_function, next_variable, script_environment, script_bound}
use Rattle.host_parser.specs.Predefined.{predefined_of}
use Rattle.host_parser.specs.Resolving.{left, resolved}
use Rattle.host_parser.specs.Trees.{Tree, tree_of, IsTree}
use Rattle.host_parser.specs.Laws.{IsBefore, PartsBefore, RefersBelow, NodesAreThere, IsGlobalBelow, BindingsAreThere}
use Rattle.host_parser.proofs.Backward.{AreBackward, ReferBelow, names_of, Goes, size, last_before, no_farther, here, item_goes, function_goes, script_back}
use Rattle.host_parser.proofs.Resolves.{script_res}

-- the statements and the functions' bodies
top_before : (s : Script) (k : ℕ) → size (script_table s) ≤ k → All (IsBefore k) (script_top s)
top_before no_part k l = All-nil (IsBefore k)
top_before (and_function s f) k l = top_before s k (no_farther 1 (script_table s) (function_after f (script_table s)) k (function_goes f (script_table s) (script_back s)) l)
top_before (and_part s x) k l = All-push (IsBefore k) (script_top s) (last (item_after x (script_table s)))
    (top_before s k (no_farther 1 (script_table s) (item_after x (script_table s)) k (item_goes x (script_table s) (script_back s)) l))
    (last_before (script_table s) (item_after x (script_table s)) k (item_goes x (script_table s) (script_back s)) l)

abbrev BodyBefore : ℕ → code_function.Function → Type 0
BodyBefore k f = IsBefore k f.body

body_before : (f : Function) (t : Table) (k : ℕ) → Goes 1 t (function_after f t) → size (function_after f t) ≤ k → BodyBefore k (function_told f t)
body_before (function w n f ps q b) t k g l = last_before t (function_after (function w n f ps q b) t) k g l

bodies_before : (s : Script) (k : ℕ) → size (script_table s) ≤ k → All (BodyBefore k) (script_functions s)
bodies_before no_part k l = All-nil (BodyBefore k)
bodies_before (and_function s f) k l = All-push (BodyBefore k) (script_functions s) (function_told f (script_table s))
    (bodies_before s k (no_farther 1 (script_table s) (function_after f (script_table s)) k (function_goes f (script_table s) (script_back s)) l))
    (body_before f (script_table s) k (function_goes f (script_table s) (script_back s)) l)
bodies_before (and_part s x) k l = bodies_before s k (no_farther 1 (script_table s) (item_after x (script_table s)) k (item_goes x (script_table s) (script_back s)) l)

-- the node with a number
pub last_or_earlier : {A P : Type 0} (xs : List A) (x y : A) (k : ℕ) → slice_get (xs ++ x ∷ []) k ≡ Some y → (slice_get xs k ≡ Some y → P) → (k ≡ length xs → x ≡ y → P) → P
last_or_earlier [] x y zero e f g = g refl (some_same e)
  where
    some_same : {A : Type 0} {x y : A} → Some x ≡ Some y → x ≡ y
    some_same e = cc
last_or_earlier [] x y (suc k) e f g = absurd cc
last_or_earlier (z ∷ xs) x y zero e f g = f e
last_or_earlier (z ∷ xs) x y (suc k) e f g = last_or_earlier xs x y k e f (λ h. g (ap suc h))

pub last_first : {A : Type 0} (xs : List A) (x : A) → reverse (x ∷ xs) ≡ reverse xs ++ x ∷ []
last_first xs x = reverse-append (x ∷ []) xs

parts_at : (ns : List Node) → AreBackward ns → (k : ℕ) (n : Node) → slice_get (reverse ns) k ≡ Some n → PartsBefore k n.form
parts_at [] h k n e = absurd cc
parts_at (x ∷ ns) h k n e = last_or_earlier (reverse ns) x n k (subst (λ z. slice_get z k ≡ Some n) (last_first ns x) e) (parts_at ns h.1 k n)
    (λ f g. subst (λ (z : Node). PartsBefore k z.form) g (subst (λ i. PartsBefore i x.form) (sym (f ∙ length-reverse ns)) h.0))

refer_below : (r : ℕ) (ns : List Node) → ReferBelow r ns → All (λ (n : Node). RefersBelow r n.form) (reverse ns)
refer_below r [] h = All-nil (λ (n : Node). RefersBelow r n.form)
refer_below r (x ∷ ns) h = subst (All (λ (n : Node). RefersBelow r n.form)) (sym (last_first ns x)) (All-push (λ (n : Node). RefersBelow r n.form) (reverse ns) x (refer_below r ns h.1) h.0)

nodes_of : (s : Script) (len : ℕ) → NodesAreThere (tree_of s len)
nodes_of s len = record {
  top = top_before s (length (reverse (script_table s).nodes)) (all (script_table s));
  bodies = bodies_before s (length (reverse (script_table s).nodes)) (all (script_table s));
  parts = parts_at (script_table s).nodes (script_back s).parts;
}
  where
    all : (t : Table) → size t ≤ length (reverse t.nodes)
    all t = subst (λ k. size t ≤ k) (sym (length-reverse t.nodes)) (here t)

pub nodes_are_there : (t : Tree) → IsTree t → NodesAreThere t
nodes_are_there t h = subst NodesAreThere (sym h.is_tree) (nodes_of h.script t.len)

-- as many bindings as references
as_many : (e : Environment) (cs : List ℕ) (ms : List Mention) (y : List Binding) → length (resolved e cs ms y) ≡ names_of ms + length y
as_many e cs [] y = none (length y)
  where
    none : (a : ℕ) → a ≡ 0 + a
    none a = omega arith
as_many e cs (mentions.Name n ∷ ms) y = as_many e cs ms (binding_of n e ∷ y) ∙ next (names_of ms) (length y)
  where
    next : (a b : ℕ) → a + suc b ≡ suc a + b
    next a b = omega arith
as_many e cs (mentions.Ends ds ∷ ms) y = as_many (enter ds e) (length ds ∷ cs) ms y
as_many e [] (mentions.Begins ∷ ms) y = as_many e [] ms y
as_many e (c ∷ cs) (mentions.Begins ∷ ms) y = as_many (left c e) cs ms y

bindings_count : (s : Script) → length (script_bound s) ≡ (script_table s).references
bindings_count s = ap length (sym (script_res s (script_environment (script_declared s)) [])) ∙ as_many (script_environment (script_declared s)) [] (script_table s).mentions [] ∙ none_more (names_of (script_table s).mentions)
    ∙ (script_back s).counted
  where
    none_more : (a : ℕ) → a + 0 ≡ a
    none_more a = omega arith

-- the global bindings of an environment lie below a number
abbrev EntryBelow : ℕ → Entry → Type 0
EntryBelow k e = IsGlobalBelow k e.binding

abbrev AreBelow : ℕ → List Entry → Type 0
AreBelow k es = AllByRecursion (EntryBelow k) es

unbound_below : (k : ℕ) (n : List ℕ) → IsGlobalBelow k (unbound n)
unbound_below k n = none (predefined_of n)
  where
    none : (p : Option _) → IsGlobalBelow k (predefined_or_unknown p)
    none None = tt
    none (Some p) = tt

first_or_later : (k : ℕ) (n : List ℕ) (e : Entry) (r : Option Binding) (b : Bool) → EntryBelow k e → IsGlobalBelow k (binding_or_unbound n r) → IsGlobalBelow k (binding_or_unbound n (cond b (Some e.binding) r))
first_or_later k n e r true h i = h
first_or_later k n e r false h i = i

found_below : (k : ℕ) (n : List ℕ) (es : List Entry) → AreBelow k es → IsGlobalBelow k (binding_or_unbound n (found n es))
found_below k n [] h = unbound_below k n
found_below k n (e ∷ es) h = first_or_later k n e (found n es) (bytes_eq e.name n) h.0 (found_below k n es h.1)

abbrev in_scope : Environment → List Entry
in_scope e = e.locals ++ e.globals

entered_below : (k : ℕ) (ds : List Declared) (e : Environment) → AreBelow k (in_scope e) → AreBelow k (in_scope (enter ds e))
entered_below k [] e h = h
entered_below k (d ∷ ds) e h = entered_below k ds (enter_one d e) (tt, h)

dropped_below : (k c : ℕ) (ls gs : List Entry) → AreBelow k (ls ++ gs) → AreBelow k (drop c ls ++ gs)
dropped_below k zero ls gs h = h
dropped_below k (suc c) [] gs h = h
dropped_below k (suc c) (l ∷ ls) gs h = dropped_below k c ls gs h.1

resolved_below : (k : ℕ) (e : Environment) (cs : List ℕ) (ms : List Mention) (y : List Binding) → AreBelow k (in_scope e) → AllByRecursion (IsGlobalBelow k) y → AllByRecursion (IsGlobalBelow k) (resolved e cs ms y)
resolved_below k e cs [] y h a = a
resolved_below k e cs (mentions.Name n ∷ ms) y h a = resolved_below k e cs ms (binding_of n e ∷ y) h (found_below k n (in_scope e) h, a)
resolved_below k e cs (mentions.Ends ds ∷ ms) y h a = resolved_below k (enter ds e) (length ds ∷ cs) ms y (entered_below k ds e h) a
resolved_below k e [] (mentions.Begins ∷ ms) y h a = resolved_below k e [] ms y h a
resolved_below k e (c ∷ cs) (mentions.Begins ∷ ms) y h a = resolved_below k (left c e) cs ms y (dropped_below k c e.locals e.globals h) a

-- the script's own names are numbered below their count
fewer_functions : (ds : List Declared) → function_count ds ≤ length ds
fewer_functions [] = omega arith
fewer_functions (d ∷ ds) = one d.declares (function_count ds) (length ds) (fewer_functions ds)
  where
    one : (x : Declares) (a b : ℕ) → a ≤ b → next_function x a ≤ suc b
    one declares.Function a b h = omega arith
    one declares.Variable a b h = omega arith
    one declares.Constant a b h = omega arith

-- numbers that are left for functions and for other declarations
record Leave (n f v : ℕ) (ds : List Declared) : Type 0 where
  functions : f + function_count ds ≤ n
  variables : v + length ds ≤ n + function_count ds

one_numbered : (x : Declares) (n f v c l : ℕ) → f + next_function x c ≤ n → v + suc l ≤ n + next_function x c → c ≤ l
    → (global_at x f v < n) × (next_function x f + c ≤ n) × (next_variable x v + l ≤ n + c)
one_numbered declares.Function n f v c l g h k = (omega arith, omega arith, omega arith)
one_numbered declares.Variable n f v c l g h k = (omega arith, omega arith, omega arith)
one_numbered declares.Constant n f v c l g h k = (omega arith, omega arith, omega arith)

globals_below : (n f v : ℕ) (ds : List Declared) (es : List Entry) → Leave n f v ds → AreBelow n es → AreBelow n (global_entries f v ds es)
globals_below n f v [] es h a = a
globals_below n f v (d ∷ ds) es h a = let k = one_numbered d.declares n f v (function_count ds) (length ds) h.functions h.variables (fewer_functions ds) in
    globals_below n (next_function d.declares f) (next_variable d.declares v) ds (global (global_at d.declares f v) d ∷ es) (record { functions = k.1; variables = k.2 }) (k.0, a)

script_below : (ds : List Declared) → AreBelow (length ds) (in_scope (script_environment ds))
script_below ds = globals_below (length ds) 0 (function_count ds) ds [] (record { functions = none_before (function_count ds) (length ds) (fewer_functions ds); variables = swapped (function_count ds) (length ds) }) tt
  where
    none_before : (a b : ℕ) → a ≤ b → 0 + a ≤ b
    none_before a b h = omega arith

    swapped : (a b : ℕ) → a + b ≤ b + a
    swapped a b = omega arith

bindings_below : (s : Script) → All (IsGlobalBelow (length (script_declared s))) (script_bound s)
bindings_below s = All-from_recursion (IsGlobalBelow (length (script_declared s))) (script_bound s)
    (subst (AllByRecursion (IsGlobalBelow (length (script_declared s)))) (script_res s (script_environment (script_declared s)) [])
    (resolved_below (length (script_declared s)) (script_environment (script_declared s)) [] (script_table s).mentions [] (script_below (script_declared s)) tt))

bindings_of : (s : Script) (len : ℕ) → BindingsAreThere (tree_of s len)
bindings_of s len = record {
  references = refer_below (length (script_bound s)) (script_table s).nodes (subst (λ k. ReferBelow k (script_table s).nodes) (sym (bindings_count s)) (script_back s).references);
  globals = bindings_below s;
}

pub bindings_are_there : (t : Tree) → IsTree t → BindingsAreThere t
bindings_are_there t h = subst BindingsAreThere (sym h.is_tree) (bindings_of h.script t.len)
