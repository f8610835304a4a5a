-- From what is built to what is answered.
use Rattle.std.specs.Prelude.{◌≡◌, ℕ, Option, Some, None, List, [], length, map, reverse, Result, Ok, Err, refl}
use Rattle.std.proofs.Common.{sym, ◌∙◌, ap, subst}
use Rattle.std.proofs.lemmas.List.{reverse-reverse}
use Rattle.host_lexer.specs.declared.token.Token.{Token}
use Rattle.host_lexer.specs.Tokens.{InOrder}
use Rattle.host_grammar.specs.Derivations.{Script}
use Rattle.host_grammar.specs.Conditions.{IsScript}
use Rattle.host_grammar.specs.Printing.{seen}
use Rattle.host_grammar.specs.Scopes.{IsFirstAgain}
use Rattle.host_grammar.specs.Refusals.{Parsed, IsParsed, IsSame, tree, unexpected, too_deep, early}
use Rattle.host_nodes.specs.declared.builder.Built.{Built}
use Rattle.host_nodes.specs.Built.{IsBuilt}
use Rattle.host_nodes.specs.Tables.{script_table, script_functions, script_top, script_declared}
use Rattle.host_parser.specs.declared.again.Again.{Again}
use Rattle.host_parser.specs.declared.binding.Binding.{Binding}
use Rattle.host_parser.specs.declared.parsing.ParseError.{ParseError}
use Rattle.host_parser.specs.declared.parsing.ParseError.TheVariants as errors
use Rattle.host_parser.specs.Names.{script_environment, script_bound}
use Rattle.host_parser.specs.Resolving.{resolved}
use Rattle.host_parser.specs.Repeats.{repeated, repeated_in, TellsAgain}
use Rattle.host_parser.specs.Trees.{Tree, tree_of, IsTree}
use Rattle.host_parser.specs.Parsing.{IsAnswer, IsWhole, Gives, built_tree}
use Rattle.host_parser.proofs.Resolves.{script_res}
use Rattle.host_parser.proofs.Scoped.{tells_in_order}
use Rattle.host_parser.proofs.Printed.{one_name_at}

-- what is found of later declarations
tells_built : (ts : List Token) (b : Built) (w : IsWhole ts b) (r : Option Again) → r ≡ repeated_in (repeated [] None b.declared) b.mentions → TellsAgain w.script r
tells_built ts b w r e = subst (TellsAgain w.script) (sym (e ∙ ap (λ ds. repeated_in (repeated [] None ds) b.mentions) w.built.declared ∙ ap (repeated_in (repeated [] None (script_declared w.script))) w.built.mentions)) (tells_in_order w.script)

pub is_early : (ts : List Token) (len : ℕ) (b : Built) → IsWhole ts b → (r : Option Again) (a : Again) → r ≡ repeated_in (repeated [] None b.declared) b.mentions → r ≡ Some a → IsParsed ts len (early a.place a.name)
is_early ts len b w r a e f = let g : TellsAgain w.script (Some a) = subst (TellsAgain w.script) f (tells_built ts b w r e) in (w.script, g.0, w.is_script, w.not_deep, g.1, g.2, g.3)

-- the tree
back : {A : Type 0} (xs : List A) → reverse (reverse xs) ≡ xs
back xs = reverse-reverse xs

bound_built : (s : Script) (b : Built) → IsBuilt s b → resolved (script_environment b.declared) [] (reverse b.mentions) [] ≡ script_bound s
bound_built s b h = ap (λ ds. resolved (script_environment ds) [] (reverse b.mentions) []) h.declared ∙ ap (λ ms. resolved (script_environment (script_declared s)) [] ms []) (ap reverse h.mentions ∙ back (script_table s).mentions)
    ∙ script_res s (script_environment (script_declared s)) []

tree_built : (s : Script) (b : Built) (bs : List Binding) (len : ℕ) → IsBuilt s b → bs ≡ resolved (script_environment b.declared) [] (reverse b.mentions) [] → built_tree b bs len ≡ tree_of s len
tree_built s b bs len h e =
    ap (λ x. record { functions = x; top = b.top; nodes = b.nodes; bindings = bs; globals = length b.declared; len = len }) h.functions
    ∙ ap (λ x. record { functions = script_functions s; top = x; nodes = b.nodes; bindings = bs; globals = length b.declared; len = len }) h.top
    ∙ ap (λ x. record { functions = script_functions s; top = script_top s; nodes = x; bindings = bs; globals = length b.declared; len = len }) h.nodes
    ∙ ap (λ x. record { functions = script_functions s; top = script_top s; nodes = reverse (script_table s).nodes; bindings = x; globals = length b.declared; len = len }) (e ∙ bound_built s b h)
    ∙ ap (λ x. record { functions = script_functions s; top = script_top s; nodes = reverse (script_table s).nodes; bindings = script_bound s; globals = length x; len = len }) h.declared

pub is_tree : (ts : List Token) (len : ℕ) (b : Built) (bs : List Binding) → InOrder 0 len ts → IsWhole ts b → bs ≡ resolved (script_environment b.declared) [] (reverse b.mentions) [] → IsTree (built_tree b bs len)
is_tree ts len b bs o w e = record { tokens = ts; in_order = o; script = w.script; is_script = w.is_script; is_tree = tree_built w.script b bs len w.built e }

pub is_answer : (ts : List Token) (len : ℕ) (b : Built) (bs : List Binding) (r : Option Again) → IsWhole ts b → r ≡ repeated_in (repeated [] None b.declared) b.mentions → r ≡ None
    → bs ≡ resolved (script_environment b.declared) [] (reverse b.mentions) [] → IsAnswer ts len (Ok (built_tree b bs len))
is_answer ts len b bs r w k n e = (w.script, (w.is_script, w.not_deep, subst (TellsAgain w.script) n (tells_built ts b w r k)), tree_built w.script b bs len w.built e)

-- and nothing else
abbrev OneScript : List Token → Type 0
OneScript ts = (x z : Script) → IsScript (map seen ts) x → IsScript (map seen ts) z → x ≡ z

same_name : (ts : List Token) (len : ℕ) → InOrder 0 len ts → OneScript ts → (q : ℕ) (m : List ℕ) (p : ℕ) (n : List ℕ) → IsParsed ts len (early q m) → IsParsed ts len (early p n) → q ≡ p → m ≡ n
same_name ts len o one q m p n h k e = h.6 ∙ one_name_at ts len h.0 h.1 k.1 o h.2 h.4 (subst (λ z. IsFirstAgain z k.1) (one k.0 h.0 k.2 h.2) k.4) (sym h.5 ∙ e ∙ k.5) ∙ sym k.6

pub gives : (ts : List Token) (len : ℕ) → InOrder 0 len ts → OneScript ts → ((a b : Parsed) → IsParsed ts len a → IsParsed ts len b → IsSame a b) → (r : Result Tree ParseError) → IsAnswer ts len r → (p : Parsed) → IsParsed ts len p → Gives p len r
gives ts len o only one (Ok t) h (tree s) k = h.2 ∙ ap (λ z. tree_of z len) (one (tree h.0) (tree s) h.1 k)
gives ts len o only one (Ok t) h (unexpected p) k = absurd (one (tree h.0) (unexpected p) h.1 k)
gives ts len o only one (Ok t) h (too_deep p) k = absurd (one (tree h.0) (too_deep p) h.1 k)
gives ts len o only one (Ok t) h (early p n) k = absurd (one (tree h.0) (early p n) h.1 k)
gives ts len o only one (Err (errors.Unexpected q)) h (tree s) k = absurd (one (unexpected q) (tree s) h k)
gives ts len o only one (Err (errors.Unexpected q)) h (unexpected p) k = one (unexpected q) (unexpected p) h k
gives ts len o only one (Err (errors.Unexpected q)) h (too_deep p) k = absurd (one (unexpected q) (too_deep p) h k)
gives ts len o only one (Err (errors.Unexpected q)) h (early p n) k = absurd (one (unexpected q) (early p n) h k)
gives ts len o only one (Err (errors.TooDeep q)) h (tree s) k = absurd (one (too_deep q) (tree s) h k)
gives ts len o only one (Err (errors.TooDeep q)) h (unexpected p) k = absurd (one (too_deep q) (unexpected p) h k)
gives ts len o only one (Err (errors.TooDeep q)) h (too_deep p) k = one (too_deep q) (too_deep p) h k
gives ts len o only one (Err (errors.TooDeep q)) h (early p n) k = absurd (one (too_deep q) (early p n) h k)
gives ts len o only one (Err (errors.Early q m)) h (tree s) k = absurd (one (early q m) (tree s) h k)
gives ts len o only one (Err (errors.Early q m)) h (unexpected p) k = absurd (one (early q m) (unexpected p) h k)
gives ts len o only one (Err (errors.Early q m)) h (too_deep p) k = absurd (one (early q m) (too_deep p) h k)
gives ts len o only one (Err (errors.Early q m)) h (early p n) k = (one (early q m) (early p n) h k, same_name ts len o only q m p n h k (one (early q m) (early p n) h k))
gives ts len o only one (Err errors.NoMemory) h p k = tt

pub none_found : (r : Option Again) → ((a : Again) → r ≡ Some a → ⊥) → r ≡ None
none_found None h = refl
none_found (Some a) h = absurd (h a refl)
