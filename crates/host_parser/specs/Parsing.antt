-- What a parse answers.
use Rattle.std.specs.Prelude.{◌≡◌, ℕ, List, length, map, Result, Ok, Err}
use Rattle.host_lexer.specs.declared.token.Token.{Token}
use Rattle.host_grammar.specs.Derivations.{Script}
use Rattle.host_grammar.specs.Conditions.{IsScript}
use Rattle.host_grammar.specs.Printing.{seen}
use Rattle.host_grammar.specs.Refusals.{Parsed, IsParsed, IsTooDeep, tree, unexpected, too_deep, early}
use Rattle.host_nodes.specs.declared.builder.Built.{Built}
use Rattle.host_nodes.specs.Built.{IsBuilt}
use Rattle.host_parser.specs.declared.parsing.ParseError.{ParseError}
use Rattle.host_parser.specs.declared.parsing.ParseError.TheVariants as errors
use Rattle.host_parser.specs.declared.binding.Binding.{Binding}
use Rattle.host_parser.specs.Trees.{Tree, tree_of}

-- each answer is what the tokens are read as
abbrev pub IsAnswer : List Token → ℕ → Result Tree ParseError → Type 0
IsAnswer ts len (Ok t) = (s : Script) × IsParsed ts len (tree s) × (t ≡ tree_of s len)
IsAnswer ts len (Err (errors.Unexpected p)) = IsParsed ts len (unexpected p)
IsAnswer ts len (Err (errors.TooDeep p)) = IsParsed ts len (too_deep p)
IsAnswer ts len (Err (errors.Early p n)) = IsParsed ts len (early p n)
IsAnswer ts len (Err errors.NoMemory) = Unit {0}

-- what is read is answered, unless memory runs out
abbrev pub Gives : Parsed → ℕ → Result Tree ParseError → Type 0
Gives p len (Err errors.NoMemory) = Unit {0}
Gives (tree s) len (Ok t) = t ≡ tree_of s len
Gives (unexpected p) len (Err (errors.Unexpected q)) = q ≡ p
Gives (too_deep p) len (Err (errors.TooDeep q)) = q ≡ p
Gives (early p n) len (Err (errors.Early q m)) = (q ≡ p) × (m ≡ n)
Gives _ len _ = ⊥

-- the tokens of a script with no construct too deep, and what is built of it
pub record IsWhole (ts : List Token) (b : Built) : Type 0 where
  pub script : Script
  pub is_script : IsScript (map seen ts) script
  pub not_deep : (k : ℕ) → ¬ IsTooDeep (map seen ts) k
  pub built : IsBuilt script b

abbrev pub built_tree : Built → List Binding → ℕ → Tree
built_tree b bs len = record { functions = b.functions; top = b.top; nodes = b.nodes; bindings = bs; globals = length b.declared; len = len }
