-- The tree of a script: its table of nodes, what its references are bound to, and the length of its text.
use Rattle.std.specs.Prelude.{◌≡◌, ℕ, List, length, map, reverse}
use Rattle.host_lexer.specs.declared.token.Token.{Token}
use Rattle.host_lexer.specs.Tokens.{InOrder}
use Rattle.host_grammar.specs.Derivations.{Script}
use Rattle.host_grammar.specs.Conditions.{IsScript}
use Rattle.host_grammar.specs.Printing.{seen}
use Rattle.host_nodes.specs.declared.form.NodeId.{NodeId}
use Rattle.host_nodes.specs.declared.form.Node.{Node}
use Rattle.host_nodes.specs.declared.form.Function.{Function}
use Rattle.host_nodes.specs.Tables.{script_table, script_functions, script_top, script_declared}
use Rattle.host_parser.specs.declared.binding.Binding.{Binding}
use Rattle.host_parser.specs.Names.{script_bound}

-- the functions, the other items, the nodes by their numbers, the bindings by the numbers of references, and how many global bindings there are
pub record Tree : Type 0 where
  pub functions : List Function
  pub top : List NodeId
  pub nodes : List Node
  pub bindings : List Binding
  pub globals : ℕ
  pub len : ℕ

abbrev pub tree_of : Script → ℕ → Tree
tree_of s len = record {
  functions = script_functions s;
  top = script_top s;
  nodes = reverse (script_table s).nodes;
  bindings = script_bound s;
  globals = length (script_declared s);
  len = len;
}

-- a tree is that of a script whose tokens stand in order in its text, with numbers of the profile
pub record IsTree (t : Tree) : Type 0 where
  pub tokens : List Token
  pub in_order : InOrder 0 t.len tokens
  pub script : Script
  pub is_script : IsScript (map seen tokens) script
  pub is_tree : t ≡ tree_of script t.len
