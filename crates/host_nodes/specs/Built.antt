-- What is built of a script.
use Rattle.std.specs.Prelude.{◌≡◌, reverse}
use Rattle.host_grammar.specs.Derivations.{Script}
use Rattle.host_nodes.specs.declared.builder.Built.{Built}
use Rattle.host_nodes.specs.Tables.{script_table, script_functions, script_top, script_declared}

-- its functions, its other items and the names that it declares, its nodes by their numbers, and its mentions in the order of the text
pub record IsBuilt (script : Script) (b : Built) : Type 0 where
  pub functions : b.functions ≡ script_functions script
  pub top : b.top ≡ script_top script
  pub declared : b.declared ≡ script_declared script
  pub nodes : b.nodes ≡ reverse (script_table script).nodes
  pub mentions : b.mentions ≡ reverse (script_table script).mentions
