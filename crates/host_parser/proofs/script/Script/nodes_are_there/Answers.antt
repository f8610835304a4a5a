use Rattle.std.proofs.Common.{subst}
use Rattle.host_parser.specs.Laws.{BindingsAreThere, NodesAreThere, NumbersFit}
use Rattle.host_parser.proofs.There.{nodes_are_there, bindings_are_there}
use Rattle.host_parser.proofs.Numbers.{numbers_fit}
use Rattle.host_parser.proofs.script.Script.nodes_are_there.Goals as goal

pub returns-clause-nodes : goal.returns-clause-nodes
returns-clause-nodes c = subst NodesAreThere c.self.view_is (nodes_are_there _ c.self.invariant)

pub returns-clause-bindings : goal.returns-clause-bindings
returns-clause-bindings c = subst BindingsAreThere c.self.view_is (bindings_are_there _ c.self.invariant)

pub returns-clause-numbers : goal.returns-clause-numbers
returns-clause-numbers c = subst NumbersFit c.self.view_is (numbers_fit _ c.self.invariant)
