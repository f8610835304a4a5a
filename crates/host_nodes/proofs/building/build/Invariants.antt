use Rattle.std.proofs.Common.{drop}
use Rattle.host_nodes.proofs.Leading.{Builds}
use Rattle.host_nodes.proofs.building.build.Given as goal

abbrev pub invariant-loop-token : goal.invariant-loop-token
invariant-loop-token l = Builds l.tokens (drop l.token-index l.tokens) l.builder
