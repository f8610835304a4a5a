use Rattle.std.proofs.Common.{◌≡◌, length}
use Rattle.host_nodes.specs.Building as spec
use Rattle.host_nodes.proofs.statements.settle.Given as goal

-- what is left to settle gives what the whole gives
abbrev pub invariant-loop-item : goal.invariant-loop-item
invariant-loop-item l = spec.settled l.is_else l.stack l.table ≡ spec.settled l.is_else l.fn.stack l.fn.table

abbrev pub decreases-loop-item : goal.decreases-loop-item
decreases-loop-item l = length l.stack
