use Rattle.std.proofs.Common.{◌≡◌, length}
use Rattle.host_nodes.specs.Building as spec
use Rattle.host_nodes.proofs.levels.tighten.Given as goal

-- what is left gives what the whole gives
abbrev pub invariant-loop-group : goal.invariant-loop-group
invariant-loop-group l = spec.tightened l.rank l.groups l.table ≡ spec.tightened l.rank l.fn.groups l.fn.table

abbrev pub decreases-loop-group : goal.decreases-loop-group
decreases-loop-group l = length l.groups
