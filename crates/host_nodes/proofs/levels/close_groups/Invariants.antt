use Rattle.std.proofs.Common.{◌≡◌, length}
use Rattle.host_nodes.specs.Building as spec
use Rattle.host_nodes.proofs.levels.close_groups.Given as goal

-- closing what is left gives what closing all gives
abbrev pub invariant-loop-group : goal.invariant-loop-group
invariant-loop-group l = spec.close_groups l.groups l.table ≡ spec.close_groups l.fn.groups l.fn.table

abbrev pub decreases-loop-group : goal.decreases-loop-group
decreases-loop-group l = length l.groups
