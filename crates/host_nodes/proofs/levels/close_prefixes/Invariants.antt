use Rattle.std.proofs.Common.{◌≡◌, length}
use Rattle.host_nodes.specs.Building as spec
use Rattle.host_nodes.proofs.levels.close_prefixes.Given as goal

-- closing what is left gives what closing all gives
abbrev pub invariant-loop-operator : goal.invariant-loop-operator
invariant-loop-operator l = spec.close_prefixes l.prefixes l.table ≡ spec.close_prefixes l.fn.prefixes l.fn.table

abbrev pub decreases-loop-operator : goal.decreases-loop-operator
decreases-loop-operator l = length l.prefixes
