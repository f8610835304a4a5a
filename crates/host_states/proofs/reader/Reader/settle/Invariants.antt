use Rattle.std.proofs.Common.{◌≡◌, length}
use Rattle.host_states.specs.Moves as spec
use Rattle.host_states.proofs.reader.Reader.settle.Given as goal

-- what is left to settle gives what the whole gives
abbrev pub invariant-loop-outer : goal.invariant-loop-outer
invariant-loop-outer l = spec.settled l.around l.self.stack l.is_else ≡ spec.settled l.fn.around l.fn.self.stack l.is_else

abbrev pub decreases-loop-outer : goal.decreases-loop-outer
decreases-loop-outer l = length l.self.stack
