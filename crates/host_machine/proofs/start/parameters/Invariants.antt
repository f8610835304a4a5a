-- So many parameters have their values.
use Rattle.std.proofs.Common.{◌≡◌}
use Rattle.host_machine.specs.Frames.{parameters}
use Rattle.host_machine.proofs.start.parameters.Given as goal

abbrev pub invariant-loop-index : goal.invariant-loop-index
invariant-loop-index l = l.locals.items ≡ parameters l.index l.args
