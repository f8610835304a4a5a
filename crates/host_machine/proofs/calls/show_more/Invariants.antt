-- The line so far, with the values that are left, is all that is wanted.
use Rattle.std.proofs.Common.{◌≡◌, ◌++◌, drop}
use Rattle.host_machine.specs.Calls.{line_after}
use Rattle.host_machine.proofs.calls.show_more.Given as goal

abbrev pub invariant-loop-value : goal.invariant-loop-value
invariant-loop-value l = l.line ++ line_after l.heap (drop l.value-index l.values) ≡ l.initial.line ++ line_after l.heap l.values
