-- So many bindings are unset so far.
use Rattle.std.proofs.Common.{◌≡◌, ◌++◌, None, replicate}
use Rattle.host_machine.proofs.parts.add_unset.Given as goal

abbrev pub invariant-loop : goal.invariant-loop
invariant-loop l = l.locals.items ≡ l.initial.locals.items ++ replicate l.counter None
