-- The keys so far, with the names that are left, are all that is wanted.
use Rattle.std.proofs.Common.{◌≡◌, ◌++◌, drop}
use Rattle.host_values.specs.KeyOrder.{names_of}
use Rattle.host_values.proofs.keys.add_names.Given as goal

abbrev pub invariant-loop-key : goal.invariant-loop-key
invariant-loop-key l = l.ordered.items ++ names_of (drop l.key-index l.created) ≡ l.initial.ordered.items ++ names_of l.created
