-- So many bindings are unset so far.
use Rattle.std.proofs.Common.{◌≡◌, None, replicate}
use Rattle.host_values.proofs.heap.unset.Given as goal

abbrev pub invariant-loop-place : goal.invariant-loop-place
invariant-loop-place l = l.bindings.items ≡ replicate l.place None
