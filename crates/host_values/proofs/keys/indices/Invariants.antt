-- The indices so far, with those that are left in their places, are all.
use Rattle.std.proofs.Common.{◌≡◌, [], drop}
use Rattle.host_values.specs.KeyOrder.{ascending, indices_of}
use Rattle.host_values.proofs.keys.indices.Given as goal

abbrev pub invariant-loop-key : goal.invariant-loop-key
invariant-loop-key l = ascending l.indices.keys (indices_of (drop l.key-index l.created)) ≡ ascending [] (indices_of l.created)
