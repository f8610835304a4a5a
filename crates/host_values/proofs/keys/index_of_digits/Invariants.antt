-- The number so far, with the digits that are left, gives what all digits give.
use Rattle.std.proofs.Common.{◌≡◌, ◌≤◌, drop}
use Rattle.host_values.specs.KeyOrder.{greatest_index, index_after}
use Rattle.host_values.proofs.keys.index_of_digits.Given as goal

abbrev pub invariant-loop-byte : goal.invariant-loop-byte
invariant-loop-byte l = (index_after l.value (drop l.byte-index l.text) ≡ index_after 0 l.text) × (l.value ≤ greatest_index)
