-- The units so far, with those of the bytes that are left, are all units; each byte has two at most.
use Rattle.std.proofs.Common.{◌≡◌, ◌≤◌, ◌+◌, ◌*◌, drop}
use Rattle.host_values.specs.Members.{utf16_length}
use Rattle.host_values.proofs.members.utf16_length.Given as goal

abbrev pub invariant-loop-byte : goal.invariant-loop-byte
invariant-loop-byte l = (l.units + utf16_length (drop l.byte-index l.text) ≡ utf16_length l.text) × (l.units ≤ 2 * l.byte-index)
