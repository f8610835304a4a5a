use Rattle.std.proofs.Common.{◌≡◌, ◌+◌, ◌-◌, ◌++◌}
use Rattle.raw_memory.specs.Bytes.{zeros}
use Rattle.raw_memory.proofs.raw_mem.clear.Given as goal

-- so many zeros are written, and the rest of the room is left
abbrev pub invariant-loop-i : goal.invariant-loop-i
invariant-loop-i l = (l.contents.at ≡ l.fn.contents.at) × (l.contents.bytes ≡ l.fn.contents.bytes ++ zeros (l.i - l.from)) × (l.contents.spare + l.i ≡ l.len)
