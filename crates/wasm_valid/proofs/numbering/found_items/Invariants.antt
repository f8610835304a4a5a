use Rattle.std.proofs.Common.{◌≤◌, length, take}
use Rattle.wasm_valid.specs.Numbers.{Leaves}
use Rattle.wasm_valid.proofs.numbering.found_items.Given as goal

-- those before a place are left
abbrev pub invariant-loop-at : goal.invariant-loop-at
invariant-loop-at l = record { leaves : Leaves l.«module» l.from l.ids l.left (take l.at l.ids); within : l.at ≤ length l.ids }

abbrev pub decreases-loop-at : goal.decreases-loop-at
decreases-loop-at l = l.at
