use Rattle.std.proofs.Common.{◌++◌, ◌∷◌, []}
use Rattle.wasm_valid.specs.Numbers.{Leaves}
use Rattle.wasm_valid.proofs.numbering.found.Given as goal

-- those that are still to come are left, and the next one is the last of them
abbrev pub invariant-loop-left : goal.invariant-loop-left
invariant-loop-left l = Leaves l.«module» l.from (l.fn.id ∷ []) l.left (l.pending.items ++ l.next ∷ [])

abbrev pub decreases-loop-left : goal.decreases-loop-left
decreases-loop-left l = l.left
