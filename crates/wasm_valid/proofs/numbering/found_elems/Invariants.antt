use Rattle.std.proofs.Common.{◌≤◌, ◌++◌, length, take, flat_map}
use Rattle.wasm_syntax.specs.declared.module.Elem.{Elem}
use Rattle.wasm_syntax.specs.Numbering.{offset_of}
use Rattle.wasm_valid.specs.Numbers.{Leaves}
use Rattle.wasm_valid.proofs.numbering.found_elems.Given as goal

-- those before a place are left
abbrev pub invariant-loop-at : goal.invariant-loop-at
invariant-loop-at l = record { leaves : Leaves l.«module» l.from (flat_map (λ (segment : Elem). offset_of segment.mode ++ segment.items) l.elems) l.left (flat_map (λ (segment : Elem). offset_of segment.mode ++ segment.items) (take l.at l.elems)); within : l.at ≤ length l.elems }

abbrev pub decreases-loop-at : goal.decreases-loop-at
decreases-loop-at l = l.at
