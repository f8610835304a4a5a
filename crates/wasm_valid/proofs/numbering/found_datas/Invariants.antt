use Rattle.std.proofs.Common.{◌≤◌, length, take, flat_map}
use Rattle.wasm_syntax.specs.declared.module.Data.{Data}
use Rattle.wasm_syntax.specs.Numbering.{offset_of}
use Rattle.wasm_valid.specs.Numbers.{Leaves}
use Rattle.wasm_valid.proofs.numbering.found_datas.Given as goal

-- those before a place are left
abbrev pub invariant-loop-at : goal.invariant-loop-at
invariant-loop-at l = record { leaves : Leaves l.«module» l.from (flat_map (λ (segment : Data). offset_of segment.mode) l.datas) l.left (flat_map (λ (segment : Data). offset_of segment.mode) (take l.at l.datas)); within : l.at ≤ length l.datas }

abbrev pub decreases-loop-at : goal.decreases-loop-at
decreases-loop-at l = l.at
