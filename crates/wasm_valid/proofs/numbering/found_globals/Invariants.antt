use Rattle.std.proofs.Common.{◌≤◌, length, take, map}
use Rattle.wasm_syntax.specs.declared.module.GlobalDef.{GlobalDef}
use Rattle.wasm_valid.specs.Numbers.{Leaves}
use Rattle.wasm_valid.proofs.numbering.found_globals.Given as goal

-- those before a place are left
abbrev pub invariant-loop-at : goal.invariant-loop-at
invariant-loop-at l = record { leaves : Leaves l.«module» l.from (map (λ (g : GlobalDef). g.init) l.globals) l.left (map (λ (g : GlobalDef). g.init) (take l.at l.globals)); within : l.at ≤ length l.globals }

abbrev pub decreases-loop-at : goal.decreases-loop-at
decreases-loop-at l = l.at
