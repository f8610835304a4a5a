use Rattle.std.proofs.Common.{◌≤◌, length, take, map}
use Rattle.wasm_syntax.specs.declared.module.Func.{Func}
use Rattle.wasm_valid.specs.Numbers.{Leaves}
use Rattle.wasm_valid.proofs.numbering.found_funcs.Given as goal

-- those before a place are left
abbrev pub invariant-loop-at : goal.invariant-loop-at
invariant-loop-at l = record { leaves : Leaves l.«module» l.from (map (λ (f : Func). f.body) l.funcs) l.left (map (λ (f : Func). f.body) (take l.at l.funcs)); within : l.at ≤ length l.funcs }

abbrev pub decreases-loop-at : goal.decreases-loop-at
decreases-loop-at l = l.at
