use Rattle.std.proofs.Common.{◌≡◌, ◌≤◌, reverse, take, length, is_some}
use Rattle.wasm_valid.specs.Operands.{take_all}
use Rattle.wasm_valid.specs.Runs.{left_in, above}
use Rattle.wasm_valid.proofs.runs.Runs.has_types.Given as goal

-- whether those that are left fit the operands that are left
abbrev pub invariant-loop-left : goal.invariant-loop-left
invariant-loop-left l = record {
  left : is_some (take_all (reverse l.types) (above l.base l.any l.self)) ≡ is_some (take_all (reverse (take l.left l.types)) (above l.base l.any (left_in l.rest)));
  within : l.left ≤ length l.types;
  at : l.at ≡ length (left_in l.rest);
}

abbrev pub decreases-loop-left : goal.decreases-loop-left
decreases-loop-left l = l.left
