use Rattle.std.proofs.Common.{◌≡◌, ◌≤◌, reverse, take, length}
use Rattle.wasm_valid.specs.Operands.{take_all}
use Rattle.wasm_valid.proofs.operands.OperandList.pop_types.Given as goal

-- taking those that are left takes all
abbrev pub invariant-loop-left : goal.invariant-loop-left
invariant-loop-left l = record {
  own : take_all (reverse l.types) l.fn.self.own ≡ take_all (reverse (take l.left l.types)) l.self.own;
  under : l.self.under ≡ l.fn.self.under;
  within : l.left ≤ length l.types;
}

abbrev pub decreases-loop-left : goal.decreases-loop-left
decreases-loop-left l = l.left
