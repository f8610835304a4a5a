use Rattle.wasm_valid.proofs.PileLaws.{spent_is}
use Rattle.wasm_valid.proofs.operands.OperandList.is_spent.Goals as goal

pub returns : goal.returns
returns c = spent_is _ _ _ _ _ c.self.view_is c.self.invariant c.len.ensures
