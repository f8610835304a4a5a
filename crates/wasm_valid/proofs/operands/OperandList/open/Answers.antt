use Rattle.wasm_valid.proofs.PileLaws.{opened}
use Rattle.wasm_valid.proofs.operands.OperandList.open.Goals as goal

pub returns-clause-under : goal.returns-clause-under
returns-clause-under c = opened _ _ _ _ _ _ c.self.view_is c.self.invariant c.len-self-inside.ensures c.push_types.ensures.under
