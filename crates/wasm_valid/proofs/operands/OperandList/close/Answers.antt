use Rattle.wasm_valid.proofs.PileLaws.{closes}
use Rattle.wasm_valid.proofs.operands.OperandList.close.Goals as goal

pub returns-clause-types : goal.returns-clause-types
returns-clause-types c = (closes _ _ _ _ _ c.self.view_is c.self.invariant c.requires.spent c.requires.base).0

pub returns-clause-under : goal.returns-clause-under
returns-clause-under c = (closes _ _ _ _ _ c.self.view_is c.self.invariant c.requires.spent c.requires.base).1
