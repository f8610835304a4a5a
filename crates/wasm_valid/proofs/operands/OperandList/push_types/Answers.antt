use Rattle.wasm_valid.proofs.PileLaws.{types_on_top}
use Rattle.wasm_valid.proofs.operands.OperandList.push_types.Goals as goal

pub returns-clause-own : goal.returns-clause-own
returns-clause-own c = types_on_top _ _ _ _ _ c.args.types.now c.self.view_is c.self.invariant c.in_ok-push_types.ensures
