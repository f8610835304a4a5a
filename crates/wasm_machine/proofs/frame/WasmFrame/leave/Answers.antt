use Rattle.wasm_machine.proofs.Views.{left_is}
use Rattle.wasm_machine.proofs.frame.WasmFrame.leave.Goals as goal

pub returns : goal.returns
returns c = left_is _ _ _ _ _ _ _ _ _ _ _ c.self.view_is c.self.invariant.2 c.in-Some.ensures.items
