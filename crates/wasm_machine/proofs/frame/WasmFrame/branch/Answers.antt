use Rattle.std.proofs.Common.{arith}
use Rattle.wasm_machine.proofs.Views.{leaving_more}
use Rattle.wasm_machine.proofs.frame.WasmFrame.branch.Goals as goal

pub loop-preserved : goal.loop-preserved
loop-preserved c = leaving_more _ _ _ _ _ c.loop.invariant (omega arith) c.leave.ensures
