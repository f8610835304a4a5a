use Rattle.wasm_machine.proofs.Views.{set_is}
use Rattle.wasm_machine.proofs.frame.WasmFrame.set_local.Goals as goal

pub returns : goal.returns
returns c = set_is _ _ _ _ _ _ _ _ c.args.x c.args.v _ c.self.view_is c.self.invariant.2 c.requires
