use Rattle.std.proofs.Common.{rules}
use Rattle.wasm_machine.proofs.Views.{dropped_is}
use Rattle.wasm_machine.proofs.frame.WasmFrame.drop_values.Goals as goal

pub returns : goal.returns
returns c = dropped_is _ _ _ _ _ _ _ _ _ _ _ _ c.self.view_is c.self.invariant.2 c.requires (search rules) c.truncate.ensures.items
