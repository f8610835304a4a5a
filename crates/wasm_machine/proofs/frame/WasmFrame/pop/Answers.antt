use Rattle.wasm_machine.proofs.Views.{popped_is, heights_pop}
use Rattle.wasm_machine.proofs.frame.WasmFrame.pop.Goals as goal

pub returns-clause-rest : goal.returns-clause-rest
returns-clause-rest c = popped_is _ _ _ _ _ _ _ _ _ c.in-Some.v _ c.self.view_is (heights_pop _ _ _ _ _ _ _ _ _ c.in-Some.v _ c.self.view_is c.requires c.self.invariant.2 c.in-Some.ensures.items) c.in-Some.ensures.items
