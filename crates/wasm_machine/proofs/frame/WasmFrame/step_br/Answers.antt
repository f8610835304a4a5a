use Rattle.wasm_machine.proofs.Parts.{br_can, stepped_br}
use Rattle.wasm_machine.proofs.frame.WasmFrame.step_br.Goals as goal

pub br-requires : goal.br-requires
br-requires c = br_can c.args.store.now c.args.self.now c.args.label c.requires

pub returns-clause-ok : goal.returns-clause-ok
returns-clause-ok c = stepped_br c.args.store.now c.args.self.now c.br.new.self c.args.label c.in_ok-effect.effect c.requires c.in_ok-effect.ensures.ok
