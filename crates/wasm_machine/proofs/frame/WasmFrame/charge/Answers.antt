use Rattle.wasm_machine.specs.View.{module_for}
use Rattle.wasm_machine.proofs.Kept.{module_live}
use Rattle.wasm_machine.proofs.Charging.{charge_ended, charge_begun}
use Rattle.wasm_machine.proofs.frame.WasmFrame.charge.Goals as goal

pub next-requires : goal.next-requires
next-requires c = module_live c.args.store.now _ _ c.args.self.now c.requires.1

pub returns-in-Some : goal.returns-in-Some
returns-in-Some c = charge_begun (module_for c.args.store.now c.args.self.now) c.args.self.now _ _ _ c.in-Some.ensures c.charge_of_instr.ensures

pub returns-in-None : goal.returns-in-None
returns-in-None c = charge_ended (module_for c.args.store.now c.args.self.now) c.args.self.now c.in-None.ensures
