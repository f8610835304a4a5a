use Rattle.wasm_machine.proofs.Performing as perform
use Rattle.wasm_machine.proofs.frame.WasmFrame.step_other.Goals as goal

pub simple-requires-clause-can : goal.simple-requires-clause-can
simple-requires-clause-can c = perform.can_perform c.args.store.now c.args.self.now c.args.instr c.requires.at

pub returns-in-Ok-Ok-clause-ok : goal.returns-in-Ok-Ok-clause-ok
returns-in-Ok-Ok-clause-ok c =
    perform.simple_went c.frames_stay.ensures.typed c.frames_stay.ensures.code c.order.ensures.same c.args.store.now c.simple.new.store c.args.self.now c.simple.new.self c.args.instr c.in-Ok-Ok.field-0 c.in-Ok-Ok.field-0-0
    c.whole.ensures c.requires.other c.requires.at c.in-Ok-Ok.field-0-is c.in-Ok-Ok.ensures.ends c.in-Ok-Ok.ensures.kept

pub returns-in-Ok-Err-clause-ok : goal.returns-in-Ok-Err-clause-ok
returns-in-Ok-Err-clause-ok c =
    perform.simple_trapped c.args.store.now c.simple.new.store c.args.self.now c.simple.new.self c.args.instr c.in-Ok-Err.field-0 c.in-Ok-Err.trap c.requires.other c.requires.at c.in-Ok-Err.field-0-is c.in-Ok-Err.ensures.ends
