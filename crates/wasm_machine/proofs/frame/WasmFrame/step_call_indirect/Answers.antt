use Rattle.wasm_machine.proofs.IndirectLaws.{there_popped, indirect_call_can, stepped_indirect, stepped_indirect_trap}
use Rattle.wasm_machine.proofs.frame.WasmFrame.step_call_indirect.Goals as goal

pub target-requires : goal.target-requires
target-requires c = there_popped c.args.store.now c.args.self.now c.pop_number-number.new.self c.args.ty c.args.table c.requires c.pop_number-number.ensures.rest

pub call-requires : goal.call-requires
call-requires c = indirect_call_can c.args.store.now c.args.self.now c.pop_number-number.new.self c.args.ty c.args.table c.pop_number-number.result c.in-Ok.func c.target.result c.requires c.pop_number-number.ensures.value c.pop_number-number.ensures.rest c.target.ensures c.in-Ok.is

pub returns-in-Ok-call-clause-ok : goal.returns-in-Ok-call-clause-ok
returns-in-Ok-call-clause-ok c = stepped_indirect c.args.store.now c.args.self.now c.pop_number-number.new.self c.call.new.self c.args.ty c.args.table c.pop_number-number.result c.in-Ok.func c.target.result c.in-Ok-call.args c.requires c.pop_number-number.ensures.value c.pop_number-number.ensures.rest c.target.ensures c.in-Ok.is c.in-Ok-call.ensures.ok

pub returns-in-Err-clause-ok : goal.returns-in-Err-clause-ok
returns-in-Err-clause-ok c = stepped_indirect_trap c.args.store.now c.args.self.now c.pop_number-number.new.self c.args.ty c.args.table c.pop_number-number.result c.in-Err.trap c.target.result c.whole.ensures c.requires c.pop_number-number.ensures.value c.pop_number-number.ensures.rest c.target.ensures c.in-Err.is
