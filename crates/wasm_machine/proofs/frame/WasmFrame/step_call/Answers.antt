use Rattle.wasm_machine.proofs.Parts.{call_bound, call_address, call_can, stepped_call}
use Rattle.wasm_machine.proofs.frame.WasmFrame.step_call.Goals as goal

pub bounds-funcs-index : goal.bounds-funcs-index
bounds-funcs-index c = call_bound c.args.store.now c.args.self.now c.args.index _ _ _ c.requires c.as_slice-funcs.ensures c.instance-2.ensures c.instance.ensures

pub call-requires : goal.call-requires
call-requires c = call_can c.args.store.now c.args.self.now c.args.index _ c.requires (call_address c.args.store.now c.args.self.now c.args.index _ _ _ _ c.requires c.as_slice-funcs.ensures c.instance-2.ensures c.instance.ensures)

pub returns-clause-ok : goal.returns-clause-ok
returns-clause-ok c = stepped_call c.args.store.now c.args.self.now c.call.new.self c.args.index _ c.in_ok-args.args c.requires (call_address c.args.store.now c.args.self.now c.args.index _ _ _ _ c.requires c.as_slice-funcs.ensures c.instance-2.ensures c.instance.ensures) c.in_ok-args.ensures.ok
