use Rattle.wasm_machine.proofs.StepLaws.{at_sort, stepped_unreachable}
use Rattle.wasm_machine.proofs.frame.WasmFrame.perform.Goals as goal

pub step_simple-requires : goal.step_simple-requires
step_simple-requires c = at_sort c.args.store.now _ _ c.args.self.now c.in-Simple.is c.requires

pub step_nested-requires : goal.step_nested-requires
step_nested-requires c = at_sort c.args.store.now _ _ c.args.self.now c.in-Nested.is c.requires

pub step_br-requires : goal.step_br-requires
step_br-requires c = at_sort c.args.store.now _ _ c.args.self.now c.in-Br.is c.requires

pub step_br_if-requires : goal.step_br_if-requires
step_br_if-requires c = at_sort c.args.store.now _ _ c.args.self.now c.in-BrIf.is c.requires

pub step_br_table-requires : goal.step_br_table-requires
step_br_table-requires c = at_sort c.args.store.now _ _ c.args.self.now c.in-BrTable.is c.requires

pub step_return-requires : goal.step_return-requires
step_return-requires c = at_sort c.args.store.now _ _ c.args.self.now c.in-Return.is c.requires

pub step_call-requires : goal.step_call-requires
step_call-requires c = at_sort c.args.store.now _ _ c.args.self.now c.in-Call.is c.requires

pub step_call_indirect-requires : goal.step_call_indirect-requires
step_call_indirect-requires c = at_sort c.args.store.now _ _ c.args.self.now c.in-CallIndirect.is c.requires

pub returns-in-Unreachable-clause-ok : goal.returns-in-Unreachable-clause-ok
returns-in-Unreachable-clause-ok c = stepped_unreachable c.args.store.now c.args.self.now (at_sort c.args.store.now _ _ c.args.self.now c.in-Unreachable.is c.requires)
