use Rattle.wasm_syntax.specs.declared.sorts.Sort.TheVariants as sort
use Rattle.wasm_machine.proofs.Performing as perform
use Rattle.wasm_machine.proofs.frame.WasmFrame.step_operand.Goals as goal

pub drop_value-requires : goal.drop_value-requires
drop_value-requires c = perform.drop_there c.args.store.now c.args.self.now c.args.sort c.in-Drop.is c.requires.at

pub select-requires-clause-tops : goal.select-requires-clause-tops
select-requires-clause-tops c = perform.select_there c.args.store.now c.args.self.now c.args.sort c.in-Select.is c.requires.at

pub select-requires-clause-room : goal.select-requires-clause-room
select-requires-clause-room c = perform.operand_room c.args.store.now c.args.self.now c.args.sort c.requires.at

pub select-requires-in-SelectTyped-clause-tops : goal.select-requires-in-SelectTyped-clause-tops
select-requires-in-SelectTyped-clause-tops c = perform.select_typed_there c.args.store.now c.args.self.now c.args.sort c.in-SelectTyped.is c.requires.at

pub select-requires-in-SelectTyped-clause-room : goal.select-requires-in-SelectTyped-clause-room
select-requires-in-SelectTyped-clause-room c = perform.operand_room c.args.store.now c.args.self.now c.args.sort c.requires.at

pub is_null-requires-clause-tops : goal.is_null-requires-clause-tops
is_null-requires-clause-tops c = perform.null_there c.args.store.now c.args.self.now c.args.sort c.in-RefIsNull.is c.requires.at

pub is_null-requires-clause-room : goal.is_null-requires-clause-room
is_null-requires-clause-room c = perform.operand_room c.args.store.now c.args.self.now c.args.sort c.requires.at

pub returns-in-Drop : goal.returns-in-Drop
returns-in-Drop c = perform.operand_goes c.frames_stay.ensures.typed c.frames_stay.ensures.code c.order.ensures.same c.args.store.now c.args.self.now c.drop_value.new.self c.args.sort sort.Drop c.in-Drop.is tt c.requires.at (c.drop_value.ensures c.args.store.now)

pub returns-in-Select : goal.returns-in-Select
returns-in-Select c = perform.operand_goes c.frames_stay.ensures.typed c.frames_stay.ensures.code c.order.ensures.same c.args.store.now c.args.self.now c.select.new.self c.args.sort sort.Select c.in-Select.is tt c.requires.at (c.select.ensures c.args.store.now)

pub returns-in-SelectTyped : goal.returns-in-SelectTyped
returns-in-SelectTyped c = perform.operand_goes c.frames_stay.ensures.typed c.frames_stay.ensures.code c.order.ensures.same c.args.store.now c.args.self.now c.select-in-SelectTyped.new.self c.args.sort sort.SelectTyped c.in-SelectTyped.is tt c.requires.at (c.select-in-SelectTyped.ensures c.args.store.now)

pub returns-in-RefIsNull : goal.returns-in-RefIsNull
returns-in-RefIsNull c = perform.operand_goes c.frames_stay.ensures.typed c.frames_stay.ensures.code c.order.ensures.same c.args.store.now c.args.self.now c.is_null.new.self c.args.sort sort.RefIsNull c.in-RefIsNull.is tt c.requires.at (c.is_null.ensures c.args.store.now)
