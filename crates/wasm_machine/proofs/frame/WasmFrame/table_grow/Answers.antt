use Rattle.wasm_machine.proofs.Finding.{second_from}
use Rattle.wasm_machine.proofs.frame.WasmFrame.table_grow.Goals as goal

pub grow_table-requires-clause-live : goal.grow_table-requires-clause-live
grow_table-requires-clause-live c = (c.requires.there.1 c.table_addr-a.result c.table_addr-a.ensures).0

pub grow_table-requires-clause-typed : goal.grow_table-requires-clause-typed
grow_table-requires-clause-typed c = second_from c.args.store.now _ _ _ _ _ _ c.pop_number-delta.ensures.value c.pop-init.ensures.value (c.requires.there.1 c.table_addr-a.result c.table_addr-a.ensures).1
