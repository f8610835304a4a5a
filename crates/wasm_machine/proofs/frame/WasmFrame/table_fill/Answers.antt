use Rattle.wasm_machine.proofs.Finding.{second_from}
use Rattle.wasm_machine.proofs.frame.WasmFrame.table_fill.Goals as goal

pub table_fill-requires-clause-live : goal.table_fill-requires-clause-live
table_fill-requires-clause-live c = (c.requires.there.1 c.table_addr-a.result c.table_addr-a.ensures).0

pub table_fill-requires-clause-typed : goal.table_fill-requires-clause-typed
table_fill-requires-clause-typed c = second_from c.args.store.now _ _ _ _ _ _ c.pop_number-n.ensures.value c.pop-value.ensures.value (c.requires.there.1 c.table_addr-a.result c.table_addr-a.ensures).1
