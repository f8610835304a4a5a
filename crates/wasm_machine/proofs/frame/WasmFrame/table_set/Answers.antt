use Rattle.wasm_machine.proofs.Finding.{first_from}
use Rattle.wasm_machine.proofs.frame.WasmFrame.table_set.Goals as goal

pub table_set-requires-clause-live : goal.table_set-requires-clause-live
table_set-requires-clause-live c = (c.requires.there.1 c.table_addr-a.result c.table_addr-a.ensures).0

pub table_set-requires-clause-typed : goal.table_set-requires-clause-typed
table_set-requires-clause-typed c = first_from c.args.store.now _ _ _ _ c.pop-value.ensures.value (c.requires.there.1 c.table_addr-a.result c.table_addr-a.ensures).1
