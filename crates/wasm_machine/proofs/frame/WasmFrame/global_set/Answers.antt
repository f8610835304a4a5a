use Rattle.wasm_machine.proofs.Finding.{first_from}
use Rattle.wasm_machine.proofs.frame.WasmFrame.global_set.Goals as goal

pub global_set-requires-clause-live : goal.global_set-requires-clause-live
global_set-requires-clause-live c = (c.requires.there.1 c.global_addr-a.result c.global_addr-a.ensures).0

pub global_set-requires-clause-typed : goal.global_set-requires-clause-typed
global_set-requires-clause-typed c = first_from c.args.store.now _ _ _ _ c.pop-value.ensures.value (c.requires.there.1 c.global_addr-a.result c.global_addr-a.ensures).2
