use Rattle.store_tests.proofs.calls.table.Goals as goal

pub alloc_table-requires-clause-typed : goal.alloc_table-requires-clause-typed
alloc_table-requires-clause-typed c = c.value.ensures c.args.store.now
