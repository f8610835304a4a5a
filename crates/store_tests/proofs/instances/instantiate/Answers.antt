use Rattle.store_tests.proofs.instances.instantiate.Goals as goal

pub alloc_table-requires-clause-typed : goal.alloc_table-requires-clause-typed
alloc_table-requires-clause-typed c = c.value.ensures c.alloc_instance.new.self
