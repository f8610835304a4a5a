use Rattle.store_tests.proofs.KeptLaws.{of_host}
use Rattle.store_tests.proofs.calls.set.Goals as goal

pub table_set-requires-clause-typed : goal.table_set-requires-clause-typed
table_set-requires-clause-typed c = of_host c.args.store.now c.args.a c.value.result c.requires c.value.ensures
