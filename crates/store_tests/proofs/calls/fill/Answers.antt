use Rattle.store_tests.proofs.KeptLaws.{of_host}
use Rattle.store_tests.proofs.calls.fill.Goals as goal

pub table_fill-requires-clause-typed : goal.table_fill-requires-clause-typed
table_fill-requires-clause-typed c = of_host c.args.store.now c.args.a c.value.result c.requires c.value.ensures
