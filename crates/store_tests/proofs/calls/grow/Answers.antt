use Rattle.store_tests.proofs.KeptLaws.{of_host}
use Rattle.store_tests.proofs.calls.grow.Goals as goal

pub grow_table-requires-clause-typed : goal.grow_table-requires-clause-typed
grow_table-requires-clause-typed c = of_host c.args.store.now c.args.a c.value.result c.requires c.value.ensures
