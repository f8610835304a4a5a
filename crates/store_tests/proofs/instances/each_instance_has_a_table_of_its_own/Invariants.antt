use Rattle.store_tests.specs.declared.instances.TheConstants.{TABLE}
use Rattle.store_tests.specs.Kept.{HasModule}
use Rattle.store_tests.proofs.instances.each_instance_has_a_table_of_its_own.Given as goal

abbrev pub invariant-loop-n : goal.invariant-loop-n
invariant-loop-n g l = HasModule l.store l.a TABLE
