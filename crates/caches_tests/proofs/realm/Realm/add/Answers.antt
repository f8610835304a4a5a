use Rattle.caches_tests.proofs.Adding.{agree_after}
use Rattle.caches_tests.proofs.realm.Realm.add.Goals as goal

pub invariant_of-self : goal.invariant_of-self
invariant_of-self c = agree_after c.add.result _ _ _ _ c.changes.ensures.other_objects_agree c.requires c.self.invariant c.add.ensures.ok c.add.ensures.err
