use Rattle.host_laws.proofs.LiveHeaps.{fresh_heaps_are_live, heaps_stay_live}
use Rattle.host_laws.proofs.LiveSteps.{later_terms_are_live, objects_stay}
use Rattle.host_laws.proofs.laws.live_heaps.Goals as goal

pub returns-clause-fresh : goal.returns-clause-fresh
returns-clause-fresh c = fresh_heaps_are_live

pub returns-clause-changed : goal.returns-clause-changed
returns-clause-changed c = heaps_stay_live

pub returns-clause-objects : goal.returns-clause-objects
returns-clause-objects c = objects_stay

pub returns-clause-terms : goal.returns-clause-terms
returns-clause-terms c = later_terms_are_live
