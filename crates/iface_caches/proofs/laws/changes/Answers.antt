use Rattle.iface_caches.proofs.WholeLemmas.{later_stores_stay_whole, other_objects_agree, other_objects_stay_whole, writing_agrees, writing_stays_whole}
use Rattle.iface_caches.proofs.laws.changes.Goals as goal

pub returns-clause-other_objects_agree : goal.returns-clause-other_objects_agree
returns-clause-other_objects_agree c = other_objects_agree

pub returns-clause-other_objects : goal.returns-clause-other_objects
returns-clause-other_objects c = other_objects_stay_whole

pub returns-clause-writing_agrees : goal.returns-clause-writing_agrees
returns-clause-writing_agrees c = writing_agrees

pub returns-clause-writing : goal.returns-clause-writing
returns-clause-writing c = writing_stays_whole

pub returns-clause-later_stores : goal.returns-clause-later_stores
returns-clause-later_stores c = later_stores_stay_whole
