use Rattle.iface_caches.proofs.LawLemmas.{later_stays, nothing_changes}
use Rattle.iface_caches.proofs.laws.order.Goals as goal

pub returns-clause-same : goal.returns-clause-same
returns-clause-same c = nothing_changes

pub returns-clause-through : goal.returns-clause-through
returns-clause-through c = later_stays
