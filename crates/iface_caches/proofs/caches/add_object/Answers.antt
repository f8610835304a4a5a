use Rattle.iface_caches.proofs.Lists.{entered_last}
use Rattle.iface_caches.proofs.caches.add_object.Goals as goal

pub returns-clause-ok : goal.returns-clause-ok
returns-clause-ok c = entered_last _ _ _ _ _ _ c.requires c.in_ok-reserve.ensures.entries c.in_ok-object.ensures.fresh c.in-Ok.ensures.entries
