use Rattle.std.proofs.Common.{sym, ◌∙◌}
use Rattle.iface_caches.proofs.Agreeing.{agree_after, later_after}
use Rattle.iface_caches.proofs.caches.Caches.object.Goals as goal

pub returns-in-None-clause-agree : goal.returns-in-None-clause-agree
returns-in-None-clause-agree c agree = agree_after c.add.result _ _ _ _ c.args.kind c.args.a agree (sym c.cached.ensures ∙ c.in-None.is) c.add.ensures.ok c.add.ensures.heap c.add.ensures.err

pub returns-in-None-clause-later : goal.returns-in-None-clause-later
returns-in-None-clause-later c = later_after c.add.result _ _ _ c.args.kind c.args.a _ c.add.ensures.ok c.add.ensures.err
