use Rattle.std.proofs.Common.{sym, subst}
use Rattle.embed_script.specs.Stops.{MeetsIn}
use Rattle.embed_script.proofs.Loaded.{loaded_instance}
use Rattle.embed_script.proofs.instances.instance.Goals as goal

pub returns-in-Some-offered-clause-meets : goal.returns-in-Some-offered-clause-meets
returns-in-Some-offered-clause-meets c = λ modules decoded.
    let is = loaded_instance modules c.args.file.now c.args.name.now c.args.place c.args.state.now c.charge.new.state c.charge-2.new.state c.charge-3.new.state c.in_ok-module.module c.in-Some.owner c.module.result.now c.in-Some-offered.index
    c.in_ok-charge.ensures.meets c.in_ok-charge-2.ensures.meets (c.in_ok-module.ensures modules decoded) c.in-Some.is c.in_ok-charge-3.ensures.meets c.module.ensures.value c.in-Some-offered.ensures in
    subst (MeetsIn c.new_instance.result c.new_instance.new.state) (sym is) c.new_instance.ensures.meets
