use Rattle.std.proofs.Common.{IfOk, sym, subst}
use Rattle.iface_objects.specs.Members as spec
use Rattle.iface_objects.specs.Modules.{module_constructed}
use Rattle.iface_objects.specs.Realms.{Gives}
use Rattle.iface_objects.proofs.members.construct.Goals as goal

pub returns-in_ok-bytes-in-Module-clause-gives : goal.returns-in_ok-bytes-in-Module-clause-gives
returns-in_ok-bytes-in-Module-clause-gives c = λ load is.
    subst (λ k. IfOk c.construct_module.result (λ a. Gives (spec.constructed load c.args.realm.now k c.args.args.now) a c.construct_module.new.realm)) (sym c.in-Module.is)
    (subst (λ v. IfOk c.construct_module.result (λ a. Gives (module_constructed load c.args.realm.now v) a c.construct_module.new.realm)) c.in_ok-bytes-in-Module.ensures
    (c.construct_module.ensures.gives load is))
