use Rattle.std.proofs.Common.{IfOk, Some, sym, ap, subst, ◌∙◌}
use Rattle.iface_objects.specs.Modules as spec
use Rattle.iface_objects.specs.Realms.{Gives}
use Rattle.iface_objects.proofs.modules.module_of_object.Goals as goal

pub returns-in-Buffer : goal.returns-in-Buffer
returns-in-Buffer c = λ load is.
    subst (λ k. IfOk c.module_of_buffer.result (λ a. Gives (spec.module_of_kind load c.args.realm.now k) a c.module_of_buffer.new.realm)) (sym (c.kind.ensures ∙ ap Some c.in-Buffer.is))
    (c.module_of_buffer.ensures load is)
