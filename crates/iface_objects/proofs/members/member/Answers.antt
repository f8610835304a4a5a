use Rattle.std.proofs.Common.{Some, sym, ap, subst, ◌∙◌}
use Rattle.host_values.specs.declared.kinds.Kind.TheVariants as kinds
use Rattle.iface_objects.specs.Members as spec
use Rattle.iface_objects.specs.Realms.{Gives}
use Rattle.iface_objects.proofs.members.member.Goals as goal

pub function_member-requires : goal.function_member-requires
function_member-requires c = record { named = λ a e. c.requires.sound.named.functions c.args.object a (c.kind.ensures ∙ ap Some (c.in-Function.is ∙ ap (λ k. kinds.Function k) e)) }

pub returns-in-Function : goal.returns-in-Function
returns-in-Function c = record {
  gives = subst (λ k. Gives (spec.kind_read c.args.realm.now c.args.key.now k) c.function_member.result c.args.realm.now) (sym (c.kind.ensures ∙ ap Some c.in-Function.is))
      (c.function_member.ensures.gives c.args.key.now);
}
