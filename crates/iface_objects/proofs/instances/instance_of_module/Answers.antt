use Rattle.host_values.specs.declared.values.ErrorClass.TheVariants as errors
use Rattle.iface_objects.proofs.Started.{ready_sound, safe_trapped}
use Rattle.iface_objects.proofs.instances.instance_of_module.Goals as goal

pub returns-in-Ready-clause-sound : goal.returns-in-Ready-clause-sound
returns-in-Ready-clause-sound c =
    ready_sound c.indices.ensures.functions c.types_stay.ensures.functions c.types_stay.ensures.modules c.args.realm.now c.requires.sound c.args.module c.requires.loaded
    c.instantiate.new.store c.instantiate.ensures.later c.in_ok-instance.ensures.code c.blank-imports.result c.blank-imports.ensures
    c.in_ok-instance.field-0 c.in-Ready.instance c.in-Ready.start c.in-Ready.is c.in_ok-instance.ensures.there
    c.instance.result.now c.instance.ensures c.module.result.now c.module.ensures c.make_objects.new.heap c.make_objects.new.caches c.in_ok-object-in-Ready.ensures.heap

pub returns-in-Trapped-clause-sound : goal.returns-in-Trapped-clause-sound
returns-in-Trapped-clause-sound c =
    (safe_trapped c.indices.ensures.functions c.types_stay.ensures.functions c.types_stay.ensures.modules c.args.realm.now c.requires.sound c.args.module c.requires.loaded
    c.instantiate.new.store c.instantiate.ensures.later c.in_ok-instance.ensures.code errors.RuntimeError).sound
