use Rattle.std.proofs.Common.{Some, ap, ◌∙◌}
use Rattle.iface_objects.proofs.instances.construct_instance.Goals as goal

pub instance_with-requires-clause-loaded : goal.instance_with-requires-clause-loaded
instance_with-requires-clause-loaded c = c.requires.sound.named.modules c.in-Object.object c.in-Module.address (c.kind.ensures ∙ ap Some c.in-Module.is)
