use Rattle.iface_objects.proofs.members.function_member.Goals as goal

pub func-requires : goal.func-requires
func-requires c = (c.requires.named c.in-Exported.func c.in-Exported.is).live
