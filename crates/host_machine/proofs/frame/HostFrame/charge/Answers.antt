use Rattle.std.proofs.Common.{sym, ◌∙◌}
use Rattle.host_machine.specs.Terms.{at}
use Rattle.host_machine.proofs.Terms.{charge_inside}
use Rattle.host_machine.proofs.frame.HostFrame.charge.Goals as goal

pub returns : goal.returns
returns c = c.charge_at.ensures ∙ sym (charge_inside c.args.script.now c.args.self.now.items (at c.args.self.now.focus))
