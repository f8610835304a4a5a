use Rattle.std.proofs.Common.{refl}
use Rattle.host_machine.specs.Rewriting.{resumed}
use Rattle.host_machine.specs.declared.focus.Focus.TheVariants as focus
use Rattle.host_machine.proofs.Told.{in_item_told}
use Rattle.host_machine.proofs.frame.HostFrame.value.Goals as goal

pub returns-in-Some : goal.returns-in-Some
returns-in-Some c =
    in_item_told c.resume.result c.args.script.now c.args.heap.now c.resume.new.heap c.in-Some.item (focus.Value c.args.value)
    (λ st. resumed c.args.script.now st c.in-Some.item c.args.value) c.args.self.now c.pop.new.self c.resume.new.self c.in-Some.ensures refl c.resume.ensures
