use Rattle.std.proofs.Common.{refl}
use Rattle.host_machine.specs.Rewriting.{referred}
use Rattle.host_machine.specs.declared.focus.Focus.TheVariants as focus
use Rattle.host_machine.proofs.Told.{in_item_told}
use Rattle.host_machine.proofs.frame.HostFrame.reference.Goals as goal

pub returns-in-Some : goal.returns-in-Some
returns-in-Some c =
    in_item_told c.take_reference.result c.args.script.now c.args.heap.now c.take_reference.new.heap c.in-Some.item (focus.Refers c.args.reference c.args.place)
    (λ st. referred c.args.script.now st c.in-Some.item c.args.reference c.args.place) c.args.self.now c.pop.new.self c.take_reference.new.self c.in-Some.ensures refl
    c.take_reference.ensures
