use Rattle.std.proofs.Common.{refl}
use Rattle.host_machine.specs.Rewriting as rewriting
use Rattle.host_machine.specs.declared.focus.Focus.TheVariants as focus
use Rattle.host_machine.proofs.Told.{in_item_told}
use Rattle.host_machine.proofs.frame.HostFrame.ended.Goals as goal

pub returns-in-Some : goal.returns-in-Some
returns-in-Some c =
    in_item_told c.take_end.result c.args.script.now c.args.heap.now c.args.heap.now c.in-Some.item focus.Done
    (λ st. rewriting.ended c.args.script.now st c.in-Some.item) c.args.self.now c.pop.new.self c.take_end.new.self c.in-Some.ensures refl c.take_end.ensures
