use Rattle.std.proofs.Common.{refl}
use Rattle.host_machine.specs.Rewriting.{left}
use Rattle.host_machine.specs.declared.focus.Focus.TheVariants as focus
use Rattle.host_machine.proofs.Told.{in_item_told}
use Rattle.host_machine.proofs.frame.HostFrame.completion.Goals as goal

pub returns-in-Some : goal.returns-in-Some
returns-in-Some c =
    in_item_told c.take_completion.result c.args.script.now c.args.heap.now c.args.heap.now c.in-Some.item (focus.Leaves c.args.completion)
    (λ st. left c.args.script.now st c.in-Some.item c.args.completion) c.args.self.now c.pop.new.self c.take_completion.new.self c.in-Some.ensures refl
    c.take_completion.ensures
