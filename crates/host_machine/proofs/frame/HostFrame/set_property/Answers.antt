use Rattle.std.proofs.Common.{subst, ◌∙◌, ◌+◌, IfOk}
use Rattle.host_values.specs.KeyOrder.{key_of_text}
use Rattle.host_values.specs.Members.{written}
use Rattle.host_values.specs.declared.values.HostValue.TheVariants as values
use Rattle.host_machine.specs.Terms.{state_of}
use Rattle.host_machine.specs.Rewriting.{property_of, property_set}
use Rattle.host_machine.specs.Moves.{Moved}
use Rattle.host_machine.proofs.frame.HostFrame.set_property.Goals as goal

pub returns-in_ok-name-in-Some : goal.returns-in_ok-name-in-Some
returns-in_ok-name-in-Some c =
    subst (λ q. IfOk c.fill_property.result (λ e. Moved (property_set c.args.script.now (state_of c.args.heap.now c.args.self.now) c.args.node c.args.index c.args.object c.args.value q)
    c.args.self.now e c.fill_property.new.heap c.fill_property.new.self))
    c.in-Some.ensures.value
    (subst (λ t. IfOk c.fill_property.result (λ e. Moved (property_of c.args.script.now
    (record { heap = written c.args.heap.now (values.Object c.args.object) (key_of_text t) c.args.value; locals = c.args.self.now.locals }) c.args.node (c.args.index + 1) c.args.object)
    c.args.self.now e c.fill_property.new.heap c.fill_property.new.self))
    (c.in_ok-name-in-Some.ensures.cases ∙ c.spelled.ensures) c.fill_property.ensures)
