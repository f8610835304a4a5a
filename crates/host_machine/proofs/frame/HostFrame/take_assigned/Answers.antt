use Rattle.std.proofs.Common.{sym, subst, IfOk}
use Rattle.host_machine.specs.Terms.{state_of}
use Rattle.host_machine.specs.Moves.{Moved}
use Rattle.host_machine.proofs.Others.{other_taken}
use Rattle.host_machine.proofs.frame.HostFrame.take_assigned.Goals as goal

pub returns-in_default : goal.returns-in_default
returns-in_default c =
    subst (λ r. IfOk c.take_operand.result (λ e. Moved r c.args.self.now e c.take_operand.new.heap c.take_operand.new.self))
    (sym (other_taken c.args.script.now (state_of c.args.heap.now c.args.self.now) c.args.item c.args.value c.in_default.not-AssignName c.in_default.not-AssignObject
    c.in_default.not-AssignKey c.in_default.not-AssignMember c.in_default.not-AssignElement))
    c.take_operand.ensures
