use Rattle.std.proofs.Common.{refl, Ok}
use Rattle.host_machine.specs.declared.effect.HostEffect.TheVariants as effects
use Rattle.host_machine.specs.declared.focus.Focus.TheVariants as focus
use Rattle.host_machine.specs.Nodes as nodes
use Rattle.host_machine.specs.Terms.{goes}
use Rattle.host_machine.specs.Rewriting.{begun, declared, turned, calls}
use Rattle.std.specs.Prelude.{slice_get}
use Rattle.host_machine.proofs.Told.{at_work_told}
use Rattle.host_machine.proofs.frame.HostFrame.rewrite.Goals as goal

pub returns-in-Begin : goal.returns-in-Begin
returns-in-Begin c =
    at_work_told c.begin.result c.args.script.now c.args.heap.now c.begin.new.heap (focus.Begin c.in-Begin.node)
    (λ st. begun c.args.script.now st c.in-Begin.node (nodes.form_at c.args.script.now c.in-Begin.node)) c.args.self.now c.take_focus.new.self c.begin.new.self
    c.in-Begin.ensures.focus c.take_focus.ensures.frame refl c.begin.ensures

pub returns-in-Declares : goal.returns-in-Declares
returns-in-Declares c =
    at_work_told c.declare.result c.args.script.now c.args.heap.now c.declare.new.heap (focus.Declares c.in-Declares.node c.in-Declares.index)
    (λ st. declared c.args.script.now st c.in-Declares.node c.in-Declares.index (slice_get (nodes.declarations_of (nodes.form_at c.args.script.now c.in-Declares.node)) c.in-Declares.index))
    c.args.self.now c.take_focus.new.self c.declare.new.self c.in-Declares.ensures.focus c.take_focus.ensures.frame refl c.declare.ensures

pub returns-in_ok-turn-in-Turn : goal.returns-in_ok-turn-in-Turn
returns-in_ok-turn-in-Turn c =
    at_work_told {E = Unit {0}} (Ok effects.Went) c.args.script.now c.args.heap.now c.args.heap.now (focus.Turn c.in-Turn.node)
    (λ st. goes st (turned c.in-Turn.node (nodes.form_at c.args.script.now c.in-Turn.node))) c.args.self.now c.take_focus.new.self c.turn.new.self
    c.in-Turn.ensures.focus c.take_focus.ensures.frame refl (refl, refl, c.in_ok-turn-in-Turn.ensures)

pub returns-in-Calls : goal.returns-in-Calls
returns-in-Calls c =
    at_work_told c.apply.result c.args.script.now c.args.heap.now c.apply.new.heap (focus.Calls c.in-Calls.node c.in-Calls.callee c.in-Calls.arguments)
    (λ st. calls st c.in-Calls.callee c.in-Calls.arguments (nodes.place_at c.args.script.now c.in-Calls.node) (nodes.form_at c.args.script.now c.in-Calls.node))
    c.args.self.now c.take_focus.new.self c.apply.new.self c.in-Calls.ensures.focus c.take_focus.ensures.frame refl c.apply.ensures
