use Rattle.host_machine.specs.Terms.{state_of, term_of}
use Rattle.host_machine.proofs.Told.{one_more}
use Rattle.host_machine.proofs.frame.HostFrame.step.Goals as goal

pub loop-preserved : goal.loop-preserved
loop-preserved c =
    one_more c.args.script.now (state_of c.args.heap.now c.args.self.now) (term_of c.args.self.now) c.loop.effect c.in_ok-effect-2.effect (state_of c.loop.heap c.loop.self)
    (term_of c.loop.self) (state_of c.rewrite-in-loop.new.heap c.rewrite-in-loop.new.self) (term_of c.rewrite-in-loop.new.self) (c.went.ensures c.if-not-went.false) c.loop.invariant
    (c.is_free.ensures.free c.if-not-is_free.false) c.in_ok-effect-2.ensures
