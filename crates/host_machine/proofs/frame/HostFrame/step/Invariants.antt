-- The effect so far, and what was made of the frame.
use Rattle.host_machine.specs.Terms.{state_of, term_of}
use Rattle.host_machine.specs.Frames.{Makes}
use Rattle.host_machine.proofs.frame.HostFrame.step.Given as goal

abbrev pub invariant-loop : goal.invariant-loop
invariant-loop l = Makes l.fn.script (state_of l.fn.heap l.fn.self) (term_of l.fn.self) l.effect (state_of l.heap l.self) (term_of l.self)
