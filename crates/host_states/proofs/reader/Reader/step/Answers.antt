use Rattle.host_states.proofs.Simulates.{stepped}
use Rattle.host_states.proofs.reader.Reader.step.Goals as goal

pub returns : goal.returns
returns c = λ s h. stepped s c.args.self.now c.args.token.now c.in_ok-step.step c.moved.new.self h c.in_ok-step.ensures
