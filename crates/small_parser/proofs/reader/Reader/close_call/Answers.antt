use Rattle.small_parser.proofs.Steps.{closes_call, if_ok}
use Rattle.small_parser.proofs.reader.Reader.close_call.Goals as goal

pub returns : goal.returns
returns c = if_ok c.add_call.result _ _ c.add_call.ensures (λ went w k f l outer h hf hl ho.
    closes_call outer f l k c.args.self.now c.close_level.new.nodes c.replace-level.new.dest c.args.outside c.args.call c.push.new.self c.in_ok-sum.sum went c.add_call.new.self
    c.in_ok-sum.ensures.grown (c.in_ok-sum.ensures.shown l f (rw c.replace-level.ensures.value hl) hf) c.in_ok-push.ensures.ok (w k) h ho)
