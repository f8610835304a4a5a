use Rattle.small_parser.proofs.Steps.{parts_call}
use Rattle.small_parser.proofs.reader.Reader.part_call.Goals as goal

pub returns : goal.returns
returns c = λ k f l outer h hf hl ho. parts_call outer f l k c.args.self.now c.close_level.new.nodes c.push-2.new.self c.replace-level.new.dest c.args.outside c.args.call c.push.new.self c.in_ok-sum.sum
    c.in_ok-sum.ensures.grown (c.in_ok-sum.ensures.shown l f (rw c.replace-level.ensures.value hl) hf) c.in_ok-push.ensures.ok c.in_ok-push-2.ensures.items h ho
