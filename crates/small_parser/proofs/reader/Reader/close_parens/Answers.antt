use Rattle.small_parser.proofs.Steps.{closes_parens}
use Rattle.small_parser.proofs.reader.Reader.close_parens.Goals as goal

pub returns : goal.returns
returns c = λ k f l outer h hf hl ho. closes_parens outer f l k c.args.self.now c.close_level.new.nodes c.replace-level.new.dest c.in_ok-sum.sum
    c.in_ok-sum.ensures.grown (c.in_ok-sum.ensures.shown l f (rw c.replace-level.ensures.value hl) hf) h (rw c.replace-level.ensures.after ho)
