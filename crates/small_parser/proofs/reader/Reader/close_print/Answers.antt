use Rattle.small_parser.proofs.Steps.{closes_print}
use Rattle.small_parser.proofs.reader.Reader.close_print.Goals as goal

pub returns-in_ok-push-in-Print : goal.returns-in_ok-push-in-Print
returns-in_ok-push-in-Print c = λ f l outer k h hf hl ho none. closes_print outer f l k c.args.self.now c.close_level.new.nodes c.replace.new.dest c.replace-level.new.dest c.in-Print.place c.in-Print.arguments c.push.new.self c.in_ok-sum-in-Print.sum
    c.in_ok-sum-in-Print.ensures.grown (c.in_ok-sum-in-Print.ensures.shown l f (rw c.replace-level.ensures.value hl) hf) c.in_ok-push-in-Print.ensures.ok h
    (rw c.in-Print.ensures.value ho) none
