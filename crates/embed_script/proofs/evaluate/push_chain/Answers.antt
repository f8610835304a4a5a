use Rattle.std.proofs.Common.{◌-◌, ◌∙◌, arith}
use Rattle.small_parser.specs.declared.script.Operator.TheVariants as operators
use Rattle.embed_script.proofs.Chains.{pushed}
use Rattle.embed_script.proofs.evaluate.push_chain.Goals as goal

pub loop-at-preserved : goal.loop-at-preserved
loop-at-preserved c = record {
  within = omega arith;
  tasks = pushed c.args.left.now c.loop-at.at (c.loop-at.at - 1) (record { node = record { 0 = 0 }; operator = operators.Plus; place = 0 }) c.loop-at.next
      c.loop-at.tasks.items c.push.new.self.items c.push-in-loop-at.new.self.items
      (omega arith) (omega arith) c.in_ok-push.ensures.items c.in_ok-push-2.ensures.items ∙ c.loop-at.invariant.tasks;
}
