use Rattle.std.proofs.Common.{◌-◌, ◌++◌, ◌∙◌, ap, map, arith, reverse}
use Rattle.std.proofs.Math.Seq.{take-length}
use Rattle.embed_script.specs.declared.evaluate.Task.TheVariants as tasks
use Rattle.embed_script.proofs.Chains.{pushed_argument}
use Rattle.embed_script.proofs.evaluate.push_call.Goals as goal

pub loop-at-init : goal.loop-at-init
loop-at-init c = record {
  within = omega arith;
  tasks = ap (λ ids. map tasks.Evaluate ids ++ reverse c.push.new.self.items) (take-length c.args.arguments.now);
}

pub loop-at-preserved : goal.loop-at-preserved
loop-at-preserved c = record {
  within = omega arith;
  tasks = pushed_argument c.args.arguments.now c.loop-at.at (c.loop-at.at - 1) (record { 0 = 0 }) c.args.id c.loop-at.tasks.items c.push-in-loop-at.new.self.items
      (omega arith) (omega arith) c.in_ok-push-2.ensures.items ∙ c.loop-at.invariant.tasks;
}
