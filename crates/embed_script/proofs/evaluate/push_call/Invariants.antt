-- What is on top, under the tasks of the arguments that are left, is the whole call's tasks.
use Rattle.std.proofs.Common.{◌≡◌, ◌≤◌, ◌++◌, length, map, take}
use Rattle.embed_script.specs.declared.evaluate.Task.TheVariants as tasks
use Rattle.embed_script.specs.Tasks.{top_first}
use Rattle.embed_script.proofs.evaluate.push_call.Given as goal

abbrev pub invariant-loop-at : goal.invariant-loop-at
invariant-loop-at l = record {
  within : l.at ≤ length l.arguments;
  tasks : map tasks.Evaluate (take l.at l.arguments) ++ top_first l.tasks ≡ map tasks.Evaluate l.arguments ++ top_first l.initial.tasks;
}

abbrev pub decreases-loop-at : goal.decreases-loop-at
decreases-loop-at l = l.at
