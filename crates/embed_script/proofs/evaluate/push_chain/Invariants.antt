-- What is on top, under the tasks of the operands that are left, is the whole chain's tasks.
use Rattle.std.proofs.Common.{◌≡◌, ◌≤◌, ◌++◌, length, take}
use Rattle.embed_script.specs.Tasks.{top_first, chain_tasks}
use Rattle.embed_script.proofs.evaluate.push_chain.Given as goal

abbrev pub invariant-loop-at : goal.invariant-loop-at
invariant-loop-at l = record {
  within : l.at ≤ length l.left;
  tasks : chain_tasks (take l.at l.left) l.next ++ top_first l.tasks ≡ chain_tasks l.left l.fn.last ++ top_first l.initial.tasks;
}

abbrev pub decreases-loop-at : goal.decreases-loop-at
decreases-loop-at l = l.at
