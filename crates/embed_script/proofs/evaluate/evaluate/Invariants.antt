-- What is left to do gives the expression's value.
use Rattle.small_parser.specs.Grammar.{Sum}
use Rattle.small_parser.specs.Shows.{SumShows}
use Rattle.embed_script.specs.Evaluation.{Bindings, sum_value}
use Rattle.embed_script.specs.Serving.{Serves}
use Rattle.embed_script.specs.Tasks.{IsBoundAs, Continues, top_first, tasks_size}
use Rattle.embed_script.proofs.evaluate.evaluate.Given as goal

abbrev pub invariant-loop-task : goal.invariant-loop-task
invariant-loop-task l = record {
  gives : (b : Bindings) → IsBoundAs b l.names → (e : Sum) → SumShows e l.nodes l.fn.id.0 → Continues l.nodes b (sum_value b e l.fn.state) (top_first l.evaluation.tasks) (top_first l.evaluation.values) l.state;
  serves : Serves l.names l.state.store;
}

abbrev pub decreases-loop-task : goal.decreases-loop-task
decreases-loop-task l = tasks_size l.nodes (top_first l.evaluation.tasks)
