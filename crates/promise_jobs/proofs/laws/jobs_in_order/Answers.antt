use Rattle.promise_jobs.proofs.Staying.{calls_queue_behind}
use Rattle.promise_jobs.proofs.laws.jobs_in_order.Goals as goal

pub returns-clause-behind : goal.returns-clause-behind
returns-clause-behind c = calls_queue_behind
