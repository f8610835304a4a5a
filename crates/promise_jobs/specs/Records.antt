-- What promises are: their states, the pairs of resolving functions, and the queue of jobs (ECMA-262, sections 27.2.6, 27.2.1.3
-- and 9.5).
use Rattle.std.specs.Prelude.{List}
use Rattle.promise_jobs.specs.declared.job.Job.{Job}
use Rattle.promise_jobs.specs.declared.state.Pair.{Pair}
use Rattle.promise_jobs.specs.declared.state.State.{State}

-- the states of the promises and the pairs by their numbers, and the jobs, of which the first is run next
pub record HostPromises : Type 0 where
  pub promises : List State
  pub pairs : List Pair
  pub jobs : List Job
