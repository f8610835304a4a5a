-- The jobs so far are those of the reactions so far.
use Rattle.std.proofs.Common.{◌≡◌, map, take}
use Rattle.promise_jobs.specs.Promises.{reaction_job}
use Rattle.promise_jobs.proofs.promises.jobs_of.Given as goal

abbrev pub invariant-loop-reaction : goal.invariant-loop-reaction
invariant-loop-reaction l = l.made.items ≡ map (reaction_job l.how l.value) (take l.reaction-index l.reactions)
