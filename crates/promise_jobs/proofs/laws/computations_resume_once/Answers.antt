use Rattle.promise_jobs.proofs.Places.{calls_keep_places, reactions_add_theirs}
use Rattle.promise_jobs.proofs.laws.computations_resume_once.Goals as goal

pub returns-clause-kept : goal.returns-clause-kept
returns-clause-kept c = calls_keep_places

pub returns-clause-added : goal.returns-clause-added
returns-clause-added c = reactions_add_theirs
