use Rattle.promise_jobs.proofs.Staying.{acted_stays, calls_are_later, settled_stays}
use Rattle.promise_jobs.proofs.laws.what_stays.Goals as goal

pub returns-clause-later : goal.returns-clause-later
returns-clause-later c = calls_are_later

pub returns-clause-settled : goal.returns-clause-settled
returns-clause-settled c = settled_stays

pub returns-clause-acted : goal.returns-clause-acted
returns-clause-acted c = acted_stays
