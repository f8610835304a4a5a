use Rattle.iface_caches.proofs.WholeLemmas.{conversions_stay_whole, externs_stay_whole, nothing_agrees, nothing_is_whole, objects_stay_whole}
use Rattle.iface_caches.proofs.laws.wholeness.Goals as goal

pub returns-clause-nothing_agrees : goal.returns-clause-nothing_agrees
returns-clause-nothing_agrees c = nothing_agrees

pub returns-clause-nothing : goal.returns-clause-nothing
returns-clause-nothing c = nothing_is_whole

pub returns-clause-objects : goal.returns-clause-objects
returns-clause-objects c = objects_stay_whole

pub returns-clause-externs : goal.returns-clause-externs
returns-clause-externs c = externs_stay_whole

pub returns-clause-conversions : goal.returns-clause-conversions
returns-clause-conversions c = conversions_stay_whole
