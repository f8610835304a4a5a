use Rattle.iface_caches.proofs.LawLemmas.{externs_come_back, functions_come_back}
use Rattle.iface_caches.proofs.WholeLemmas.{converted_is_typed, shown_is_live}
use Rattle.iface_caches.proofs.laws.conversions.Goals as goal

pub returns-clause-functions : goal.returns-clause-functions
returns-clause-functions c = functions_come_back

pub returns-clause-externs : goal.returns-clause-externs
returns-clause-externs c = externs_come_back

pub returns-clause-typed : goal.returns-clause-typed
returns-clause-typed c = converted_is_typed

pub returns-clause-live : goal.returns-clause-live
returns-clause-live c = shown_is_live
