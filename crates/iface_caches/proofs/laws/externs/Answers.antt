use Rattle.iface_caches.proofs.LawLemmas.{extern_is_at_address, extern_is_found_again, externs_are_one_per_value}
use Rattle.iface_caches.proofs.laws.externs.Goals as goal

pub returns-clause-at_address : goal.returns-clause-at_address
returns-clause-at_address c = extern_is_at_address

pub returns-clause-found_again : goal.returns-clause-found_again
returns-clause-found_again c = extern_is_found_again

pub returns-clause-one_per_value : goal.returns-clause-one_per_value
returns-clause-one_per_value c = externs_are_one_per_value
