use Rattle.iface_caches.proofs.LawLemmas.{object_is_found_again, object_is_of_address, objects_differ}
use Rattle.iface_caches.proofs.laws.objects.Goals as goal

pub returns-clause-of_address : goal.returns-clause-of_address
returns-clause-of_address c = object_is_of_address

pub returns-clause-found_again : goal.returns-clause-found_again
returns-clause-found_again c = object_is_found_again

pub returns-clause-differ : goal.returns-clause-differ
returns-clause-differ c = objects_differ
