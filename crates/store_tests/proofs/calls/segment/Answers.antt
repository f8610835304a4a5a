use Rattle.store_tests.proofs.KeptLaws.{two_live, segment_made}
use Rattle.store_tests.proofs.calls.segment.Goals as goal

pub alloc_elem-requires : goal.alloc_elem-requires
alloc_elem-requires c = record {
  live = two_live c.args.store.now c.value.result c.value-2.result c.in_ok-items.items c.value.ensures c.value-2.ensures c.in_ok-items.ensures;
}

pub returns-clause-made : goal.returns-clause-made
returns-clause-made c =
    segment_made c.args.store.now c.alloc_elem.new.self c.in_ok-alloc_elem.field-0 c.value.result c.value-2.result c.in_ok-items.items c.value.ensures c.value-2.ensures
    c.in_ok-items.ensures c.in_ok-alloc_elem.ensures.address c.in_ok-alloc_elem.ensures.added
