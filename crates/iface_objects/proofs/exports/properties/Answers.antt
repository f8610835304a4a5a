use Rattle.iface_objects.proofs.Exporting.{all_caches, all_heap, all_pairs, goes_first, goes_on}
use Rattle.iface_objects.proofs.exports.properties.Goals as goal

pub loop-export-init : goal.loop-export-init
loop-export-init c = goes_first c.args.instance.now c.args.exports.now c.args.heap.now c.args.caches.now c.new-pairs.result.items c.new-pairs.ensures.items

pub loop-export-preserved : goal.loop-export-preserved
loop-export-preserved c =
    goes_on c.args.instance.now c.args.exports.now c.args.heap.now c.args.caches.now c.loop-export.export-index c.export-item.result c.loop-export.pairs.items c.push.new.self.items c.in_ok-pair.pair
    c.loop-export.heap c.property.new.heap c.loop-export.caches c.property.new.caches c.loop-export.invariant c.loop-export-test.true c.export-item.is c.in_ok-pair.ensures.pair c.in_ok-push.ensures.items
    c.in_ok-pair.ensures.heap c.in_ok-pair.ensures.caches

pub returns-clause-pairs : goal.returns-clause-pairs
returns-clause-pairs c = all_pairs _ _ _ _ c.loop-export.export-index c.loop-export.pairs.items c.loop-export.heap c.loop-export.caches c.loop-export.invariant c.loop-export-test.false

pub returns-clause-heap : goal.returns-clause-heap
returns-clause-heap c = all_heap _ _ _ _ c.loop-export.export-index c.loop-export.pairs.items c.loop-export.heap c.loop-export.caches c.loop-export.invariant c.loop-export-test.false

pub returns-clause-caches : goal.returns-clause-caches
returns-clause-caches c = all_caches _ _ _ _ c.loop-export.export-index c.loop-export.pairs.items c.loop-export.heap c.loop-export.caches c.loop-export.invariant c.loop-export-test.false
