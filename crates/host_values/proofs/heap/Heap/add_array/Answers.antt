use Rattle.std.proofs.Common.{sym, subst}
use Rattle.host_values.specs.Heaps.{HasDistinctKeys}
use Rattle.host_values.proofs.Elements.{elements_distinct}
use Rattle.host_values.proofs.heap.Heap.add_array.Goals as goal

pub collect-requires : goal.collect-requires
collect-requires c = record { distinct = subst HasDistinctKeys (sym c.in_ok-elements.ensures) (elements_distinct 0 c.args.items.items) }
