-- The properties so far, with those of the exports that are left, are all.
use Rattle.iface_objects.proofs.Exporting.{Goes}
use Rattle.iface_objects.proofs.exports.properties.Given as goal

abbrev pub invariant-loop-export : goal.invariant-loop-export
invariant-loop-export l = Goes l.instance l.exports l.fn.heap l.fn.caches l.export-index l.pairs.items l.heap l.caches
