-- The keys so far, with the indices that are left, are all indices.
use Rattle.std.proofs.Common.{◌≡◌, ◌++◌, map}
use Rattle.host_values.specs.declared.keys.Key.TheVariants as keys
use Rattle.host_values.proofs.keys.in_order.Given as goal

abbrev pub invariant-loop-index : goal.invariant-loop-index
invariant-loop-index l = l.ordered.items ++ map (λ n. keys.Index n) l.index-iterator ≡ map (λ n. keys.Index n) l.initial.index-iterator
