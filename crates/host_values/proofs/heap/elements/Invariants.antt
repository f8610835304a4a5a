-- The elements so far, with those of the values that are left, are all; so are they in number.
use Rattle.std.proofs.Common.{◌≡◌, ◌+◌, ◌++◌, length}
use Rattle.host_values.specs.Members.{elements_from, elements_of}
use Rattle.host_values.proofs.heap.elements.Given as goal

abbrev pub invariant-loop-value : goal.invariant-loop-value
invariant-loop-value l =
    (l.elements.items ++ elements_from (length l.elements.items) l.value-iterator.rest.items ≡ elements_of l.fn.items.items)
    × (length l.elements.items + length l.value-iterator.rest.items ≡ length l.fn.items.items)
