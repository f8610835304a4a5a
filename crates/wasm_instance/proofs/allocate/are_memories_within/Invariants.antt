use Rattle.wasm_instance.proofs.Limits.{AreCounted}
use Rattle.wasm_instance.proofs.allocate.are_memories_within.Given as goal

abbrev pub invariant-loop-limit : goal.invariant-loop-limit
invariant-loop-limit l = AreCounted l.store l.limits l.limit-index l.pages
