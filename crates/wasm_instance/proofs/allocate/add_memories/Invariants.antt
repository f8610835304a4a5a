use Rattle.std.proofs.Common.{◌≡◌, ◌++◌, length, take}
use Rattle.wasm_store.specs.Store.{module_at}
use Rattle.wasm_store.specs.Whole.{IsLater}
use Rattle.wasm_store.specs.Allocated.{fresh, mem_addr, memories_from}
use Rattle.wasm_instance.specs.Parts.{with_memories}
use Rattle.wasm_instance.proofs.allocate.add_memories.Given as goal

abbrev pub invariant-loop-k : goal.invariant-loop-k
invariant-loop-k l = record {
  added : l.store ≡ with_memories (take l.k (memories_from (module_at l.initial.store l.a).mems)) l.initial.store;
  addresses : l.mems ≡ l.initial.mems ++ fresh mem_addr (length l.initial.store.memories) l.k;
  later : IsLater l.initial.store l.store;
}
