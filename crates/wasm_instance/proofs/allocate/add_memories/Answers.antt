use Rattle.std.proofs.Common.{◌≡◌, List, length, ap, ◌∙◌, subst}
use Rattle.std.specs.Prelude.{Option, Some, slice_get}
use Rattle.std.proofs.lemmas.Option.{slice_get_within}
use Rattle.wasm_syntax.specs.declared.types.Limit.{Limit}
use Rattle.wasm_syntax.specs.declared.addresses.MemAddr.{MemAddr}
use Rattle.wasm_store.specs.Store.{Store, MemInst, module_at}
use Rattle.wasm_store.specs.Memories.{NewMemory, new_memory}
use Rattle.wasm_store.specs.Allocated.{memories_from, mem_addr}
use Rattle.wasm_instance.proofs.Limits.{next_may_be_had, not_refused}
use Rattle.wasm_instance.proofs.Adding.{memories_more, address_more, count_taken, memory_at_place}
use Rattle.wasm_instance.proofs.allocate.add_memories.Goals as goal

pub loop-k-preserved : goal.loop-k-preserved
loop-k-preserved c =
    let s : Store = c.args.store.now in
    let limit : Limit = c.memory_type-limit.result in
    let ms : List MemInst = memories_from (module_at s c.args.a).mems in
    let at : slice_get ms c.loop-k.k ≡ Some (new_memory limit) =
    memory_at_place (module_at s c.args.a).mems c.loop-k.k limit (subst (λ (t : Store). slice_get (module_at t c.args.a).mems c.loop-k.k ≡ Some limit) c.loop-k.invariant.added c.memory_type-limit.ensures.value) in
    let made : NewMemory limit c.loop-k.store c.alloc_memory.new.self (Some c.in-Some.address) =
    subst (λ (o : Option MemAddr). NewMemory limit c.loop-k.store c.alloc_memory.new.self o) c.in-Some.is c.in_ok-address.ensures.added in
    record {
      added = memories_more s c.loop-k.store c.alloc_memory.new.self ms c.loop-k.k (new_memory limit) c.loop-k.invariant.added at made.2;
      addresses =
          address_more mem_addr (length s.memories) c.loop-k.k c.args.mems.now c.loop-k.mems c.push.new.self c.in-Some.address c.loop-k.invariant.addresses
          (ap mem_addr (count_taken s.memories ms c.loop-k.k c.in-Some.address.0 (slice_get_within ms c.loop-k.k (new_memory limit) at)
          (made.0 ∙ ap (λ (t : Store). length t.memories) c.loop-k.invariant.added)))
          c.in_ok-push-in-Some.ensures.ok;
      later = c.order.ensures.through s c.loop-k.store c.alloc_memory.new.self c.loop-k.invariant.later c.in_ok-address.ensures.later;
    }

pub unreachable-requires : goal.unreachable-requires
unreachable-requires c =
    let s : Store = c.args.store.now in
    let limit : Limit = c.memory_type-limit.result in
    let at : slice_get (module_at s c.args.a).mems c.loop-k.k ≡ Some limit =
    subst (λ (t : Store). slice_get (module_at t c.args.a).mems c.loop-k.k ≡ Some limit) c.loop-k.invariant.added c.memory_type-limit.ensures.value in
    not_refused c.loop-k.store c.alloc_memory.new.self limit (next_may_be_had s c.loop-k.store (module_at s c.args.a).mems c.loop-k.k limit c.requires.limits at c.loop-k.invariant.added)
    (subst (λ (o : Option MemAddr). NewMemory limit c.loop-k.store c.alloc_memory.new.self o) c.in-None.is c.in_ok-address.ensures.added)
