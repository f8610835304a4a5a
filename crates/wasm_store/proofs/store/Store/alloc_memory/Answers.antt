use Rattle.std.proofs.Common.{◌≡◌, sym, ◌∙◌, subst}
use Rattle.std.specs.Prelude.{true}
use Rattle.wasm_store.specs.Store.{Store}
use Rattle.wasm_store.specs.Memories.{may_have_memory}
use Rattle.wasm_store.specs.View.{store_of}
use Rattle.wasm_store.proofs.MemoryLaws.{whole_new_memory, count_new_memory}
use Rattle.wasm_store.proofs.store.Store.alloc_memory.Goals as goal

pub invariant_of-self-2 : goal.invariant_of-self-2
invariant_of-self-2 c =
    let may : may_have_memory (store_of c.self.inside) c.args.limit ≡ true =
    subst (λ (s : Store). may_have_memory s c.args.limit ≡ true) (sym c.self.view_is) (sym c.may_have_memory.ensures ∙ c.if-not-may_have_memory.false) in
    record {
      whole = rw c.in_ok-push.ensures.items (whole_new_memory c.args.limit (store_of c.self.inside) c.in_ok-memory.memory c.in_ok-memory.ensures c.self.invariant.whole c.requires.memory may);
      count = rw c.in_ok-push.ensures.items (count_new_memory c.args.limit c.self.inside.memories.items c.in_ok-memory.memory c.self.inside.pages c.in_ok-memory.ensures c.self.invariant.count);
    }
