use Rattle.std.proofs.Common.{◌≡◌, ◌+◌, sym, ◌∙◌, subst}
use Rattle.std.specs.Prelude.{true}
use Rattle.wasm_store.specs.Store.{Store}
use Rattle.wasm_store.specs.Memories.{memory_at, may_grow_memory}
use Rattle.wasm_store.specs.View.{store_of}
use Rattle.wasm_store.proofs.MemoryLaws.{MemoryAfter, grown_after}
use Rattle.wasm_store.proofs.store.Store.grow_memory.Goals as goal

pub invariant_of-self-2 : goal.invariant_of-self-2
invariant_of-self-2 c =
    let may : may_grow_memory (store_of c.self.inside) (memory_at (store_of c.self.inside) c.args.a) c.args.delta ≡ true =
    subst (λ (s : Store). may_grow_memory s (memory_at s c.args.a) c.args.delta ≡ true) (sym c.self.view_is) (sym c.may_grow_memory.ensures ∙ c.if-not-may_grow_memory.false) in
    let after : MemoryAfter (store_of c.self.inside) c.args.self.now (c.self.inside.pages + c.args.delta) c.args.a c.grow.new.self =
    grown_after (store_of c.self.inside) c.args.self.now c.self.inside.pages c.args.a c.index_mut-memory.result.now c.grow.new.self c.self.view_is c.self.invariant.whole c.self.invariant.count c.requires.live c.index_mut-memory.ensures.value
    c.args.delta c.in_ok-grow.ensures.grown may in
    record { whole = after.whole; count = after.count_is }
