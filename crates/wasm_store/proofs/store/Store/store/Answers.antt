use Rattle.wasm_store.specs.View.{store_of}
use Rattle.wasm_store.proofs.MemoryLaws.{MemoryAfter, written_after}
use Rattle.wasm_store.proofs.store.Store.store.Goals as goal

done_ : (c : goal.After-self-1) → MemoryAfter (store_of c.self.inside) c.args.self.now c.self.inside.pages c.args.a c.store.new.self
done_ c =
    written_after (store_of c.self.inside) c.args.self.now c.self.inside.pages c.args.a c.index_mut-memory.result.now c.store.new.self c.self.view_is c.self.invariant.whole c.self.invariant.count c.requires.live c.index_mut-memory.ensures.value c.store.ensures.size

pub invariant_of-self : goal.invariant_of-self
invariant_of-self c = record { whole = (done_ c).whole; count = (done_ c).count_is }

pub returns-clause-later : goal.returns-clause-later
returns-clause-later c = (done_ c).later
