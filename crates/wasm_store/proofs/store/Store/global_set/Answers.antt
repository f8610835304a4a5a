use Rattle.wasm_store.specs.View.{store_of}
use Rattle.wasm_store.proofs.Steps.{Set, set_global}
use Rattle.wasm_store.proofs.store.Store.global_set.Goals as goal

done_ : (c : goal.After-self-1) → Set (store_of c.self.inside) c.args.self.now c.args.a (record { ty = c.index_mut-global.result.now.ty; value = c.args.v })
done_ c =
    set_global (store_of c.self.inside) c.args.self.now c.args.a c.index_mut-global.result.now c.args.v c.self.view_is c.self.invariant.whole c.requires.live c.requires.mutable c.requires.typed c.index_mut-global.ensures.value

pub invariant_of-self : goal.invariant_of-self
invariant_of-self c =
    record {
      whole = (
          (done_ c).whole
          );
      count = c.self.invariant.count;
    }

pub returns-clause-later : goal.returns-clause-later
returns-clause-later c = (done_ c).later
