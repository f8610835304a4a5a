use Rattle.wasm_store.specs.View.{store_of}
use Rattle.wasm_store.proofs.Steps.{After, grow_after}
use Rattle.wasm_store.proofs.store.Store.grow_table.Goals as goal

done_ : (c : goal.After-self-1) → After (store_of c.self.inside) c.args.self.now c.args.a c.grow.new.self
done_ c =
    grow_after (store_of c.self.inside) c.args.self.now c.args.a c.index_mut-table.result.now c.grow.new.self c.self.view_is c.self.invariant.whole c.requires.live c.index_mut-table.ensures.value
    c.args.delta c.args.init c.grow.result c.requires.typed c.grow.ensures.grown c.grow.ensures.refused

pub invariant_of-self : goal.invariant_of-self
invariant_of-self c =
    record {
      whole = (
          (done_ c).whole
          );
      count = c.self.invariant.count;
    }

pub returns-clause-later : goal.returns-clause-later
returns-clause-later c = (done_ c).later
