use Rattle.wasm_store.specs.View.{store_of}
use Rattle.wasm_store.proofs.Steps.{After, set_after}
use Rattle.wasm_store.proofs.store.Store.table_set.Goals as goal

done_ : (c : goal.Joined-set) → After (store_of c.self.inside) c.args.self.now c.args.a c.set.new.self
done_ c =
    set_after (store_of c.self.inside) c.args.self.now c.args.a c.index_mut-table.result.now c.set.new.self c.self.view_is c.self.invariant.whole c.requires.live c.index_mut-table.ensures.value
    c.args.i c.args.v c.set.result c.requires.typed c.set.ensures.written c.set.ensures.refused

pub invariant_of-self : goal.invariant_of-self
invariant_of-self c =
    record {
      whole = (
          (done_ c).whole
          );
      count = c.self.invariant.count;
    }

pub returns-clause-later : goal.returns-clause-later
returns-clause-later c = (done_ c).later
