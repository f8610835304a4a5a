use Rattle.wasm_store.specs.View.{store_of}
use Rattle.wasm_store.proofs.Steps.{After, fill_after}
use Rattle.wasm_store.proofs.store.Store.table_fill.Goals as goal

done_ : (c : goal.Joined-fill) → After (store_of c.self.inside) c.args.self.now c.args.a c.fill.new.self
done_ c =
    fill_after (store_of c.self.inside) c.args.self.now c.args.a c.index_mut-table.result.now c.fill.new.self c.self.view_is c.self.invariant.whole c.requires.live c.index_mut-table.ensures.value
    c.args.at c.args.n c.args.v c.fill.result c.requires.typed c.fill.ensures.within.0 c.fill.ensures.written c.fill.ensures.refused

pub invariant_of-self : goal.invariant_of-self
invariant_of-self c =
    record {
      whole = (
          (done_ c).whole
          );
      count = c.self.invariant.count;
    }

pub returns-clause-later : goal.returns-clause-later
returns-clause-later c = (done_ c).later
