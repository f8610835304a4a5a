use Rattle.wasm_store.specs.View.{store_of}
use Rattle.wasm_store.proofs.Keeps.{whole_dropped}
use Rattle.wasm_store.proofs.store.Store.elem_drop.Goals as goal

pub invariant_of-self : goal.invariant_of-self
invariant_of-self c =
    record {
      whole = (
          rw c.new.ensures (whole_dropped c.args.e (store_of c.self.inside) c.self.invariant.whole)
          );
      count = c.self.invariant.count;
    }
