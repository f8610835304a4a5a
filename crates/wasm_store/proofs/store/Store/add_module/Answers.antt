use Rattle.wasm_store.specs.View.{store_of}
use Rattle.wasm_store.proofs.Keeps.{whole_module}
use Rattle.wasm_store.proofs.store.Store.add_module.Goals as goal

pub invariant_of-self-2 : goal.invariant_of-self-2
invariant_of-self-2 c =
    record {
      whole = (
          rw c.in_ok-push.ensures.items (whole_module c.args.m (store_of c.self.inside) c.self.invariant.whole)
          );
      count = c.self.invariant.count;
    }
