use Rattle.std.proofs.Common.{◌<◌, length, sym, subst}
use Rattle.wasm_store.specs.Store.{Store}
use Rattle.wasm_store.specs.View.{store_of}
use Rattle.wasm_store.proofs.Keeps.{whole_new_instance}
use Rattle.wasm_store.proofs.store.Store.alloc_instance.Goals as goal

pub invariant_of-self-2 : goal.invariant_of-self-2
invariant_of-self-2 c =
    record {
      whole = (
          rw c.in_ok-push.ensures.items
          (whole_new_instance c.args.i (store_of c.self.inside) c.self.invariant.whole
          (subst (λ (s : Store). c.args.i.module.0 < length s.modules) (sym c.self.view_is) c.requires.live) c.requires.blank)
          );
      count = c.self.invariant.count;
    }
