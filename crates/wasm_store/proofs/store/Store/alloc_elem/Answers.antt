use Rattle.std.proofs.Common.{sym, subst}
use Rattle.wasm_store.specs.Store.{Store}
use Rattle.wasm_store.specs.View.{store_of}
use Rattle.wasm_store.specs.Whole.{AreLive}
use Rattle.wasm_store.proofs.Keeps.{whole_new_element}
use Rattle.wasm_store.proofs.store.Store.alloc_elem.Goals as goal

pub invariant_of-self-2 : goal.invariant_of-self-2
invariant_of-self-2 c =
    record {
      whole = (
          rw c.in_ok-push.ensures.items
          (whole_new_element c.args.items (store_of c.self.inside) c.self.invariant.whole (subst (λ (s : Store). AreLive s c.args.items) (sym c.self.view_is) c.requires.live))
          );
      count = c.self.invariant.count;
    }
