use Rattle.std.proofs.Common.{sym, subst}
use Rattle.wasm_store.specs.Store.{Store}
use Rattle.wasm_store.specs.View.{store_of}
use Rattle.wasm_store.specs.Whole.{IsFunction}
use Rattle.wasm_store.proofs.Keeps.{whole_function}
use Rattle.wasm_store.proofs.store.Store.alloc_func.Goals as goal

pub invariant_of-self-2 : goal.invariant_of-self-2
invariant_of-self-2 c =
    record {
      whole = (
          rw c.in_ok-push.ensures.items
          (whole_function c.args.f (store_of c.self.inside) c.self.invariant.whole (subst (λ (s : Store). IsFunction s c.args.f) (sym c.self.view_is) c.requires.fits))
          );
      count = c.self.invariant.count;
    }
