use Rattle.std.proofs.Common.{sym, subst}
use Rattle.wasm_store.specs.Store.{Store}
use Rattle.wasm_store.specs.View.{store_of}
use Rattle.wasm_store.specs.Whole.{HasType}
use Rattle.wasm_store.proofs.Keeps.{whole_new_global}
use Rattle.wasm_store.proofs.store.Store.alloc_global.Goals as goal

pub invariant_of-self-2 : goal.invariant_of-self-2
invariant_of-self-2 c =
    record {
      whole = (
          rw c.in_ok-push.ensures.items
          (whole_new_global (record { ty = c.args.ty; value = c.args.v }) (store_of c.self.inside) c.self.invariant.whole
          (subst (λ (s : Store). HasType s c.args.v c.args.ty.val) (sym c.self.view_is) c.requires.typed))
          );
      count = c.self.invariant.count;
    }
