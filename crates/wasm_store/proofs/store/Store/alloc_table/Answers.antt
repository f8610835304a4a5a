use Rattle.std.proofs.Common.{◌≤◌, sym, subst, arith}
use Rattle.wasm_store.specs.Store.{Store, TableInst, most_entries}
use Rattle.wasm_store.specs.View.{store_of}
use Rattle.wasm_store.specs.Whole.{HasType, IsTable}
use Rattle.wasm_store.proofs.Keeps.{whole_new_table}
use Rattle.wasm_store.proofs.TableLaws.{new_table_fits}
use Rattle.wasm_store.proofs.store.Store.alloc_table.Goals as goal

pub invariant_of-self-2 : goal.invariant_of-self-2
invariant_of-self-2 c =
    record {
      whole = (
          let typed : HasType (store_of c.self.inside) c.args.init c.args.ty.elem = subst (λ (s : Store). HasType s c.args.init c.args.ty.elem) (sym c.self.view_is) c.requires.typed in
          let few : c.args.ty.limit.min ≤ most_entries = omega arith in
          let fits : IsTable (store_of c.self.inside) c.in_ok-table.table =
          subst (λ (t : TableInst). IsTable (store_of c.self.inside) t) (sym c.in_ok-table.ensures) (new_table_fits (store_of c.self.inside) c.args.ty c.args.init c.requires.table few typed) in
          rw c.in_ok-push.ensures.items (whole_new_table c.in_ok-table.table (store_of c.self.inside) c.self.invariant.whole fits)
          );
      count = c.self.invariant.count;
    }
