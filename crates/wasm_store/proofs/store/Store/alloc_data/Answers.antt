use Rattle.wasm_store.specs.View.{store_of}
use Rattle.wasm_store.proofs.Later.{later_new_data}
use Rattle.wasm_store.proofs.Keeps.{whole_datas}
use Rattle.wasm_store.proofs.store.Store.alloc_data.Goals as goal

pub invariant_of-self-2 : goal.invariant_of-self-2
invariant_of-self-2 c = record {
  whole = rw c.in_ok-push.ensures.items (whole_datas _ (store_of c.self.inside) c.self.invariant.whole (later_new_data c.args.bytes (store_of c.self.inside)));
  count = c.self.invariant.count;
}
