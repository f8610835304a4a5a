use Rattle.wasm_store.specs.View.{store_of}
use Rattle.wasm_store.proofs.Later.{later_data_dropped}
use Rattle.wasm_store.proofs.Keeps.{whole_datas}
use Rattle.wasm_store.proofs.store.Store.data_drop.Goals as goal

pub invariant_of-self : goal.invariant_of-self
invariant_of-self c = record {
  whole = rw c.new.ensures (whole_datas _ (store_of c.self.inside) c.self.invariant.whole (later_data_dropped c.args.d (store_of c.self.inside)));
  count = c.self.invariant.count;
}
