use Rattle.std.proofs.Common.{◌≡◌, ◌++◌, length, take}
use Rattle.wasm_store.specs.Store.{module_at}
use Rattle.wasm_store.specs.Whole.{IsLater}
use Rattle.wasm_store.specs.Allocated.{fresh, data_addr}
use Rattle.wasm_instance.specs.Parts.{with_datas, datas_from}
use Rattle.wasm_instance.proofs.allocate.add_datas.Given as goal

abbrev pub invariant-loop-k : goal.invariant-loop-k
invariant-loop-k l = record {
  added : l.store ≡ with_datas (take l.k (datas_from (module_at l.initial.store l.a).datas)) l.initial.store;
  addresses : l.datas ≡ l.initial.datas ++ fresh data_addr (length l.initial.store.datas) l.k;
  later : IsLater l.initial.store l.store;
}
