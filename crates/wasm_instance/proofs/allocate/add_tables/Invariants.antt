use Rattle.std.proofs.Common.{◌≡◌, ◌++◌, length, take}
use Rattle.wasm_store.specs.Store.{module_at}
use Rattle.wasm_store.specs.Whole.{IsLater}
use Rattle.wasm_store.specs.Allocated.{fresh, table_addr, tables_from}
use Rattle.wasm_instance.specs.Parts.{with_tables}
use Rattle.wasm_instance.proofs.allocate.add_tables.Given as goal

abbrev pub invariant-loop-k : goal.invariant-loop-k
invariant-loop-k l = record {
  added : l.store ≡ with_tables (take l.k (tables_from (module_at l.initial.store l.a).tables)) l.initial.store;
  addresses : l.tables ≡ l.initial.tables ++ fresh table_addr (length l.initial.store.tables) l.k;
  later : IsLater l.initial.store l.store;
}
