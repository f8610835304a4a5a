use Rattle.std.proofs.Common.{◌≡◌, ◌++◌, length, take}
use Rattle.wasm_store.specs.Store.{module_at}
use Rattle.wasm_store.specs.Whole.{IsLater}
use Rattle.wasm_store.specs.Allocated.{fresh, global_addr, globals_from}
use Rattle.wasm_instance.specs.Parts.{with_globals, constant_in}
use Rattle.wasm_instance.proofs.allocate.add_globals.Given as goal

abbrev pub invariant-loop-k : goal.invariant-loop-k
invariant-loop-k l = record {
  added : l.store ≡ with_globals (take l.k (globals_from (constant_in (module_at l.initial.store l.a) l.funcs l.values) (module_at l.initial.store l.a).globals)) l.initial.store;
  addresses : l.globals ≡ l.initial.globals ++ fresh global_addr (length l.initial.store.globals) l.k;
  later : IsLater l.initial.store l.store;
}
