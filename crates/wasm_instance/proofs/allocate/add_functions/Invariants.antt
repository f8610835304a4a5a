use Rattle.std.proofs.Common.{◌≡◌, ◌++◌, length, take}
use Rattle.wasm_store.specs.Store.{module_at}
use Rattle.wasm_store.specs.Whole.{IsLater}
use Rattle.wasm_store.specs.Allocated.{fresh, func_addr, functions_of}
use Rattle.wasm_instance.specs.Parts.{with_functions}
use Rattle.wasm_instance.proofs.allocate.add_functions.Given as goal

abbrev pub invariant-loop-k : goal.invariant-loop-k
invariant-loop-k l = record {
  added : l.store ≡ with_functions (take l.k (functions_of (module_at l.initial.store l.a) l.i 0 (module_at l.initial.store l.a).funcs)) l.initial.store;
  addresses : l.funcs ≡ l.initial.funcs ++ fresh func_addr (length l.initial.store.functions) l.k;
  later : IsLater l.initial.store l.store;
}
