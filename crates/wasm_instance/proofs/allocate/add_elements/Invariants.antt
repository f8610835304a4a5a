use Rattle.std.proofs.Common.{◌≡◌, ◌++◌, length, take}
use Rattle.wasm_store.specs.Store.{module_at}
use Rattle.wasm_store.specs.Whole.{IsLater}
use Rattle.wasm_store.specs.Allocated.{fresh, elem_addr, elements_from}
use Rattle.wasm_instance.specs.Parts.{with_elements, constant_in}
use Rattle.wasm_instance.proofs.allocate.add_elements.Given as goal

abbrev pub invariant-loop-k : goal.invariant-loop-k
invariant-loop-k l = record {
  added : l.store ≡ with_elements (take l.k (elements_from (constant_in (module_at l.initial.store l.a) l.funcs l.values) (module_at l.initial.store l.a).elems)) l.initial.store;
  addresses : l.elems ≡ l.initial.elems ++ fresh elem_addr (length l.initial.store.elements) l.k;
  later : IsLater l.initial.store l.store;
}
