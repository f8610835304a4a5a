use Rattle.wasm_syntax.specs.declared.module.Elem.{Elem}
use Rattle.wasm_syntax.specs.declared.addresses.ElemAddr.{ElemAddr}
use Rattle.wasm_store.specs.Store.{instance_at}
use Rattle.wasm_instance.specs.Instantiation.{init_element}
use Rattle.wasm_instance.specs.Parts.{module_of, offset_in}
use Rattle.wasm_instance.proofs.Writing.{IsLeft}
use Rattle.wasm_instance.proofs.segments.write_elements.Given as goal

abbrev pub invariant-loop-k : goal.invariant-loop-k
invariant-loop-k l =
    IsLeft ElemAddr Elem (λ e segment. init_element (instance_at l.initial.store l.i) (offset_in (module_of l.initial.store l.i) (instance_at l.initial.store l.i) l.values) e segment.mode)
    (instance_at l.initial.store l.i).elems (module_of l.initial.store l.i).elems l.initial.store l.k l.store
