use Rattle.std.proofs.Common.{◌≡◌, List, length, ap, ◌∙◌, subst}
use Rattle.std.specs.Prelude.{Some, slice_get}
use Rattle.std.proofs.lemmas.Option.{slice_get_within}
use Rattle.wasm_syntax.specs.declared.value.Value.{Value}
use Rattle.wasm_store.specs.Store.{Store, module_at}
use Rattle.wasm_store.specs.Whole.{AreLive}
use Rattle.wasm_store.specs.Allocated.{elements_from, elem_addr}
use Rattle.wasm_instance.specs.Parts.{constant_in}
use Rattle.wasm_instance.proofs.Adding.{elements_more, address_more, count_taken, all_at}
use Rattle.wasm_instance.proofs.Whole.{items_live_more}
use Rattle.wasm_instance.proofs.allocate.add_elements.Goals as goal

pub alloc_elem-requires : goal.alloc_elem-requires
alloc_elem-requires c =
    let s : Store = c.args.store.now in
    let items : List Value = c.in_ok-items.items in
    let es : List (List Value) = elements_from (constant_in (module_at s c.args.a) c.args.funcs.now c.args.values.now) (module_at s c.args.a).elems in
    let at : slice_get es c.loop-k.k ≡ Some items =
    subst (λ (t : Store). slice_get (elements_from (constant_in (module_at t c.args.a) c.args.funcs.now c.args.values.now) (module_at t c.args.a).elems) c.loop-k.k ≡ Some items) c.loop-k.invariant.added c.in_ok-items.ensures in
    record { live = items_live_more s c.loop-k.store items c.loop-k.invariant.later.functions.count (all_at (AreLive s) es c.loop-k.k items c.requires.refs at) }

pub loop-k-preserved : goal.loop-k-preserved
loop-k-preserved c =
    let s : Store = c.args.store.now in
    let items : List Value = c.in_ok-items.items in
    let es : List (List Value) = elements_from (constant_in (module_at s c.args.a) c.args.funcs.now c.args.values.now) (module_at s c.args.a).elems in
    let at : slice_get es c.loop-k.k ≡ Some items =
    subst (λ (t : Store). slice_get (elements_from (constant_in (module_at t c.args.a) c.args.funcs.now c.args.values.now) (module_at t c.args.a).elems) c.loop-k.k ≡ Some items) c.loop-k.invariant.added c.in_ok-items.ensures in
    record {
      added = elements_more s c.loop-k.store c.alloc_elem.new.self es c.loop-k.k items c.loop-k.invariant.added at c.in_ok-alloc_elem.ensures.added;
      addresses =
          address_more elem_addr (length s.elements) c.loop-k.k c.args.elems.now c.loop-k.elems c.push.new.self c.in_ok-alloc_elem.field-0 c.loop-k.invariant.addresses
          (ap elem_addr (count_taken s.elements es c.loop-k.k c.in_ok-alloc_elem.field-0.0 (slice_get_within es c.loop-k.k items at)
          (c.in_ok-alloc_elem.ensures.address ∙ ap (λ (t : Store). length t.elements) c.loop-k.invariant.added)))
          c.in_ok-push.ensures.ok;
      later = c.order.ensures.through s c.loop-k.store c.alloc_elem.new.self c.loop-k.invariant.later c.in_ok-alloc_elem.ensures.later;
    }
