use Rattle.std.proofs.Common.{◌≡◌, ◌<◌, ◌≤◌, length, sym, ap, ◌∙◌, subst, arith}
use Rattle.std.specs.Prelude.{Some, Result, Ok, Err, slice_get}
use Rattle.std.proofs.lemmas.Result.{err_from_is_err_and}
use Rattle.wasm_syntax.specs.declared.trap.Trap.{Trap}
use Rattle.wasm_syntax.specs.declared.module.Elem.{Elem}
use Rattle.wasm_syntax.specs.declared.module.Module.{Module}
use Rattle.wasm_syntax.specs.declared.addresses.ElemAddr.{ElemAddr}
use Rattle.wasm_store.specs.declared.instances.Instance.{Instance}
use Rattle.wasm_store.specs.Store.{Store, instance_at}
use Rattle.wasm_instance.specs.Instantiation.{Outcome, init_element, in_order}
use Rattle.wasm_instance.specs.Parts.{Ends, module_of, offset_in}
use Rattle.wasm_instance.proofs.Writing.{told, place_there, segment_there, same_code, left_next, left_traps, left_none}
use Rattle.wasm_instance.proofs.segments.write_elements.Goals as goal

pub returns-in_err-write_segment-clause-ends : goal.returns-in_err-write_segment-clause-ends
returns-in_err-write_segment-clause-ends c =
    let s : Store = c.args.store.now in
    let f : ElemAddr → Elem → Store → Outcome = λ e segment. init_element (instance_at s c.args.i) (offset_in (module_of s c.args.i) (instance_at s c.args.i) c.args.values.now) e segment.mode in
    let count : c.len-count.result ≡ length (instance_at s c.args.i).elems = c.len-count.ensures ∙ ap (λ (j : Instance). length j.elems) c.instance.ensures in
    let before : c.loop-k.k < c.len-count.result = c.loop-k-test.true in
    let at = place_there (instance_at s c.args.i).elems c.loop-k.k (omega (arith, count, before)) in
    let there = segment_there s (instance_at s c.args.i) c.loop-k.k c.requires.lists (omega (arith, count, before)) in
    let step : Ends (f at.0 there.0 c.loop-k.store) (Err c.in_err-write_segment.field-0.0) c.write_segment.new.store =
    told (λ (j : Instance) (m : Module). (e : ElemAddr) (segment : Elem) → slice_get j.elems c.loop-k.k ≡ Some e → slice_get m.elems c.loop-k.k ≡ Some segment → Ends (init_element j (offset_in m j c.args.values.now) e segment.mode c.loop-k.store) (Err c.in_err-write_segment.field-0.0) c.write_segment.new.store)
    s c.loop-k.store c.args.i c.loop-k.invariant.same c.in_err-write_segment.ensures.ends at.0 there.0 at.1 there.1 in
    let whole = left_traps ElemAddr Elem f (instance_at s c.args.i).elems (module_of s c.args.i).elems s c.loop-k.store c.write_segment.new.store c.loop-k.k at.0 there.0 c.in_err-write_segment.field-0.0 at.1 there.1 c.loop-k.invariant.left step in
    let p = err_from_is_err_and c.from_residual.result c.from_residual.ensures.1 in
    subst (λ (r : Result (Unit {0}) Trap). Ends (in_order f (instance_at s c.args.i).elems (module_of s c.args.i).elems s) r c.write_segment.new.store) (sym p.1)
    (subst (λ (because : Trap). Ends (in_order f (instance_at s c.args.i).elems (module_of s c.args.i).elems s) (Err because) c.write_segment.new.store) (sym p.2) whole)

pub loop-k-preserved : goal.loop-k-preserved
loop-k-preserved c =
    let s : Store = c.args.store.now in
    let f : ElemAddr → Elem → Store → Outcome = λ e segment. init_element (instance_at s c.args.i) (offset_in (module_of s c.args.i) (instance_at s c.args.i) c.args.values.now) e segment.mode in
    let count : c.len-count.result ≡ length (instance_at s c.args.i).elems = c.len-count.ensures ∙ ap (λ (j : Instance). length j.elems) c.instance.ensures in
    let before : c.loop-k.k < c.len-count.result = c.loop-k-test.true in
    let at = place_there (instance_at s c.args.i).elems c.loop-k.k (omega (arith, count, before)) in
    let there = segment_there s (instance_at s c.args.i) c.loop-k.k c.requires.lists (omega (arith, count, before)) in
    let step : Ends (f at.0 there.0 c.loop-k.store) (Ok tt) c.write_segment.new.store =
    told (λ (j : Instance) (m : Module). (e : ElemAddr) (segment : Elem) → slice_get j.elems c.loop-k.k ≡ Some e → slice_get m.elems c.loop-k.k ≡ Some segment → Ends (init_element j (offset_in m j c.args.values.now) e segment.mode c.loop-k.store) (Ok tt) c.write_segment.new.store)
    s c.loop-k.store c.args.i c.loop-k.invariant.same c.in_ok-write_segment.ensures.ends at.0 there.0 at.1 there.1 in
    record {
      left = left_next ElemAddr Elem f (instance_at s c.args.i).elems (module_of s c.args.i).elems s c.loop-k.store c.write_segment.new.store c.loop-k.k at.0 there.0 at.1 there.1 c.loop-k.invariant.left step;
      same = same_code s c.loop-k.store c.write_segment.new.store c.loop-k.invariant.same c.in_ok-write_segment.ensures.same;
      later = c.order.ensures.through s c.loop-k.store c.write_segment.new.store c.loop-k.invariant.later c.in_ok-write_segment.ensures.later;
    }

pub returns-clause-ends : goal.returns-clause-ends
returns-clause-ends c =
    let s : Store = c.args.store.now in
    let f : ElemAddr → Elem → Store → Outcome = λ e segment. init_element (instance_at s c.args.i) (offset_in (module_of s c.args.i) (instance_at s c.args.i) c.args.values.now) e segment.mode in
    let count : c.len-count.result ≡ length (instance_at s c.args.i).elems = c.len-count.ensures ∙ ap (λ (j : Instance). length j.elems) c.instance.ensures in
    let past : c.len-count.result ≤ c.loop-k.k = c.loop-k-test.false in
    let end : c.loop-k.k ≤ c.len-count.result = c.loop-k.auto.k-end in
    left_none ElemAddr Elem f (instance_at s c.args.i).elems (module_of s c.args.i).elems s c.loop-k.store c.loop-k.k (omega (arith, count, past, end)) c.loop-k.invariant.left
