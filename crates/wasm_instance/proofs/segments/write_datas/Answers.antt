use Rattle.std.proofs.Common.{◌≡◌, ◌<◌, ◌≤◌, length, sym, ap, ◌∙◌, subst, arith}
use Rattle.std.specs.Prelude.{Some, Result, Ok, Err, slice_get}
use Rattle.std.proofs.lemmas.Result.{err_from_is_err_and}
use Rattle.wasm_syntax.specs.declared.trap.Trap.{Trap}
use Rattle.wasm_syntax.specs.declared.module.Data.{Data}
use Rattle.wasm_syntax.specs.declared.module.Module.{Module}
use Rattle.wasm_syntax.specs.declared.addresses.DataAddr.{DataAddr}
use Rattle.wasm_store.specs.declared.instances.Instance.{Instance}
use Rattle.wasm_store.specs.Store.{Store, instance_at}
use Rattle.wasm_instance.specs.Instantiation.{Outcome, init_data, in_order}
use Rattle.wasm_instance.specs.Parts.{Ends, module_of, offset_in}
use Rattle.wasm_instance.proofs.Writing.{told, place_there, data_there, same_code, left_next, left_traps, left_none}
use Rattle.wasm_instance.proofs.segments.write_datas.Goals as goal

pub returns-in_err-write_data_segment-clause-ends : goal.returns-in_err-write_data_segment-clause-ends
returns-in_err-write_data_segment-clause-ends c =
    let s : Store = c.args.store.now in
    let f : DataAddr → Data → Store → Outcome = λ e segment. init_data (instance_at s c.args.i) (offset_in (module_of s c.args.i) (instance_at s c.args.i) c.args.values.now) e segment.mode in
    let count : c.len-count.result ≡ length (instance_at s c.args.i).datas = c.len-count.ensures ∙ ap (λ (j : Instance). length j.datas) c.instance.ensures in
    let before : c.loop-k.k < c.len-count.result = c.loop-k-test.true in
    let at = place_there (instance_at s c.args.i).datas c.loop-k.k (omega (arith, count, before)) in
    let there = data_there s (instance_at s c.args.i) c.loop-k.k c.requires.lists (omega (arith, count, before)) in
    let step : Ends (f at.0 there.0 c.loop-k.store) (Err c.in_err-write_data_segment.field-0.0) c.write_data_segment.new.store =
    told (λ (j : Instance) (m : Module). (e : DataAddr) (segment : Data) → slice_get j.datas c.loop-k.k ≡ Some e → slice_get m.datas c.loop-k.k ≡ Some segment → Ends (init_data j (offset_in m j c.args.values.now) e segment.mode c.loop-k.store) (Err c.in_err-write_data_segment.field-0.0) c.write_data_segment.new.store)
    s c.loop-k.store c.args.i c.loop-k.invariant.same c.in_err-write_data_segment.ensures.ends at.0 there.0 at.1 there.1 in
    let whole = left_traps DataAddr Data f (instance_at s c.args.i).datas (module_of s c.args.i).datas s c.loop-k.store c.write_data_segment.new.store c.loop-k.k at.0 there.0 c.in_err-write_data_segment.field-0.0 at.1 there.1 c.loop-k.invariant.left step in
    let p = err_from_is_err_and c.from_residual.result c.from_residual.ensures.1 in
    subst (λ (r : Result (Unit {0}) Trap). Ends (in_order f (instance_at s c.args.i).datas (module_of s c.args.i).datas s) r c.write_data_segment.new.store) (sym p.1)
    (subst (λ (because : Trap). Ends (in_order f (instance_at s c.args.i).datas (module_of s c.args.i).datas s) (Err because) c.write_data_segment.new.store) (sym p.2) whole)

pub loop-k-preserved : goal.loop-k-preserved
loop-k-preserved c =
    let s : Store = c.args.store.now in
    let f : DataAddr → Data → Store → Outcome = λ e segment. init_data (instance_at s c.args.i) (offset_in (module_of s c.args.i) (instance_at s c.args.i) c.args.values.now) e segment.mode in
    let count : c.len-count.result ≡ length (instance_at s c.args.i).datas = c.len-count.ensures ∙ ap (λ (j : Instance). length j.datas) c.instance.ensures in
    let before : c.loop-k.k < c.len-count.result = c.loop-k-test.true in
    let at = place_there (instance_at s c.args.i).datas c.loop-k.k (omega (arith, count, before)) in
    let there = data_there s (instance_at s c.args.i) c.loop-k.k c.requires.lists (omega (arith, count, before)) in
    let step : Ends (f at.0 there.0 c.loop-k.store) (Ok tt) c.write_data_segment.new.store =
    told (λ (j : Instance) (m : Module). (e : DataAddr) (segment : Data) → slice_get j.datas c.loop-k.k ≡ Some e → slice_get m.datas c.loop-k.k ≡ Some segment → Ends (init_data j (offset_in m j c.args.values.now) e segment.mode c.loop-k.store) (Ok tt) c.write_data_segment.new.store)
    s c.loop-k.store c.args.i c.loop-k.invariant.same c.in_ok-write_data_segment.ensures.ends at.0 there.0 at.1 there.1 in
    record {
      left = left_next DataAddr Data f (instance_at s c.args.i).datas (module_of s c.args.i).datas s c.loop-k.store c.write_data_segment.new.store c.loop-k.k at.0 there.0 at.1 there.1 c.loop-k.invariant.left step;
      same = same_code s c.loop-k.store c.write_data_segment.new.store c.loop-k.invariant.same c.in_ok-write_data_segment.ensures.same;
      later = c.order.ensures.through s c.loop-k.store c.write_data_segment.new.store c.loop-k.invariant.later c.in_ok-write_data_segment.ensures.later;
    }

pub returns-clause-ends : goal.returns-clause-ends
returns-clause-ends c =
    let s : Store = c.args.store.now in
    let f : DataAddr → Data → Store → Outcome = λ e segment. init_data (instance_at s c.args.i) (offset_in (module_of s c.args.i) (instance_at s c.args.i) c.args.values.now) e segment.mode in
    let count : c.len-count.result ≡ length (instance_at s c.args.i).datas = c.len-count.ensures ∙ ap (λ (j : Instance). length j.datas) c.instance.ensures in
    let past : c.len-count.result ≤ c.loop-k.k = c.loop-k-test.false in
    let end : c.loop-k.k ≤ c.len-count.result = c.loop-k.auto.k-end in
    left_none DataAddr Data f (instance_at s c.args.i).datas (module_of s c.args.i).datas s c.loop-k.store c.loop-k.k (omega (arith, count, past, end)) c.loop-k.invariant.left
