use Rattle.std.proofs.Common.{◌≡◌, ◌≤◌, List, length, ap, ◌∙◌, subst, arith}
use Rattle.std.specs.Prelude.{Some, slice_get}
use Rattle.std.proofs.lemmas.Option.{slice_get_within}
use Rattle.wasm_store.specs.declared.instances.FuncInst.{FuncInst}
use Rattle.wasm_store.specs.Store.{Store, module_at}
use Rattle.wasm_store.specs.Allocated.{functions_of, func_addr}
use Rattle.wasm_instance.proofs.Adding.{functions_more, functions_all, address_more, count_taken, length_functions}
use Rattle.wasm_instance.proofs.allocate.add_functions.Goals as goal

pub loop-k-preserved : goal.loop-k-preserved
loop-k-preserved c =
    let s : Store = c.args.store.now in
    let fs : List FuncInst = functions_of (module_at s c.args.a) c.args.i 0 (module_at s c.args.a).funcs in
    let at : slice_get fs c.loop-k.k ≡ Some c.in_ok-func.func =
    subst (λ (t : Store). slice_get (functions_of (module_at t c.args.a) c.args.i 0 (module_at t c.args.a).funcs) c.loop-k.k ≡ Some c.in_ok-func.func) c.loop-k.invariant.added c.in_ok-func.ensures.value in
    record {
      added = functions_more s c.loop-k.store c.alloc_func.new.self fs c.loop-k.k c.in_ok-func.func c.loop-k.invariant.added at c.in_ok-alloc_func.ensures.added;
      addresses =
          address_more func_addr (length s.functions) c.loop-k.k c.args.funcs.now c.loop-k.funcs c.push.new.self c.in_ok-alloc_func.field-0 c.loop-k.invariant.addresses
          (ap func_addr (count_taken s.functions fs c.loop-k.k c.in_ok-alloc_func.field-0.0 (slice_get_within fs c.loop-k.k c.in_ok-func.func at)
          (c.in_ok-alloc_func.ensures.address ∙ ap (λ (t : Store). length t.functions) c.loop-k.invariant.added)))
          c.in_ok-push.ensures.ok;
      later = c.order.ensures.through s c.loop-k.store c.alloc_func.new.self c.loop-k.invariant.later c.in_ok-alloc_func.ensures.later;
    }

pub returns-clause-added : goal.returns-clause-added
returns-clause-added c =
    let s : Store = c.args.store.now in
    let fs : List FuncInst = functions_of (module_at s c.args.a) c.args.i 0 (module_at s c.args.a).funcs in
    let all : length fs ≡ length (module_at s c.args.a).funcs = length_functions (module_at s c.args.a) c.args.i 0 (module_at s c.args.a).funcs in
    let count : c.len-count.result ≡ length (module_at s c.args.a).funcs = c.len-count.ensures ∙ ap (λ m. length m.funcs) (c.module-4.ensures.value ∙ c.module-3.ensures) in
    let past : c.len-count.result ≤ c.loop-k.k = c.loop-k-test.false in
    let end : c.loop-k.k ≤ c.len-count.result = c.loop-k.auto.k-end in
    functions_all s c.loop-k.store fs c.loop-k.k (omega (arith, all, count, past)) (omega (arith, all, count, end)) c.loop-k.invariant.added
