use Rattle.std.proofs.Common.{◌≡◌, List, length, ap, ◌∙◌, subst}
use Rattle.std.specs.Prelude.{Some, slice_get}
use Rattle.std.proofs.lemmas.Option.{slice_get_within}
use Rattle.wasm_store.specs.declared.instances.GlobalInst.{GlobalInst}
use Rattle.wasm_store.specs.Store.{Store, module_at}
use Rattle.wasm_store.specs.Whole.{IsGlobal}
use Rattle.wasm_store.specs.Allocated.{globals_from, global_addr}
use Rattle.wasm_instance.specs.Parts.{constant_in}
use Rattle.wasm_instance.proofs.Adding.{globals_more, address_more, count_taken, all_at}
use Rattle.wasm_instance.proofs.allocate.add_globals.Goals as goal

pub alloc_global-requires : goal.alloc_global-requires
alloc_global-requires c =
    let s : Store = c.args.store.now in
    let g : GlobalInst = c.own_global-global.result in
    let gs : List GlobalInst = globals_from (constant_in (module_at s c.args.a) c.args.funcs.now c.args.values.now) (module_at s c.args.a).globals in
    let at : slice_get gs c.loop-k.k ≡ Some g =
    subst (λ (t : Store). slice_get (globals_from (constant_in (module_at t c.args.a) c.args.funcs.now c.args.values.now) (module_at t c.args.a).globals) c.loop-k.k ≡ Some g) c.loop-k.invariant.added c.own_global-global.ensures in
    record { typed = c.types_stay.ensures.values s c.loop-k.store g.value g.ty.val c.loop-k.invariant.later (all_at (IsGlobal s) gs c.loop-k.k g c.requires.typed at) }

pub loop-k-preserved : goal.loop-k-preserved
loop-k-preserved c =
    let s : Store = c.args.store.now in
    let g : GlobalInst = c.own_global-global.result in
    let gs : List GlobalInst = globals_from (constant_in (module_at s c.args.a) c.args.funcs.now c.args.values.now) (module_at s c.args.a).globals in
    let at : slice_get gs c.loop-k.k ≡ Some g =
    subst (λ (t : Store). slice_get (globals_from (constant_in (module_at t c.args.a) c.args.funcs.now c.args.values.now) (module_at t c.args.a).globals) c.loop-k.k ≡ Some g) c.loop-k.invariant.added c.own_global-global.ensures in
    record {
      added = globals_more s c.loop-k.store c.alloc_global.new.self gs c.loop-k.k g c.loop-k.invariant.added at c.in_ok-alloc_global.ensures.added;
      addresses =
          address_more global_addr (length s.globals) c.loop-k.k c.args.globals.now c.loop-k.globals c.push.new.self c.in_ok-alloc_global.field-0 c.loop-k.invariant.addresses
          (ap global_addr (count_taken s.globals gs c.loop-k.k c.in_ok-alloc_global.field-0.0 (slice_get_within gs c.loop-k.k g at)
          (c.in_ok-alloc_global.ensures.address ∙ ap (λ (t : Store). length t.globals) c.loop-k.invariant.added)))
          c.in_ok-push.ensures.ok;
      later = c.order.ensures.through s c.loop-k.store c.alloc_global.new.self c.loop-k.invariant.later c.in_ok-alloc_global.ensures.later;
    }
