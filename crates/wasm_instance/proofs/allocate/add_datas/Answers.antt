use Rattle.std.proofs.Common.{◌≡◌, ℕ, List, length, ap, ◌∙◌, subst}
use Rattle.std.specs.Prelude.{Some, slice_get}
use Rattle.std.proofs.lemmas.Option.{slice_get_within}
use Rattle.wasm_store.specs.Store.{Store, module_at}
use Rattle.wasm_store.specs.Allocated.{data_addr}
use Rattle.wasm_instance.specs.Parts.{datas_from}
use Rattle.wasm_instance.proofs.Adding.{datas_more, address_more, count_taken}
use Rattle.wasm_instance.proofs.allocate.add_datas.Goals as goal

pub loop-k-preserved : goal.loop-k-preserved
loop-k-preserved c =
    let s : Store = c.args.store.now in
    let bytes : List ℕ = c.in_ok-bytes.bytes in
    let ds : List (List ℕ) = datas_from (module_at s c.args.a).datas in
    let at : slice_get ds c.loop-k.k ≡ Some bytes =
    subst (λ (t : Store). slice_get (datas_from (module_at t c.args.a).datas) c.loop-k.k ≡ Some bytes) c.loop-k.invariant.added c.in_ok-bytes.ensures in
    record {
      added = datas_more s c.loop-k.store c.alloc_data.new.self ds c.loop-k.k bytes c.loop-k.invariant.added at c.in_ok-alloc_data.ensures.added;
      addresses =
          address_more data_addr (length s.datas) c.loop-k.k c.args.datas.now c.loop-k.datas c.push.new.self c.in_ok-alloc_data.field-0 c.loop-k.invariant.addresses
          (ap data_addr (count_taken s.datas ds c.loop-k.k c.in_ok-alloc_data.field-0.0 (slice_get_within ds c.loop-k.k bytes at)
          (c.in_ok-alloc_data.ensures.address ∙ ap (λ (t : Store). length t.datas) c.loop-k.invariant.added)))
          c.in_ok-push.ensures.ok;
      later = c.order.ensures.through s c.loop-k.store c.alloc_data.new.self c.loop-k.invariant.later c.in_ok-alloc_data.ensures.later;
    }
