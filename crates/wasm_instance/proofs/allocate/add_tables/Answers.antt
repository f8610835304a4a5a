use Rattle.std.proofs.Common.{◌≡◌, List, length, ap, ◌∙◌, subst}
use Rattle.std.specs.Prelude.{Option, Some, slice_get}
use Rattle.std.proofs.lemmas.Option.{slice_get_within}
use Rattle.wasm_syntax.specs.declared.types.TableType.{TableType}
use Rattle.wasm_syntax.specs.declared.value.Value.{Value}
use Rattle.wasm_syntax.specs.declared.addresses.TableAddr.{TableAddr}
use Rattle.wasm_store.specs.Store.{Store, TableInst, module_at, new_table, with_new_table}
use Rattle.wasm_store.specs.Growth.{NewTable}
use Rattle.wasm_store.specs.Allocated.{tables_from, null_of, table_addr}
use Rattle.wasm_instance.proofs.Adding.{tables_more, address_more, count_taken, table_at_place}
use Rattle.wasm_instance.proofs.allocate.add_tables.Goals as goal

pub loop-k-preserved : goal.loop-k-preserved
loop-k-preserved c =
    let s : Store = c.args.store.now in
    let ty : TableType = c.table_type-ty.result in
    let ts : List TableInst = tables_from (module_at s c.args.a).tables in
    let at : slice_get ts c.loop-k.k ≡ Some (new_table ty (null_of ty.elem)) =
    table_at_place (module_at s c.args.a).tables c.loop-k.k ty (subst (λ (t : Store). slice_get (module_at t c.args.a).tables c.loop-k.k ≡ Some ty) c.loop-k.invariant.added c.table_type-ty.ensures.value) in
    let fresh_table : NewTable ty c.null.result c.loop-k.store c.alloc_table.new.self (Some c.in-Some.address) =
    subst (λ (o : Option TableAddr). NewTable ty c.null.result c.loop-k.store c.alloc_table.new.self o) c.in-Some.is c.in_ok-address.ensures.added in
    let made : c.alloc_table.new.self ≡ with_new_table (new_table ty (null_of ty.elem)) c.loop-k.store =
    fresh_table.2 ∙ ap (λ (v : Value). with_new_table (new_table ty v) c.loop-k.store) c.null.ensures in
    record {
      added = tables_more s c.loop-k.store c.alloc_table.new.self ts c.loop-k.k (new_table ty (null_of ty.elem)) c.loop-k.invariant.added at made;
      addresses =
          address_more table_addr (length s.tables) c.loop-k.k c.args.tables.now c.loop-k.tables c.push.new.self c.in-Some.address c.loop-k.invariant.addresses
          (ap table_addr (count_taken s.tables ts c.loop-k.k c.in-Some.address.0 (slice_get_within ts c.loop-k.k (new_table ty (null_of ty.elem)) at)
          (fresh_table.0 ∙ ap (λ (t : Store). length t.tables) c.loop-k.invariant.added)))
          c.in_ok-push-in-Some.ensures.ok;
      later = c.order.ensures.through s c.loop-k.store c.alloc_table.new.self c.loop-k.invariant.later c.in_ok-address.ensures.later;
    }
