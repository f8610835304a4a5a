use Rattle.std.proofs.Common.{◌≡◌, sym, ◌∙◌, subst}
use Rattle.wasm_syntax.specs.declared.module.Mode.TheVariants as mode
use Rattle.wasm_syntax.specs.declared.addresses.TableAddr.{TableAddr}
use Rattle.wasm_store.specs.Store.{instance_at}
use Rattle.wasm_instance.proofs.Writing.{Names, names_active, segment_there, segment_live}
use Rattle.wasm_instance.proofs.segments.write_segment.Goals as goal

named : (c : goal.After-write_whole-arg-1) → Names c.args.store.now c.table_at-table.result c.segment_at-e.result
named c =
    let found = segment_there c.args.store.now (instance_at c.args.store.now c.args.i) c.args.k c.requires.lists c.requires.within in
    let active : found.0.mode ≡ mode.Active c.in-Active.index c.in-Active.id = sym (c.mode_at.ensures.mode found.0 found.1) ∙ c.in-Active.is in
    subst (λ (b : TableAddr). Names c.args.store.now b c.segment_at-e.result) (sym c.table_at-table.ensures)
    (names_active c.indices.ensures.tables c.indices.ensures.elements c.args.store.now (instance_at c.args.store.now c.args.i) c.args.k c.segment_at-e.result c.in-Active.index c.in-Active.id c.requires.lists c.mode_at.ensures.typed c.segment_at-e.ensures found.0 found.1 active)

pub write_whole-requires-clause-live : goal.write_whole-requires-clause-live
write_whole-requires-clause-live c = (named c).live

pub write_whole-requires-clause-live_segment : goal.write_whole-requires-clause-live_segment
write_whole-requires-clause-live_segment c = (named c).live_segment

pub write_whole-requires-clause-typed : goal.write_whole-requires-clause-typed
write_whole-requires-clause-typed c = (named c).typed

pub elem_drop-requires : goal.elem_drop-requires
elem_drop-requires c =
    let found = segment_there c.args.store.now (instance_at c.args.store.now c.args.i) c.args.k c.requires.lists c.requires.within in
    (segment_live c.indices.ensures.elements c.args.store.now (instance_at c.args.store.now c.args.i) c.args.k c.segment_at-e.result c.requires.lists c.segment_at-e.ensures found.0 found.1).0
