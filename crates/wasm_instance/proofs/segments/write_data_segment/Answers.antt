use Rattle.std.proofs.Common.{◌≡◌, ◌<◌, length, sym, ◌∙◌, subst}
use Rattle.wasm_syntax.specs.declared.module.Mode.TheVariants as mode
use Rattle.wasm_syntax.specs.declared.addresses.MemAddr.{MemAddr}
use Rattle.wasm_store.specs.Store.{instance_at}
use Rattle.wasm_instance.proofs.Writing.{data_there, data_live, memory_live}
use Rattle.wasm_instance.proofs.segments.write_data_segment.Goals as goal

pub write_bytes-requires-clause-live : goal.write_bytes-requires-clause-live
write_bytes-requires-clause-live c =
    let found = data_there c.args.store.now (instance_at c.args.store.now c.args.i) c.args.k c.requires.lists c.requires.within in
    let active : found.0.mode ≡ mode.Active c.in-Active.index c.in-Active.id = sym (c.data_mode_at.ensures.mode found.0 found.1) ∙ c.in-Active.is in
    subst (λ (b : MemAddr). b.0 < length c.args.store.now.memories) (sym c.memory_at-memory.ensures)
    (memory_live c.indices.ensures.memories c.args.store.now (instance_at c.args.store.now c.args.i) c.args.k c.in-Active.index c.in-Active.id c.requires.lists c.data_mode_at.ensures.typed found.0 found.1 active)

pub write_bytes-requires-clause-live_segment : goal.write_bytes-requires-clause-live_segment
write_bytes-requires-clause-live_segment c =
    let found = data_there c.args.store.now (instance_at c.args.store.now c.args.i) c.args.k c.requires.lists c.requires.within in
    data_live c.indices.ensures.datas c.args.store.now (instance_at c.args.store.now c.args.i) c.args.k c.data_segment_at-d.result c.requires.lists c.data_segment_at-d.ensures found.0 found.1
