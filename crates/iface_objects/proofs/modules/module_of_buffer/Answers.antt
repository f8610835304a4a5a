use Rattle.std.proofs.Common.{◌≡◌, ◌≤◌, Some, length, slice_get, refl, sym, ap, ◌∙◌, arith}
use Rattle.std.proofs.lemmas.Option.{slice_get_read}
use Rattle.wasm_load.specs.Loading.{told_of}
use Rattle.iface_objects.specs.Modules.{most_module_bytes}
use Rattle.iface_objects.proofs.Sounds.{buffer_gives}
use Rattle.iface_objects.proofs.modules.module_of_buffer.Goals as goal

pub returns : goal.returns
returns c = λ load is.
    let there : slice_get c.args.realm.now.buffers c.args.number ≡ Some c.as_slice-in-Some.result.now =
    ap (λ bs. slice_get bs c.args.number) (sym c.as_slice.ensures)
    ∙ slice_get_read c.as_slice.result.now (length c.as_slice.result.now) c.args.number c.in-Some.bytes.now refl c.in-Some.ensures.lookup.3.0 c.in-Some.ensures.lookup.1
    ∙ ap Some (sym c.as_slice-in-Some.ensures) in
    let few : length c.as_slice-in-Some.result.now ≤ most_module_bytes = omega (arith, ap length c.as_slice-in-Some.ensures, c.len.ensures, c.if-len-gt-MOST_MODULE_BYTES.false) in
    buffer_gives load c.args.realm.now c.args.number c.as_slice-in-Some.result.now (told_of c.load-told.result) c.loaded.result c.loaded.new.realm there few
    (c.load-told.ensures.exact (load c.as_slice-in-Some.result.now) (is c.as_slice-in-Some.result.now)) c.loaded.ensures
