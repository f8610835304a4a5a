use Rattle.std.proofs.Common.{◌≡◌, Some, true, false, drop_of_length-le, refl, sym, ap, ◌∙◌}
use Rattle.std.specs.Str.{bytes_eq}
use Rattle.iface_objects.specs.Modules.{file_named}
use Rattle.iface_objects.proofs.Files.{found_here, not_here}
use Rattle.iface_objects.proofs.buffers.file_named.Goals as goal

pub loop-file-init : goal.loop-file-init
loop-file-init c = refl

pub returns-then-eq : goal.returns-then-eq
returns-then-eq c =
    let same : bytes_eq c.file-item.result.name c.args.name.now ≡ true = ap (λ t. bytes_eq t c.args.name.now) (sym c.as_str.ensures) ∙ sym c.eq.ensures ∙ c.if-eq.true in
    sym c.loop-file.invariant ∙ found_here c.args.files.now c.loop-file.file-index c.file-item.result c.args.name.now c.loop-file-test.true c.file-item.is same ∙ ap Some (sym c.as_slice.ensures)

pub loop-file-preserved : goal.loop-file-preserved
loop-file-preserved c =
    let other : bytes_eq c.file-item.result.name c.args.name.now ≡ false = ap (λ t. bytes_eq t c.args.name.now) (sym c.as_str.ensures) ∙ sym c.eq.ensures ∙ c.if-eq.false in
    sym (not_here c.args.files.now c.loop-file.file-index c.file-item.result c.args.name.now c.loop-file-test.true c.file-item.is other) ∙ c.loop-file.invariant

pub returns : goal.returns
returns c = sym c.loop-file.invariant ∙ ap (λ fs. file_named fs c.args.name.now) (drop_of_length-le c.args.files.now c.loop-file-test.false)
