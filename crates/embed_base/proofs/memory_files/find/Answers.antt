use Rattle.std.proofs.Common.{◌≡◌, true, false, length, drop, refl, sym, ap, ◌∙◌, string_bytes, arith}
use Rattle.std.proofs.Math.Seq.{drop-length}
use Rattle.std.specs.Str.{bytes_eq}
use Rattle.embed_base.proofs.FirstFile.{content_in, found_here, not_here}
use Rattle.embed_base.proofs.memory_files.find.Goals as goal

pub loop-file-init : goal.loop-file-init
loop-file-init c = refl

pub returns-then-eq-clause-some : goal.returns-then-eq-clause-some
returns-then-eq-clause-some c =
    let same : bytes_eq (string_bytes c.file-item.result.0) c.args.name.now ≡ true = cc in
    sym c.loop-file.invariant ∙ found_here c.args.files.now c.loop-file.file-index c.file-item.result c.args.name.now c.loop-file-test.true c.file-item.is same

pub loop-file-preserved : goal.loop-file-preserved
loop-file-preserved c =
    let other : bytes_eq (string_bytes c.file-item.result.0) c.args.name.now ≡ false = cc in
    sym (not_here c.args.files.now c.loop-file.file-index c.file-item.result c.args.name.now c.loop-file-test.true c.file-item.is other) ∙ c.loop-file.invariant

pub returns-clause-none : goal.returns-clause-none
returns-clause-none c =
    let at_end : c.loop-file.file-index ≡ length c.args.files.now = omega arith in
    sym c.loop-file.invariant ∙ ap (λ i. content_in c.args.name.now (drop i c.args.files.now)) at_end ∙ ap (content_in c.args.name.now) (drop-length c.args.files.now)
