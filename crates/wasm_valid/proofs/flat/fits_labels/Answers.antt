use Rattle.std.proofs.Common.{refl}
use Rattle.wasm_valid.proofs.LabelLaws.{none_set}
use Rattle.wasm_valid.proofs.flat.fits_labels.Goals as goal

pub loop-index-init : goal.loop-index-init
loop-index-init c = record { left = refl; seen = λ x h. cc (h, c.none_seen-seen.ensures, none_set 257 x) }
