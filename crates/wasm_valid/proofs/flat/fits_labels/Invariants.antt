use Rattle.std.proofs.Common.{◌≡◌, reverse, drop}
use Rattle.wasm_valid.specs.Typing.{all_fit, label_fits}
use Rattle.wasm_valid.specs.Places.{labels_in}
use Rattle.wasm_valid.specs.Views.{AllSeen}
use Rattle.wasm_valid.proofs.flat.fits_labels.Given as goal

-- all fit where those that are left do, and those that were seen do
abbrev pub invariant-loop-index : goal.invariant-loop-index
invariant-loop-index l =
    let known = labels_in l.«module» l.opens.top (reverse l.opens.outer.items) in
    record {
      left : all_fit known l.count l.labels l.operands.own ≡ all_fit known l.count (drop l.index-index l.labels) l.operands.own;
      seen : AllSeen l.seen (label_fits known l.count l.operands.own);
    }
