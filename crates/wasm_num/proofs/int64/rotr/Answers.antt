use Rattle.std.proofs.Common.{sym, ◌∙◌, lit<}
use Rattle.wasm_num.proofs.Shifts.{irotr_by}
use Rattle.wasm_num.proofs.int64.rotr.Goals as goal

pub returns : goal.returns
returns c = c.rotate_right.ensures ∙ sym (irotr_by 64 c.args.a c.args.b c.shift_count.result (lit< tt) c.ranges.a.fits c.shift_count.ensures)
