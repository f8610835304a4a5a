use Rattle.std.proofs.Common.{sym, ◌∙◌, lit<}
use Rattle.wasm_num.proofs.Shifts.{ishl_by}
use Rattle.wasm_num.proofs.int64.shl.Goals as goal

pub returns : goal.returns
returns c = c.wrapping_shl.ensures ∙ sym (ishl_by 64 c.args.a c.args.b c.shift_count.result (lit< tt) c.shift_count.ensures)
