use Rattle.std.proofs.Common.{sym, ◌∙◌, lit<}
use Rattle.wasm_num.proofs.Shifts.{ishr_u_by}
use Rattle.wasm_num.proofs.int64.shr_u.Goals as goal

pub returns : goal.returns
returns c = c.wrapping_shr.ensures ∙ sym (ishr_u_by 64 c.args.a c.args.b c.shift_count.result (lit< tt) c.ranges.a.fits c.shift_count.ensures)
