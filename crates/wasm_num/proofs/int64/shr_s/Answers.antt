use Rattle.std.proofs.Common.{◌%◌, lit<}
use Rattle.std.specs.Int.{w64}
use Rattle.wasm_num.proofs.Readings.{signed_64, unsigned_64}
use Rattle.wasm_num.proofs.Signed.{shifted}
use Rattle.wasm_num.proofs.Shifts.{counted}
use Rattle.wasm_num.proofs.int64.shr_s.Goals as goal

pub returns : goal.returns
returns c =
    shifted w64 64 (lit< tt) signed_64 unsigned_64 c.args.a c.args.b (c.shift_count.result % 64) c.cast_signed.result c.wrapping_shr.result c.cast_unsigned.result
    c.ranges.a.fits (counted 64 c.args.b c.shift_count.result (lit< tt) c.shift_count.ensures) (record { sfits = c.cast_signed.type_inv }) (record { sfits = c.wrapping_shr.type_inv })
    c.cast_signed.ensures c.wrapping_shr.ensures c.cast_unsigned.ensures
