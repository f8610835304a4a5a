use Rattle.std.proofs.Common.{◌%◌, lit<, refl}
use Rattle.std.specs.Int.{w32}
use Rattle.wasm_num.proofs.Readings.{signed_32, unsigned_32}
use Rattle.wasm_num.proofs.Signed.{shifted}
use Rattle.wasm_num.proofs.int32.shr_s.Goals as goal

pub returns : goal.returns
returns c =
    shifted w32 32 (lit< tt) signed_32 unsigned_32 c.args.a c.args.b (c.args.b % 32) c.cast_signed.result c.wrapping_shr.result c.cast_unsigned.result
    c.ranges.a.fits refl (record { sfits = c.cast_signed.type_inv }) (record { sfits = c.wrapping_shr.type_inv })
    c.cast_signed.ensures c.wrapping_shr.ensures c.cast_unsigned.ensures
