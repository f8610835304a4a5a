use Rattle.std.proofs.Common.{lit<, rules}
use Rattle.std.specs.Int.{w32}
use Rattle.wasm_num.proofs.Readings.{signed_32, unsigned_32}
use Rattle.wasm_num.proofs.Signed.{remaining}
use Rattle.wasm_num.proofs.int32.rem_s.Goals as goal

pub returns : goal.returns
returns c =
    remaining w32 32 (lit< tt) signed_32 unsigned_32 c.args.a c.args.b c.cast_signed.result c.cast_signed-2.result c.wrapping_rem.result c.cast_unsigned.result
    c.ranges.a.fits c.ranges.b.fits (search rules)
    (record { sfits = c.cast_signed.type_inv }) (record { sfits = c.cast_signed-2.type_inv }) (record { sfits = c.wrapping_rem.type_inv })
    c.cast_signed.ensures c.cast_signed-2.ensures c.wrapping_rem.ensures c.cast_unsigned.ensures
