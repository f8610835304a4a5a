use Rattle.std.specs.Int.{w64}
use Rattle.std.specs.Int.RustNames.{int_rem}
use Rattle.std.proofs.lemmas.Int.{rem_is}
use Rattle.host_convert.proofs.Quotients.{not_zero64, remainder_fits64}
use Rattle.host_convert.proofs.arithmetic.number_remainder.Goals as goal

pub returns : goal.returns
returns c =
    rw (not_zero64 c.args.b c.if-b-eq0.false)
    (c.number.ensures (int_rem c.args.a c.args.b) (remainder_fits64 c.args.a c.args.b c.ranges.b c.if-b-eq0.false, rem_is w64 c.args.a c.args.b c.ranges.a c.ranges.b))
