use Rattle.std.specs.Int.{w128}
use Rattle.std.specs.Int.RustNames.{int_rem}
use Rattle.std.proofs.lemmas.Int.{rem_is}
use Rattle.host_convert.proofs.Quotients.{not_zero128, remainder_fits128}
use Rattle.host_convert.proofs.arithmetic.big_int_remainder.Goals as goal

pub returns : goal.returns
returns c =
    rw (not_zero128 c.args.b c.if-b-eq0.false)
    (c.big_int.ensures (int_rem c.args.a c.args.b) (remainder_fits128 c.args.a c.args.b c.ranges.b c.if-b-eq0.false, rem_is w128 c.args.a c.args.b c.ranges.a c.ranges.b))
