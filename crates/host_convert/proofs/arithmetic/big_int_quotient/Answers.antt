use Rattle.std.specs.Int.{w128}
use Rattle.std.specs.Int.RustNames.{int_div}
use Rattle.host_convert.proofs.Quotients.{not_zero128, quotient_if_fits}
use Rattle.host_convert.proofs.arithmetic.big_int_quotient.Goals as goal

pub returns : goal.returns
returns c = rw (not_zero128 c.args.b c.if-b-eq0.false) (c.big_int.ensures (int_div c.args.a c.args.b) (quotient_if_fits w128 c.args.a c.args.b c.checked_div.result c.ranges.a c.ranges.b c.if-b-eq0.false c.checked_div.ensures))
