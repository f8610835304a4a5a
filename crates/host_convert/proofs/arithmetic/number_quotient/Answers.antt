use Rattle.std.proofs.Common.{◌≡◌, ◌∙◌, ap, sym, pos}
use Rattle.std.specs.Cmp.{signed_Decides}
use Rattle.std.specs.Int.{cast_signed, w64}
use Rattle.std.specs.Int.RustNames.{int_div, int_rem}
use Rattle.std.proofs.lemmas.Int.{rem_is}
use Rattle.host_convert.proofs.Quotients.{not_zero64, quotient_if_fits}
use Rattle.host_convert.proofs.arithmetic.number_quotient.Goals as goal

pub returns-then-a-b-eq0 : goal.returns-then-a-b-eq0
returns-then-a-b-eq0 c =
    let whole : int_rem c.args.a c.args.b ≡ pos 0 = sym (rem_is w64 c.args.a c.args.b c.ranges.a c.ranges.b) ∙ ap (cast_signed w64) c.if-a-b-eq0.true in
    rw (not_zero64 c.args.b c.if-b-eq0.false, (signed_Decides (int_rem c.args.a c.args.b) (pos 0)).1 whole)
    (c.number-then-a-b-eq0.ensures (int_div c.args.a c.args.b) (quotient_if_fits w64 c.args.a c.args.b c.checked_div.result c.ranges.a c.ranges.b c.if-b-eq0.false c.checked_div.ensures))
