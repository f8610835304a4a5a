use Rattle.std.proofs.Common.{◌≡◌, sym}
use Rattle.std.specs.Str.Parse.{digits_value}
use Rattle.embed_cmd.proofs.Units.{parsed, in_limit}
use Rattle.embed_cmd.proofs.words.units.Goals as goal

pub returns-in-Ok : goal.returns-in-Ok
returns-in-Ok c =
    let is = sym c.if-not-is_short_number.ensures in
    let value : digits_value 10 c.args.value.now ≡ c.in-Ok.units = cc (parsed c.args.value.now c.parse.result c.parse.ensures.value.0 is, c.in-Ok.is) in
    in_limit c.args.value.now c.in-Ok.units is value c.if-units-le-MOST_BUDGET.true

pub returns-in_default-2 : goal.returns-in_default-2
returns-in_default-2 c = cc (parsed c.args.value.now c.parse.result c.parse.ensures.value.0 (sym c.if-not-is_short_number.ensures), c.in_default.is)
