use Rattle.std.proofs.Common.{refl}
use Rattle.small_parser.specs.declared.script.Operator.TheVariants as operators
use Rattle.small_parser.proofs.Closes.{times_level}
use Rattle.small_parser.proofs.reader.Reader.times.Goals as goal

pub returns : goal.returns
returns c = λ f l outer h hf hl ho. (
  refl,
  (
    h,
    (
      times_level l f c.args.self.now.nodes c.args.self.now.level (record { sum = c.args.self.now.level.sum; product = c.push.new.self }) (record { node = c.args.operand; operator = operators.Times; place = c.args.place }) c.args.place
          refl c.in_ok-push.ensures.ok refl refl hl hf,
      ho,
    ),
  ),
)
