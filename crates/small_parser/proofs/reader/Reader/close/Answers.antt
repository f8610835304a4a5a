use Rattle.std.proofs.Common.{◌∙◌, ap, ◌++◌, ◌∷◌, []}
use Rattle.small_parser.specs.declared.reader.Outer.TheVariants as outers
use Rattle.small_parser.specs.Machine as machine
use Rattle.small_parser.proofs.Steps.{from_closed, if_ok}
use Rattle.small_parser.proofs.reader.Reader.close.Goals as goal

pub returns-in-Parens : goal.returns-in-Parens
returns-in-Parens c = if_ok c.close_parens.result _ _ c.close_parens.ensures (λ went w k.
    from_closed (λ f l outer. machine.closed f l outer k) c.args.operand (outers.Parens c.in-Parens.outside) c.args.self.now c.pop.new.self went c.close_parens.new.self
    (c.in-Some.ensures.items ∙ ap (λ z. c.pop.new.self.items ++ z ∷ []) c.in-Parens.is) (w k))

pub returns-in-Call : goal.returns-in-Call
returns-in-Call c = if_ok c.close_call.result _ _ c.close_call.ensures (λ went w k.
    from_closed (λ f l outer. machine.closed f l outer k) c.args.operand (outers.Call c.in-Call.outside c.in-Call.call) c.args.self.now c.pop.new.self went c.close_call.new.self
    (c.in-Some.ensures.items ∙ ap (λ z. c.pop.new.self.items ++ z ∷ []) c.in-Call.is) (w k))
