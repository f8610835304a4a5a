use Rattle.std.proofs.Common.{◌∙◌, ap, ◌++◌, ◌∷◌, []}
use Rattle.small_parser.proofs.Steps.{ends_call, if_ok}
use Rattle.small_parser.proofs.reader.Reader.end_call.Goals as goal

pub returns-in-Call : goal.returns-in-Call
returns-in-Call c = if_ok c.add_call.result _ _ c.add_call.ensures (λ went w k v p o a l outer h ho.
    ends_call v p o a l outer k c.args.self.now c.pop.new.self c.in-Call.outside c.in-Call.call went c.add_call.new.self
    (c.in-Some.ensures.items ∙ ap (λ z. c.pop.new.self.items ++ z ∷ []) c.in-Call.is) (w k) h ho)
