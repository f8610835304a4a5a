use Rattle.std.proofs.Common.{reverse, arith}
use Rattle.std.proofs.lemmas.Grind.{common_steps}
use Rattle.small_parser.specs.Reading.{Held, Follows}
use Rattle.small_parser.proofs.Steps.{let_ends, no_parens, if_ok}
use Rattle.small_parser.proofs.reader.Reader.end.Goals as goal

pub returns : goal.returns
returns c = if_ok c.declare.result _ _ c.declare.ensures (λ went w k f l outer h hf hl ho.
    let_ends outer c.args.self.now.nodes (reverse c.args.self.now.outer.items) c.in-Let.place c.in-Let.name f l k (λ o. Follows o went c.declare.new.self) (λ s. Held s c.args.self.now)
    (no_parens c.args.self.now.outer.items (grind (arith, common_steps))) (rw c.in-Let.ensures.value ho) h
    (λ s n q held. w f l n q k hf hl s held (no_parens c.args.self.now.outer.items (grind (arith, common_steps)))))
