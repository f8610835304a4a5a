use Rattle.std.proofs.Common.{◌≡◌, ℕ, reverse, rules}
use Rattle.small_parser.specs.Grammar as grammar
use Rattle.small_parser.specs.Machine as machine
use Rattle.small_parser.proofs.Steps.{begins_let, if_ok}
use Rattle.small_parser.proofs.reader.Reader.value.Goals as goal

pub returns-in_default : goal.returns-in_default
returns-in_default c =
    let other : (s : grammar.Script) (n q : ℕ) → machine.valued s c.args.place c.args.name.now n q c.args.token.now.from c.args.token.now.kind ≡ machine.wanted machine.fresh (machine.in_let s c.args.place c.args.name.now n q) c.args.token.now.from c.args.token.now.kind = λ s n q. search rules in
    if_ok c.wanted.result _ _ c.wanted.ensures (λ went w n q s h alone. rw (other s n q) (w machine.fresh (machine.in_let s c.args.place c.args.name.now n q) h c.new.ensures
    (begins_let s n q c.args.self.now.nodes (reverse c.args.self.now.outer.items) c.args.place c.args.name alone)))
