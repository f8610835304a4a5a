use Rattle.std.proofs.Common.{◌≡◌, ℕ, reverse, rules}
use Rattle.small_parser.specs.Grammar as grammar
use Rattle.small_parser.specs.Machine as machine
use Rattle.small_parser.proofs.Steps.{begins_print, if_ok}
use Rattle.small_parser.proofs.reader.Reader.argued.Goals as goal

pub returns-in_default : goal.returns-in_default
returns-in_default c =
    let other : (s : grammar.Script) (o : ℕ) → machine.argued s c.args.place o c.args.token.now.from c.args.token.now.kind ≡ machine.wanted machine.fresh (machine.in_print s c.args.place o machine.no_listed) c.args.token.now.from c.args.token.now.kind = λ s o. search rules in
    if_ok c.wanted.result _ _ c.wanted.ensures (λ went w o s h alone. rw (other s o) (w machine.fresh (machine.in_print s c.args.place o machine.no_listed) h c.new-in_default.ensures
    (begins_print s c.args.place o c.args.self.now.nodes (reverse c.args.self.now.outer.items) c.new-in_default-2.result alone c.new-in_default-2.ensures)))
