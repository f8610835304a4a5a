use Rattle.std.proofs.Common.{◌≡◌, ℕ, Some, rules}
use Rattle.small_parser.specs.Grammar as grammar
use Rattle.small_parser.specs.Machine as machine
use Rattle.small_parser.proofs.Steps.{if_ok}
use Rattle.small_parser.proofs.reader.Reader.end_bind.Goals as goal

pub returns-in-Mark-Semicolon : goal.returns-in-Mark-Semicolon
returns-in-Mark-Semicolon c =
    let next : (s : grammar.Script) (n q : ℕ) (i : grammar.Instance) → machine.bind_ended s c.args.place c.args.name.now n q i c.args.token.now.from c.args.token.now.kind ≡ Some (machine.items (grammar.binding s c.args.place c.args.name.now n q i c.args.token.now.from)) = λ s n q i. search rules in
    if_ok c.bind.result _ _ c.bind.ensures (λ went w n q i f1 f2 s h alone. rw (next s n q i) (w n q c.args.token.now.from i f1 f2 s h alone))
