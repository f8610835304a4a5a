use Rattle.std.proofs.Common.{◌≡◌, ℕ, List, rules}
use Rattle.small_parser.specs.Machine as machine
use Rattle.small_parser.proofs.Steps.{if_ok}
use Rattle.small_parser.proofs.reader.Reader.pass.Goals as goal

pub returns-in_default : goal.returns-in_default
returns-in_default c =
    let other : (v : List ℕ) (p o : ℕ) (a : machine.BeforeListed) (l : machine.Level) (outer : machine.Outer)
    → machine.pass v p o a l outer c.args.token.now.from c.args.token.now.kind ≡ machine.wanted machine.fresh (machine.in_call v p o a l outer) c.args.token.now.from c.args.token.now.kind = λ v p o a l outer. search rules in
    if_ok c.wanted.result _ _ c.wanted.ensures (λ went w v p o a l outer h ho. rw (other v p o a l outer) (w machine.fresh (machine.in_call v p o a l outer) h c.new.ensures ho))
