use Rattle.small_lexer.proofs.Splitting.{split_or_not, split_once}
use Rattle.small_lexer.proofs.lexer.splits_once.Goals as goal

pub returns-clause-decided : goal.returns-clause-decided
returns-clause-decided c = split_or_not

pub returns-clause-once : goal.returns-clause-once
returns-clause-once c = split_once
