use Rattle.small_parser.proofs.Once.{parse_once, parse_or_not}
use Rattle.small_parser.proofs.parser.parses_once.Goals as goal

pub returns-clause-decided : goal.returns-clause-decided
returns-clause-decided c = parse_or_not

pub returns-clause-once : goal.returns-clause-once
returns-clause-once c = parse_once
