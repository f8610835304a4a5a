use Rattle.host_parser.specs.Names as names
use Rattle.host_parser.specs.Resolving.{left}
use Rattle.host_parser.specs.Scoping.{Holds}
use Rattle.host_parser.proofs.environment.Scoped.leave.Given as goal

abbrev pub invariant-loop : goal.invariant-loop
invariant-loop l = (e : names.Environment) → Holds e l.initial.self → Holds (left l.counter e) l.self
