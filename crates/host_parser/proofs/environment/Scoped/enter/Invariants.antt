use Rattle.std.proofs.Common.{take}
use Rattle.host_parser.specs.Names as names
use Rattle.host_parser.specs.Scoping.{Holds}
use Rattle.host_parser.proofs.environment.Scoped.enter.Given as goal

abbrev pub invariant-loop-one : goal.invariant-loop-one
invariant-loop-one l = (e : names.Environment) → Holds e l.initial.self → Holds (names.enter (take l.one-index l.declared) e) l.self
