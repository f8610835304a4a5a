use Rattle.std.proofs.Common.{◌≤◌, take, reverse, length, []}
use Rattle.host_parser.specs.Names.{script_environment}
use Rattle.host_parser.specs.Resolving.{resolved}
use Rattle.host_parser.specs.Scoping.{Leaves}
use Rattle.host_parser.proofs.resolve.resolve.Given as goal

abbrev pub invariant-loop-at : goal.invariant-loop-at
invariant-loop-at l = record { within : l.at ≤ length l.mentions; leaves : Leaves l.resolver (reverse (take l.at l.mentions)) (resolved (script_environment l.declared) [] (reverse l.mentions) []) }

abbrev pub decreases-loop-at : goal.decreases-loop-at
decreases-loop-at l = l.at
