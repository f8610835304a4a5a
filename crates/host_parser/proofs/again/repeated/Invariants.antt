use Rattle.std.proofs.Common.{◌≡◌, take, drop, reverse, []}
use Rattle.host_parser.specs.Repeats.{repeated}
use Rattle.host_parser.proofs.Keys.{Knows}
use Rattle.host_parser.proofs.again.repeated.Given as goal

abbrev pub invariant-loop-one : goal.invariant-loop-one
invariant-loop-one l = record { left : repeated (reverse (take l.one-index l.declared)) l.found (drop l.one-index l.declared) ≡ repeated [] l.initial.found l.declared; known : Knows (reverse (take l.one-index l.declared)) l.names.keys }
