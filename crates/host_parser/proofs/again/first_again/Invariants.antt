use Rattle.std.proofs.Common.{◌≡◌, drop, [], None}
use Rattle.host_parser.specs.Repeats.{repeated, repeated_in}
use Rattle.host_parser.proofs.again.first_again.Given as goal

abbrev pub invariant-loop-mention : goal.invariant-loop-mention
invariant-loop-mention l = repeated_in l.found (drop l.mention-index l.mentions) ≡ repeated_in (repeated [] None l.declared) l.mentions
