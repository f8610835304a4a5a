use Rattle.std.proofs.Common.{length, ◌-◌, ◌≤◌}
use Rattle.small_lexer.proofs.Reached.{Reached}
use Rattle.small_lexer.proofs.lexer.tokens.Given as goal

abbrev pub invariant-loop-at : goal.invariant-loop-at
invariant-loop-at l = record { within : l.at ≤ length l.bytes; reached : Reached l.bytes l.at l.after_line l.found.items }

abbrev pub decreases-loop-at : goal.decreases-loop-at
decreases-loop-at l = length l.bytes - l.at
