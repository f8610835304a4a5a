use Rattle.std.proofs.Common.{◌≤◌, length, ◌-◌}
use Rattle.host_lexer.proofs.Reached.{Reached}
use Rattle.host_lexer.proofs.lexer.tokens_of.Given as goal

abbrev pub invariant-loop-at : goal.invariant-loop-at
invariant-loop-at l = record { within : l.at ≤ length l.chars; reached : Reached l.chars l.at l.place l.after_line l.found.items }

abbrev pub decreases-loop-at : goal.decreases-loop-at
decreases-loop-at l = length l.chars - l.at
