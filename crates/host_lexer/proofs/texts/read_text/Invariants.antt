use Rattle.std.proofs.Common.{◌≤◌, length, ◌-◌, string_bytes}
use Rattle.host_lexer.proofs.Quoted.{Quoting}
use Rattle.host_lexer.proofs.texts.read_text.Given as goal

abbrev pub invariant-loop-at : goal.invariant-loop-at
invariant-loop-at l = record { within : l.at ≤ length l.chars; quoting : Quoting l.quote l.chars l.at (string_bytes l.text) }

abbrev pub decreases-loop-at : goal.decreases-loop-at
decreases-loop-at l = length l.chars - l.at
