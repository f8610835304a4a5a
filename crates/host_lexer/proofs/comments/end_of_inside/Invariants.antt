use Rattle.std.proofs.Common.{◌≡◌, ℕ, suc, ◌<◌, ◌≤◌, length, ◌-◌, get_or}
use Rattle.host_lexer.proofs.comments.end_of_inside.Given as goal

abbrev pub invariant-loop-at : goal.invariant-loop-at
invariant-loop-at l = record {
  within : l.at ≤ length l.chars;
  no_end : (k : ℕ) → k < l.at → get_or l.chars k 0 ≡ 42 → get_or l.chars (suc k) 0 ≡ 47 → ⊥;
}

abbrev pub decreases-loop-at : goal.decreases-loop-at
decreases-loop-at l = length l.chars - l.at
