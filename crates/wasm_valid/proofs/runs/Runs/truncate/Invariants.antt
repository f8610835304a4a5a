use Rattle.std.proofs.Common.{◌≡◌, ◌≤◌, take, length}
use Rattle.wasm_valid.proofs.runs.Runs.truncate.Given as goal

-- the first ones are the same
abbrev pub invariant-loop-self : goal.invariant-loop-self
invariant-loop-self l = record {
  kept : take l.len l.self ≡ take l.len l.fn.self;
  fewer : length l.self ≤ length l.fn.self;
}

abbrev pub decreases-loop-self : goal.decreases-loop-self
decreases-loop-self l = length l.self
