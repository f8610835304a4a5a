-- What was written so far, and that no fault was counted.
use Rattle.std.proofs.Common.{◌≡◌, ◌≤◌, ◌-◌, length, take}
use Rattle.embed_cmd.specs.Headline.{with_more}
use Rattle.embed_cmd.proofs.write.write_whole.Given as goal

abbrev pub invariant-loop-at : goal.invariant-loop-at
invariant-loop-at g l = record {
  within : l.at ≤ length l.bytes;
  written : g.O.Sink.written l.out ≡ with_more (g.O.Sink.written l.initial.out) (take l.at l.bytes);
  sound : g.O.Sink.faults l.out ≡ g.O.Sink.faults l.initial.out;
}

abbrev pub decreases-loop-at : goal.decreases-loop-at
decreases-loop-at g l = length l.initial.bytes - l.at
