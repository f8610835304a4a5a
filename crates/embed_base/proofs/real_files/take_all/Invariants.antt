-- The bytes taken in this call are those that were put in, come first of those that the source had, and lie within the limit.
use Rattle.std.proofs.Common.{◌≤◌, ◌+◌, min, length}
use Rattle.std.specs.Io.KnownBytes.{Consumes}
use Rattle.embed_base.specs.Counts.{last_count}
use Rattle.embed_base.proofs.real_files.take_all.Given as goal

abbrev pub invariant-loop : goal.invariant-loop
invariant-loop g l = record {
  counted : min (l.fn.taken + length l.into.items) last_count ≤ l.taken;
  within : length l.into.items ≤ l.limit;
  stays : l.fn.taken ≤ l.taken;
  consumed : Consumes (g.S.Read.remaining l.fn.source) (g.S.Read.remaining l.source) l.into.items;
}
