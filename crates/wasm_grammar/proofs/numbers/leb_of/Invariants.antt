-- The groups that are left, on top of the sum of those before, spell what all do.
use Rattle.std.proofs.Common.{◌≡◌, ◌-◌, ◌^◌, ◌<◌, ◌≤◌, length}
use Rattle.wasm_grammar.specs.Reading.{leb_at}
use Rattle.wasm_grammar.proofs.numbers.leb_of.Given as goal

abbrev pub invariant-loop : goal.invariant-loop
invariant-loop l = record {
  goes_on : leb_at l.number l.unit l.rest (l.most - l.counter) ≡ leb_at 0 1 l.bytes l.most;
  below : l.number < l.unit;
  unit_is : l.unit ≡ 128 ^ l.counter;
  shorter : length l.rest ≤ length l.bytes;
}
