-- What is left of the run gives what the whole run gives.
use Rattle.std.proofs.Common.{◌≡◌, ◌+◌, ◌-◌, ◌≤◌, length}
use Rattle.wasm_grammar.specs.Running.{state, start, run}
use Rattle.wasm_grammar.proofs.expressions.run_of.Given as goal

abbrev pub invariant-loop : goal.invariant-loop
invariant-loop l = record {
  room : length l.built.blocks + length l.so_far.levels + length l.rest ≤ length l.fn.built.blocks + length l.bytes;
  goes_on : run l.in_code (length l.bytes - l.counter) (state l.so_far l.built) l.after l.rest ≡ run l.in_code (length l.bytes) (start l.fn.built) l.after l.bytes;
}
