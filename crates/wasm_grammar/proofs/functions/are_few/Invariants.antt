-- The sum so far and the locals that are left are all.
use Rattle.std.proofs.Common.{◌≡◌, ◌+◌, ◌<◌, ◌^◌, drop}
use Rattle.wasm_grammar.specs.Functions.{local_count}
use Rattle.wasm_grammar.proofs.functions.are_few.Given as goal

abbrev pub invariant-loop-count : goal.invariant-loop-count
invariant-loop-count l = record {
  small : l.sum < 2 ^ 32;
  counted : l.sum + local_count (drop l.count-index l.runs) ≡ local_count l.runs;
}
