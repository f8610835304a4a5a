use Rattle.std.proofs.Common.{◌≡◌, ◌++◌, drop}
use Rattle.wasm_machine.specs.Reduction.{default_locals}
use Rattle.wasm_machine.proofs.enter.push_defaults.Given as goal

abbrev pub invariant-loop-run : goal.invariant-loop-run
invariant-loop-run l = l.words.items ++ default_locals (drop l.run-index l.runs) ≡ l.initial.words.items ++ default_locals l.runs
