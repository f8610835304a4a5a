-- What is left gives what the whole gives.
use Rattle.std.proofs.Common.{◌≡◌, drop}
use Rattle.embed_run.specs.Configurations as spec
use Rattle.embed_run.proofs.start.add_functions.Given as goal

abbrev pub invariant-loop-function : goal.invariant-loop-function
invariant-loop-function l = record {
  at : l.number ≡ l.function-index;
  left : spec.with_functions l.function-index (drop l.function-index l.functions) l.heap ≡ spec.with_functions 0 l.fn.functions l.fn.heap;
}
