use Rattle.std.proofs.Common.{◌≡◌, ◌+◌, ◌≤◌, drop}
use Rattle.host_parser.specs.Names.{function_count}
use Rattle.host_parser.proofs.resolve.function_count.Given as goal

abbrev pub invariant-loop-one : goal.invariant-loop-one
invariant-loop-one l = record { counted : l.count + function_count (drop l.one-index l.declared) ≡ function_count l.declared; few : l.count ≤ l.one-index }
