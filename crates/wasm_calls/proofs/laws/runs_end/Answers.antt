use Rattle.wasm_calls.proofs.Repeating.{runs_end, ends_stay}
use Rattle.wasm_calls.proofs.laws.runs_end.Goals as goal

pub returns-clause-end : goal.returns-clause-end
returns-clause-end c = runs_end

pub returns-clause-stay : goal.returns-clause-stay
returns-clause-stay c = ends_stay
