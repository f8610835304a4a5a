use Rattle.wasm_machine.proofs.Entered.{defaults_done}
use Rattle.wasm_machine.proofs.enter.push_defaults.Goals as goal

pub returns : goal.returns
returns c = defaults_done _ _ _ _ c.loop-run.invariant c.loop-run-test.false
