use Rattle.wasm_calls.proofs.Steps.{step_past}
use Rattle.wasm_calls.proofs.activations.Activations.turn.Goals as goal

pub returns-then-needs-self-clause-comes : goal.returns-then-needs-self-clause-comes
returns-then-needs-self-clause-comes c = step_past c.args.store.now c.args.self.now c.charge-needs.result c.charge-needs.ensures c.if-needs-self.true
