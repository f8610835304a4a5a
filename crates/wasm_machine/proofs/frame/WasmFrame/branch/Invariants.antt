use Rattle.std.proofs.Common.{◌-◌}
use Rattle.wasm_machine.specs.View.{values_of, branched}
use Rattle.wasm_machine.proofs.Views.{Leaving}
use Rattle.wasm_machine.proofs.frame.WasmFrame.branch.Given as goal

abbrev pub invariant-loop : goal.invariant-loop
invariant-loop l = Leaving (l.fn.label - l.counter) l.self (branched l.fn.label (values_of l.fn.self) l.fn.self.top l.fn.self.outer l.fn.self)
