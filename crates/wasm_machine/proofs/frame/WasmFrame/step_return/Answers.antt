use Rattle.std.proofs.Common.{ap, ◌∙◌, take, ◌≤◌, subst, ℕ, sym, length}
use Rattle.wasm_machine.specs.View.{values_of}
use Rattle.wasm_machine.proofs.Parts.{return_can, stepped_return}
use Rattle.wasm_machine.proofs.frame.WasmFrame.step_return.Goals as goal

pub last_values-requires : goal.last_values-requires
last_values-requires c = subst (λ (n : ℕ). n ≤ length (values_of c.args.self.now)) (sym c.results.ensures) (return_can c.args.store.now c.args.self.now c.requires)

pub returns-clause-ok : goal.returns-clause-ok
returns-clause-ok c = stepped_return c.args.store.now c.args.self.now c.in_ok-values.values c.requires (c.in_ok-values.ensures.ok ∙ ap (λ n. take n (values_of c.args.self.now)) c.results.ensures)
