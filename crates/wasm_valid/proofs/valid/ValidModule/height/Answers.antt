use Rattle.wasm_valid.proofs.ValidLaws.{body_typed}
use Rattle.wasm_valid.proofs.valid.ValidModule.height.Goals as goal

pub returns-clause-typed_body : goal.returns-clause-typed_body
returns-clause-typed_body c = body_typed c.args.self.now c.args.function (rw c.self.view_is at c.self.invariant.typed) c.requires
