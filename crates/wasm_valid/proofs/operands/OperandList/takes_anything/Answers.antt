use Rattle.std.proofs.Common.{◌∙◌, ◌&&◌, ap, sym, nat_eq}
use Rattle.wasm_valid.proofs.PileLaws.{anything_is}
use Rattle.wasm_valid.proofs.operands.OperandList.takes_anything.Goals as goal

pub returns-then-self : goal.returns-then-self
returns-then-self c =
    sym (ap (λ b. b && nat_eq c.len.result c.self.inside.base) c.if-self.true)
    ∙ anything_is _ _ _ _ _ c.self.view_is c.self.invariant c.len.ensures
