use Rattle.std.proofs.Common.{◌∙◌, sym, reverse, take}
use Rattle.wasm_valid.proofs.PileLaws.{taken_at_once}
use Rattle.wasm_valid.proofs.operands.OperandList.pop_types.Goals as goal

pub returns-then-takes_anything : goal.returns-then-takes_anything
returns-then-takes_anything c = record {
  own = c.loop-left.invariant.own ∙ taken_at_once (reverse (take c.loop-left.left c.args.types.now)) c.loop-left.self.own (sym c.takes_anything.ensures ∙ c.if-takes_anything.true);
  under = c.loop-left.invariant.under;
}
