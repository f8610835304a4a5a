use Rattle.std.proofs.Common.{arith, ◌∙◌, sym}
use Rattle.wasm_machine.proofs.Views.{broken_is, back_some, back_none, heights_broken}
use Rattle.wasm_machine.proofs.frame.WasmFrame.break_out.Goals as goal

pub invariant_of-self : goal.invariant_of-self
invariant_of-self c = (omega (arith, c.self.invariant.0, c.keep_last.ensures.capacity), omega (arith, c.self.invariant.1, c.in-Some.ensures.capacity), heights_broken _ _ _ _ _ _ _ _ _ _ _ 0 _ c.self.view_is c.self.invariant.2 c.requires.enough c.in-Some.ensures.items c.keep_last.ensures.kept)

pub invariant_of-self-else-is_some : goal.invariant_of-self-else-is_some
invariant_of-self-else-is_some c = (omega (arith, c.self.invariant.0, c.keep_last.ensures.capacity), omega (arith, c.self.invariant.1, c.in-Some.ensures.capacity), heights_broken _ _ _ _ _ _ _ _ _ _ _ 0 _ c.self.view_is c.self.invariant.2 c.requires.enough c.in-Some.ensures.items c.keep_last.ensures.kept)

pub returns-then-is_some : goal.returns-then-is_some
returns-then-is_some c =
    broken_is _ _ _ _ _ _ _ _ _ _ _ _ _ c.self.view_is c.self.invariant.2 c.requires.enough c.in-Some.ensures.items c.keep_last.ensures.kept
    (back_some _ c.self.inside.top.again _ _ (sym c.is_some.ensures ∙ c.if-is_some.true) c.saturating_sub-self-inside.ensures)

pub returns-else-is_some : goal.returns-else-is_some
returns-else-is_some c =
    broken_is _ _ _ _ _ _ _ _ _ _ _ _ _ c.self.view_is c.self.invariant.2 c.requires.enough c.in-Some.ensures.items c.keep_last.ensures.kept
    (back_none _ c.self.inside.top.again _ (sym c.is_some.ensures ∙ c.if-is_some.false))
