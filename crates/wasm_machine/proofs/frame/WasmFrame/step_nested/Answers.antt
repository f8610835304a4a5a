use Rattle.std.proofs.Common.{inl, inr, refl}
use Rattle.wasm_machine.proofs.Parts.{begin_can, stepped_block, if_can, stepped_if_block, chosen_zero, chosen_else}
use Rattle.wasm_machine.proofs.frame.WasmFrame.step_nested.Goals as goal

pub begin-requires-clause-can : goal.begin-requires-clause-can
begin-requires-clause-can c = begin_can c.args.store.now c.args.self.now c.args.nesting c.requires c.in-None.is

pub begin-requires-then-pop_number-eq0-clause-can : goal.begin-requires-then-pop_number-eq0-clause-can
begin-requires-then-pop_number-eq0-clause-can c = if_can c.args.store.now c.args.self.now c.pop_number.new.self c.args.nesting c.in-Some.other c.pop_number.result c.requires c.in-Some.is c.pop_number.ensures.value c.pop_number.ensures.rest

pub begin-requires-else-pop_number-eq0-clause-can : goal.begin-requires-else-pop_number-eq0-clause-can
begin-requires-else-pop_number-eq0-clause-can c = if_can c.args.store.now c.args.self.now c.pop_number.new.self c.args.nesting c.in-Some.other c.pop_number.result c.requires c.in-Some.is c.pop_number.ensures.value c.pop_number.ensures.rest

pub returns-in-None : goal.returns-in-None
returns-in-None c = stepped_block c.args.store.now c.args.self.now c.begin.new.self c.args.nesting c.requires c.in-None.is c.begin.ensures

pub returns-then-pop_number-eq0 : goal.returns-then-pop_number-eq0
returns-then-pop_number-eq0 c =
    stepped_if_block c.args.store.now c.args.self.now c.pop_number.new.self c.begin-then-pop_number-eq0.new.self c.args.nesting c.in-Some.other c.in-Some.other c.pop_number.result c.requires c.in-Some.is c.pop_number.ensures.value c.pop_number.ensures.rest
    (chosen_zero c.args.nesting c.in-Some.other c.pop_number.result c.if-pop_number-eq0.true) (inr c.in-Some.is) c.begin-then-pop_number-eq0.ensures

pub returns-else-pop_number-eq0 : goal.returns-else-pop_number-eq0
returns-else-pop_number-eq0 c =
    stepped_if_block c.args.store.now c.args.self.now c.pop_number.new.self c.begin-else-pop_number-eq0.new.self c.args.nesting c.in-Some.other c.args.nesting.body c.pop_number.result c.requires c.in-Some.is c.pop_number.ensures.value c.pop_number.ensures.rest
    (chosen_else c.args.nesting c.in-Some.other c.pop_number.result c.if-pop_number-eq0.false) (inl refl) c.begin-else-pop_number-eq0.ensures
