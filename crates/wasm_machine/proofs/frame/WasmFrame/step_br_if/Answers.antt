use Rattle.wasm_machine.proofs.Parts.{br_if_can, stepped_not, stepped_if}
use Rattle.wasm_machine.proofs.frame.WasmFrame.step_br_if.Goals as goal

pub returns-then-number-eq0-clause-ok : goal.returns-then-number-eq0-clause-ok
returns-then-number-eq0-clause-ok c = stepped_not c.args.store.now c.args.self.now c.pop_number-number.new.self c.args.label c.pop_number-number.result c.requires c.pop_number-number.ensures.value c.pop_number-number.ensures.rest c.if-number-eq0.true

pub br-requires : goal.br-requires
br-requires c = br_if_can c.args.store.now c.args.self.now c.pop_number-number.new.self c.args.label c.pop_number-number.result c.requires c.pop_number-number.ensures.value c.pop_number-number.ensures.rest

pub returns-in-Ok-clause-ok : goal.returns-in-Ok-clause-ok
returns-in-Ok-clause-ok c = stepped_if c.args.store.now c.args.self.now c.pop_number-number.new.self c.br.new.self c.args.label c.pop_number-number.result c.in-Ok.effect c.requires c.pop_number-number.ensures.value c.pop_number-number.ensures.rest c.if-number-eq0.false c.in-Ok.ensures.ok
