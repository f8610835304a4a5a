use Rattle.wasm_machine.proofs.Parts.{table_can, stepped_table}
use Rattle.wasm_machine.proofs.frame.WasmFrame.step_br_table.Goals as goal

pub br-requires : goal.br-requires
br-requires c = table_can c.args.store.now c.args.self.now c.pop_number-number.new.self c.args.default c.pop_number-number.result c.table_label-label.result c.requires c.pop_number-number.ensures.value c.pop_number-number.ensures.rest c.table_label-label.ensures

pub returns-in-Ok-clause-ok : goal.returns-in-Ok-clause-ok
returns-in-Ok-clause-ok c = stepped_table c.args.store.now c.args.self.now c.pop_number-number.new.self c.br.new.self c.args.default c.pop_number-number.result c.table_label-label.result c.in-Ok.effect c.requires c.pop_number-number.ensures.value c.pop_number-number.ensures.rest c.table_label-label.ensures c.in-Ok.ensures.ok
