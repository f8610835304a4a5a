use Rattle.std.proofs.Common.{arith}
use Rattle.wasm_store.proofs.Steps.{swap_refused, swap_written}
use Rattle.wasm_store.proofs.store.copy.Goals as goal

pub returns-clause-written : goal.returns-clause-written
returns-clause-written c =
    swap_written c.args.tables.now c.args.to_table c.replace-target.new.dest c.index-tables-to_table-2.result c.replace-target.result c.write-written.new.self c.write-written.result
    c.requires.live_to c.replace-target.ensures.value
    c.args.from_table c.args.to c.args.from c.args.n c.index-tables-from_table.result c.entries.result.now
    c.requires.live_from (λ e. omega arith) c.entries.ensures c.write-written.ensures.written

pub returns-clause-refused : goal.returns-clause-refused
returns-clause-refused c =
    swap_refused c.args.tables.now c.args.to_table c.replace-target.new.dest c.index-tables-to_table-2.result c.replace-target.result c.write-written.new.self c.write-written.result
    c.requires.live_to c.replace-target.ensures.value c.write-written.ensures.refused
