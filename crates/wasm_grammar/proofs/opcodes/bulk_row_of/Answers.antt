use Rattle.std.proofs.Common.{◌-◌, sym, arith}
use Rattle.wasm_grammar.specs.Opcodes.{bulk_shape}
use Rattle.wasm_grammar.proofs.RowLaws.{at_each, no_row}
use Rattle.wasm_grammar.proofs.opcodes.bulk_row_of.Goals as goal

pub returns-then-place-lt10 : goal.returns-then-place-lt10
returns-then-place-lt10 c = at_each c.bulk_rows-rows.result.now 8 10 bulk_shape c.bulk_rows-rows.ensures (c.args.number - 8) c.args.number _ (omega (arith, c.if-place-lt10.true)) (omega (arith, c.requires))

pub returns : goal.returns
returns c = sym (no_row c.args.number (omega (arith, c.if-place-lt10.false, c.requires)))
