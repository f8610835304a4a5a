use Rattle.std.proofs.Common.{arith}
use Rattle.wasm_grammar.specs.Opcodes.{shape_of}
use Rattle.wasm_grammar.proofs.RowLaws.{at_each}
use Rattle.wasm_grammar.proofs.opcodes.row_of.Goals as goal

pub returns : goal.returns
returns c = at_each c.rows.result.now 0 256 shape_of c.rows.ensures c.args.op c.args.op _ c.ranges.op.fits (omega arith)
