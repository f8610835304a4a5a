use Rattle.std.proofs.Common.{refl}
use Rattle.wasm_grammar.specs.Opcodes.{rows, shape_of}
use Rattle.wasm_grammar.proofs.opcodes.rows.Goals as goal

pub returns : goal.returns
unfolding rows shape_of
returns c = refl
