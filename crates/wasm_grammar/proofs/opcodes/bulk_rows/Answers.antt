use Rattle.std.proofs.Common.{refl}
use Rattle.wasm_grammar.specs.Opcodes.{bulk_shape}
use Rattle.wasm_grammar.proofs.opcodes.bulk_rows.Goals as goal

pub returns : goal.returns
unfolding bulk_shape
returns c = refl
