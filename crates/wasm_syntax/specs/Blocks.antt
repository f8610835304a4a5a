-- The blocks of a module.
use Rattle.std.specs.Prelude.{List, [], slice_index_or}
use Rattle.wasm_syntax.specs.declared.instructions.BlockId.{BlockId}
use Rattle.wasm_syntax.specs.declared.instructions.Instr.{Instr}
use Rattle.wasm_syntax.specs.declared.module.Module.{Module}

-- the instructions of the block with this number
abbrev pub block_of : Module → BlockId → List Instr
block_of m id = slice_index_or m.blocks id.0 []
