use Rattle.std.proofs.Common.{arith}
use Rattle.wasm_grammar.proofs.Shorter.{u32_shorter}
use Rattle.wasm_grammar.proofs.segments.FuncIndexItem.read.Goals as goal

pub returns-clause-room : goal.returns-clause-room
returns-clause-room c = omega (arith, c.in_ok-id.ensures.room, u32_shorter c.args.bytes.now (c.in_ok-index.index, c.in_ok-index.rest.now) c.in_ok-index.ensures.gives)
