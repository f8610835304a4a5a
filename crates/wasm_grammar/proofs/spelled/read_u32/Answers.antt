use Rattle.wasm_grammar.specs.Leb128.{IsU32}
use Rattle.wasm_grammar.specs.Reading.{u32_at}
use Rattle.wasm_grammar.proofs.Integers.{u32_reads}
use Rattle.wasm_grammar.proofs.Exact.{spelled, only}
use Rattle.wasm_grammar.proofs.spelled.read_u32.Goals as goal

pub returns-clause-spelled : goal.returns-clause-spelled
returns-clause-spelled c = spelled IsU32 u32_at u32_reads (λ x. (x.0, x.1.now)) c.args.bytes.now c.u32_of.result c.u32_of.ensures.gives

pub returns-clause-only : goal.returns-clause-only
returns-clause-only c = only IsU32 u32_at u32_reads (λ x. (x.0, x.1.now)) c.args.bytes.now c.u32_of.result c.u32_of.ensures.gives
