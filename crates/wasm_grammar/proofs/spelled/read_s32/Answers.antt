use Rattle.std.proofs.Common.{◌^◌}
use Rattle.wasm_grammar.specs.Leb128.{IsS32}
use Rattle.wasm_grammar.specs.Reading.{s32_at}
use Rattle.wasm_grammar.proofs.Integers.{signed_reads}
use Rattle.wasm_grammar.proofs.Exact.{spelled, only}
use Rattle.wasm_grammar.proofs.spelled.read_s32.Goals as goal

pub returns-clause-spelled : goal.returns-clause-spelled
returns-clause-spelled c = spelled IsS32 s32_at (signed_reads 5 (2 ^ 31)) (λ x. (x.0, x.1.now)) c.args.bytes.now c.s32_of.result c.s32_of.ensures.gives

pub returns-clause-only : goal.returns-clause-only
returns-clause-only c = only IsS32 s32_at (signed_reads 5 (2 ^ 31)) (λ x. (x.0, x.1.now)) c.args.bytes.now c.s32_of.result c.s32_of.ensures.gives
