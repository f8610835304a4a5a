use Rattle.std.proofs.Common.{◌^◌}
use Rattle.wasm_grammar.specs.Leb128.{IsS64}
use Rattle.wasm_grammar.specs.Reading.{s64_at}
use Rattle.wasm_grammar.proofs.Integers.{signed_reads}
use Rattle.wasm_grammar.proofs.Exact.{spelled, only}
use Rattle.wasm_grammar.proofs.spelled.read_s64.Goals as goal

pub returns-clause-spelled : goal.returns-clause-spelled
returns-clause-spelled c = spelled IsS64 s64_at (signed_reads 10 (2 ^ 63)) (λ x. (x.0, x.1.now)) c.args.bytes.now c.s64_of.result c.s64_of.ensures.gives

pub returns-clause-only : goal.returns-clause-only
returns-clause-only c = only IsS64 s64_at (signed_reads 10 (2 ^ 63)) (λ x. (x.0, x.1.now)) c.args.bytes.now c.s64_of.result c.s64_of.ensures.gives
