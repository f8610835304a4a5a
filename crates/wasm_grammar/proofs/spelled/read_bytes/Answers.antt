use Rattle.wasm_grammar.specs.Binary.{IsBytes}
use Rattle.wasm_grammar.specs.Reading.{part_at}
use Rattle.wasm_grammar.proofs.Sizes.{bytes_read}
use Rattle.wasm_grammar.proofs.Exact.{spelled, only}
use Rattle.wasm_grammar.proofs.spelled.read_bytes.Goals as goal

pub returns-clause-spelled : goal.returns-clause-spelled
returns-clause-spelled c = spelled IsBytes part_at bytes_read (λ x. (x.0.now, x.1.now)) c.args.bytes.now c.part_of.result c.part_of.ensures.gives

pub returns-clause-only : goal.returns-clause-only
returns-clause-only c = only IsBytes part_at bytes_read (λ x. (x.0.now, x.1.now)) c.args.bytes.now c.part_of.result c.part_of.ensures.gives
