use Rattle.wasm_grammar.specs.Leb128.{IsTypeIndex}
use Rattle.wasm_grammar.specs.Reading.{type_index_at}
use Rattle.wasm_grammar.proofs.Integers.{type_index_reads}
use Rattle.wasm_grammar.proofs.Exact.{spelled, only}
use Rattle.wasm_grammar.proofs.spelled.read_type_index.Goals as goal

pub returns-clause-spelled : goal.returns-clause-spelled
returns-clause-spelled c = spelled IsTypeIndex type_index_at type_index_reads (λ x. (x.0, x.1.now)) c.args.bytes.now c.type_index_of.result c.type_index_of.ensures.gives

pub returns-clause-only : goal.returns-clause-only
returns-clause-only c = only IsTypeIndex type_index_at type_index_reads (λ x. (x.0, x.1.now)) c.args.bytes.now c.type_index_of.result c.type_index_of.ensures.gives
