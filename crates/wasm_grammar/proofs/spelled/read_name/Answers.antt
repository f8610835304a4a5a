use Rattle.wasm_grammar.specs.Binary.{IsName}
use Rattle.wasm_grammar.specs.Reading.{name_at}
use Rattle.wasm_grammar.proofs.Sizes.{name_reads}
use Rattle.wasm_grammar.proofs.Exact.{spelled, only}
use Rattle.wasm_grammar.proofs.spelled.read_name.Goals as goal

pub returns-clause-spelled : goal.returns-clause-spelled
returns-clause-spelled c = spelled IsName name_at name_reads (λ x. (x.0, x.1.now)) c.args.bytes.now c.name_of.result c.name_of.ensures.gives

pub returns-clause-only : goal.returns-clause-only
returns-clause-only c = only IsName name_at name_reads (λ x. (x.0, x.1.now)) c.args.bytes.now c.name_of.result c.name_of.ensures.gives
