use Rattle.wasm_grammar.specs.Decoding.{told}
use Rattle.wasm_grammar.proofs.Decided.{exactly, alone}
use Rattle.wasm_grammar.proofs.Counted.{answer_numbered}
use Rattle.wasm_grammar.proofs.decoder.decode.Goals as goal

pub returns-clause-found : goal.returns-clause-found
returns-clause-found c = exactly c.args.bytes.now (told c.decided.result) c.decided.ensures

pub returns-clause-only : goal.returns-clause-only
returns-clause-only c = alone c.args.bytes.now (told c.decided.result) c.decided.ensures

pub returns-clause-numbered : goal.returns-clause-numbered
returns-clause-numbered c = answer_numbered c.args.bytes.now c.decided.result (exactly c.args.bytes.now (told c.decided.result) c.decided.ensures)
