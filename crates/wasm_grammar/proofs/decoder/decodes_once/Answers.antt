use Rattle.std.proofs.Common.{sym, ◌∙◌}
use Rattle.wasm_grammar.specs.Module.{module_in}
use Rattle.wasm_grammar.specs.Decoding.{read_as}
use Rattle.wasm_grammar.proofs.Decided.{read_decodes, decodes_read}
use Rattle.wasm_grammar.proofs.decoder.decodes_once.Goals as goal

pub returns-clause-total : goal.returns-clause-total
returns-clause-total c = λ bytes. (read_as bytes (module_in bytes), read_decodes bytes)

pub returns-clause-once : goal.returns-clause-once
returns-clause-once c = λ bytes d e p q. sym (decodes_read bytes d p) ∙ decodes_read bytes e q
