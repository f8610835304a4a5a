use Rattle.wasm_num.proofs.LawLemmas.{signed_extension_then_wrap, unsigned_extension_then_wrap}
use Rattle.wasm_num.proofs.laws.extensions.Goals as goal

pub returns-clause-signed : goal.returns-clause-signed
returns-clause-signed c = signed_extension_then_wrap

pub returns-clause-unsigned : goal.returns-clause-unsigned
returns-clause-unsigned c = unsigned_extension_then_wrap
