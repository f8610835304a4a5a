use Rattle.wasm_num.proofs.LawLemmas.{ones_and_zeros_add_up}
use Rattle.wasm_num.proofs.laws.ones_and_zeros.Goals as goal

pub returns : goal.returns
returns c = ones_and_zeros_add_up
