use Rattle.wasm_store.proofs.Later.{later_same}
use Rattle.wasm_store.proofs.LawLemmas.{later_stays}
use Rattle.wasm_store.proofs.laws.order.Goals as goal

pub returns-clause-same : goal.returns-clause-same
returns-clause-same c = later_same

pub returns-clause-through : goal.returns-clause-through
returns-clause-through c = later_stays
