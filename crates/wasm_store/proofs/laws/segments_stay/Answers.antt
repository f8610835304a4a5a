use Rattle.wasm_store.proofs.LawLemmas.{elements_stay, datas_stay}
use Rattle.wasm_store.proofs.laws.segments_stay.Goals as goal

pub returns-clause-elements : goal.returns-clause-elements
returns-clause-elements c = elements_stay

pub returns-clause-datas : goal.returns-clause-datas
returns-clause-datas c = datas_stay
