use Rattle.wasm_store.proofs.LawLemmas.{instances_stay, lists_stay}
use Rattle.wasm_store.proofs.laws.instances_stay.Goals as goal

pub returns-clause-instances : goal.returns-clause-instances
returns-clause-instances c = instances_stay

pub returns-clause-lists : goal.returns-clause-lists
returns-clause-lists c = lists_stay
