use Rattle.wasm_store.proofs.AllocatedLaws.{modules_are_allocated}
use Rattle.wasm_store.proofs.laws.modules_are_allocated.Goals as goal

pub returns : goal.returns
returns c = modules_are_allocated
