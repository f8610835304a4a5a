use Rattle.std.proofs.Common.{refl}
use Rattle.wasm_load.specs.Loading.{loaded_of}
use Rattle.wasm_load.proofs.loading.loads_once.Goals as goal

pub returns-clause-total : goal.returns-clause-total
returns-clause-total c = λ bytes. let d = c.decodes_once.ensures.total bytes in (loaded_of d.0, (d.0, d.1, refl))
