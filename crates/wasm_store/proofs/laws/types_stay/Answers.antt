use Rattle.wasm_store.proofs.LawLemmas.{values_stay_typed, modules_stay, functions_stay, tables_stay, memories_stay, globals_stay}
use Rattle.wasm_store.proofs.laws.types_stay.Goals as goal

pub returns-clause-values : goal.returns-clause-values
returns-clause-values c = values_stay_typed

pub returns-clause-modules : goal.returns-clause-modules
returns-clause-modules c = modules_stay

pub returns-clause-functions : goal.returns-clause-functions
returns-clause-functions c = functions_stay

pub returns-clause-tables : goal.returns-clause-tables
returns-clause-tables c = tables_stay

pub returns-clause-globals : goal.returns-clause-globals
returns-clause-globals c = globals_stay

pub returns-clause-memories : goal.returns-clause-memories
returns-clause-memories c = memories_stay
