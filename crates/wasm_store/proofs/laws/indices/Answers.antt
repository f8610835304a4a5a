use Rattle.wasm_store.proofs.LawLemmas.{function_of_index, table_of_index, global_of_index, element_of_index, memory_of_index, data_of_index}
use Rattle.wasm_store.proofs.laws.indices.Goals as goal

pub returns-clause-functions : goal.returns-clause-functions
returns-clause-functions c = function_of_index

pub returns-clause-tables : goal.returns-clause-tables
returns-clause-tables c = table_of_index

pub returns-clause-globals : goal.returns-clause-globals
returns-clause-globals c = global_of_index

pub returns-clause-elements : goal.returns-clause-elements
returns-clause-elements c = element_of_index

pub returns-clause-memories : goal.returns-clause-memories
returns-clause-memories c = memory_of_index

pub returns-clause-datas : goal.returns-clause-datas
returns-clause-datas c = data_of_index
