-- Private: words of the contracts of the parts of an instantiation.
use Rattle.std.specs.Prelude.{◌≡◌, ℕ, ◌++◌, List, Result, Ok, Err, map}
use Rattle.wasm_syntax.specs.Blocks.{block_of}
use Rattle.wasm_syntax.specs.declared.instructions.BlockId.{BlockId}
use Rattle.wasm_syntax.specs.declared.module.Data.{Data}
use Rattle.wasm_syntax.specs.declared.module.Module.{Module}
use Rattle.wasm_syntax.specs.declared.trap.Trap.{Trap}
use Rattle.wasm_syntax.specs.declared.value.Value.{Value}
use Rattle.wasm_syntax.specs.declared.addresses.InstAddr.{InstAddr}
use Rattle.wasm_syntax.specs.declared.addresses.FuncAddr.{FuncAddr}
use Rattle.wasm_store.specs.declared.instances.FuncInst.{FuncInst}
use Rattle.wasm_store.specs.declared.instances.Instance.{Instance}
use Rattle.wasm_store.specs.declared.instances.GlobalInst.{GlobalInst}
use Rattle.wasm_store.specs.Store.{Store, TableInst, MemInst, module_at, instance_at}
use Rattle.wasm_store.specs.Allocated.{first_constant}
use Rattle.wasm_instance.specs.Instantiation.{Outcome, goes, traps, number_of}

-- a store with more of one kind

abbrev pub with_functions : List FuncInst → Store → Store
with_functions fs s = record s { functions = s.functions ++ fs }

abbrev pub with_tables : List TableInst → Store → Store
with_tables ts s = record s { tables = s.tables ++ ts }

abbrev pub with_memories : List MemInst → Store → Store
with_memories ms s = record s { memories = s.memories ++ ms }

abbrev pub with_globals : List GlobalInst → Store → Store
with_globals gs s = record s { globals = s.globals ++ gs }

abbrev pub with_elements : List (List Value) → Store → Store
with_elements es s = record s { elements = s.elements ++ es }

abbrev pub with_datas : List (List ℕ) → Store → Store
with_datas ds s = record s { datas = s.datas ++ ds }

-- the bytes of data segments
abbrev pub datas_from : List Data → List (List ℕ)
datas_from segments = map (λ (segment : Data). segment.bytes) segments

-- the value of a constant expression, by the functions and the values of the imported globals
abbrev pub constant_in : Module → List FuncAddr → List Value → BlockId → Value
constant_in m funcs values id = first_constant funcs values (block_of m id)

-- the module of an instance
abbrev pub module_of : Store → InstAddr → Module
module_of s i = module_at s (instance_at s i).module

abbrev pub offset_in : Module → Instance → List Value → BlockId → ℕ
offset_in m i values id = number_of (constant_in m i.funcs values id)

-- an answer and the store that it leaves are what a row of segments comes to
abbrev pub Ends : Outcome → Result (Unit {0}) Trap → Store → Type 0
Ends o (Ok u) new = o ≡ goes new
Ends o (Err t) new = o ≡ traps t new
