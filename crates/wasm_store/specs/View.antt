-- Private: what contracts see of the code's lists.
use Rattle.std.specs.Prelude.{◌≡◌}
use Rattle.wasm_store.specs.declared.store.Store.TheInside.{Inside}
use Rattle.wasm_store.specs.Store.{Store}
use Rattle.wasm_store.specs.Memories.{all_pages}
use Rattle.wasm_store.specs.Whole.{IsWhole}

abbrev pub store_of : Inside → Store
store_of s = record { modules = s.modules.items; instances = s.instances.items; functions = s.functions.items; tables = s.tables.items; memories = s.memories.items; globals = s.globals.items; elements = s.elements.items; datas = s.datas.items }

-- the store is whole, and the pages of all its memories are counted
pub record IsStore (s : Inside) : Type 0 where
  pub whole : IsWhole (store_of s)
  pub count : s.pages ≡ all_pages s.memories.items
