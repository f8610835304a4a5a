-- Private: what the tests' store keeps.
use Rattle.std.specs.Prelude.{◌<◌, length}
use Rattle.wasm_store.specs.Store.{Store}
use Rattle.wasm_syntax.specs.declared.addresses.MemAddr.{MemAddr}
use Rattle.wasm_syntax.specs.declared.addresses.DataAddr.{DataAddr}

-- its memory and its data segment are live
pub record IsReady (s : Store) (a : MemAddr) (d : DataAddr) : Type 0 where
  pub memory : a.0 < length s.memories
  pub segment : d.0 < length s.datas
