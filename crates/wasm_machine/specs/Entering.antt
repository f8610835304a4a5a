-- When a function may be entered.
use Rattle.std.specs.Prelude.{◌<◌, List, length}
use Rattle.std.specs.List.{AllZip}
use Rattle.wasm_syntax.specs.declared.value.Value.{Value}
use Rattle.wasm_syntax.specs.declared.addresses.FuncAddr.{FuncAddr}
use Rattle.wasm_store.specs.Store.{Store, type_of, function_at}
use Rattle.wasm_store.specs.Whole.{HasType}
pub use Rattle.wasm_store.specs.Whole.{HasCode}

-- a function of a module whose instance has its lists, with arguments of its types
pub record CanEnter (s : Store) (a : FuncAddr) (values : List Value) : Type 0 where
  pub live : a.0 < length s.functions
  pub code : HasCode s (function_at s a)
  pub args : AllZip (HasType s) values (type_of (function_at s a)).params
