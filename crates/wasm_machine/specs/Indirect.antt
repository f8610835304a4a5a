-- Private: words of the contracts of indirect calls.
use Rattle.std.specs.Prelude.{◌≡◌, ℕ, ◌<◌, length, if◌then◌else◌, Option, Some, None, Result, Ok, Err, slice_get}
use Rattle.wasm_syntax.specs.declared.types.ValType.TheVariants as t
use Rattle.wasm_syntax.specs.declared.types.FuncType.{FuncType}
use Rattle.wasm_syntax.specs.declared.value.Value.{Value}
use Rattle.wasm_syntax.specs.declared.value.Value.TheVariants as w
use Rattle.wasm_syntax.specs.declared.trap.Trap.{Trap}
use Rattle.wasm_syntax.specs.declared.trap.Trap.TheVariants as because
use Rattle.wasm_syntax.specs.declared.addresses.FuncAddr.{FuncAddr}
use Rattle.wasm_syntax.specs.declared.addresses.TableAddr.{TableAddr}
use Rattle.wasm_store.specs.Store.{Store, type_of, function_at, table_at, instance_at}
use Rattle.wasm_machine.specs.Reduction.{same_func_type}
use Rattle.wasm_machine.specs.View.{View, module_for}

abbrev pub func_of_type : Store → FuncType → FuncAddr → Result FuncAddr Trap
func_of_type s g a = if same_func_type g (type_of (function_at s a)) then Ok a else Err because.WrongType

-- the function of an entry, or why there is none that may be called
abbrev pub entry_target : Store → FuncType → Option Value → Result FuncAddr Trap
entry_target s g None = Err because.TableRange
entry_target s g (Some (w.Func a)) = func_of_type s g a
entry_target s g (Some _) = Err because.NullEntry

-- the type and the table are there
pub record IsThere (s : Store) (x y : ℕ) (v : View) : Type 0 where
  pub «instance» : v.instance.0 < length s.instances
  pub «module» : v.module.0 < length s.modules
  pub type : FuncType
  pub type_is : slice_get (module_for s v).types x ≡ Some type
  pub table : TableAddr
  pub table_is : slice_get (instance_at s v.instance).tables y ≡ Some table
  pub live : table.0 < length s.tables
  pub elem : (table_at s table).elem ≡ t.FuncRef

-- what stands at an entry of the table
pub record Targets (s : Store) (x y k : ℕ) (v : View) (found : Result FuncAddr Trap) : Type 0 where
  pub type : FuncType
  pub type_is : slice_get (module_for s v).types x ≡ Some type
  pub table : TableAddr
  pub table_is : slice_get (instance_at s v.instance).tables y ≡ Some table
  pub live : (a : FuncAddr) → found ≡ Ok a → a.0 < length s.functions
  pub found_is : found ≡ entry_target s type (slice_get (table_at s table).entries k)
