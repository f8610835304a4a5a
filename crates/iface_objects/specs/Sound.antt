-- What holds of every realm: what its objects name is there.
use Rattle.std.specs.Prelude.{◌≡◌, ◌<◌, true, [], length, Some}
use Rattle.host_values.specs.Heaps.{kind_at}
use Rattle.host_values.specs.Objects.{HostHeap}
use Rattle.host_values.specs.declared.kinds.Callee.TheVariants as callees
use Rattle.host_values.specs.declared.kinds.Kind.TheVariants as kinds
use Rattle.host_values.specs.declared.values.ObjId.{ObjId}
use Rattle.wasm_syntax.specs.declared.addresses.FuncAddr.{FuncAddr}
use Rattle.wasm_syntax.specs.declared.addresses.ModuleAddr.{ModuleAddr}
use Rattle.wasm_store.specs.Store.{Store, function_at, module_at, type_of}
use Rattle.wasm_store.specs.Whole.{AllHaveCode}
use Rattle.iface_objects.specs.declared.answer.Answer.{Answer}
use Rattle.iface_objects.specs.declared.answer.Answer.TheVariants as answers
use Rattle.iface_objects.specs.declared.realm.Realm.{Realm}
use Rattle.iface_objects.specs.Modules.{is_of_numbers, is_taken}

-- a live function of a module, which takes and gives numbers alone
pub record IsCallable (s : Store) (a : FuncAddr) : Type 0 where
  pub live : a.0 < length s.functions
  pub numbers : is_of_numbers (type_of (function_at s a)) ≡ true

-- a live module, of those that are built so far
pub record IsLoaded (s : Store) (a : ModuleAddr) : Type 0 where
  pub live : a.0 < length s.modules
  pub taken : is_taken (module_at s a) ≡ true

-- each object that names a function or a module names one that is there
pub record AreNamed (h : HostHeap) (s : Store) : Type 0 where
  pub functions : (o : ObjId) (a : FuncAddr) → kind_at h o ≡ Some (kinds.Function (callees.Exported a)) → IsCallable s a
  pub modules : (o : ObjId) (a : ModuleAddr) → kind_at h o ≡ Some (kinds.Module a) → IsLoaded s a

pub record IsSound (r : Realm) : Type 0 where
  pub code : AllHaveCode r.store
  pub named : AreNamed r.heap r.store

-- a start function is there, and takes and gives nothing
abbrev pub CanStart : Store → Answer → Type 0
CanStart s (answers.Start f o) = (f.0 < length s.functions) × ((type_of (function_at s f)).params ≡ []) × ((type_of (function_at s f)).results ≡ [])
CanStart s _ = Unit {0}
