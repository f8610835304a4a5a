-- Realms stay sound.
use Rattle.std.proofs.Common.{◌≡◌, ◌⊎◌, inl, inr, ◌<◌, List, [], ◌∷◌, Some, true}
use Rattle.host_values.specs.Heaps.{kind_at, with_object}
use Rattle.host_values.specs.Objects.{HostHeap}
use Rattle.host_values.specs.declared.kinds.Callee.TheVariants as callees
use Rattle.host_values.specs.declared.kinds.Kind.{Kind}
use Rattle.host_values.specs.declared.kinds.Kind.TheVariants as kinds
use Rattle.host_values.specs.declared.values.ErrorClass.{ErrorClass}
use Rattle.host_values.specs.declared.values.ObjId.{ObjId}
use Rattle.host_laws.specs.Changes.{Changes, made, IsOwnKind, NewKindsAreOwn}
use Rattle.wasm_syntax.specs.declared.addresses.FuncAddr.{FuncAddr}
use Rattle.wasm_syntax.specs.declared.addresses.ModuleAddr.{ModuleAddr}
use Rattle.wasm_store.specs.Store.{Store}
use Rattle.iface_objects.specs.declared.realm.Realm.{Realm}
use Rattle.iface_objects.specs.Realms.{with_heap}
use Rattle.iface_objects.specs.Sound.{AreNamed, IsCallable, IsLoaded, IsSound}
use Rattle.embed_run.specs.Calls.{error_in}

module _ (own : NewKindsAreOwn) where
  function_named : (h g : HostHeap) (s : Store) (a : FuncAddr) (o : ObjId) → AreNamed h s → (kind_at h o ≡ Some (kinds.Function (callees.Exported a))) ⊎ IsOwnKind (kinds.Function (callees.Exported a)) → IsCallable s a
  function_named h g s a o n (inl e) = n.functions o a e
  function_named h g s a o n (inr e) = absurd e

  module_named : (h g : HostHeap) (s : Store) (a : ModuleAddr) (o : ObjId) → AreNamed h s → (kind_at h o ≡ Some (kinds.Module a)) ⊎ IsOwnKind (kinds.Module a) → IsLoaded s a
  module_named h g s a o n (inl e) = n.modules o a e
  module_named h g s a o n (inr e) = absurd e

  named_changes : (h g : HostHeap) (s : Store) → Changes h g → AreNamed h s → AreNamed g s
  named_changes h g s c n = record {
    functions = λ o a e. function_named h g s a o n (own h g c o (kinds.Function (callees.Exported a)) e);
    modules = λ o a e. module_named h g s a o n (own h g c o (kinds.Module a) e);
  }

  -- after a step of the script
  pub sound_changes : (r : Realm) (g : HostHeap) → Changes r.heap g → IsSound r → IsSound (with_heap g r)
  sound_changes r g c n = record { code = n.code; named = named_changes r.heap g r.store c n.named }

  -- with a new error, or a new Array
  pub sound_error : (r : Realm) (class : ErrorClass) → IsSound r → IsSound (error_in r class)
  sound_error r class n = sound_changes r _ (made r.heap (kinds.Error class []) [] tt) n

  pub sound_array : (r : Realm) (properties : List _) → IsSound r → IsSound (with_heap (with_object r.heap kinds.Array properties) r)
  sound_array r properties n = sound_changes r _ (made r.heap kinds.Array properties tt) n
