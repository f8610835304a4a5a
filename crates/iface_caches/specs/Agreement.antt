-- When a heap and the caches agree, and what stays as they change.
use Rattle.std.specs.Prelude.{◌≡◌, ℕ, Some, slice_get}
use Rattle.host_values.specs.Objects.{HostHeap}
use Rattle.host_values.specs.Heaps.{kind_at}
use Rattle.host_values.specs.declared.values.ObjId.{ObjId}
use Rattle.host_values.specs.declared.values.HostValue.{HostValue}
use Rattle.iface_caches.specs.declared.external.ExternalKind.{ExternalKind}
use Rattle.iface_caches.specs.Caches.{HostCaches, cached, kind_of}

-- each cached object says that it is of its address, and each object that says so is the cached one of that address
pub record Agree (h : HostHeap) (c : HostCaches) : Type 0 where
  pub named : (k : ExternalKind) (a : ℕ) (o : ObjId) → cached c k a ≡ Some o → kind_at h o ≡ Some (kind_of k a)
  pub found : (k : ExternalKind) (a : ℕ) (o : ObjId) → kind_at h o ≡ Some (kind_of k a) → cached c k a ≡ Some o

-- caches as they may be later: each address keeps its object, and each value of the host its address
pub record IsLater (old new : HostCaches) : Type 0 where
  pub objects : (k : ExternalKind) (a : ℕ) (o : ObjId) → cached old k a ≡ Some o → cached new k a ≡ Some o
  pub externs : (n : ℕ) (v : HostValue) → slice_get old.externs n ≡ Some v → slice_get new.externs n ≡ Some v
