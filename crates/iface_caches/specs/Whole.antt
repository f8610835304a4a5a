-- What holds of a heap, a store and the caches together.
use Rattle.std.specs.Prelude.{◌≡◌, ℕ, ◌<◌, Bool, true, false, length, Some, slice_get}
use Rattle.std.specs.List.{All}
use Rattle.wasm_store.specs.Store.{Store, TableInst}
use Rattle.wasm_store.specs.declared.instances.GlobalInst.{GlobalInst}
use Rattle.host_values.specs.Objects.{HostHeap}
use Rattle.host_values.specs.Heaps.{IsLiveValue}
use Rattle.host_values.specs.declared.kinds.Kind.{Kind}
use Rattle.host_values.specs.declared.kinds.Kind.TheVariants as kinds
use Rattle.host_values.specs.declared.kinds.Callee.TheVariants as callees
use Rattle.host_values.specs.declared.values.ObjId.{ObjId}
use Rattle.host_values.specs.declared.values.HostValue.{HostValue}
use Rattle.iface_caches.specs.declared.external.ExternalKind.{ExternalKind}
use Rattle.iface_caches.specs.declared.external.ExternalKind.TheVariants as external
use Rattle.iface_caches.specs.Caches.{HostCaches, cached}
use Rattle.iface_caches.specs.Agreement.{Agree}
use Rattle.iface_caches.specs.Conversions.{IsCached}

-- how many things of a kind a store has
abbrev pub count_of : Store → ExternalKind → ℕ
count_of s external.Function = length s.functions
count_of s external.Memory = length s.memories
count_of s external.Table = length s.tables
count_of s external.Global = length s.globals

-- each address of a value of the host that a store holds is that of a value in the caches
pub record HoldsCached (s : Store) (c : HostCaches) : Type 0 where
  pub tables : All (λ (t : TableInst). All (IsCached c) t.entries) s.tables
  pub globals : All (λ (g : GlobalInst). IsCached c g.value) s.globals
  pub elements : All (All (IsCached c)) s.elements

-- heap and caches agree, each cached address is live in the store, each cached value is live in the heap, and so is each value of
-- the host that the store holds in the caches
pub record IsWhole (h : HostHeap) (s : Store) (c : HostCaches) : Type 0 where
  pub agree : Agree h c
  pub addresses : (k : ExternalKind) (a : ℕ) (o : ObjId) → cached c k a ≡ Some o → a < count_of s k
  pub externs : (n : ℕ) (v : HostValue) → slice_get c.externs n ≡ Some v → IsLiveValue h v
  pub held : HoldsCached s c

-- whether an object of this kind is the one of an address
abbrev pub is_cached_kind : Kind → Bool
is_cached_kind (kinds.Function (callees.Exported a)) = true
is_cached_kind (kinds.Memory a) = true
is_cached_kind (kinds.Table a) = true
is_cached_kind (kinds.Global a) = true
is_cached_kind _ = false
