-- The object caches (WebAssembly JavaScript Interface, section 4.2): for each address one object, and for each value of the host
-- that a module holds one address.
use Rattle.std.specs.Prelude.{◌≡◌, ℕ, suc, true, nat_eq, List, [], ◌∷◌, ◌++◌, length, Option, Some, None, slice_get, if◌then◌else◌}
use Rattle.std.specs.Option.{option_map, option_map_or}
use Rattle.std.specs.Map.{lookup}
use Rattle.wasm_syntax.specs.declared.addresses.ExternAddr.{ExternAddr}
use Rattle.host_values.specs.Objects.{HostHeap}
use Rattle.host_values.specs.Heaps.{next_object, with_object}
use Rattle.host_values.specs.declared.kinds.Kind.{Kind}
use Rattle.host_values.specs.declared.kinds.Kind.TheVariants as kinds
use Rattle.host_values.specs.declared.kinds.Callee.TheVariants as callees
use Rattle.host_values.specs.declared.values.ObjId.{ObjId}
use Rattle.host_values.specs.declared.values.HostValue.{HostValue}
use Rattle.host_convert.specs.Operators.{is_strictly_equal}
use Rattle.iface_caches.specs.declared.external.ExternalKind.{ExternalKind}
use Rattle.iface_caches.specs.declared.external.ExternalKind.TheVariants as external

-- the objects of addresses of one kind, in the order in which they were made
abbrev pub Cache : Type 0
Cache = List (ℕ × ObjId)

-- what is cached: objects by the numbers of addresses, and the values of the host by theirs
pub record HostCaches : Type 0 where
  pub functions : Cache
  pub memories : Cache
  pub tables : Cache
  pub globals : Cache
  pub externs : List HostValue

abbrev pub no_caches : HostCaches
no_caches = record { functions = []; memories = []; tables = []; globals = []; externs = [] }

-- the cache of a kind
abbrev pub cache_of : HostCaches → ExternalKind → Cache
cache_of c external.Function = c.functions
cache_of c external.Memory = c.memories
cache_of c external.Table = c.tables
cache_of c external.Global = c.globals

abbrev pub with_cache : ExternalKind → Cache → HostCaches → HostCaches
with_cache external.Function cache c = record c { functions = cache }
with_cache external.Memory cache c = record c { memories = cache }
with_cache external.Table cache c = record c { tables = cache }
with_cache external.Global cache c = record c { globals = cache }

-- what an object says that it is of
abbrev pub kind_of : ExternalKind → ℕ → Kind
kind_of external.Function a = kinds.Function (callees.Exported (record { 0 = a }))
kind_of external.Memory a = kinds.Memory (record { 0 = a })
kind_of external.Table a = kinds.Table (record { 0 = a })
kind_of external.Global a = kinds.Global (record { 0 = a })

-- the object of an address, where it has one
abbrev pub cached : HostCaches → ExternalKind → ℕ → Option ObjId
cached c k a = lookup (nat_eq a) (cache_of c k)

-- The one object of an address (sections 5.3 to 5.6): the cached one, and else a new one, which is cached.

abbrev pub object_of : HostHeap → HostCaches → ExternalKind → ℕ → ObjId
object_of h c k a = option_map_or (λ o. o) (cached c k a) (next_object h)

abbrev pub with_object_of : HostHeap → ExternalKind → ℕ → HostCaches → HostCaches
with_object_of h k a c = option_map_or (λ o. c) (cached c k a) (with_cache k (cache_of c k ++ (a, next_object h) ∷ []) c)

abbrev pub heap_with_object_of : HostCaches → ExternalKind → ℕ → HostHeap → HostHeap
heap_with_object_of c k a h = option_map_or (λ o. h) (cached c k a) (with_object h (kind_of k a) [])

-- The address of a value of the host (section 5.6, ToWebAssemblyValue): that of the value that is strictly equal to it, and else the next one.

-- the place of the first value that is strictly equal to this one
abbrev pub place_of : HostValue → List HostValue → Option ℕ
place_of v [] = None
place_of v (w ∷ ws) = if is_strictly_equal v w then Some 0 else option_map suc (place_of v ws)

abbrev pub extern_of : HostCaches → HostValue → ExternAddr
extern_of c v = record { 0 = option_map_or (λ n. n) (place_of v c.externs) (length c.externs) }

abbrev pub with_extern : HostValue → HostCaches → HostCaches
with_extern v c = option_map_or (λ n. c) (place_of v c.externs) (record c { externs = c.externs ++ v ∷ [] })

-- no two of these values are strictly equal
abbrev pub AreDistinct : List HostValue → Type 0
AreDistinct vs = (m n : ℕ) (v w : HostValue) → slice_get vs m ≡ Some v → slice_get vs n ≡ Some w → is_strictly_equal v w ≡ true → m ≡ n
