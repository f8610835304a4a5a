-- Laws of the caches for callers. `src/laws.rt` has a function for each, whose contract is the law.
use Rattle.std.specs.Prelude.{◌≡◌, ℕ, ◌<◌, ◌↔◌, true, false, List, Some, slice_get}
use Rattle.wasm_syntax.specs.declared.types.ValType.{ValType}
use Rattle.wasm_syntax.specs.declared.types.ValType.TheVariants as types
use Rattle.wasm_syntax.specs.declared.value.Value.{Value}
use Rattle.wasm_store.specs.Store.{Store, empty_store}
use Rattle.wasm_store.specs.Whole as stores
use Rattle.host_values.specs.Objects.{HostHeap}
use Rattle.host_values.specs.Heaps.{IsLive, IsLiveValue, fresh_heap, kind_at, with_object}
use Rattle.host_values.specs.declared.keys.Key.{Key}
use Rattle.host_values.specs.declared.kinds.Kind.{Kind}
use Rattle.host_values.specs.declared.values.ObjId.{ObjId}
use Rattle.host_values.specs.declared.values.HostValue.{HostValue}
use Rattle.host_convert.specs.Operators.{is_strictly_equal}
use Rattle.host_convert.specs.declared.conv.Conv.TheVariants as conv
use Rattle.iface_caches.specs.declared.external.ExternalKind.{ExternalKind}
use Rattle.iface_caches.specs.Caches.{AreDistinct, HostCaches, cached, extern_of, heap_with_object_of, kind_of, no_caches, object_of, with_extern, with_object_of}
use Rattle.iface_caches.specs.Agreement.{Agree, IsLater}
use Rattle.iface_caches.specs.Conversions.{IsCached, caches_with, heap_with, to_js, to_wasm, with_converted}
use Rattle.iface_caches.specs.Whole.{HoldsCached, IsWhole, count_of, is_cached_kind}

-- ---- what stays

abbrev pub NothingChanges : Type 0
NothingChanges = (c : HostCaches) → IsLater c c

abbrev pub LaterStays : Type 0
LaterStays = (c d e : HostCaches) → IsLater c d → IsLater d e → IsLater c e

-- ---- one object for each address

-- the object is of its address
abbrev pub ObjectIsOfAddress : Type 0
ObjectIsOfAddress = (h : HostHeap) (c : HostCaches) (k : ExternalKind) (a : ℕ) → Agree h c
    → (kind_at (heap_with_object_of c k a h) (object_of h c k a) ≡ Some (kind_of k a)) × IsLive (heap_with_object_of c k a h) (object_of h c k a)

-- whenever the address is asked for again it has the same object, and nothing changes
abbrev pub ObjectIsFoundAgain : Type 0
ObjectIsFoundAgain = (h g : HostHeap) (c d : HostCaches) (k : ExternalKind) (a : ℕ) → IsLater (with_object_of h k a c) d
    → (object_of g d k a ≡ object_of h c k a) × (with_object_of g k a d ≡ d) × (heap_with_object_of d k a g ≡ g)

-- one object is of one address
abbrev pub ObjectsDiffer : Type 0
ObjectsDiffer = (h : HostHeap) (c : HostCaches) (k l : ExternalKind) (a b : ℕ) (o : ObjId) → Agree h c → cached c k a ≡ Some o → cached c l b ≡ Some o → (k ≡ l) × (a ≡ b)

-- ---- one address for each value of the host

-- the address of a value is where that value stands
abbrev pub ExternIsAtAddress : Type 0
ExternIsAtAddress = (c : HostCaches) (v : HostValue) → slice_get (with_extern v c).externs (extern_of c v).0 ≡ Some v

-- whenever its address is asked for again it has the same one, and nothing changes
abbrev pub ExternIsFoundAgain : Type 0
ExternIsFoundAgain = (c d : HostCaches) (v : HostValue) → AreDistinct d.externs → IsLater (with_extern v c) d → (extern_of d v ≡ extern_of c v) × (with_extern v d ≡ d)

-- two values have one address exactly where they are strictly equal (ECMA-262, section 7.2.14)
abbrev pub ExternsAreOnePerValue : Type 0
ExternsAreOnePerValue = (c : HostCaches) (v x : HostValue) → (extern_of (with_extern v c) x ≡ extern_of c v) ↔ (is_strictly_equal v x ≡ true)

-- ---- conversions

-- a reference to a function that is converted is, whenever it is converted back, the value that it was made of
abbrev pub FunctionsComeBack : Type 0
FunctionsComeBack = (h g : HostHeap) (c d : HostCaches) (v : HostValue) (r : Value) → Agree h c → to_wasm h c v types.FuncRef ≡ conv.Value r → IsLater c d → to_js g d r ≡ v

-- and so is a reference to a value of the host
abbrev pub ExternsComeBack : Type 0
ExternsComeBack = (h g : HostHeap) (c d : HostCaches) (v : HostValue) (r : Value) → to_wasm h c v types.ExternRef ≡ conv.Value r → IsLater (with_converted v types.ExternRef c) d → to_js g d r ≡ v

-- what is converted has the type that was asked for, and is live
abbrev pub ConvertedIsTyped : Type 0
ConvertedIsTyped = (h : HostHeap) (s : Store) (c : HostCaches) (v : HostValue) (ty : ValType) (r : Value) → IsWhole h s c → to_wasm h c v ty ≡ conv.Value r
    → stores.HasType s r ty × IsCached (with_converted v ty c) r

-- what a script gets is live in the heap
abbrev pub ShownIsLive : Type 0
ShownIsLive = (h : HostHeap) (s : Store) (c : HostCaches) (r : Value) → IsWhole h s c → IsCached c r → IsLiveValue (heap_with c r h) (to_js h c r)

-- ---- wholeness

-- at the beginning
abbrev pub NothingAgrees : Type 0
NothingAgrees = (globals : ℕ) → Agree (fresh_heap globals) no_caches

abbrev pub NothingIsWhole : Type 0
NothingIsWhole = (globals : ℕ) → IsWhole (fresh_heap globals) empty_store no_caches

-- the object of a live address
abbrev pub ObjectsStayWhole : Type 0
ObjectsStayWhole = (h : HostHeap) (s : Store) (c : HostCaches) (k : ExternalKind) (a : ℕ) → IsWhole h s c → a < count_of s k → IsWhole (heap_with_object_of c k a h) s (with_object_of h k a c)

-- the address of a live value
abbrev pub ExternsStayWhole : Type 0
ExternsStayWhole = (h : HostHeap) (s : Store) (c : HostCaches) (v : HostValue) → IsWhole h s c → IsLiveValue h v → IsWhole h s (with_extern v c)

-- conversions of live values
abbrev pub ConversionsStayWhole : Type 0
ConversionsStayWhole = (h : HostHeap) (s : Store) (c : HostCaches) → IsWhole h s c
    → ((r : Value) → stores.IsLive s r → IsWhole (heap_with c r h) s (caches_with h r c))
    × ((v : HostValue) (ty : ValType) → IsLiveValue h v → IsWhole h s (with_converted v ty c))

-- an object that is of no address is added
abbrev pub OtherObjectsAgree : Type 0
OtherObjectsAgree = (h : HostHeap) (c : HostCaches) (k : Kind) (properties : List (Key × HostValue)) → is_cached_kind k ≡ false → Agree h c → Agree (with_object h k properties) c

abbrev pub OtherObjectsStayWhole : Type 0
OtherObjectsStayWhole = (h : HostHeap) (s : Store) (c : HostCaches) (k : Kind) (properties : List (Key × HostValue)) → is_cached_kind k ≡ false → IsWhole h s c → IsWhole (with_object h k properties) s c

-- objects are written, and stay live and of their kinds
abbrev pub WritingAgrees : Type 0
WritingAgrees = (h g : HostHeap) (c : HostCaches) → ((o : ObjId) → kind_at g o ≡ kind_at h o) → Agree h c → Agree g c

abbrev pub WritingStaysWhole : Type 0
WritingStaysWhole = (h g : HostHeap) (s : Store) (c : HostCaches) → ((o : ObjId) → (IsLive h o → IsLive g o) × (kind_at g o ≡ kind_at h o)) → IsWhole h s c → IsWhole g s c

-- the store changes
abbrev pub LaterStoresStayWhole : Type 0
LaterStoresStayWhole = (h : HostHeap) (s t : Store) (c : HostCaches) → stores.IsLater s t → HoldsCached t c → IsWhole h s c → IsWhole h t c
