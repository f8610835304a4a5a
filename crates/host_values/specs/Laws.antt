-- Laws of the heap for its callers. `src/laws.rt` has a function for each, whose contract is the law.
use Rattle.std.specs.Prelude.{◌≡◌, ℕ, List, Some, true}
use Rattle.host_values.specs.Objects.{HostObject, HostHeap}
use Rattle.host_values.specs.Heaps.{IsLive, kind_at, next_object, object_at, with_binding, with_object, with_property}
use Rattle.host_values.specs.KeyOrder.{index_of, key_of_text, text_of_key}
use Rattle.host_values.specs.Members.{written}
use Rattle.host_values.specs.SameKeys.{same_key}
use Rattle.host_values.specs.declared.keys.Key.{Key}
use Rattle.host_values.specs.declared.kinds.Kind.{Kind}
use Rattle.host_values.specs.declared.values.HostValue.{HostValue}
use Rattle.host_values.specs.declared.values.ObjId.{ObjId}

-- an object that is added is none of those before it, and has its kind and properties
abbrev pub AddedIsFresh : Type 0
AddedIsFresh = (h : HostHeap) (k : Kind) (properties : List (Key × HostValue)) → ¬ (IsLive h (next_object h))
    × IsLive (with_object h k properties) (next_object h)
    × (object_at (with_object h k properties) (next_object h) ≡ Some (record { kind = k; properties = properties }))

-- the objects before it stay live and as they were
abbrev pub AddingKeepsObjects : Type 0
AddingKeepsObjects = (h : HostHeap) (k : Kind) (properties : List (Key × HostValue)) (o : ObjId) → IsLive h o
    → IsLive (with_object h k properties) o × (object_at (with_object h k properties) o ≡ object_at h o)

-- a write leaves each object live, and of its kind
abbrev pub WritingKeepsKinds : Type 0
WritingKeepsKinds = (h : HostHeap) (target : HostValue) (key : Key) (value : HostValue) (o : ObjId)
    → (IsLive h o → IsLive (written h target key value) o) × (kind_at (written h target key value) o ≡ kind_at h o)

-- and each object but that to which it writes as it was
abbrev pub WritingKeepsOthers : Type 0
WritingKeepsOthers = (h : HostHeap) (o : ObjId) (key : Key) (value : HostValue) (other : ObjId) → ¬ (other.0 ≡ o.0)
    → object_at (with_property h o key value) other ≡ object_at h other

-- a binding that is set leaves the objects as they were
abbrev pub BindingKeepsObjects : Type 0
BindingKeepsObjects = (h : HostHeap) (n : ℕ) (value : HostValue) → (with_binding h n value).objects ≡ h.objects

-- keys that are the same are equal
abbrev pub SameKeysAreEqual : Type 0
SameKeysAreEqual = (a b : Key) → same_key a b ≡ true → a ≡ b
