-- The heap: objects with their properties, and global bindings (ECMA-262, sections 6.1.7, 9.1 and 10.1).
use Rattle.std.specs.Prelude.{◌≡◌, ℕ, ◌<◌, Bool, true, false, List, [], ◌∷◌, ◌++◌, length, Option, Some, None, slice_get, slice_set, replicate}
use Rattle.std.specs.Option.{option_map, option_map_or}
use Rattle.std.specs.List.{AllByRecursion}
use Rattle.indexmap.specs.IndexMap.{insert_entry}
use Rattle.host_values.specs.SameKeys.{same_key}
use Rattle.host_values.specs.Objects.{HostObject, HostHeap}
use Rattle.host_values.specs.declared.keys.Key.{Key}
use Rattle.host_values.specs.declared.kinds.Kind.{Kind}
use Rattle.host_values.specs.declared.kinds.Kind.TheVariants as kinds
use Rattle.host_values.specs.declared.kinds.Callee.TheVariants as callees
use Rattle.host_values.specs.declared.values.ObjId.{ObjId}
use Rattle.host_values.specs.declared.values.HostValue.{HostValue}
use Rattle.host_values.specs.declared.values.HostValue.TheVariants as values

-- no two of these pairs have the same key
abbrev pub HasDistinctKeys : List (Key × HostValue) → Type 0
HasDistinctKeys [] = Unit {0}
HasDistinctKeys (p ∷ rest) = AllByRecursion (λ q. same_key p.0 q.0 ≡ false) rest × HasDistinctKeys rest

-- the object of a number
abbrev pub object_at : HostHeap → ObjId → Option HostObject
object_at h o = slice_get h.objects o.0

-- its kind
abbrev pub kind_at : HostHeap → ObjId → Option Kind
kind_at h o = option_map (λ x. x.kind) (object_at h o)

-- its properties in order of creation; none where there is no such object
abbrev pub properties_at : HostHeap → ObjId → List (Key × HostValue)
properties_at h o = option_map_or (λ x. x.properties) (object_at h o) []

-- whether an object of this kind can be called
abbrev pub is_function : Kind → Bool
is_function (kinds.Function callee) = true
is_function _ = false

-- whether a value is a function (ECMA-262, section 7.2.3)
abbrev pub is_callable : HostHeap → HostValue → Bool
is_callable h (values.Object o) = option_map_or is_function (kind_at h o) false
is_callable h _ = false

-- whether a number is that of an object
abbrev pub IsLive : HostHeap → ObjId → Type 0
IsLive h o = o.0 < length h.objects

-- whether a value that is an object names one of the heap
abbrev pub IsLiveValue : HostHeap → HostValue → Type 0
IsLiveValue h (values.Object o) = IsLive h o
IsLiveValue h _ = Unit {0}

-- a heap whose only object is the function `print`, with so many unset bindings
abbrev pub fresh_heap : ℕ → HostHeap
fresh_heap globals = record { objects = record { kind = kinds.Function callees.Print; properties = [] } ∷ []; bindings = replicate globals None }

-- the number of the next object
abbrev pub next_object : HostHeap → ObjId
next_object h = record { 0 = length h.objects }

-- the heap with one more object
abbrev pub with_object : HostHeap → Kind → List (Key × HostValue) → HostHeap
with_object h k properties = record h { objects = h.objects ++ record { kind = k; properties = properties } ∷ [] }

-- an object with a property: one that is there keeps its place and takes the value, and a new one goes last
abbrev pub object_with : HostObject → Key → HostValue → HostObject
object_with x k v = record x { properties = insert_entry same_key x.properties k v }

-- the heap with a property at an object
abbrev pub with_property : HostHeap → ObjId → Key → HostValue → HostHeap
with_property h o k v = record h { objects = option_map_or (λ x. slice_set h.objects o.0 (object_with x k v)) (object_at h o) h.objects }

-- the heap with a value at a binding
abbrev pub with_binding : HostHeap → ℕ → HostValue → HostHeap
with_binding h n v = record h { bindings = slice_set h.bindings n (Some v) }
