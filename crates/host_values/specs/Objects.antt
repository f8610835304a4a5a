-- What the heap is: a list of objects and a list of bindings (ECMA-262, sections 6.1.7 and 9.1).
use Rattle.std.specs.Prelude.{List, Option}
use Rattle.host_values.specs.declared.keys.Key.{Key}
use Rattle.host_values.specs.declared.kinds.Kind.{Kind}
use Rattle.host_values.specs.declared.values.HostValue.{HostValue}

-- an object: what it is, and its properties in order of creation
pub record HostObject : Type 0 where
  pub kind : Kind
  pub properties : List (Key × HostValue)

-- a heap: its objects by their numbers, and its global bindings, of which an unset one has no value
pub record HostHeap : Type 0 where
  pub objects : List HostObject
  pub bindings : List (Option HostValue)
