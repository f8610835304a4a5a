-- What scripts do to the heap by themselves: they make objects of three kinds, write members and set global bindings.
use Rattle.std.specs.Prelude.{◌≡◌, ◌⊎◌, ℕ, List, Some}
use Rattle.host_parser.specs.Trees.{Tree}
use Rattle.host_values.specs.Heaps.{kind_at, with_binding, with_object}
use Rattle.host_values.specs.Members.{written}
use Rattle.host_values.specs.Objects.{HostHeap}
use Rattle.host_values.specs.declared.keys.Key.{Key}
use Rattle.host_values.specs.declared.kinds.Kind.{Kind}
use Rattle.host_values.specs.declared.kinds.Kind.TheVariants as kinds
use Rattle.host_values.specs.declared.values.HostValue.{HostValue}
use Rattle.host_values.specs.declared.values.ObjId.{ObjId}
use Rattle.host_machine.specs.declared.effect.HostEffect.{HostEffect}
use Rattle.host_machine.specs.Terms.{HostTerm, State}
use Rattle.host_machine.specs.Frames.{Makes}

-- the kinds of the objects that a script makes by itself
abbrev pub IsOwnKind : Kind → Type 0
IsOwnKind kinds.Plain = Unit {0}
IsOwnKind kinds.Array = Unit {0}
IsOwnKind (kinds.Error class message) = Unit {0}
IsOwnKind _ = ⊥

-- one heap becomes another: an object of such a kind is made, a member is written, a global binding is set, and so on
pub data Changes : HostHeap → HostHeap → Type 0 where
  nothing : (h : HostHeap) → Changes h h
  made : (h : HostHeap) (k : Kind) (properties : List (Key × HostValue)) → IsOwnKind k → Changes h (with_object h k properties)
  wrote : (h : HostHeap) (o : HostValue) (k : Key) (v : HostValue) → Changes h (written h o k v)
  bound : (h : HostHeap) (n : ℕ) (v : HostValue) → Changes h (with_binding h n v)
  through : (h g i : HostHeap) → Changes h g → Changes g i → Changes h i

-- a step of a frame changes the heap in these ways alone
abbrev pub StepsChange : Type 0
StepsChange = (s : Tree) (st : State) (t : HostTerm) (e : HostEffect) (r : State) (u : HostTerm) → Makes s st t e r u → Changes st.heap r.heap

-- so each object keeps its kind
abbrev pub KindsStay : Type 0
KindsStay = (h g : HostHeap) → Changes h g → (o : ObjId) (k : Kind) → kind_at h o ≡ Some k → kind_at g o ≡ Some k

-- and each one that is new is of a kind that a script makes
abbrev pub NewKindsAreOwn : Type 0
NewKindsAreOwn = (h g : HostHeap) → Changes h g → (o : ObjId) (k : Kind) → kind_at g o ≡ Some k → (kind_at h o ≡ Some k) ⊎ IsOwnKind k
