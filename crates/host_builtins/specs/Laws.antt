-- Laws of the calls for their callers. `src/laws.rt` has a function whose contract they are.
use Rattle.std.specs.Prelude.{◌≡◌, ℕ, ◌+◌, ◌<◌, pos, List, [], ◌∷◌, length, Some}
use Rattle.host_values.specs.Objects.{HostHeap}
use Rattle.host_values.specs.Heaps.{IsLive, IsLiveValue, kind_at, properties_at, with_property}
use Rattle.host_values.specs.Members.{most_elements}
use Rattle.host_values.specs.declared.classes.Class.{Class}
use Rattle.host_values.specs.declared.keys.Key.TheVariants as keys
use Rattle.host_values.specs.declared.kinds.Kind.TheVariants as kinds
use Rattle.host_values.specs.declared.values.HostValue.{HostValue}
use Rattle.host_values.specs.declared.values.HostValue.TheVariants as values
use Rattle.host_values.specs.declared.values.ObjId.{ObjId}
use Rattle.host_builtins.specs.Calls.{Answer, call_of, construct_of, member_call_of, push_of}
use Rattle.host_builtins.specs.declared.replies.Reply.{Reply}
use Rattle.host_builtins.specs.declared.replies.Reply.TheVariants as replies

-- a heap that has the objects of an earlier one, of the same kinds
pub record IsLaterHeap (before after : HostHeap) : Type 0 where
  pub live : (v : HostValue) → IsLiveValue before v → IsLiveValue after v
  pub kinds : (o : ObjId) → IsLive before o → kind_at after o ≡ kind_at before o

-- whether the value of a reply, where it has one, is one of the heap
abbrev pub IsLiveReply : HostHeap → Reply → Type 0
IsLiveReply h (replies.Value v) = IsLiveValue h v
IsLiveReply h _ = Unit {0}

-- an answer whose heap is later, and has the value that is given
pub record IsSound (h : HostHeap) (a : Answer) : Type 0 where
  pub later : IsLaterHeap h a.heap
  pub live : IsLiveReply a.heap a.reply

-- each call has one
abbrev pub CallsAreSound : Type 0
CallsAreSound = (h : HostHeap) (class : Class) (args : List HostValue) → IsSound h (call_of h class args)

abbrev pub ConstructionsAreSound : Type 0
ConstructionsAreSound = (h : HostHeap) (class : Class) (args : List HostValue) → IsSound h (construct_of h class args)

abbrev pub MemberCallsAreSound : Type 0
MemberCallsAreSound = (h : HostHeap) (class : Class) (name : List ℕ) (args : List HostValue) → IsSound h (member_call_of h class name args)

abbrev pub PushesAreSound : Type 0
PushesAreSound = (h : HostHeap) (o : ObjId) (args : List HostValue) → IsSound h (push_of h o args)

-- `push` of an Array that isn't full writes the element behind the last one, and gives the new length
abbrev pub PushingAppends : Type 0
PushingAppends = (h : HostHeap) (o : ObjId) (v : HostValue) → kind_at h o ≡ Some kinds.Array → length (properties_at h o) < most_elements
    → let len = length (properties_at h o) in
    push_of h o (v ∷ []) ≡ record { reply = replies.Value (values.Number (pos (len + 1))); heap = with_property h o (keys.Index len) v }
