-- What calls of predefined objects come to, and the heap after them (ECMA-262, sections 20.1.2.18, 20.5.1.1, 20.5.6.1.1 and
-- 23.1.3.23, in the profile).
use Rattle.std.specs.Prelude.{ℕ, ◌+◌, Bool, true, false, nat_le, nat_lt, pos, List, [], ◌∷◌, length, map, if◌then◌else◌, codes}
use Rattle.std.specs.Map.{keys_of}
use Rattle.std.specs.Option.{option_map_or}
use Rattle.std.specs.Str.{bytes_eq}
use Rattle.embed_base.specs.declared.outside.OutsideKind.TheVariants as outside
use Rattle.host_values.specs.Heaps.{kind_at, next_object, properties_at, with_object}
use Rattle.host_values.specs.KeyOrder.{ordered_keys, text_of_key}
use Rattle.host_values.specs.Members.{elements_of, most_elements, write_of, written}
use Rattle.host_values.specs.Objects.{HostHeap}
use Rattle.host_values.specs.declared.answers.Put.{Put}
use Rattle.host_values.specs.declared.answers.Put.TheVariants as puts
use Rattle.host_values.specs.declared.classes.Class.{Class}
use Rattle.host_values.specs.declared.classes.Class.TheVariants as classes
use Rattle.host_values.specs.declared.keys.Key.{Key}
use Rattle.host_values.specs.declared.keys.Key.TheVariants as keys
use Rattle.host_values.specs.declared.kinds.Kind.{Kind}
use Rattle.host_values.specs.declared.kinds.Kind.TheVariants as kinds
use Rattle.host_values.specs.declared.values.ErrorClass.{ErrorClass}
use Rattle.host_values.specs.declared.values.ErrorClass.TheVariants as errors
use Rattle.host_values.specs.declared.values.HostValue.{HostValue}
use Rattle.host_values.specs.declared.values.HostValue.TheVariants as values
use Rattle.host_values.specs.declared.values.ObjId.{ObjId}
use Rattle.host_convert.specs.declared.conv.Conv.{Conv}
use Rattle.host_convert.specs.declared.conv.Conv.TheVariants as conv
use Rattle.host_builtins.specs.Replies.{error_class, first_argument, message_of, plain_call, plain_construct}
use Rattle.host_builtins.specs.declared.replies.Reply.{Reply}
use Rattle.host_builtins.specs.declared.replies.Reply.TheVariants as replies

-- what a call comes to, and the heap after it
pub record Answer : Type 0 where
  pub reply : Reply
  pub heap : HostHeap

-- a reply that leaves the heap as it was
abbrev pub unchanged : HostHeap → Reply → Answer
unchanged h r = record { reply = r; heap = h }

-- a new object of this kind with these properties
abbrev pub made : HostHeap → Kind → List (Key × HostValue) → Answer
made h k properties = record { reply = replies.Value (values.Object (next_object h)); heap = with_object h k properties }

-- an error whose message was converted (20.5.1.1 and 20.5.6.1.1; WebAssembly JavaScript Interface, section 5.10)
abbrev pub error_made : HostHeap → ErrorClass → Conv (List ℕ) → Answer
error_made h class (conv.Value message) = made h (kinds.Error class message) []
error_made h class (conv.Throw thrown) = unchanged h (replies.Throw thrown)
error_made h class (conv.Outside kind) = unchanged h (replies.Outside kind)

-- what a predefined object does that makes errors, with or without `new`, or that doesn't
abbrev pub error_or : HostHeap → Reply → Class → List HostValue → Answer
error_or h otherwise class args = option_map_or (λ e. error_made h e (message_of args)) (error_class class) (unchanged h otherwise)

-- a call of a predefined object without `new`
abbrev pub call_of : HostHeap → Class → List HostValue → Answer
call_of h class args = error_or h (plain_call class args) class args

-- and with `new`
abbrev pub construct_of : HostHeap → Class → List HostValue → Answer
construct_of h class args = error_or h (plain_construct class) class args

-- whether `Object.keys` takes an object of this kind
abbrev pub has_keys : Kind → Bool
has_keys kinds.Plain = true
has_keys kinds.Exports = true
has_keys kinds.Array = true
has_keys _ = false

-- keys as an Array of their texts, which is no longer than its limit
abbrev pub texts_made : HostHeap → List Key → Answer
texts_made h ks =
    if nat_le (length ks) most_elements then made h kinds.Array (elements_of (map (λ k. values.Text (text_of_key k)) ks))
    else unchanged h (replies.Outside outside.ArraySize)

-- the keys of an object, the indices first
abbrev pub object_keys : HostHeap → ObjId → Answer
object_keys h o =
    if option_map_or has_keys (kind_at h o) false then texts_made h (ordered_keys (keys_of (properties_at h o)))
    else unchanged h (replies.Outside outside.Argument)

-- `Object.keys(v)` (20.1.2.18)
abbrev pub keys_call : HostHeap → HostValue → Answer
keys_call h values.Undefined = unchanged h (replies.Throw errors.TypeError)
keys_call h values.Null = unchanged h (replies.Throw errors.TypeError)
keys_call h (values.Object o) = object_keys h o
keys_call h _ = unchanged h (replies.Outside outside.Argument)

-- whether a function of a predefined object is `Object.keys`
abbrev pub is_object_keys : Class → List ℕ → Bool
is_object_keys classes.Object name = bytes_eq name (codes "keys")
is_object_keys _ name = false

-- a call of a function of a predefined object
abbrev pub member_call_of : HostHeap → Class → List ℕ → List HostValue → Answer
member_call_of h class name args = if is_object_keys class name then keys_call h (first_argument args) else unchanged h replies.Interface

-- what a write comes to that was to give this value
abbrev pub put_reply : HostValue → Put → Reply
put_reply v puts.Done = replies.Value v
put_reply v (puts.Throw class) = replies.Throw class
put_reply v (puts.Outside kind) = replies.Outside kind
put_reply v puts.Interface = replies.Interface

-- a write of a member that gives this value where it is done
abbrev pub written_giving : HostHeap → HostValue → ObjId → Key → HostValue → Answer
written_giving h given o k v = record { reply = put_reply given (write_of h (values.Object o) k); heap = written h (values.Object o) k v }

-- a value written behind so many elements, which gives the new length
abbrev pub pushed : HostHeap → ObjId → ℕ → HostValue → Answer
pushed h o len v =
    if nat_lt len most_elements then written_giving h (values.Number (pos (len + 1))) o (keys.Index len) v
    else unchanged h (replies.Outside outside.ArraySize)

-- `push(v)` of an Array (23.1.3.23), which takes exactly one argument
abbrev pub push_of : HostHeap → ObjId → List HostValue → Answer
push_of h o (v ∷ []) = pushed h o (length (properties_at h o)) v
push_of h o _ = unchanged h (replies.Outside outside.Argument)
