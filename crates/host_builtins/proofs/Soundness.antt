-- What calls come to is live, in a later heap.
use Rattle.std.proofs.Common.{ℕ, Bool, true, false, ◌+◌, nat_lt, pos, List, [], ◌∷◌, length, Option, Some, None, if◌then◌else◌, refl, ap}
use Rattle.std.specs.Map.{keys_of}
use Rattle.std.specs.Option.{option_map, option_map_or}
use Rattle.embed_base.specs.declared.outside.OutsideKind.TheVariants as outside
use Rattle.host_values.specs.Heaps.{IsLive, IsLiveValue, properties_at, with_object}
use Rattle.host_values.specs.KeyOrder.{ordered_keys}
use Rattle.host_values.specs.Laws.{AddedIsFresh, AddingKeepsObjects, WritingKeepsKinds}
use Rattle.host_values.specs.Members.{most_elements, write_of, written}
use Rattle.host_values.specs.Objects.{HostObject, HostHeap}
use Rattle.host_values.specs.declared.answers.Put.{Put}
use Rattle.host_values.specs.declared.answers.Put.TheVariants as puts
use Rattle.host_values.specs.declared.classes.Class.{Class}
use Rattle.host_values.specs.declared.classes.Class.TheVariants as classes
use Rattle.host_values.specs.declared.keys.Key.{Key}
use Rattle.host_values.specs.declared.keys.Key.TheVariants as keys
use Rattle.host_values.specs.declared.kinds.Kind.{Kind}
use Rattle.host_values.specs.declared.kinds.Kind.TheVariants as kinds
use Rattle.host_values.specs.declared.values.ErrorClass.{ErrorClass}
use Rattle.host_values.specs.declared.values.ErrorClass.TheVariants as errors
use Rattle.host_values.specs.declared.values.HostValue.{HostValue}
use Rattle.host_values.specs.declared.values.HostValue.TheVariants as values
use Rattle.host_values.specs.declared.values.ObjId.{ObjId}
use Rattle.host_convert.specs.Conversions.{to_string}
use Rattle.host_convert.specs.declared.conv.Conv.{Conv}
use Rattle.host_convert.specs.declared.conv.Conv.TheVariants as conv
use Rattle.host_builtins.specs.Calls.{error_made, is_object_keys, keys_call, made, put_reply, texts_made, unchanged, written_giving}
use Rattle.host_builtins.specs.Laws.{CallsAreSound, ConstructionsAreSound, IsLiveReply, IsSound, MemberCallsAreSound, PushesAreSound}
use Rattle.host_builtins.specs.Replies.{big_int_of_value, error_class, first_argument, message_of, number_of_value, plain_call, plain_construct, reply_of, text_reply}
use Rattle.host_builtins.specs.declared.replies.Reply.{Reply}
use Rattle.host_builtins.specs.declared.replies.Reply.TheVariants as replies

-- where objects stay live, values do
live_from : (h g : HostHeap) → ((o : ObjId) → IsLive h o → IsLive g o) → (v : HostValue) → IsLiveValue h v → IsLiveValue g v
live_from h g stay (values.Object o) live = stay o live
live_from h g stay values.Undefined live = tt
live_from h g stay values.Null live = tt
live_from h g stay (values.Bool b) live = tt
live_from h g stay (values.Number z) live = tt
live_from h g stay (values.BigInt z) live = tt
live_from h g stay (values.Text s) live = tt

unchanged_sound : (h : HostHeap) (r : Reply) → IsLiveReply h r → IsSound h (unchanged h r)
unchanged_sound h r live = record { later = record { live = λ v l. l; kinds = λ o l. refl }; live = live }

number_live : (h : HostHeap) (b : Bool) (v : HostValue) → IsLiveValue h v → IsLiveReply h (reply_of (if b then conv.Value v else conv.Outside outside.Number))
number_live h true v live = live
number_live h false v live = tt

number_of_value_live : (h : HostHeap) (v : HostValue) → IsLiveReply h (number_of_value v)
number_of_value_live h values.Undefined = tt
number_of_value_live h values.Null = tt
number_of_value_live h (values.Bool b) = tt
number_of_value_live h (values.Number z) = tt
number_of_value_live h (values.BigInt z) = number_live h _ (values.Number z) tt
number_of_value_live h (values.Text s) = tt
number_of_value_live h (values.Object o) = tt

big_int_live : (h : HostHeap) (v : HostValue) → IsLiveReply h (big_int_of_value v)
big_int_live h values.Undefined = tt
big_int_live h values.Null = tt
big_int_live h (values.Bool b) = tt
big_int_live h (values.Number z) = tt
big_int_live h (values.BigInt z) = tt
big_int_live h (values.Text s) = tt
big_int_live h (values.Object o) = tt

text_live : (h : HostHeap) (text : Conv (List ℕ)) → IsLiveReply h (text_reply text)
text_live h (conv.Value s) = tt
text_live h (conv.Throw class) = tt
text_live h (conv.Outside kind) = tt

call_live : (h : HostHeap) (class : Class) (args : List HostValue) → IsLiveReply h (plain_call class args)
call_live h classes.Print args = tt
call_live h classes.Readbuffer args = tt
call_live h classes.Utf8Text args = tt
call_live h classes.Object args = tt
call_live h classes.BigInt args = big_int_live h (first_argument args)
call_live h classes.Number [] = tt
call_live h classes.Number (v ∷ rest) = number_of_value_live h v
call_live h classes.String [] = tt
call_live h classes.String (v ∷ rest) = text_live h (to_string v)
call_live h classes.Promise args = tt
call_live h classes.Uint8Array args = tt
call_live h classes.Error args = tt
call_live h classes.TypeError args = tt
call_live h classes.RangeError args = tt
call_live h classes.ReferenceError args = tt
call_live h classes.SyntaxError args = tt
call_live h classes.WebAssembly args = tt
call_live h classes.Module args = tt
call_live h classes.Instance args = tt
call_live h classes.Memory args = tt
call_live h classes.Table args = tt
call_live h classes.Global args = tt
call_live h classes.Suspending args = tt
call_live h classes.CompileError args = tt
call_live h classes.LinkError args = tt
call_live h classes.RuntimeError args = tt
call_live h classes.SuspendError args = tt

construct_live : (h : HostHeap) (class : Class) → IsLiveReply h (plain_construct class)
construct_live h classes.Print = tt
construct_live h classes.Readbuffer = tt
construct_live h classes.Utf8Text = tt
construct_live h classes.Object = tt
construct_live h classes.BigInt = tt
construct_live h classes.Number = tt
construct_live h classes.String = tt
construct_live h classes.Promise = tt
construct_live h classes.Uint8Array = tt
construct_live h classes.Error = tt
construct_live h classes.TypeError = tt
construct_live h classes.RangeError = tt
construct_live h classes.ReferenceError = tt
construct_live h classes.SyntaxError = tt
construct_live h classes.WebAssembly = tt
construct_live h classes.Module = tt
construct_live h classes.Instance = tt
construct_live h classes.Memory = tt
construct_live h classes.Table = tt
construct_live h classes.Global = tt
construct_live h classes.Suspending = tt
construct_live h classes.CompileError = tt
construct_live h classes.LinkError = tt
construct_live h classes.RuntimeError = tt
construct_live h classes.SuspendError = tt

put_live : (h : HostHeap) (v : HostValue) (answer : Put) → IsLiveValue h v → IsLiveReply h (put_reply v answer)
put_live h v puts.Done live = live
put_live h v (puts.Throw class) live = tt
put_live h v (puts.Outside kind) live = tt
put_live h v puts.Interface live = tt

-- what follows of the laws of the heap
module _ (fresh : AddedIsFresh) (keeps : AddingKeepsObjects) (writing : WritingKeepsKinds) where
  made_sound : (h : HostHeap) (k : Kind) (properties : List (Key × HostValue)) → IsSound h (made h k properties)
  made_sound h k properties =
      record {
        later =
            record {
              live = live_from h (with_object h k properties) (λ o live. (keeps h k properties o live).0);
              kinds = λ o live. ap (option_map (λ (x : HostObject). x.kind)) (keeps h k properties o live).1;
            };
        live = (fresh h k properties).1;
      }

  error_sound : (h : HostHeap) (class : ErrorClass) (message : Conv (List ℕ)) → IsSound h (error_made h class message)
  error_sound h class (conv.Value message) = made_sound h (kinds.Error class message) []
  error_sound h class (conv.Throw thrown) = unchanged_sound h (replies.Throw thrown) tt
  error_sound h class (conv.Outside kind) = unchanged_sound h (replies.Outside kind) tt

  either_sound : (h : HostHeap) (r : Reply) (message : Conv (List ℕ)) (class : Option ErrorClass) → IsLiveReply h r
      → IsSound h (option_map_or (λ e. error_made h e message) class (unchanged h r))
  either_sound h r message None live = unchanged_sound h r live
  either_sound h r message (Some class) live = error_sound h class message

  pub calls_sound : CallsAreSound
  calls_sound h class args = either_sound h (plain_call class args) (message_of args) (error_class class) (call_live h class args)

  pub constructions_sound : ConstructionsAreSound
  constructions_sound h class args = either_sound h (plain_construct class) (message_of args) (error_class class) (construct_live h class)

  texts_sound : (h : HostHeap) (fits : Bool) (properties : List (Key × HostValue))
      → IsSound h (if fits then made h kinds.Array properties else unchanged h (replies.Outside outside.ArraySize))
  texts_sound h true properties = made_sound h kinds.Array properties
  texts_sound h false properties = unchanged_sound h (replies.Outside outside.ArraySize) tt

  object_keys_sound : (h : HostHeap) (has : Bool) (ks : List Key) → IsSound h (if has then texts_made h ks else unchanged h (replies.Outside outside.Argument))
  object_keys_sound h true ks = texts_sound h _ _
  object_keys_sound h false ks = unchanged_sound h (replies.Outside outside.Argument) tt

  keys_sound : (h : HostHeap) (v : HostValue) → IsSound h (keys_call h v)
  keys_sound h values.Undefined = unchanged_sound h (replies.Throw errors.TypeError) tt
  keys_sound h values.Null = unchanged_sound h (replies.Throw errors.TypeError) tt
  keys_sound h (values.Bool b) = unchanged_sound h (replies.Outside outside.Argument) tt
  keys_sound h (values.Number z) = unchanged_sound h (replies.Outside outside.Argument) tt
  keys_sound h (values.BigInt z) = unchanged_sound h (replies.Outside outside.Argument) tt
  keys_sound h (values.Text s) = unchanged_sound h (replies.Outside outside.Argument) tt
  keys_sound h (values.Object o) = object_keys_sound h _ (ordered_keys (keys_of (properties_at h o)))

  member_sound : (h : HostHeap) (is : Bool) (v : HostValue) → IsSound h (if is then keys_call h v else unchanged h replies.Interface)
  member_sound h true v = keys_sound h v
  member_sound h false v = unchanged_sound h replies.Interface tt

  pub member_calls_sound : MemberCallsAreSound
  member_calls_sound h class name args = member_sound h (is_object_keys class name) (first_argument args)

  written_sound : (h : HostHeap) (given : HostValue) (o : ObjId) (k : Key) (v : HostValue) → ((g : HostHeap) → IsLiveValue g given) → IsSound h (written_giving h given o k v)
  written_sound h given o k v live =
      record {
        later =
            record {
              live = live_from h (written h (values.Object o) k v) (λ p live. (writing h (values.Object o) k v p).0 live);
              kinds = λ p live. (writing h (values.Object o) k v p).1;
            };
        live = put_live (written h (values.Object o) k v) given (write_of h (values.Object o) k) (live (written h (values.Object o) k v));
      }

  pushed_sound : (h : HostHeap) (fits : Bool) (o : ObjId) (k : Key) (v : HostValue) (n : ℕ)
      → IsSound h (if fits then written_giving h (values.Number (pos n)) o k v else unchanged h (replies.Outside outside.ArraySize))
  pushed_sound h true o k v n = written_sound h (values.Number (pos n)) o k v (λ g. tt)
  pushed_sound h false o k v n = unchanged_sound h (replies.Outside outside.ArraySize) tt

  pub pushes_sound : PushesAreSound
  pushes_sound h o [] = unchanged_sound h (replies.Outside outside.Argument) tt
  pushes_sound h o (v ∷ []) =
      pushed_sound h (nat_lt (length (properties_at h o)) most_elements) o (keys.Index (length (properties_at h o))) v (length (properties_at h o) + 1)
  pushes_sound h o (v ∷ w ∷ rest) = unchanged_sound h (replies.Outside outside.Argument) tt
