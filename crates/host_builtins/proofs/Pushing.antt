-- Appending to an Array.
use Rattle.std.proofs.Common.{◌≡◌, ℕ, ◌+◌, ◌<◌, true, nat_lt, pos, [], length, Option, Some, None, if◌then◌else◌, ap, ◌∙◌, arith}
use Rattle.std.specs.Option.{option_map, option_map_or}
use Rattle.embed_base.specs.declared.outside.OutsideKind.TheVariants as outside
use Rattle.host_values.specs.Heaps.{object_at, properties_at}
use Rattle.host_values.specs.Members.{after_write, element_write, most_elements, write_to}
use Rattle.host_values.specs.Objects.{HostObject}
use Rattle.host_values.specs.declared.answers.Put.{Put}
use Rattle.host_values.specs.declared.answers.Put.TheVariants as puts
use Rattle.host_values.specs.declared.keys.Key.TheVariants as keys
use Rattle.host_values.specs.declared.kinds.Kind.{Kind}
use Rattle.host_values.specs.declared.kinds.Kind.TheVariants as kinds
use Rattle.host_values.specs.declared.values.HostValue.TheVariants as values
use Rattle.host_builtins.specs.Calls.{Answer, put_reply, unchanged, written_giving}
use Rattle.host_builtins.specs.Laws.{PushingAppends}
use Rattle.host_builtins.specs.declared.replies.Reply.TheVariants as replies

-- an element behind the last one is written below the limit
element_done : (n : ℕ) → n < most_elements → element_write n n ≡ puts.Done
element_done n below = grind arith

-- the write of an Array, by the object that is found
array_done : (found : Option HostObject) → option_map (λ (x : HostObject). x.kind) found ≡ Some kinds.Array
    → length (option_map_or (λ (x : HostObject). x.properties) found []) < most_elements
    → option_map_or (λ (x : HostObject). write_to x.kind x.properties (keys.Index (length (option_map_or (λ (y : HostObject). y.properties) found [])))) found puts.Interface ≡ puts.Done
array_done None is below = absurd (cc is)
array_done (Some x) is below =
    let kind : x.kind ≡ kinds.Array = ap (λ k. option_map_or (λ (j : Kind). j) k kinds.Plain) is in
    ap (λ k. write_to k x.properties (keys.Index (length x.properties))) kind ∙ element_done (length x.properties) below

pub pushing_appends : PushingAppends
pushing_appends h o v is below =
    let len = length (properties_at h o) in
    let fits : nat_lt len most_elements ≡ true = grind arith in
    let given = values.Number (pos (len + 1)) in
    let answer : Put → Answer = λ p. record { reply = put_reply given p; heap = after_write p h (values.Object o) (keys.Index len) v } in
    ap (λ b. if b then written_giving h given o (keys.Index len) v else unchanged h (replies.Outside outside.ArraySize)) fits
    ∙ ap answer (array_done (object_at h o) is below)
