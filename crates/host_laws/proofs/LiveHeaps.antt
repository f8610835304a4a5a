-- What is live in a heap, and after it changed.
use Rattle.std.proofs.Common.{◌≡◌, ℕ, zero, suc, ◌+◌, ◌<◌, Bool, true, false, ◌||◌, pos, List, [], ◌∷◌, ◌++◌, length, map, Option, Some, None, nat_le, nat_lt, slice_get, slice_set, take, replicate, if◌then◌else◌, codes, refl, sym, subst, arith}
use Rattle.std.specs.List.{AllByRecursion}
use Rattle.std.specs.Map.{keys_of, lookup}
use Rattle.std.specs.Option.{IfSome, option_map_or}
use Rattle.std.specs.Str.{bytes_eq}
use Rattle.std.proofs.lemmas.List.{length-append, length-set}
use Rattle.embed_base.specs.declared.outside.OutsideKind.TheVariants as outside
use Rattle.host_values.specs.ErrorNames.{class_name}
use Rattle.host_values.specs.Heaps.{IsLive, IsLiveValue, fresh_heap, next_object, object_at, object_with, properties_at, with_binding, with_object, with_property}
use Rattle.host_values.specs.KeyOrder.{ordered_keys, text_of_key}
use Rattle.host_values.specs.Members.{after_write, array_member, callee_length, elements_from, elements_of, error_member, greatest_number, is_inherited, is_name, length_member, member_of, most_elements, own_or, read_of, text_member, utf16_length, write_of, written}
use Rattle.host_values.specs.Objects.{HostObject, HostHeap}
use Rattle.host_values.specs.SameKeys.{same_key}
use Rattle.host_values.specs.declared.answers.Got.{Got}
use Rattle.host_values.specs.declared.answers.Got.TheVariants as got
use Rattle.host_values.specs.declared.answers.Put.{Put}
use Rattle.host_values.specs.declared.answers.Put.TheVariants as put
use Rattle.host_values.specs.declared.classes.Class.{Class}
use Rattle.host_values.specs.declared.keys.Key.{Key}
use Rattle.host_values.specs.declared.keys.Key.TheVariants as keys
use Rattle.host_values.specs.declared.kinds.Callee.{Callee}
use Rattle.host_values.specs.declared.kinds.Callee.TheVariants as callees
use Rattle.host_values.specs.declared.kinds.Kind.{Kind}
use Rattle.host_values.specs.declared.kinds.Kind.TheVariants as kinds
use Rattle.host_values.specs.declared.values.ErrorClass.{ErrorClass}
use Rattle.host_values.specs.declared.values.HostValue.{HostValue}
use Rattle.host_values.specs.declared.values.HostValue.TheVariants as values
use Rattle.host_values.specs.declared.values.ObjId.{ObjId}
use Rattle.host_convert.specs.declared.conv.Conv.{Conv}
use Rattle.host_convert.specs.declared.conv.Conv.TheVariants as conv
use Rattle.host_builtins.specs.Calls as builtins
use Rattle.host_builtins.specs.Calls.{Answer}
use Rattle.host_builtins.specs.Replies.{error_class, first_argument, message_of, plain_call, plain_construct}
use Rattle.host_builtins.specs.declared.replies.Reply.{Reply}
use Rattle.host_laws.specs.Live.{AreLiveBindings, AreLiveProperties, AreLiveValues, FreshHeapsAreLive, HeapsStayLive, IsLiveHeap}

-- ---- lists

pub all_map : {X : Type 0} (P Q : X → Type 0) (xs : List X) → ((x : X) → P x → Q x) → AllByRecursion P xs → AllByRecursion Q xs
all_map P Q [] f a = tt
all_map P Q (x ∷ xs) f a = (f x a.0, all_map P Q xs f a.1)

module _ {X : Type 0} (P : X → Type 0) where
  pub all_append : (xs ys : List X) → AllByRecursion P xs → AllByRecursion P ys → AllByRecursion P (xs ++ ys)
  all_append [] ys a b = b
  all_append (x ∷ xs) ys a b = (a.0, all_append xs ys a.1 b)

  pub all_get : (xs : List X) (i : ℕ) → AllByRecursion P xs → IfSome (slice_get xs i) P
  all_get [] i a = tt
  all_get (x ∷ xs) zero a = a.0
  all_get (x ∷ xs) (suc i) a = all_get xs i a.1

  pub all_set : (xs : List X) (i : ℕ) (y : X) → AllByRecursion P xs → P y → AllByRecursion P (slice_set xs i y)
  all_set [] i y a p = tt
  all_set (x ∷ xs) zero y a p = (p, a.1)
  all_set (x ∷ xs) (suc i) y a p = (a.0, all_set xs i y a.1 p)

  pub all_take : (n : ℕ) (xs : List X) → AllByRecursion P xs → AllByRecursion P (take n xs)
  all_take zero [] a = tt
  all_take zero (x ∷ xs) a = tt
  all_take (suc n) [] a = tt
  all_take (suc n) (x ∷ xs) a = (a.0, all_take n xs a.1)

  pub all_replicate : (n : ℕ) (x : X) → P x → AllByRecursion P (replicate n x)
  all_replicate zero x p = tt
  all_replicate (suc n) x p = (p, all_replicate n x p)

-- ---- later heaps

abbrev pub Has : HostHeap → HostHeap → Type 0
Has h g = (o : ObjId) → IsLive h o → IsLive g o

pub value_later : (h g : HostHeap) → Has h g → (v : HostValue) → IsLiveValue h v → IsLiveValue g v
value_later h g m (values.Object o) l = m o l
value_later h g m v l = tt

pub values_later : (h g : HostHeap) → Has h g → (vs : List HostValue) → AreLiveValues h vs → AreLiveValues g vs
values_later h g m vs l = all_map (IsLiveValue h) (IsLiveValue g) vs (value_later h g m) l

pub properties_later : (h g : HostHeap) → Has h g → (ps : List (Key × HostValue)) → AreLiveProperties h ps → AreLiveProperties g ps
properties_later h g m ps l = all_map (λ (p : Key × HostValue). IsLiveValue h p.1) (λ (p : Key × HostValue). IsLiveValue g p.1) ps (λ p. value_later h g m p.1) l

binding_later : (h g : HostHeap) → Has h g → (b : Option HostValue) → IfSome b (IsLiveValue h) → IfSome b (IsLiveValue g)
binding_later h g m None l = tt
binding_later h g m (Some v) l = value_later h g m v l

pub bindings_later : (h g : HostHeap) → Has h g → (bs : List (Option HostValue)) → AreLiveBindings h bs → AreLiveBindings g bs
bindings_later h g m bs l = all_map (λ (b : Option HostValue). IfSome b (IsLiveValue h)) (λ (b : Option HostValue). IfSome b (IsLiveValue g)) bs (binding_later h g m) l

abbrev AreLiveObjects : HostHeap → List HostObject → Type 0
AreLiveObjects h xs = AllByRecursion (λ (x : HostObject). AreLiveProperties h x.properties) xs

objects_later : (h g : HostHeap) → Has h g → (xs : List HostObject) → AreLiveObjects h xs → AreLiveObjects g xs
objects_later h g m xs l = all_map (λ (x : HostObject). AreLiveProperties h x.properties) (λ (x : HostObject). AreLiveProperties g x.properties) xs (λ x. properties_later h g m x.properties) l

-- ---- an object that is made

pub added_has : (h : HostHeap) (k : Kind) (ps : List (Key × HostValue)) → Has h (with_object h k ps)
added_has h k ps o l = omega (arith, l, length-append h.objects (record { kind = k; properties = ps } ∷ []))

pub next_live : (h : HostHeap) (k : Kind) (ps : List (Key × HostValue)) → IsLive (with_object h k ps) (next_object h)
next_live h k ps = omega (arith, length-append h.objects (record { kind = k; properties = ps } ∷ []))

pub added_live : (h : HostHeap) (k : Kind) (ps : List (Key × HostValue)) → IsLiveHeap h → AreLiveProperties h ps → IsLiveHeap (with_object h k ps)
added_live h k ps l p =
    let g = with_object h k ps in
    let m = added_has h k ps in
    record {
      print = m (record { 0 = 0 }) l.print;
      objects =
          all_append (λ (x : HostObject). AreLiveProperties g x.properties) h.objects (record { kind = k; properties = ps } ∷ []) (objects_later h g m h.objects l.objects)
          (properties_later h g m ps p, tt);
      bindings = bindings_later h g m h.bindings l.bindings;
    }

-- ---- a member that is written

length_put : (xs : List HostObject) (i : ℕ) (found : Option HostObject) (key : Key) (v : HostValue)
    → length (option_map_or (λ x. slice_set xs i (object_with x key v)) found xs) ≡ length xs
length_put xs i None key v = refl
length_put xs i (Some x) key v = length-set xs i (object_with x key v)

property_has : (h : HostHeap) (o : ObjId) (key : Key) (v : HostValue) → Has h (with_property h o key v)
property_has h o key v p l = subst (λ n. p.0 < n) (sym (length_put h.objects o.0 (object_at h o) key v)) l

entry_or : (h : HostHeap) (b : Bool) (key : Key) (v w : HostValue) (before after : List (Key × HostValue)) → IsLiveValue h v → IsLiveValue h w → AreLiveProperties h before
    → AreLiveProperties h after → AreLiveProperties h (if b then (key, v) ∷ before else (key, w) ∷ after)
entry_or h true key v w before after l m p q = (l, p)
entry_or h false key v w before after l m p q = (m, q)

-- an object's properties, by their list
abbrev properties_with : Kind → List (Key × HostValue) → Key → HostValue → List (Key × HostValue)
properties_with kind ps key v = (object_with (record { kind = kind; properties = ps }) key v).properties

entry_live : (h : HostHeap) (kind : Kind) (ps : List (Key × HostValue)) (key : Key) (v : HostValue) → AreLiveProperties h ps → IsLiveValue h v
    → AreLiveProperties h (properties_with kind ps key v)
entry_live h kind [] key v p l = (l, tt)
entry_live h kind (e ∷ es) key v p l =
    entry_or h (same_key key e.0) e.0 v e.1 es (properties_with kind es key v) l p.0 p.1 (entry_live h kind es key v p.1 l)

objects_put : (h : HostHeap) (xs : List HostObject) (i : ℕ) (found : Option HostObject) (key : Key) (v : HostValue) → AreLiveObjects h xs → IsLiveValue h v
    → IfSome found (λ (x : HostObject). AreLiveProperties h x.properties) → AreLiveObjects h (option_map_or (λ x. slice_set xs i (object_with x key v)) found xs)
objects_put h xs i None key v a l f = a
objects_put h xs i (Some x) key v a l f = all_set (λ (y : HostObject). AreLiveProperties h y.properties) xs i (object_with x key v) a (entry_live h x.kind x.properties key v f l)

property_live : (h : HostHeap) (o : ObjId) (key : Key) (v : HostValue) → IsLiveHeap h → IsLiveValue h v → IsLiveHeap (with_property h o key v)
property_live h o key v l lv =
    let g = with_property h o key v in
    let m = property_has h o key v in
    let a : AreLiveObjects g h.objects = objects_later h g m h.objects l.objects in
    record {
      print = m (record { 0 = 0 }) l.print;
      objects =
          objects_put g h.objects o.0 (object_at h o) key v a (value_later h g m v lv) (all_get (λ (x : HostObject). AreLiveProperties g x.properties) h.objects o.0 a);
      bindings = bindings_later h g m h.bindings l.bindings;
    }

after_write_has : (answer : Put) (h : HostHeap) (t : HostValue) (key : Key) (v : HostValue) → Has h (after_write answer h t key v)
after_write_has put.Done h (values.Object o) key v = property_has h o key v
after_write_has answer h t key v = λ o l. l

pub written_has : (h : HostHeap) (t : HostValue) (key : Key) (v : HostValue) → Has h (written h t key v)
written_has h t key v = after_write_has (write_of h t key) h t key v

after_write_live : (answer : Put) (h : HostHeap) (t : HostValue) (key : Key) (v : HostValue) → IsLiveHeap h → IsLiveValue h v → IsLiveHeap (after_write answer h t key v)
after_write_live put.Done h (values.Object o) key v l lv = property_live h o key v l lv
after_write_live answer h t key v l lv = l

pub written_live : (h : HostHeap) (t : HostValue) (key : Key) (v : HostValue) → IsLiveHeap h → IsLiveValue h v → IsLiveHeap (written h t key v)
written_live h t key v l lv = after_write_live (write_of h t key) h t key v l lv

-- ---- a binding that is set

pub binding_has : (h : HostHeap) (n : ℕ) (v : HostValue) → Has h (with_binding h n v)
binding_has h n v o l = l

pub binding_live : (h : HostHeap) (n : ℕ) (v : HostValue) → IsLiveHeap h → IsLiveValue h v → IsLiveHeap (with_binding h n v)
binding_live h n v l lv =
    let g = with_binding h n v in
    let m = binding_has h n v in
    record {
      print = l.print;
      objects = objects_later h g m h.objects l.objects;
      bindings =
          all_set (λ (b : Option HostValue). IfSome b (IsLiveValue g)) h.bindings n (Some v) (bindings_later h g m h.bindings l.bindings) (value_later h g m v lv);
    }

pub fresh_heaps_are_live : FreshHeapsAreLive
fresh_heaps_are_live n =
    record {
      print = omega arith;
      objects = (tt, tt);
      bindings = all_replicate (λ (b : Option HostValue). IfSome b (IsLiveValue (fresh_heap n))) n None tt;
    }

pub heaps_stay_live : HeapsStayLive
heaps_stay_live h l = (λ k ps p. added_live h k ps l p, λ o k v lv. written_live h o k v l lv, λ n v lv. binding_live h n v l lv)

-- ---- members that are read

abbrev pub IsLiveGot : HostHeap → Got → Type 0
IsLiveGot h (got.Value v) = IsLiveValue h v
IsLiveGot h _ = Unit {0}

got_or : (h : HostHeap) (b : Bool) (x y : Got) → IsLiveGot h x → IsLiveGot h y → IsLiveGot h (if b then x else y)
got_or h true x y p q = p
got_or h false x y p q = q

value_or : (h : HostHeap) (b : Bool) (v : HostValue) (o : Option HostValue) → IsLiveValue h v → IfSome o (IsLiveValue h) → IfSome (if b then Some v else o) (IsLiveValue h)
value_or h true v o p q = p
value_or h false v o p q = q

found_live : (h : HostHeap) (test : Key → Bool) (ps : List (Key × HostValue)) → AreLiveProperties h ps → IfSome (lookup test ps) (IsLiveValue h)
found_live h test [] a = tt
found_live h test (p ∷ ps) a = value_or h (test p.0) p.1 (lookup test ps) a.0 (found_live h test ps a.1)

found_or : (h : HostHeap) (absent : Got) (o : Option HostValue) → IsLiveGot h absent → IfSome o (IsLiveValue h) → IsLiveGot h (option_map_or (λ v. got.Value v) o absent)
found_or h absent None p q = p
found_or h absent (Some v) p q = q

own_live : (h : HostHeap) (absent : Got) (ps : List (Key × HostValue)) (k : Key) → IsLiveGot h absent → AreLiveProperties h ps → IsLiveGot h (own_or absent ps k)
own_live h absent ps k p a = found_or h absent (lookup (same_key k) ps) p (found_live h (same_key k) ps a)

length_live : (h : HostHeap) (n : ℕ) → IsLiveGot h (length_member n)
length_live h n = got_or h (nat_le n greatest_number) (got.Value (values.Number (pos n))) (got.Outside outside.Number) tt tt

text_live : (h : HostHeap) (text : List ℕ) (k : Key) → IsLiveGot h (text_member text k)
text_live h text k = got_or h (is_name k (codes "length")) (length_member (utf16_length text)) (got.Outside outside.PrimitiveMember) (length_live h (utf16_length text)) tt

array_live : (h : HostHeap) (ps : List (Key × HostValue)) (k : Key) → AreLiveProperties h ps → IsLiveGot h (array_member ps k)
array_live h ps (keys.Index index) a = own_live h (got.Value values.Undefined) ps (keys.Index index) tt a
array_live h ps (keys.Name name) a =
    got_or h (bytes_eq name (codes "length")) (length_member (length ps)) (if bytes_eq name (codes "push") then got.Outside outside.BuiltinValue else got.Outside outside.ArrayMember)
    (length_live h (length ps)) (got_or h (bytes_eq name (codes "push")) (got.Outside outside.BuiltinValue) (got.Outside outside.ArrayMember) tt tt)

callee_live : (h : HostHeap) (c : Callee) → IsLiveGot h (callee_length c)
callee_live h (callees.Script function parameters) = tt
callee_live h callees.Print = tt
callee_live h (callees.Exported a) = tt
callee_live h (callees.Promising a) = tt
callee_live h (callees.Resolve pair) = tt
callee_live h (callees.Reject pair) = tt

error_live : (h : HostHeap) (class : ErrorClass) (message : List ℕ) (k : Key) → IsLiveGot h (error_member class message k)
error_live h class message k =
    got_or h (is_name k (codes "name")) (got.Value (values.Text (class_name class)))
    (if is_name k (codes "message") then got.Value (values.Text message) else got.Outside outside.ObjectMember) tt
    (got_or h (is_name k (codes "message")) (got.Value (values.Text message)) (got.Outside outside.ObjectMember) tt tt)

member_live : (h : HostHeap) (kind : Kind) (ps : List (Key × HostValue)) (k : Key) → AreLiveProperties h ps → IsLiveGot h (member_of kind ps k)
member_live h kinds.Plain ps k a =
    own_live h (if is_inherited k then got.Outside outside.Inherited else got.Value values.Undefined) ps k
    (got_or h (is_inherited k) (got.Outside outside.Inherited) (got.Value values.Undefined) tt tt) a
member_live h kinds.Exports ps k a = own_live h (got.Value values.Undefined) ps k tt a
member_live h kinds.Array ps k a = array_live h ps k a
member_live h (kinds.Error class message) ps k a = error_live h class message k
member_live h (kinds.Function callee) ps k a = got_or h (is_name k (codes "length")) (callee_length callee) (got.Outside outside.FunctionMember) (callee_live h callee) tt
member_live h (kinds.Promise n) ps k a = got_or h (is_name k (codes "then") || is_name k (codes "catch")) (got.Outside outside.BuiltinValue) (got.Outside outside.ObjectMember) tt tt
member_live h (kinds.Buffer n) ps k a = tt
member_live h (kinds.View buffer from len) ps k a = tt
member_live h (kinds.Module m) ps k a = tt
member_live h (kinds.Instance exports) ps k a = tt
member_live h (kinds.Memory m) ps k a = tt
member_live h (kinds.Table m) ps k a = tt
member_live h (kinds.Global m) ps k a = tt
member_live h (kinds.Suspending o) ps k a = tt

object_live : (h : HostHeap) (found : Option HostObject) (k : Key) → IfSome found (λ (x : HostObject). AreLiveProperties h x.properties)
    → IsLiveGot h (option_map_or (λ (x : HostObject). member_of x.kind x.properties k) found got.Interface)
object_live h None k a = tt
object_live h (Some x) k a = member_live h x.kind x.properties k a

pub read_live : (h : HostHeap) (v : HostValue) (k : Key) → IsLiveHeap h → IsLiveGot h (read_of h v k)
read_live h values.Undefined k l = tt
read_live h values.Null k l = tt
read_live h (values.Bool b) k l = tt
read_live h (values.Number z) k l = tt
read_live h (values.BigInt z) k l = tt
read_live h (values.Text text) k l = text_live h text k
read_live h (values.Object o) k l = object_live h (object_at h o) k (all_get (λ (x : HostObject). AreLiveProperties h x.properties) h.objects o.0 l.objects)

-- ---- elements, and what predefined objects answer

elements_from_live : (h : HostHeap) (n : ℕ) (vs : List HostValue) → AreLiveValues h vs → AreLiveProperties h (elements_from n vs)
elements_from_live h n [] a = tt
elements_from_live h n (v ∷ vs) a = (a.0, elements_from_live h (n + 1) vs a.1)

pub elements_live : (h : HostHeap) (vs : List HostValue) → AreLiveValues h vs → AreLiveProperties h (elements_of vs)
elements_live h vs a = elements_from_live h 0 vs a

texts_live : (h : HostHeap) (ks : List Key) → AreLiveValues h (map (λ k. values.Text (text_of_key k)) ks)
texts_live h [] = tt
texts_live h (k ∷ ks) = (tt, texts_live h ks)

abbrev Gives : Answer → Type 0
Gives a = IsLiveHeap a.heap

answer_or : (b : Bool) (x y : Answer) → Gives x → Gives y → Gives (if b then x else y)
answer_or true x y p q = p
answer_or false x y p q = q

error_gives : (h : HostHeap) (class : ErrorClass) (message : Conv (List ℕ)) → IsLiveHeap h → Gives (builtins.error_made h class message)
error_gives h class (conv.Value message) l = added_live h (kinds.Error class message) [] l tt
error_gives h class (conv.Throw thrown) l = l
error_gives h class (conv.Outside kind) l = l

error_or_gives : (h : HostHeap) (r : Reply) (message : Conv (List ℕ)) (class : Option ErrorClass) → IsLiveHeap h
    → Gives (option_map_or (λ (e : ErrorClass). builtins.error_made h e message) class (builtins.unchanged h r))
error_or_gives h r message None l = l
error_or_gives h r message (Some class) l = error_gives h class message l

pub call_gives : (h : HostHeap) (class : Class) (args : List HostValue) → IsLiveHeap h → Gives (builtins.call_of h class args)
call_gives h class args l = error_or_gives h (plain_call class args) (message_of args) (error_class class) l

pub construct_gives : (h : HostHeap) (class : Class) (args : List HostValue) → IsLiveHeap h → Gives (builtins.construct_of h class args)
construct_gives h class args l = error_or_gives h (plain_construct class) (message_of args) (error_class class) l

texts_give : (h : HostHeap) (ks : List Key) → IsLiveHeap h → Gives (builtins.texts_made h ks)
texts_give h ks l =
    let vs = map (λ k. values.Text (text_of_key k)) ks in
    answer_or (nat_le (length ks) most_elements) _ _ (added_live h kinds.Array (elements_of vs) l (elements_live h vs (texts_live h ks))) l

object_keys_give : (h : HostHeap) (o : ObjId) → IsLiveHeap h → Gives (builtins.object_keys h o)
object_keys_give h o l = answer_or _ _ _ (texts_give h (ordered_keys (keys_of (properties_at h o))) l) l

keys_give : (h : HostHeap) (v : HostValue) → IsLiveHeap h → Gives (builtins.keys_call h v)
keys_give h (values.Object o) l = object_keys_give h o l
keys_give h v l = l

pub member_call_gives : (h : HostHeap) (class : Class) (name : List ℕ) (args : List HostValue) → IsLiveHeap h → Gives (builtins.member_call_of h class name args)
member_call_gives h class name args l = answer_or (builtins.is_object_keys class name) _ _ (keys_give h (first_argument args) l) l

pushed_gives : (h : HostHeap) (o : ObjId) (len : ℕ) (v : HostValue) → IsLiveHeap h → IsLiveValue h v → Gives (builtins.pushed h o len v)
pushed_gives h o len v l lv = answer_or (nat_lt len most_elements) _ _ (written_live h (values.Object o) (keys.Index len) v l lv) l

pub push_gives : (h : HostHeap) (o : ObjId) (args : List HostValue) → IsLiveHeap h → AreLiveValues h args → Gives (builtins.push_of h o args)
push_gives h o [] l a = l
push_gives h o (v ∷ []) l a = pushed_gives h o (length (properties_at h o)) v l a.0
push_gives h o (v ∷ w ∷ rest) l a = l
