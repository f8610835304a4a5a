-- Objects of a list after one is added or replaced.
use Rattle.std.proofs.Common.{◌≡◌, ℕ, suc, zero, ◌+◌, ◌<◌, List, [], ◌∷◌, ◌++◌, length, Option, Some, None, slice_get, slice_set, refl, sym, ap, subst, ◌∙◌, arith}
use Rattle.std.specs.Option.{option_map, option_map_or}
use Rattle.std.proofs.lemmas.List.{length-append, length-set}
use Rattle.host_values.specs.Objects.{HostObject, HostHeap}
use Rattle.host_values.specs.Heaps.{IsLive, kind_at, next_object, object_at, object_with, with_binding, with_object, with_property}
use Rattle.host_values.specs.Members.{after_write, write_of, written}
use Rattle.host_values.specs.Laws.{AddedIsFresh, AddingKeepsObjects, BindingKeepsObjects, WritingKeepsKinds, WritingKeepsOthers}
use Rattle.host_values.specs.declared.answers.Put.{Put}
use Rattle.host_values.specs.declared.answers.Put.TheVariants as put
use Rattle.host_values.specs.declared.keys.Key.{Key}
use Rattle.host_values.specs.declared.kinds.Kind.{Kind}
use Rattle.host_values.specs.declared.values.HostValue.{HostValue}
use Rattle.host_values.specs.declared.values.HostValue.TheVariants as values
use Rattle.host_values.specs.declared.values.ObjId.{ObjId}

get_left : {X : Type 0} (xs ys : List X) (i : ℕ) → i < length xs → slice_get (xs ++ ys) i ≡ slice_get xs i
get_left [] ys i h = absurd (omega (arith, h))
get_left (x ∷ xs) ys zero h = refl
get_left (x ∷ xs) ys (suc i) h = get_left xs ys i (omega (arith, h))

get_last : {X : Type 0} (xs : List X) (x : X) → slice_get (xs ++ x ∷ []) (length xs) ≡ Some x
get_last [] x = refl
get_last (y ∷ xs) x = get_last xs x

get_set_other : {X : Type 0} (xs : List X) (i j : ℕ) (y : X) → ¬ (j ≡ i) → slice_get (slice_set xs i y) j ≡ slice_get xs j
get_set_other [] i j y h = refl
get_set_other (x ∷ xs) zero zero y h = absurd (h refl)
get_set_other (x ∷ xs) zero (suc j) y h = refl
get_set_other (x ∷ xs) (suc i) zero y h = refl
get_set_other (x ∷ xs) (suc i) (suc j) y h = get_set_other xs i j y (λ e. h (ap suc e))

-- an object that takes another one's place, with its kind
get_set_kind : (xs : List HostObject) (i j : ℕ) (x y : HostObject) → slice_get xs i ≡ Some x → y.kind ≡ x.kind
    → option_map (λ z. z.kind) (slice_get (slice_set xs i y) j) ≡ option_map (λ z. z.kind) (slice_get xs j)
get_set_kind [] i j x y at same = refl
get_set_kind (z ∷ xs) zero zero x y at same = ap Some same ∙ sym (ap (option_map (λ w. w.kind)) at)
get_set_kind (z ∷ xs) zero (suc j) x y at same = refl
get_set_kind (z ∷ xs) (suc i) zero x y at same = refl
get_set_kind (z ∷ xs) (suc i) (suc j) x y at same = get_set_kind xs i j x y at same

pub added_is_fresh : AddedIsFresh
added_is_fresh h k ps =
    (λ live. omega (arith, live), omega (arith, length-append h.objects (record { kind = k; properties = ps } ∷ [])), get_last h.objects (record { kind = k; properties = ps }))

pub adding_keeps_objects : AddingKeepsObjects
adding_keeps_objects h k ps o live =
    (omega (arith, live, length-append h.objects (record { kind = k; properties = ps } ∷ [])), get_left h.objects (record { kind = k; properties = ps } ∷ []) o.0 live)

-- the objects after a property is written, by whether there is its object
kinds_kept : (h : HostHeap) (o : ObjId) (key : Key) (v : HostValue) (p : ObjId) (found : Option HostObject) → object_at h o ≡ found
    → kind_at (record h { objects = option_map_or (λ x. slice_set h.objects o.0 (object_with x key v)) found h.objects }) p ≡ kind_at h p
kinds_kept h o key v p None at = refl
kinds_kept h o key v p (Some x) at = get_set_kind h.objects o.0 p.0 x (object_with x key v) at refl

length_kept : (h : HostHeap) (o : ObjId) (key : Key) (v : HostValue) (found : Option HostObject)
    → length (option_map_or (λ x. slice_set h.objects o.0 (object_with x key v)) found h.objects) ≡ length h.objects
length_kept h o key v None = refl
length_kept h o key v (Some x) = length-set h.objects o.0 (object_with x key v)

others_kept : (h : HostHeap) (o : ObjId) (key : Key) (v : HostValue) (p : ObjId) (found : Option HostObject) → ¬ (p.0 ≡ o.0)
    → slice_get (option_map_or (λ x. slice_set h.objects o.0 (object_with x key v)) found h.objects) p.0 ≡ slice_get h.objects p.0
others_kept h o key v p None apart = refl
others_kept h o key v p (Some x) apart = get_set_other h.objects o.0 p.0 (object_with x key v) apart

pub writing_keeps_others : WritingKeepsOthers
writing_keeps_others h o key v p apart = others_kept h o key v p (object_at h o) apart

abbrev Kept : HostHeap → HostHeap → ObjId → Type 0
Kept h g o = (IsLive h o → IsLive g o) × (kind_at g o ≡ kind_at h o)

same : (h : HostHeap) (o : ObjId) → Kept h h o
same h o = (λ live. live, refl)

after : (answer : Put) (h : HostHeap) (t : HostValue) (key : Key) (v : HostValue) (o : ObjId) → Kept h (after_write answer h t key v) o
after put.Done h (values.Object p) key v o =
    (λ live. subst (λ n. o.0 < n) (sym (length_kept h p key v (object_at h p))) live, kinds_kept h p key v o (object_at h p) refl)
after put.Done h values.Undefined key v o = same h o
after put.Done h values.Null key v o = same h o
after put.Done h (values.Bool b) key v o = same h o
after put.Done h (values.Number z) key v o = same h o
after put.Done h (values.BigInt z) key v o = same h o
after put.Done h (values.Text s) key v o = same h o
after (put.Throw class) h t key v o = same h o
after (put.Outside kind) h t key v o = same h o
after put.Interface h t key v o = same h o

pub writing_keeps_kinds : WritingKeepsKinds
writing_keeps_kinds h t key v o = after (write_of h t key) h t key v o

pub binding_keeps_objects : BindingKeepsObjects
binding_keeps_objects h n v = refl
