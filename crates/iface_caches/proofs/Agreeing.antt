-- Heap and caches after the object of an address, or the address of a value of the host, was asked for.
use Rattle.std.proofs.Common.{◌≡◌, ℕ, ◌⊎◌, inl, inr, Bool, true, false, List, [], ◌∷◌, ◌++◌, cond, nat_eq, Option, Some, None, slice_get, Result, Ok, Err, OnOk, OnErr, refl, sym, ap, subst, ◌∙◌}
use Rattle.std.specs.Option.{option_map, option_map_or}
use Rattle.std.specs.Map.{lookup}
use Rattle.std.proofs.lemmas.Bool.{eqb-true, eq-eqb}
use Rattle.host_values.specs.Objects.{HostHeap, HostObject}
use Rattle.host_values.specs.Heaps.{kind_at, next_object, with_object}
use Rattle.host_values.specs.declared.kinds.Kind.{Kind}
use Rattle.host_values.specs.declared.kinds.Kind.TheVariants as kinds
use Rattle.host_values.specs.declared.kinds.Callee.TheVariants as callees
use Rattle.host_values.specs.declared.keys.Key.{Key}
use Rattle.host_values.specs.declared.values.ObjId.{ObjId}
use Rattle.host_values.specs.declared.values.HostValue.{HostValue}
use Rattle.iface_caches.specs.declared.external.ExternalKind.{ExternalKind}
use Rattle.iface_caches.specs.declared.external.ExternalKind.TheVariants as external
use Rattle.iface_caches.specs.Caches.{Cache, HostCaches, cache_of, cached, heap_with_object_of, kind_of, place_of, with_cache, with_extern, with_object_of}
use Rattle.iface_caches.specs.Agreement.{Agree, IsLater}
use Rattle.iface_caches.proofs.Lists.{get_last, get_left, get_pushed, lookup_kept, lookup_last}

-- ---- kinds tell their address

abbrev external_in : Kind → ExternalKind
external_in (kinds.Memory a) = external.Memory
external_in (kinds.Table a) = external.Table
external_in (kinds.Global a) = external.Global
external_in _ = external.Function

abbrev address_in : Kind → ℕ
address_in (kinds.Function (callees.Exported a)) = a.0
address_in (kinds.Memory a) = a.0
address_in (kinds.Table a) = a.0
address_in (kinds.Global a) = a.0
address_in _ = 0

external_is : (k : ExternalKind) (a : ℕ) → external_in (kind_of k a) ≡ k
external_is external.Function a = refl
external_is external.Memory a = refl
external_is external.Table a = refl
external_is external.Global a = refl

address_is : (k : ExternalKind) (a : ℕ) → address_in (kind_of k a) ≡ a
address_is external.Function a = refl
address_is external.Memory a = refl
address_is external.Table a = refl
address_is external.Global a = refl

pub one_address : (k l : ExternalKind) (a b : ℕ) → kind_of k a ≡ kind_of l b → (k ≡ l) × (a ≡ b)
one_address k l a b h = (sym (external_is k a) ∙ ap external_in h ∙ external_is l b, sym (address_is k a) ∙ ap address_in h ∙ address_is l b)

-- ---- one cache with more at its end

pub cache_kept : (c : HostCaches) (k l : ExternalKind) (more : Cache) (a : ℕ) (o : ObjId) → cached c l a ≡ Some o → cached (with_cache k (cache_of c k ++ more) c) l a ≡ Some o
cache_kept c external.Function external.Function more a o h = lookup_kept (nat_eq a) c.functions more o h
cache_kept c external.Function external.Memory more a o h = h
cache_kept c external.Function external.Table more a o h = h
cache_kept c external.Function external.Global more a o h = h
cache_kept c external.Memory external.Function more a o h = h
cache_kept c external.Memory external.Memory more a o h = lookup_kept (nat_eq a) c.memories more o h
cache_kept c external.Memory external.Table more a o h = h
cache_kept c external.Memory external.Global more a o h = h
cache_kept c external.Table external.Function more a o h = h
cache_kept c external.Table external.Memory more a o h = h
cache_kept c external.Table external.Table more a o h = lookup_kept (nat_eq a) c.tables more o h
cache_kept c external.Table external.Global more a o h = h
cache_kept c external.Global external.Function more a o h = h
cache_kept c external.Global external.Memory more a o h = h
cache_kept c external.Global external.Table more a o h = h
cache_kept c external.Global external.Global more a o h = lookup_kept (nat_eq a) c.globals more o h

-- the new entry is found
found_new : (es : Cache) (a : ℕ) (o : ObjId) → lookup (nat_eq a) es ≡ None → lookup (nat_eq a) (es ++ (a, o) ∷ []) ≡ Some o
found_new es a o h = lookup_last (nat_eq a) es ((a, o) ∷ []) h ∙ ap (λ b. cond b (Some o) None) (eq-eqb a a refl)

pub cache_new : (c : HostCaches) (k : ExternalKind) (a : ℕ) (o : ObjId) → cached c k a ≡ None → cached (with_cache k (cache_of c k ++ (a, o) ∷ []) c) k a ≡ Some o
cache_new c external.Function a o h = found_new c.functions a o h
cache_new c external.Memory a o h = found_new c.memories a o h
cache_new c external.Table a o h = found_new c.tables a o h
cache_new c external.Global a o h = found_new c.globals a o h

-- and all that is found was found before, or is that entry
one_more : (b a : ℕ) (o p : ObjId) (test : Bool) → nat_eq b a ≡ test → cond test (Some o) None ≡ Some p → (a ≡ b) × (o ≡ p)
one_more b a o p true e h = (sym (eqb-true b a e), let same : o ≡ p = cc in same)
one_more b a o p false e h = absurd cc

found_before : (es : Cache) (a b : ℕ) (o p : ObjId) (r : Option ObjId) → lookup (nat_eq b) es ≡ r → lookup (nat_eq b) (es ++ (a, o) ∷ []) ≡ Some p
    → (lookup (nat_eq b) es ≡ Some p) ⊎ ((a ≡ b) × (o ≡ p))
found_before es a b o p None e h = inr (one_more b a o p (nat_eq b a) refl (sym (lookup_last (nat_eq b) es ((a, o) ∷ []) e) ∙ h))
found_before es a b o p (Some q) e h = inl (e ∙ sym (lookup_kept (nat_eq b) es ((a, o) ∷ []) q e) ∙ h)

before : (es : Cache) (k l : ExternalKind) (a b : ℕ) (o p : ObjId) → k ≡ l → lookup (nat_eq b) (es ++ (a, o) ∷ []) ≡ Some p → (lookup (nat_eq b) es ≡ Some p) ⊎ ((k ≡ l) × (a ≡ b) × (o ≡ p))
before es k l a b o p same h = by (found_before es a b o p (lookup (nat_eq b) es) refl h)
  where
    by : (lookup (nat_eq b) es ≡ Some p) ⊎ ((a ≡ b) × (o ≡ p)) → (lookup (nat_eq b) es ≡ Some p) ⊎ ((k ≡ l) × (a ≡ b) × (o ≡ p))
    by (inl g) = inl g
    by (inr g) = inr (same, g.0, g.1)

pub cache_before : (c : HostCaches) (k l : ExternalKind) (a b : ℕ) (o p : ObjId) → cached (with_cache k (cache_of c k ++ (a, o) ∷ []) c) l b ≡ Some p
    → (cached c l b ≡ Some p) ⊎ ((k ≡ l) × (a ≡ b) × (o ≡ p))
cache_before c external.Function external.Function a b o p h = before c.functions _ _ a b o p refl h
cache_before c external.Function external.Memory a b o p h = inl h
cache_before c external.Function external.Table a b o p h = inl h
cache_before c external.Function external.Global a b o p h = inl h
cache_before c external.Memory external.Function a b o p h = inl h
cache_before c external.Memory external.Memory a b o p h = before c.memories _ _ a b o p refl h
cache_before c external.Memory external.Table a b o p h = inl h
cache_before c external.Memory external.Global a b o p h = inl h
cache_before c external.Table external.Function a b o p h = inl h
cache_before c external.Table external.Memory a b o p h = inl h
cache_before c external.Table external.Table a b o p h = before c.tables _ _ a b o p refl h
cache_before c external.Table external.Global a b o p h = inl h
cache_before c external.Global external.Function a b o p h = inl h
cache_before c external.Global external.Memory a b o p h = inl h
cache_before c external.Global external.Table a b o p h = inl h
cache_before c external.Global external.Global a b o p h = before c.globals _ _ a b o p refl h

pub same_externs : (c : HostCaches) (k : ExternalKind) (cache : Cache) → (with_cache k cache c).externs ≡ c.externs
same_externs c external.Function cache = refl
same_externs c external.Memory cache = refl
same_externs c external.Table cache = refl
same_externs c external.Global cache = refl

-- ---- kinds of objects after one was added

pub kind_of_found : (r : Option HostObject) (k : Kind) → option_map (λ x. x.kind) r ≡ Some k → (x : HostObject) × (r ≡ Some x) × (x.kind ≡ k)
kind_of_found None k h = absurd cc
kind_of_found (Some x) k h = (x, refl, let same : x.kind ≡ k = cc in same)

module _ (h : HostHeap) (k : Kind) (properties : List (Key × HostValue)) where
  pub kind_kept : (l : Kind) (o : ObjId) → kind_at h o ≡ Some l → kind_at (with_object h k properties) o ≡ Some l
  kind_kept l o is =
      let found = kind_of_found (slice_get h.objects o.0) l is in
      ap (option_map (λ x. x.kind)) (get_left h.objects (record { kind = k; properties = properties } ∷ []) o.0 found.0 found.1) ∙ ap Some found.2

  pub kind_new : kind_at (with_object h k properties) (next_object h) ≡ Some k
  kind_new = ap (option_map (λ x. x.kind)) (get_last h.objects (record { kind = k; properties = properties }))

  pub kind_before : (l : Kind) (o : ObjId) → kind_at (with_object h k properties) o ≡ Some l → (kind_at h o ≡ Some l) ⊎ ((o ≡ next_object h) × (k ≡ l))
  kind_before l o is = by (get_pushed h.objects (record { kind = k; properties = properties }) o.0 found.0 found.1)
    where
      found : (x : HostObject) × (slice_get (h.objects ++ record { kind = k; properties = properties } ∷ []) o.0 ≡ Some x) × (x.kind ≡ l)
      found = kind_of_found (slice_get (h.objects ++ record { kind = k; properties = properties } ∷ []) o.0) l is

      by : (slice_get h.objects o.0 ≡ Some found.0) ⊎ ((o.0 ≡ (next_object h).0) × (found.0 ≡ record { kind = k; properties = properties })) → (kind_at h o ≡ Some l) ⊎ ((o ≡ next_object h) × (k ≡ l))
      by (inl g) = inl (ap (option_map (λ x. x.kind)) g ∙ ap Some found.2)
      by (inr g) = inr (ap (λ n. record { 0 = n }) g.0, sym (ap (λ x. x.kind) g.1) ∙ found.2)

-- ---- the object of an address that has none

agree_added : (h : HostHeap) (c : HostCaches) (k : ExternalKind) (a : ℕ) → Agree h c → cached c k a ≡ None
    → Agree (with_object h (kind_of k a) []) (with_cache k (cache_of c k ++ (a, next_object h) ∷ []) c)
agree_added h c k a agree absent = record { named = λ l b o is. named l b o (cache_before c k l a b (next_object h) o is); found = λ l b o is. found l b o (kind_before h (kind_of k a) [] (kind_of l b) o is) }
  where
    named : (l : ExternalKind) (b : ℕ) (o : ObjId) → (cached c l b ≡ Some o) ⊎ ((k ≡ l) × (a ≡ b) × (next_object h ≡ o)) → kind_at (with_object h (kind_of k a) []) o ≡ Some (kind_of l b)
    named l b o (inl is) = kind_kept h (kind_of k a) [] (kind_of l b) o (agree.named l b o is)
    named l b o (inr is) = sym (ap (kind_at (with_object h (kind_of k a) [])) is.2) ∙ kind_new h (kind_of k a) [] ∙ ap Some (ap (λ j. kind_of j a) is.0 ∙ ap (kind_of l) is.1)

    found : (l : ExternalKind) (b : ℕ) (o : ObjId) → (kind_at h o ≡ Some (kind_of l b)) ⊎ ((o ≡ next_object h) × (kind_of k a ≡ kind_of l b)) → cached (with_cache k (cache_of c k ++ (a, next_object h) ∷ []) c) l b ≡ Some o
    found l b o (inl is) = cache_kept c k l ((a, next_object h) ∷ []) b o (agree.found l b o is)
    found l b o (inr is) =
        let one = one_address k l a b is.1 in
        sym (ap (λ j. cached (with_cache k (cache_of c k ++ (a, next_object h) ∷ []) c) j b) one.0) ∙ sym (ap (cached (with_cache k (cache_of c k ++ (a, next_object h) ∷ []) c) k) one.1) ∙ cache_new c k a (next_object h) absent ∙ ap Some (sym is.0)

later_added : (c : HostCaches) (k : ExternalKind) (more : Cache) → IsLater c (with_cache k (cache_of c k ++ more) c)
later_added c k more = record {
  objects = λ l a o is. cache_kept c k l more a o is;
  externs = λ n v is. ap (λ vs. slice_get vs n) (same_externs c k (cache_of c k ++ more)) ∙ is;
}

pub later_itself : (c : HostCaches) → IsLater c c
later_itself c = record { objects = λ k a o is. is; externs = λ n v is. is }

-- after a call that may have been refused
pub agree_after : {E : Type 0} (r : Result ObjId E) (h g : HostHeap) (c d : HostCaches) (k : ExternalKind) (a : ℕ) → Agree h c → cached c k a ≡ None
    → OnOk r (d ≡ with_cache k (cache_of c k ++ (a, next_object h) ∷ []) c) → OnOk r (g ≡ with_object h (kind_of k a) []) → OnErr r ((d ≡ c) × (g ≡ h)) → Agree g d
agree_after (Ok o) h g c d k a agree absent ok heap err = subst (λ x. Agree x d) (sym heap) (subst (λ x. Agree (with_object h (kind_of k a) []) x) (sym ok) (agree_added h c k a agree absent))
agree_after (Err e) h g c d k a agree absent ok heap err = subst (λ x. Agree x d) (sym err.1) (subst (λ x. Agree h x) (sym err.0) agree)

pub later_after : {E : Type 0} (r : Result ObjId E) (o : ObjId) (c d : HostCaches) (k : ExternalKind) (a : ℕ) (P : Type 0)
    → OnOk r (d ≡ with_cache k (cache_of c k ++ (a, o) ∷ []) c) → OnErr r ((d ≡ c) × P) → IsLater c d
later_after (Ok p) o c d k a P ok err = subst (IsLater c) (sym ok) (later_added c k ((a, o) ∷ []))
later_after (Err e) o c d k a P ok err = subst (IsLater c) (sym err.0) (later_itself c)

-- ---- the one object of an address

module _ (h : HostHeap) (c : HostCaches) (k : ExternalKind) (a : ℕ) where
  agree_by : (r : Option ObjId) → cached c k a ≡ r → Agree h c
      → Agree (option_map_or (λ o. h) r (with_object h (kind_of k a) [])) (option_map_or (λ o. c) r (with_cache k (cache_of c k ++ (a, next_object h) ∷ []) c))
  agree_by None e agree = agree_added h c k a agree e
  agree_by (Some o) e agree = agree

  pub agree_object : Agree h c → Agree (heap_with_object_of c k a h) (with_object_of h k a c)
  agree_object agree = agree_by (cached c k a) refl agree

  later_by : (r : Option ObjId) → IsLater c (option_map_or (λ o. c) r (with_cache k (cache_of c k ++ (a, next_object h) ∷ []) c))
  later_by None = later_added c k ((a, next_object h) ∷ [])
  later_by (Some o) = later_itself c

-- ---- the address of a value of the host

pub later_extern : (c : HostCaches) (v : HostValue) → IsLater c (with_extern v c)
later_extern c v = by (place_of v c.externs)
  where
    by : (r : Option ℕ) → IsLater c (option_map_or (λ n. c) r (record c { externs = c.externs ++ v ∷ [] }))
    by None = record { objects = λ k a o is. of k a o is; externs = λ n x is. get_left c.externs (v ∷ []) n x is }
      where
        of : (k : ExternalKind) (a : ℕ) (o : ObjId) → cached c k a ≡ Some o → cached (record c { externs = c.externs ++ v ∷ [] }) k a ≡ Some o
        of external.Function a o is = is
        of external.Memory a o is = is
        of external.Table a o is = is
        of external.Global a o is = is
    by (Some n) = later_itself c

-- the objects are the same
pub same_objects : (c : HostCaches) (vs : List HostValue) (k : ExternalKind) (a : ℕ) → cached (record c { externs = vs }) k a ≡ cached c k a
same_objects c vs external.Function a = refl
same_objects c vs external.Memory a = refl
same_objects c vs external.Table a = refl
same_objects c vs external.Global a = refl

pub objects_of_extern : (c : HostCaches) (v : HostValue) (k : ExternalKind) (a : ℕ) → cached (with_extern v c) k a ≡ cached c k a
objects_of_extern c v k a = by (place_of v c.externs)
  where
    by : (r : Option ℕ) → cached (option_map_or (λ n. c) r (record c { externs = c.externs ++ v ∷ [] })) k a ≡ cached c k a
    by None = same_objects c (c.externs ++ v ∷ []) k a
    by (Some n) = refl

pub agree_extern : (h : HostHeap) (c : HostCaches) (v : HostValue) → Agree h c → Agree h (with_extern v c)
agree_extern h c v agree = record {
  named = λ k a o is. agree.named k a o (sym (objects_of_extern c v k a) ∙ is);
  found = λ k a o is. objects_of_extern c v k a ∙ agree.found k a o is;
}

-- ---- conversions
