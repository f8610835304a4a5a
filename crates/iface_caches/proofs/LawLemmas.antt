-- The laws of the caches.
use Rattle.std.proofs.Common.{◌≡◌, ℕ, true, [], ◌∷◌, ◌++◌, length, Option, Some, None, slice_get, refl, sym, ap, subst, ◌∙◌}
use Rattle.std.specs.Option.{option_map_or}
use Rattle.std.proofs.lemmas.Option.{slice_get_within, get_or_from_slice_get}
use Rattle.wasm_syntax.specs.declared.value.Value.{Value}
use Rattle.wasm_syntax.specs.declared.value.Value.TheVariants as w
use Rattle.wasm_syntax.specs.declared.addresses.ExternAddr.{ExternAddr}
use Rattle.host_values.specs.Objects.{HostHeap}
use Rattle.host_values.specs.Heaps.{IsLive, kind_at, next_object, with_object}
use Rattle.host_values.specs.declared.kinds.Kind.{Kind}
use Rattle.host_values.specs.declared.kinds.Kind.TheVariants as kinds
use Rattle.host_values.specs.declared.kinds.Callee.TheVariants as callees
use Rattle.host_values.specs.declared.values.ObjId.{ObjId}
use Rattle.host_values.specs.declared.values.HostValue.{HostValue}
use Rattle.host_values.specs.declared.values.HostValue.TheVariants as values
use Rattle.host_convert.specs.Operators.{is_strictly_equal}
use Rattle.host_convert.specs.declared.conv.Conv.TheVariants as conv
use Rattle.iface_caches.specs.declared.external.ExternalKind.{ExternalKind}
use Rattle.iface_caches.specs.declared.external.ExternalKind.TheVariants as external
use Rattle.iface_caches.specs.Caches.{HostCaches, cache_of, cached, extern_of, heap_with_object_of, kind_of, object_of, place_of, with_cache, with_extern}
use Rattle.iface_caches.specs.Agreement.{Agree, IsLater}
use Rattle.iface_caches.specs.Conversions.{function_reference, to_externref, to_js, with_reference}
use Rattle.iface_caches.specs.Laws.{ExternIsAtAddress, ExternIsFoundAgain, ExternsAreOnePerValue, ExternsComeBack, FunctionsComeBack, LaterStays, NothingChanges, ObjectIsFoundAgain, ObjectIsOfAddress, ObjectsDiffer}
use Rattle.iface_caches.proofs.Lists.{get_last}
use Rattle.iface_caches.proofs.Equal.{equal_itself, equal_same}
use Rattle.iface_caches.proofs.Indexed.{last_place, place_at, place_found, place_last}
use Rattle.iface_caches.proofs.Agreeing.{cache_new, kind_new, kind_of_found, later_extern, later_itself, one_address}

pub nothing_changes : NothingChanges
nothing_changes = later_itself

pub later_stays : LaterStays
later_stays c d e p q = record { objects = λ k a o is. q.objects k a o (p.objects k a o is); externs = λ n v is. q.externs n v (p.externs n v is) }

-- ---- objects

pub live_of_kind : (h : HostHeap) (o : ObjId) (k : Kind) → kind_at h o ≡ Some k → IsLive h o
live_of_kind h o k is = let found = kind_of_found (slice_get h.objects o.0) k is in slice_get_within h.objects o.0 found.0 found.1

pub object_is_of_address : ObjectIsOfAddress
object_is_of_address h c k a agree = (is, live_of_kind (heap_with_object_of c k a h) (object_of h c k a) (kind_of k a) is)
  where
    by : (r : Option ObjId) → cached c k a ≡ r → kind_at (option_map_or (λ o. h) r (with_object h (kind_of k a) [])) (option_map_or (λ o. o) r (next_object h)) ≡ Some (kind_of k a)
    by None e = kind_new h (kind_of k a) []
    by (Some o) e = agree.named k a o e

    is : kind_at (heap_with_object_of c k a h) (object_of h c k a) ≡ Some (kind_of k a)
    is = by (cached c k a) refl

found_again : (h : HostHeap) (c d : HostCaches) (k : ExternalKind) (a : ℕ) (r : Option ObjId) → cached c k a ≡ r
    → IsLater (option_map_or (λ o. c) r (with_cache k (cache_of c k ++ (a, next_object h) ∷ []) c)) d → cached d k a ≡ Some (option_map_or (λ o. o) r (next_object h))
found_again h c d k a None e later = later.objects k a (next_object h) (cache_new c k a (next_object h) e)
found_again h c d k a (Some o) e later = later.objects k a o e

pub object_is_found_again : ObjectIsFoundAgain
object_is_found_again h g c d k a later =
    let found = found_again h c d k a (cached c k a) refl later in (
      ap (λ (r : Option ObjId). option_map_or (λ o. o) r (next_object g)) found,
      ap (λ (r : Option ObjId). option_map_or (λ o. d) r (with_cache k (cache_of d k ++ (a, next_object g) ∷ []) d)) found,
      ap (λ (r : Option ObjId). option_map_or (λ o. g) r (with_object g (kind_of k a) [])) found,
    )

pub objects_differ : ObjectsDiffer
objects_differ h c k l a b o agree p q =
    let both : Some (kind_of k a) ≡ Some (kind_of l b) = sym (agree.named k a o p) ∙ agree.named l b o q in
    let same : kind_of k a ≡ kind_of l b = cc in
    one_address k l a b same

-- ---- values of the host

abbrev extern_at : ℕ → Option ℕ → ExternAddr
extern_at n r = record { 0 = option_map_or (λ m. m) r n }

pub extern_is_at_address : ExternIsAtAddress
extern_is_at_address c v = by (place_of v c.externs) refl
  where
    by : (r : Option ℕ) → place_of v c.externs ≡ r → slice_get (option_map_or (λ n. c) r (record c { externs = c.externs ++ v ∷ [] })).externs (extern_at (length c.externs) r).0 ≡ Some v
    by None e = get_last c.externs v
    by (Some n) e = place_at v c.externs n e

pub extern_is_found_again : ExternIsFoundAgain
extern_is_found_again c d v all later =
    let at = later.externs (extern_of c v).0 v (extern_is_at_address c v) in
    let place = place_found v d.externs (extern_of c v).0 all at in
    (ap (extern_at (length d.externs)) place, ap (λ (r : Option ℕ). option_map_or (λ n. d) r (record d { externs = d.externs ++ v ∷ [] })) place)

same_again : (c : HostCaches) (v : HostValue) (r : Option ℕ) → place_of v c.externs ≡ r → extern_of (option_map_or (λ n. c) r (record c { externs = c.externs ++ v ∷ [] })) v ≡ extern_of c v
same_again c v None e =
    ap (extern_at (length (c.externs ++ v ∷ []))) (place_last v v c.externs e ∙ ap (λ b. last_place b (length c.externs)) (equal_itself v)) ∙ sym (ap (extern_at (length c.externs)) e)
same_again c v (Some n) e = refl

pub externs_are_one_per_value : ExternsAreOnePerValue
externs_are_one_per_value c v x = (there, back)
  where
    there : extern_of (with_extern v c) x ≡ extern_of c v → is_strictly_equal v x ≡ true
    there same =
        let d = with_extern v c in
        let mine : slice_get (with_extern x d).externs (extern_of d x).0 ≡ Some x = extern_is_at_address d x in
        let its : slice_get (with_extern x d).externs (extern_of c v).0 ≡ Some v = (later_extern d x).externs (extern_of c v).0 v (extern_is_at_address c v) in
        let both : Some v ≡ Some x = sym its ∙ sym (ap (λ (e : ExternAddr). slice_get (with_extern x d).externs e.0) same) ∙ mine in
        let one : v ≡ x = cc in
        subst (λ y. is_strictly_equal v y ≡ true) one (equal_itself v)

    back : is_strictly_equal v x ≡ true → extern_of (with_extern v c) x ≡ extern_of c v
    back same = subst (λ y. extern_of (with_extern v c) y ≡ extern_of c v) (equal_same v x same) (same_again c v (place_of v c.externs) refl)

-- ---- references that come back

-- an object whose kind makes a reference is that of a function
pub of_function : (r : Value) (q : Option Kind) → function_reference q ≡ conv.Value r → (a : ℕ) × (q ≡ Some (kind_of external.Function a)) × (r ≡ w.Func (record { 0 = a }))
of_function r (Some (kinds.Function (callees.Exported a))) e = (a.0, refl, let same : w.Func a ≡ r = cc in sym same)
of_function r q e = absurd cc

object_comes_back : (h g : HostHeap) (c d : HostCaches) (o : ObjId) (r : Value) → Agree h c → function_reference (kind_at h o) ≡ conv.Value r → IsLater c d → to_js g d r ≡ values.Object o
object_comes_back h g c d o r agree e later =
    let of = of_function r (kind_at h o) e in
    let found = later.objects external.Function of.0 o (agree.found external.Function of.0 o of.1) in
    ap (to_js g d) of.2 ∙ ap (λ (p : Option ObjId). values.Object (option_map_or (λ x. x) p (next_object g))) found

pub functions_come_back : FunctionsComeBack
functions_come_back h g c d values.Null r agree e later = let same : w.FuncNull ≡ r = cc in sym (ap (to_js g d) same)
functions_come_back h g c d (values.Object o) r agree e later = object_comes_back h g c d o r agree e later
functions_come_back h g c d v r agree e later = absurd cc

extern_comes_back : (g : HostHeap) (c d : HostCaches) (v : HostValue) → IsLater (with_extern v c) d → to_js g d (w.Extern (extern_of c v)) ≡ v
extern_comes_back g c d v later = get_or_from_slice_get d.externs (extern_of c v).0 v values.Undefined (later.externs (extern_of c v).0 v (extern_is_at_address c v))

reference_comes_back : (g : HostHeap) (c d : HostCaches) (v : HostValue) → IsLater (with_reference v c) d → to_js g d (to_externref c v) ≡ v
reference_comes_back g c d values.Null later = refl
reference_comes_back g c d values.Undefined later = extern_comes_back g c d values.Undefined later
reference_comes_back g c d (values.Bool b) later = extern_comes_back g c d (values.Bool b) later
reference_comes_back g c d (values.Number z) later = extern_comes_back g c d (values.Number z) later
reference_comes_back g c d (values.BigInt z) later = extern_comes_back g c d (values.BigInt z) later
reference_comes_back g c d (values.Text s) later = extern_comes_back g c d (values.Text s) later
reference_comes_back g c d (values.Object o) later = extern_comes_back g c d (values.Object o) later

pub externs_come_back : ExternsComeBack
externs_come_back h g c d v r e later = let same : to_externref c v ≡ r = cc in sym (ap (to_js g d) same) ∙ reference_comes_back g c d v later
