-- The laws of wholeness.
use Rattle.std.proofs.Common.{◌≡◌, ℕ, zero, suc, ◌<◌, ◌≤◌, ◌⊎◌, inl, inr, true, false, List, [], ◌∷◌, ◌++◌, length, Option, Some, None, slice_get, slice_index_or, refl, sym, ap, subst, ◌∙◌, arith}
use Rattle.std.specs.Option.{option_map, option_map_or}
use Rattle.std.specs.List.{All}
use Rattle.std.proofs.lemmas.List.{length-append}
use Rattle.std.proofs.lemmas.List.Elements.{All-nil, All-weaker}
use Rattle.std.proofs.lemmas.Option.{slice_get_within, slice_get-get_or}
use Rattle.wasm_syntax.specs.declared.value.Value.{Value}
use Rattle.wasm_syntax.specs.declared.value.Value.TheVariants as w
use Rattle.wasm_syntax.specs.declared.types.ValType.{ValType}
use Rattle.wasm_syntax.specs.declared.types.ValType.TheVariants as types
use Rattle.wasm_store.specs.Store.{Store, TableInst}
use Rattle.wasm_store.specs.declared.instances.GlobalInst.{GlobalInst}
use Rattle.wasm_store.specs.Whole as stores
use Rattle.host_values.specs.Objects.{HostHeap, HostObject}
use Rattle.host_values.specs.Heaps.{IsLive, IsLiveValue, kind_at, next_object, with_object}
use Rattle.host_values.specs.declared.keys.Key.{Key}
use Rattle.host_values.specs.declared.kinds.Kind.{Kind}
use Rattle.host_values.specs.declared.kinds.Kind.TheVariants as kinds
use Rattle.host_values.specs.declared.kinds.Callee.TheVariants as callees
use Rattle.host_values.specs.declared.values.ObjId.{ObjId}
use Rattle.host_values.specs.declared.values.HostValue.{HostValue}
use Rattle.host_values.specs.declared.values.HostValue.TheVariants as values
use Rattle.host_convert.specs.Conversions.{to_big_int64, to_int32}
use Rattle.host_convert.specs.declared.conv.Conv.{Conv}
use Rattle.host_convert.specs.declared.conv.Conv.TheVariants as conv
use Rattle.iface_caches.specs.declared.external.ExternalKind.{ExternalKind}
use Rattle.iface_caches.specs.declared.external.ExternalKind.TheVariants as external
use Rattle.iface_caches.specs.Caches.{HostCaches, cache_of, cached, extern_of, kind_of, no_caches, place_of, with_cache, with_extern}
use Rattle.iface_caches.specs.Agreement.{Agree}
use Rattle.iface_caches.specs.Conversions.{IsCached, as_value, caches_with, heap_with, to_externref, to_funcref, with_converted, with_reference}
use Rattle.iface_caches.specs.Whole.{HoldsCached, IsWhole, count_of, is_cached_kind}
use Rattle.iface_caches.specs.Laws.{ConversionsStayWhole, ConvertedIsTyped, ExternsStayWhole, LaterStoresStayWhole, NothingAgrees, NothingIsWhole, ObjectsStayWhole, OtherObjectsAgree, OtherObjectsStayWhole, ShownIsLive, WritingAgrees, WritingStaysWhole}
use Rattle.iface_caches.proofs.Lists.{get_pushed}
use Rattle.iface_caches.proofs.Agreeing.{agree_extern, agree_object, cache_before, kind_before, kind_kept, objects_of_extern, same_externs}
use Rattle.iface_caches.proofs.LawLemmas.{extern_is_at_address, object_is_of_address, of_function}

-- ---- what stays as the caches and the heap grow

cached_more : (c d : HostCaches) → length c.externs ≤ length d.externs → (v : Value) → IsCached c v → IsCached d v
cached_more c d more (w.Extern e) h = omega (arith, more, h)
cached_more c d more (w.I32 n) h = h
cached_more c d more (w.I64 n) h = h
cached_more c d more w.FuncNull h = h
cached_more c d more (w.Func a) h = h
cached_more c d more w.ExternNull h = h

held_more : (s : Store) (c d : HostCaches) → length c.externs ≤ length d.externs → HoldsCached s c → HoldsCached s d
held_more s c d more held = record {
  tables = All-weaker (λ (t : TableInst). All (IsCached c) t.entries) (λ (t : TableInst). All (IsCached d) t.entries) (λ t h. All-weaker (IsCached c) (IsCached d) (cached_more c d more) t.entries h) s.tables held.tables;
  globals = All-weaker (λ (g : GlobalInst). IsCached c g.value) (λ (g : GlobalInst). IsCached d g.value) (λ g h. cached_more c d more g.value h) s.globals held.globals;
  elements = All-weaker (All (IsCached c)) (All (IsCached d)) (λ vs h. All-weaker (IsCached c) (IsCached d) (cached_more c d more) vs h) s.elements held.elements;
}

live_more : (h g : HostHeap) → length h.objects ≤ length g.objects → (v : HostValue) → IsLiveValue h v → IsLiveValue g v
live_more h g more (values.Object o) live = omega (arith, more, live)
live_more h g more values.Undefined live = live
live_more h g more values.Null live = live
live_more h g more (values.Bool b) live = live
live_more h g more (values.Number z) live = live
live_more h g more (values.BigInt z) live = live
live_more h g more (values.Text s) live = live

one_more : (h : HostHeap) (k : Kind) (properties : List (Key × HostValue)) → length h.objects ≤ length (with_object h k properties).objects
one_more h k properties = let count = length-append h.objects (record { kind = k; properties = properties } ∷ []) in omega (arith, count)

-- ---- the beginning

no_object : (k : ExternalKind) (a : ℕ) (o : ObjId) → cached no_caches k a ≡ Some o → ⊥
no_object external.Function a o is = cc
no_object external.Memory a o is = cc
no_object external.Table a o is = cc
no_object external.Global a o is = cc

no_kind : (k : ExternalKind) (a n : ℕ) → option_map (λ (x : HostObject). x.kind) (slice_get (record { kind = kinds.Function callees.Print; properties = [] } ∷ []) n) ≡ Some (kind_of k a) → ⊥
no_kind external.Function a zero is = cc
no_kind external.Memory a zero is = cc
no_kind external.Table a zero is = cc
no_kind external.Global a zero is = cc
no_kind k a (suc n) is = cc

pub nothing_agrees : NothingAgrees
nothing_agrees globals = record { named = λ k a o is. absurd (no_object k a o is); found = λ k a o is. absurd (no_kind k a o.0 is) }

pub nothing_is_whole : NothingIsWhole
nothing_is_whole globals = record {
  agree = nothing_agrees globals;
  addresses = λ k a o is. absurd (no_object k a o is);
  externs = λ n v is. absurd cc;
  held = record { tables = All-nil _; globals = All-nil _; elements = All-nil _ };
}

-- ---- objects of addresses

pub objects_stay_whole : ObjectsStayWhole
objects_stay_whole h s c k a whole live = by (cached c k a) (agree_object h c k a whole.agree)
  where
    addresses : (l : ExternalKind) (b : ℕ) (o : ObjId) → (cached c l b ≡ Some o) ⊎ ((k ≡ l) × (a ≡ b) × (next_object h ≡ o)) → b < count_of s l
    addresses l b o (inl is) = whole.addresses l b o is
    addresses l b o (inr is) = subst (λ j. b < count_of s j) is.0 (subst (λ m. m < count_of s k) is.1 live)

    by : (r : Option ObjId) → Agree (option_map_or (λ o. h) r (with_object h (kind_of k a) [])) (option_map_or (λ o. c) r (with_cache k (cache_of c k ++ (a, next_object h) ∷ []) c))
        → IsWhole (option_map_or (λ o. h) r (with_object h (kind_of k a) [])) s (option_map_or (λ o. c) r (with_cache k (cache_of c k ++ (a, next_object h) ∷ []) c))
    by None agree =
        let same = same_externs c k (cache_of c k ++ (a, next_object h) ∷ []) in
        record {
          agree = agree;
          addresses = λ l b o is. addresses l b o (cache_before c k l a b (next_object h) o is);
          externs = λ n v is. live_more h (with_object h (kind_of k a) []) (one_more h (kind_of k a) []) v (whole.externs n v (sym (ap (λ vs. slice_get vs n) same) ∙ is));
          held = held_more s c (with_cache k (cache_of c k ++ (a, next_object h) ∷ []) c) (let count = ap length same in omega (arith, count)) whole.held;
        }
    by (Some o) agree = whole

-- ---- values of the host

pub externs_stay_whole : ExternsStayWhole
externs_stay_whole h s c v whole live = by (place_of v c.externs) (agree_extern h c v whole.agree) (λ k a. objects_of_extern c v k a)
  where
    externs : (n : ℕ) (x : HostValue) → (slice_get c.externs n ≡ Some x) ⊎ ((n ≡ length c.externs) × (x ≡ v)) → IsLiveValue h x
    externs n x (inl is) = whole.externs n x is
    externs n x (inr is) = subst (IsLiveValue h) (sym is.1) live

    by : (r : Option ℕ) → Agree h (option_map_or (λ n. c) r (record c { externs = c.externs ++ v ∷ [] }))
        → ((k : ExternalKind) (a : ℕ) → cached (option_map_or (λ n. c) r (record c { externs = c.externs ++ v ∷ [] })) k a ≡ cached c k a)
        → IsWhole h s (option_map_or (λ n. c) r (record c { externs = c.externs ++ v ∷ [] }))
    by None agree same = record {
      agree = agree;
      addresses = λ k a o is. whole.addresses k a o (sym (same k a) ∙ is);
      externs = λ n x is. externs n x (get_pushed c.externs v n x is);
      held = held_more s c (record c { externs = c.externs ++ v ∷ [] }) (let count = length-append c.externs (v ∷ []) in omega (arith, count)) whole.held;
    }
    by (Some n) agree same = whole

-- ---- conversions

references_stay_whole : (h : HostHeap) (s : Store) (c : HostCaches) (v : HostValue) → IsWhole h s c → IsLiveValue h v → IsWhole h s (with_reference v c)
references_stay_whole h s c values.Null whole live = whole
references_stay_whole h s c values.Undefined whole live = externs_stay_whole h s c values.Undefined whole live
references_stay_whole h s c (values.Bool b) whole live = externs_stay_whole h s c (values.Bool b) whole live
references_stay_whole h s c (values.Number z) whole live = externs_stay_whole h s c (values.Number z) whole live
references_stay_whole h s c (values.BigInt z) whole live = externs_stay_whole h s c (values.BigInt z) whole live
references_stay_whole h s c (values.Text t) whole live = externs_stay_whole h s c (values.Text t) whole live
references_stay_whole h s c (values.Object o) whole live = externs_stay_whole h s c (values.Object o) whole live

shown_whole : (h : HostHeap) (s : Store) (c : HostCaches) → IsWhole h s c → (r : Value) → stores.IsLive s r → IsWhole (heap_with c r h) s (caches_with h r c)
shown_whole h s c whole (w.Func a) live = objects_stay_whole h s c external.Function a.0 whole live
shown_whole h s c whole (w.I32 n) live = whole
shown_whole h s c whole (w.I64 n) live = whole
shown_whole h s c whole w.FuncNull live = whole
shown_whole h s c whole w.ExternNull live = whole
shown_whole h s c whole (w.Extern e) live = whole

converted_whole : (h : HostHeap) (s : Store) (c : HostCaches) → IsWhole h s c → (v : HostValue) (ty : ValType) → IsLiveValue h v → IsWhole h s (with_converted v ty c)
converted_whole h s c whole v types.ExternRef live = references_stay_whole h s c v whole live
converted_whole h s c whole v types.I32 live = whole
converted_whole h s c whole v types.I64 live = whole
converted_whole h s c whole v types.FuncRef live = whole

pub conversions_stay_whole : ConversionsStayWhole
conversions_stay_whole h s c whole = (shown_whole h s c whole, converted_whole h s c whole)

as_value_is : (F : ℕ → Value) (x : Conv ℕ) (r : Value) → as_value F x ≡ conv.Value r → (n : ℕ) × (r ≡ F n)
as_value_is F (conv.Value n) r e = (n, let same : F n ≡ r = cc in sym same)
as_value_is F (conv.Throw class) r e = absurd cc
as_value_is F (conv.Outside kind) r e = absurd cc

-- what a converted value is
abbrev Converted : Store → HostCaches → ValType → Value → Type 0
Converted s c ty r = stores.HasType s r ty × IsCached c r

function_converted : (h : HostHeap) (s : Store) (c : HostCaches) (v : HostValue) (r : Value) → IsWhole h s c → to_funcref h v ≡ conv.Value r → Converted s c types.FuncRef r
function_converted h s c values.Null r whole e = let same : w.FuncNull ≡ r = cc in subst (Converted s c types.FuncRef) same ((refl, tt), tt)
function_converted h s c (values.Object o) r whole e =
    let of = of_function r (kind_at h o) e in
    subst (Converted s c types.FuncRef) (sym of.2) ((refl, whole.addresses external.Function of.0 o (whole.agree.found external.Function of.0 o of.1)), tt)
function_converted h s c v r whole e = absurd cc

extern_converted : (s : Store) (c : HostCaches) (v : HostValue) → Converted s (with_extern v c) types.ExternRef (w.Extern (extern_of c v))
extern_converted s c v = ((refl, tt), slice_get_within (with_extern v c).externs (extern_of c v).0 v (extern_is_at_address c v))

reference_converted : (s : Store) (c : HostCaches) (v : HostValue) → Converted s (with_reference v c) types.ExternRef (to_externref c v)
reference_converted s c values.Null = ((refl, tt), tt)
reference_converted s c values.Undefined = extern_converted s c values.Undefined
reference_converted s c (values.Bool b) = extern_converted s c (values.Bool b)
reference_converted s c (values.Number z) = extern_converted s c (values.Number z)
reference_converted s c (values.BigInt z) = extern_converted s c (values.BigInt z)
reference_converted s c (values.Text t) = extern_converted s c (values.Text t)
reference_converted s c (values.Object o) = extern_converted s c (values.Object o)

pub converted_is_typed : ConvertedIsTyped
converted_is_typed h s c v types.I32 r whole e = let is = as_value_is (λ n. w.I32 n) (to_int32 v) r e in subst (Converted s c types.I32) (sym is.1) ((refl, tt), tt)
converted_is_typed h s c v types.I64 r whole e = let is = as_value_is (λ n. w.I64 n) (to_big_int64 v) r e in subst (Converted s c types.I64) (sym is.1) ((refl, tt), tt)
converted_is_typed h s c v types.FuncRef r whole e = function_converted h s c v r whole e
converted_is_typed h s c v types.ExternRef r whole e = let same : to_externref c v ≡ r = cc in subst (Converted s (with_reference v c) types.ExternRef) same (reference_converted s c v)

pub shown_is_live : ShownIsLive
shown_is_live h s c (w.Func a) whole is = (object_is_of_address h c external.Function a.0 whole.agree).1
shown_is_live h s c (w.Extern e) whole is = whole.externs e.0 (slice_index_or c.externs e.0 values.Undefined) (slice_get-get_or c.externs e.0 values.Undefined is)
shown_is_live h s c (w.I32 n) whole is = tt
shown_is_live h s c (w.I64 n) whole is = tt
shown_is_live h s c w.FuncNull whole is = tt
shown_is_live h s c w.ExternNull whole is = tt

-- ---- what else changes

is_of : (k : ExternalKind) (a : ℕ) → is_cached_kind (kind_of k a) ≡ true
is_of external.Function a = refl
is_of external.Memory a = refl
is_of external.Table a = refl
is_of external.Global a = refl

pub other_objects_agree : OtherObjectsAgree
other_objects_agree h c k properties other agree = record {
  named = λ l b o is. kind_kept h k properties (kind_of l b) o (agree.named l b o is);
  found = λ l b o is. found l b o (kind_before h k properties (kind_of l b) o is);
}
  where
    found : (l : ExternalKind) (b : ℕ) (o : ObjId) → (kind_at h o ≡ Some (kind_of l b)) ⊎ ((o ≡ next_object h) × (k ≡ kind_of l b)) → cached c l b ≡ Some o
    found l b o (inl is) = agree.found l b o is
    found l b o (inr is) = let both : false ≡ true = sym other ∙ ap is_cached_kind is.1 ∙ is_of l b in absurd cc

pub other_objects_stay_whole : OtherObjectsStayWhole
other_objects_stay_whole h s c k properties other whole = record {
  agree = other_objects_agree h c k properties other whole.agree;
  addresses = whole.addresses;
  externs = λ n v is. live_more h (with_object h k properties) (one_more h k properties) v (whole.externs n v is);
  held = whole.held;
}

pub writing_agrees : WritingAgrees
writing_agrees h g c same agree = record { named = λ k a o is. same o ∙ agree.named k a o is; found = λ k a o is. agree.found k a o (sym (same o) ∙ is) }

written_live : (h g : HostHeap) → ((o : ObjId) → (IsLive h o → IsLive g o) × (kind_at g o ≡ kind_at h o)) → (v : HostValue) → IsLiveValue h v → IsLiveValue g v
written_live h g same (values.Object o) live = (same o).0 live
written_live h g same values.Undefined live = live
written_live h g same values.Null live = live
written_live h g same (values.Bool b) live = live
written_live h g same (values.Number z) live = live
written_live h g same (values.BigInt z) live = live
written_live h g same (values.Text t) live = live

pub writing_stays_whole : WritingStaysWhole
writing_stays_whole h g s c same whole = record {
  agree = writing_agrees h g c (λ o. (same o).1) whole.agree;
  addresses = whole.addresses;
  externs = λ n v is. written_live h g same v (whole.externs n v is);
  held = whole.held;
}

more_things : (s t : Store) → stores.IsLater s t → (k : ExternalKind) → count_of s k ≤ count_of t k
more_things s t later external.Function = later.functions.count
more_things s t later external.Memory = later.memories.count
more_things s t later external.Table = later.tables.count
more_things s t later external.Global = later.globals.count

pub later_stores_stay_whole : LaterStoresStayWhole
later_stores_stay_whole h s t c later held whole = record {
  agree = whole.agree;
  addresses = λ k a o is. let more = more_things s t later k in let live = whole.addresses k a o is in omega (arith, more, live);
  externs = whole.externs;
  held = held;
}
