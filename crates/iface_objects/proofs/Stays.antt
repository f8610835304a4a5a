-- What objects name stays there as a heap and a store grow.
use Rattle.std.proofs.Common.{◌≡◌, ℕ, zero, suc, ◌⊎◌, inl, inr, true, List, [], ◌∷◌, ◌++◌, length, refl, ap, subst, ◌∙◌, arith}
use Rattle.std.specs.Prelude.{Option, Some, None, slice_get}
use Rattle.std.specs.Option.{option_map, option_map_or}
use Rattle.std.proofs.lemmas.List.{get_or_append_left, get_or_push, length_push}
use Rattle.host_values.specs.Heaps.{kind_at, with_object}
use Rattle.host_values.specs.Objects.{HostHeap, HostObject}
use Rattle.host_values.specs.declared.keys.Key.{Key}
use Rattle.host_values.specs.declared.kinds.Kind.{Kind}
use Rattle.host_values.specs.declared.kinds.Kind.TheVariants as kinds
use Rattle.host_values.specs.declared.kinds.Callee.TheVariants as callees
use Rattle.host_values.specs.declared.values.HostValue.{HostValue}
use Rattle.host_values.specs.declared.values.ObjId.{ObjId}
use Rattle.iface_caches.specs.Caches.{HostCaches, cached, heap_with_object_of}
use Rattle.iface_caches.specs.Caches as named
use Rattle.iface_caches.specs.declared.external.ExternalKind.{ExternalKind}
use Rattle.wasm_syntax.specs.declared.addresses.FuncAddr.{FuncAddr}
use Rattle.wasm_syntax.specs.declared.addresses.ModuleAddr.{ModuleAddr}
use Rattle.wasm_syntax.specs.declared.module.Module.{Module}
use Rattle.wasm_store.specs.declared.instances.FuncInst.{FuncInst}
use Rattle.wasm_store.specs.Laws.{NothingChanges, FunctionsStay, ModulesStay}
use Rattle.wasm_store.specs.Store.{Store, type_of, with_module, no_module}
use Rattle.wasm_store.specs.Whole.{Extends, IsLater, Stays}
use Rattle.iface_objects.specs.Modules.{is_of_numbers, is_taken}
use Rattle.iface_objects.specs.Sound.{AreNamed, IsCallable, IsLoaded}

-- what a kind names is there
pub record IsFine (s : Store) (k : Kind) : Type 0 where
  pub functions : (a : FuncAddr) → k ≡ kinds.Function (callees.Exported a) → IsCallable s a
  pub modules : (a : ModuleAddr) → k ≡ kinds.Module a → IsLoaded s a

pub fine_buffer : (s : Store) (n : ℕ) → IsFine s (kinds.Buffer n)
fine_buffer s n = record { functions = λ a e. absurd (cc); modules = λ a e. absurd (cc) }

pub fine_exports : (s : Store) → IsFine s kinds.Exports
fine_exports s = record { functions = λ a e. absurd (cc); modules = λ a e. absurd (cc) }

pub fine_instance : (s : Store) (o : ObjId) → IsFine s (kinds.Instance o)
fine_instance s o = record { functions = λ a e. absurd (cc); modules = λ a e. absurd (cc) }

pub fine_module : (s : Store) (a : ModuleAddr) → IsLoaded s a → IsFine s (kinds.Module a)
fine_module s a loaded = record { functions = λ b e. absurd (cc); modules = λ b e. let same : a ≡ b = cc in subst (IsLoaded s) same loaded }

pub fine_function : (s : Store) (a : FuncAddr) → IsCallable s a → IsFine s (kinds.Function (callees.Exported a))
fine_function s a callable = record { functions = λ b e. let same : a ≡ b = cc in subst (IsCallable s) same callable; modules = λ b e. absurd (cc) }

-- ---- an object more

kind_pushed : (xs : List HostObject) (x : HostObject) (i : ℕ) (l : Kind) → option_map (λ (y : HostObject). y.kind) (slice_get (xs ++ x ∷ []) i) ≡ Some l
    → (option_map (λ (y : HostObject). y.kind) (slice_get xs i) ≡ Some l) ⊎ (x.kind ≡ l)
kind_pushed [] x zero l h = let same : x.kind ≡ l = cc in inr same
kind_pushed [] x (suc i) l h = absurd (cc)
kind_pushed (y ∷ xs) x zero l h = inl h
kind_pushed (y ∷ xs) x (suc i) l h = kind_pushed xs x i l h

pub named_more : (h : HostHeap) (s : Store) (k : Kind) (properties : List (Key × HostValue)) → AreNamed h s → IsFine s k → AreNamed (with_object h k properties) s
named_more h s k properties before fine = record {
  functions = λ o a e. function o a (kind_pushed h.objects (record { kind = k; properties = properties }) o.0 (kinds.Function (callees.Exported a)) e);
  modules = λ o a e. loaded o a (kind_pushed h.objects (record { kind = k; properties = properties }) o.0 (kinds.Module a) e);
}
  where
    function : (o : ObjId) (a : FuncAddr) → (kind_at h o ≡ Some (kinds.Function (callees.Exported a))) ⊎ (k ≡ kinds.Function (callees.Exported a)) → IsCallable s a
    function o a (inl e) = before.functions o a e
    function o a (inr e) = fine.functions a e

    loaded : (o : ObjId) (a : ModuleAddr) → (kind_at h o ≡ Some (kinds.Module a)) ⊎ (k ≡ kinds.Module a) → IsLoaded s a
    loaded o a (inl e) = before.modules o a e
    loaded o a (inr e) = fine.modules a e

-- the object of an address
pub named_object : (h : HostHeap) (c : HostCaches) (s : Store) (k : ExternalKind) (a : ℕ) → AreNamed h s → IsFine s (named.kind_of k a) → AreNamed (heap_with_object_of c k a h) s
named_object h c s k a before fine = by (cached c k a)
  where
    by : (r : Option ObjId) → AreNamed (option_map_or (λ o. h) r (with_object h (named.kind_of k a) [])) s
    by None = named_more h s (named.kind_of k a) [] before fine
    by (Some o) = before

-- ---- a later store

callable_later : FunctionsStay → (s t : Store) (a : FuncAddr) → IsLater s t → IsCallable s a → IsCallable t a
callable_later law s t a later callable =
    let stays = law s t a later callable.live in
    record { live = stays.0; numbers = ap (λ (g : FuncInst). is_of_numbers (type_of g)) stays.1 ∙ callable.numbers }

pub loaded_later : ModulesStay → (s t : Store) (a : ModuleAddr) → IsLater s t → IsLoaded s a → IsLoaded t a
loaded_later law s t a later loaded =
    let stays = law s t a later loaded.live in
    record { live = stays.0; taken = ap is_taken stays.1 ∙ loaded.taken }

pub named_later : FunctionsStay → ModulesStay → (h : HostHeap) (s t : Store) → IsLater s t → AreNamed h s → AreNamed h t
named_later functions modules h s t later before = record {
  functions = λ o a e. callable_later functions s t a later (before.functions o a e);
  modules = λ o a e. loaded_later modules s t a later (before.modules o a e);
}

-- ---- a module more

modules_more : (xs : List Module) (x : Module) → Extends Stays xs (xs ++ x ∷ [])
modules_more xs x = record {
  count = omega (arith, length_push xs x);
  each = λ k d h. get_or_append_left xs (x ∷ []) d k h;
}

pub later_more : NothingChanges → (s : Store) (m : Module) → IsLater s (with_module m s)
later_more law s m =
    let same : IsLater s s = law s in
    record { modules = modules_more s.modules m; instances = same.instances; functions = same.functions; tables = same.tables; memories = same.memories; globals = same.globals; elements = same.elements; datas = same.datas }

pub loaded_more : (s : Store) (m : Module) → is_taken m ≡ true → IsLoaded (with_module m s) (record { 0 = length s.modules })
loaded_more s m taken = record {
  live = omega (arith, length_push s.modules m);
  taken = ap is_taken (get_or_push s.modules m no_module (length s.modules) refl) ∙ taken;
}
