-- The properties of an exports object, and the objects that they name.
use Rattle.std.proofs.Common.{◌≡◌, ℕ, ◌+◌, ◌<◌, ◌≤◌, Bool, true, false, not, ◌&&◌, ◌||◌, List, [], ◌∷◌, ◌++◌, length, drop, get_or, drop_of_length-le, append_assoc, append-nil, refl, sym, ap, subst, ◌∙◌}
use Rattle.std.proofs.lemmas.List.{at_drop_more}
use Rattle.std.specs.List.{list_any, AllByRecursion}
use Rattle.std.specs.Str.{bytes_eq}
use Rattle.host_values.specs.Heaps.{HasDistinctKeys}
use Rattle.host_values.specs.KeyOrder.{key_of_text}
use Rattle.host_values.specs.Laws.{SameKeysAreEqual}
use Rattle.host_values.specs.Objects.{HostHeap}
use Rattle.host_values.specs.SameKeys.{same_key}
use Rattle.host_values.specs.declared.keys.Key.{Key}
use Rattle.host_values.specs.declared.values.HostValue.{HostValue}
use Rattle.iface_caches.specs.Caches.{HostCaches, with_object_of, heap_with_object_of}
use Rattle.wasm_syntax.specs.declared.module.Export.{Export}
use Rattle.wasm_syntax.specs.declared.module.Module.{Module}
use Rattle.wasm_store.specs.declared.instances.Instance.{Instance}
use Rattle.wasm_valid.specs.ModuleRules.{is_typed_module, is_framed, names_differ}
use Rattle.iface_objects.specs.Instances.{Exported, exported, external_kind, external_address, property_of}
use Rattle.iface_objects.proofs.Names.{keys_differ}

-- ---- tests

pub left_true : (p q : Bool) → (p && q) ≡ true → p ≡ true
left_true true q h = refl
left_true false q h = h

pub right_true : (p q : Bool) → (p && q) ≡ true → q ≡ true
right_true true q h = h
right_true false q h = absurd (let e : false ≡ true = h in cc)

not_true : (p : Bool) → not p ≡ true → p ≡ false
not_true true h = absurd (let e : false ≡ true = h in cc)
not_true false h = refl

left_false : (p q : Bool) → (p || q) ≡ false → p ≡ false
left_false true q h = h
left_false false q h = refl

right_false : (p q : Bool) → (p || q) ≡ false → q ≡ false
right_false true q h = absurd (let e : true ≡ false = h in cc)
right_false false q h = h

-- ---- names

pub names_typed : (m : Module) → is_typed_module m ≡ true → names_differ m.exports ≡ true
unfolding is_typed_module is_framed
names_typed m h = right_true _ _ (left_true _ _ (left_true _ _ (left_true _ _ (right_true _ _ (left_true _ _ h)))))

-- no later export has the key of this name
apart : SameKeysAreEqual → (i : Instance) (name : List ℕ) (xs : List Export) (h : HostHeap) (c : HostCaches)
    → list_any (λ (other : Export). bytes_eq name other.name) xs ≡ false → AllByRecursion (λ (q : Key × HostValue). same_key (key_of_text name) q.0 ≡ false) (exported i xs h c).pairs
apart law i name [] h c none_is = tt
apart law i name (x ∷ xs) h c none_is = (keys_differ law name x.name (left_false _ _ none_is), apart law i name xs _ _ (right_false (bytes_eq name x.name) _ none_is))

pub distinct : SameKeysAreEqual → (i : Instance) (xs : List Export) (h : HostHeap) (c : HostCaches) → names_differ xs ≡ true → HasDistinctKeys (exported i xs h c).pairs
distinct law i [] h c differ = tt
distinct law i (x ∷ xs) h c differ = (apart law i x.name xs _ _ (not_true _ (left_true _ _ differ)), distinct law i xs _ _ (right_true _ _ differ))

-- ---- one after the other

-- so many of the exports have their properties: with those that are left, they are all
pub record Goes (i : Instance) (xs : List Export) (h : HostHeap) (c : HostCaches) (k : ℕ) (found : List (Key × HostValue)) (g : HostHeap) (d : HostCaches) : Type 0 where
  pub pairs : found ++ (exported i (drop k xs) g d).pairs ≡ (exported i xs h c).pairs
  pub heap : (exported i (drop k xs) g d).heap ≡ (exported i xs h c).heap
  pub caches : (exported i (drop k xs) g d).caches ≡ (exported i xs h c).caches

module _ (i : Instance) (xs : List Export) (h : HostHeap) (c : HostCaches) where
  pub goes_first : (found : List (Key × HostValue)) → found ≡ [] → Goes i xs h c 0 found h c
  goes_first found e = record { pairs = ap (λ (ps : List (Key × HostValue)). ps ++ (exported i xs h c).pairs) e; heap = refl; caches = refl }

  goes_next : (k : ℕ) (x : Export) (found : List (Key × HostValue)) (g : HostHeap) (d : HostCaches) → Goes i xs h c k found g d → k < length xs → x ≡ get_or xs k x
      → Goes i xs h c (k + 1) (found ++ property_of i x g d ∷ []) (heap_with_object_of d (external_kind x.desc) (external_address i x.desc) g) (with_object_of g (external_kind x.desc) (external_address i x.desc) d)
  goes_next k x found g d goes lt is =
      let one : exported i (drop k xs) g d ≡ exported i (x ∷ drop (k + 1) xs) g d =
      at_drop_more (λ (ys : List Export). exported i ys g d) xs k x lt ∙ ap (λ (y : Export). exported i (y ∷ drop (k + 1) xs) g d) (sym is) in
      record {
        pairs = append_assoc found (property_of i x g d ∷ []) _ ∙ sym (ap (λ (e : Exported). found ++ e.pairs) one) ∙ goes.pairs;
        heap = sym (ap (λ (e : Exported). e.heap) one) ∙ goes.heap;
        caches = sym (ap (λ (e : Exported). e.caches) one) ∙ goes.caches;
      }

  pub goes_on : (k : ℕ) (x : Export) (found more : List (Key × HostValue)) (p : Key × HostValue) (g g2 : HostHeap) (d d2 : HostCaches) → Goes i xs h c k found g d → k < length xs → x ≡ get_or xs k x
      → p ≡ property_of i x g d → more ≡ found ++ p ∷ [] → g2 ≡ heap_with_object_of d (external_kind x.desc) (external_address i x.desc) g
      → d2 ≡ with_object_of g (external_kind x.desc) (external_address i x.desc) d → Goes i xs h c (k + 1) more g2 d2
  goes_on k x found more p g g2 d d2 goes lt is pair added heap caches =
      subst (λ (ps : List (Key × HostValue)). Goes i xs h c (k + 1) ps g2 d2) (sym (added ∙ ap (λ (q : Key × HostValue). found ++ q ∷ []) pair))
      (subst (λ (z : HostHeap). Goes i xs h c (k + 1) (found ++ property_of i x g d ∷ []) z d2) (sym heap)
      (subst (λ (z : HostCaches). Goes i xs h c (k + 1) (found ++ property_of i x g d ∷ []) (heap_with_object_of d (external_kind x.desc) (external_address i x.desc) g) z) (sym caches)
      (goes_next k x found g d goes lt is)))

  -- none are left
  ended : (k : ℕ) (g : HostHeap) (d : HostCaches) → length xs ≤ k → exported i (drop k xs) g d ≡ record { heap = g; caches = d; pairs = [] }
  ended k g d past = ap (λ (ys : List Export). exported i ys g d) (drop_of_length-le xs past)

  pub all_pairs : (k : ℕ) (found : List (Key × HostValue)) (g : HostHeap) (d : HostCaches) → Goes i xs h c k found g d → length xs ≤ k → found ≡ (exported i xs h c).pairs
  all_pairs k found g d goes past = sym (append-nil found) ∙ sym (ap (λ (e : Exported). found ++ e.pairs) (ended k g d past)) ∙ goes.pairs

  pub all_heap : (k : ℕ) (found : List (Key × HostValue)) (g : HostHeap) (d : HostCaches) → Goes i xs h c k found g d → length xs ≤ k → g ≡ (exported i xs h c).heap
  all_heap k found g d goes past = sym (ap (λ (e : Exported). e.heap) (ended k g d past)) ∙ goes.heap

  pub all_caches : (k : ℕ) (found : List (Key × HostValue)) (g : HostHeap) (d : HostCaches) → Goes i xs h c k found g d → length xs ≤ k → d ≡ (exported i xs h c).caches
  all_caches k found g d goes past = sym (ap (λ (e : Exported). e.caches) (ended k g d past)) ∙ goes.caches
