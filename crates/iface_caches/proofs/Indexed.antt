-- The map of places after a value went to the end of the list.
use Rattle.std.proofs.Common.{◌≡◌, ℕ, zero, suc, ◌⊎◌, inl, inr, Bool, true, false, cond, List, [], ◌∷◌, ◌++◌, length, Option, Some, None, slice_get, if◌then◌else◌, refl, sym, ap, subst, ◌∙◌}
use Rattle.std.specs.Option.{option_map}
use Rattle.std.specs.Ordering.{is_eq}
use Rattle.std.specs.Map.{lookup}
use Rattle.host_values.specs.declared.values.HostValue.{HostValue}
use Rattle.host_convert.specs.Operators.{is_strictly_equal}
use Rattle.iface_caches.specs.Caches.{AreDistinct, place_of}
use Rattle.iface_caches.specs.KeyOrder.{IsIndexed, key_cmp}
use Rattle.iface_caches.specs.declared.extern_key.ExternKey.{ExternKey}
use Rattle.iface_caches.proofs.Lists.{get_pushed}
use Rattle.iface_caches.proofs.Equal.{equal_back, equal_itself, equal_same, ties}

-- a value's place is one where it stands
at_step : (b : Bool) (v w : HostValue) (ws : List HostValue) (r : Option ℕ) (n : ℕ) → is_strictly_equal v w ≡ b → (if b then Some 0 else option_map suc r) ≡ Some n
    → ((m : ℕ) → r ≡ Some m → slice_get ws m ≡ Some v) → slice_get (w ∷ ws) n ≡ Some v
at_step true v w ws r zero e h f = ap Some (sym (equal_same v w e))
at_step true v w ws r (suc n) e h f = absurd cc
at_step false v w ws None n e h f = absurd cc
at_step false v w ws (Some m) zero e h f = absurd cc
at_step false v w ws (Some m) (suc n) e h f = let same : m ≡ n = cc in f n (ap Some same)

pub place_at : (v : HostValue) (vs : List HostValue) (n : ℕ) → place_of v vs ≡ Some n → slice_get vs n ≡ Some v
place_at v [] n h = absurd cc
place_at v (w ∷ ws) n h = at_step (is_strictly_equal v w) v w ws (place_of v ws) n refl h (place_at v ws)

-- a value that has no place stands nowhere
none_step : (b : Bool) (v w x : HostValue) (ws : List HostValue) (r : Option ℕ) (n : ℕ) → is_strictly_equal v w ≡ b → (if b then Some 0 else option_map suc r) ≡ None
    → is_strictly_equal v x ≡ true → (r ≡ None → (m : ℕ) → slice_get ws m ≡ Some x → ⊥) → slice_get (w ∷ ws) n ≡ Some x → ⊥
none_step true v w x ws r n e h same f at = cc
none_step false v w x ws (Some m) n e h same f at = cc
none_step false v w x ws None zero e h same f at = let here : w ≡ x = cc in cc
none_step false v w x ws None (suc n) e h same f at = f refl n at

pub none_at : (v x : HostValue) (vs : List HostValue) → is_strictly_equal v x ≡ true → place_of v vs ≡ None → (n : ℕ) → slice_get vs n ≡ Some x → ⊥
none_at v x [] same h n at = cc
none_at v x (w ∷ ws) same h n at = none_step (is_strictly_equal v w) v w x ws (place_of v ws) n refl h same (none_at v x ws same) at

kept_step : (b : Bool) (r s : Option ℕ) (n : ℕ) → (if b then Some 0 else option_map suc r) ≡ Some n → ((m : ℕ) → r ≡ Some m → s ≡ Some m) → (if b then Some 0 else option_map suc s) ≡ Some n
kept_step true r s n h f = h
kept_step false None s n h f = absurd cc
kept_step false (Some m) s n h f = ap (option_map suc) (f m refl) ∙ h

pub place_kept : (v : HostValue) (vs ws : List HostValue) (n : ℕ) → place_of v vs ≡ Some n → place_of v (vs ++ ws) ≡ Some n
place_kept v [] ws n h = absurd cc
place_kept v (w ∷ vs) ws n h = kept_step (is_strictly_equal v w) (place_of v vs) (place_of v (vs ++ ws)) n h (place_kept v vs ws)

-- the place of one that goes to the end
abbrev pub last_place : Bool → ℕ → Option ℕ
last_place b n = if b then Some n else None

last_suc : (b : Bool) (n : ℕ) → option_map suc (last_place b n) ≡ last_place b (suc n)
last_suc true n = refl
last_suc false n = refl

last_step : (b c : Bool) (r s : Option ℕ) (n : ℕ) → (if b then Some 0 else option_map suc r) ≡ None → (r ≡ None → s ≡ last_place c n) → (if b then Some 0 else option_map suc s) ≡ last_place c (suc n)
last_step true c r s n h f = absurd cc
last_step false c (Some m) s n h f = absurd cc
last_step false c None s n h f = ap (option_map suc) (f refl) ∙ last_suc c n

pub place_last : (v w : HostValue) (vs : List HostValue) → place_of v vs ≡ None → place_of v (vs ++ w ∷ []) ≡ last_place (is_strictly_equal v w) (length vs)
place_last v w [] h = first (is_strictly_equal v w)
  where
    first : (b : Bool) → (if b then Some 0 else option_map suc None) ≡ last_place b 0
    first true = refl
    first false = refl
place_last v w (x ∷ vs) h = last_step (is_strictly_equal v x) (is_strictly_equal v w) (place_of v vs) (place_of v (vs ++ w ∷ [])) (length vs) h (place_last v w vs)

-- the values stay distinct
pub distinct_more : (vs : List HostValue) (x : HostValue) → AreDistinct vs → place_of x vs ≡ None → AreDistinct (vs ++ x ∷ [])
distinct_more vs x all absent m n v w at_m at_n same = by (get_pushed vs x m v at_m) (get_pushed vs x n w at_n)
  where
    by : (slice_get vs m ≡ Some v) ⊎ ((m ≡ length vs) × (v ≡ x)) → (slice_get vs n ≡ Some w) ⊎ ((n ≡ length vs) × (w ≡ x)) → m ≡ n
    by (inl p) (inl q) = all m n v w p q same
    by (inl p) (inr q) = absurd (none_at x v vs (subst (λ u. is_strictly_equal u v ≡ true) q.1 (equal_back w v ∙ same)) absent m p)
    by (inr p) (inl q) = absurd (none_at x w vs (subst (λ u. is_strictly_equal u w ≡ true) p.1 same) absent n q)
    by (inr p) (inr q) = p.0 ∙ sym q.0

-- the map after the last place went in
places_more : (b : Bool) (x q : HostValue) (vs : List HostValue) (r : Option ℕ) → place_of x vs ≡ None → is_strictly_equal x q ≡ b → place_of q vs ≡ r
    → cond b (Some (length vs)) r ≡ place_of q (vs ++ x ∷ [])
places_more true x q vs r absent same at =
    let one : x ≡ q = equal_same x q same in
    let none : place_of q vs ≡ None = subst (λ u. place_of u vs ≡ None) one absent in
    sym (place_last q x vs none ∙ ap (λ c. last_place c (length vs)) (equal_back q x ∙ same))
places_more false x q vs None absent same at = sym (place_last q x vs at ∙ ap (λ c. last_place c (length vs)) (equal_back q x ∙ same))
places_more false x q vs (Some n) absent same at = sym (place_kept q vs (x ∷ []) n at)

pub indexed_more : (es fs : List (ExternKey × ℕ)) (vs : List HostValue) (k : ExternKey) → IsIndexed es vs → place_of k.value vs ≡ None
    → ((q : ExternKey) → lookup (λ p. is_eq (key_cmp q p)) fs ≡ cond (is_eq (key_cmp k q)) (Some (length vs)) (lookup (λ p. is_eq (key_cmp q p)) es))
    → IsIndexed fs (vs ++ k.value ∷ [])
indexed_more es fs vs k old absent update = record {
  places = λ q. update q ∙ ap (λ b. cond b (Some (length vs)) (lookup (λ p. is_eq (key_cmp q p)) es)) (ties k.value q.value)
      ∙ ap (cond (is_strictly_equal k.value q.value) (Some (length vs))) (old.places q)
      ∙ places_more (is_strictly_equal k.value q.value) k.value q.value vs (place_of q.value vs) absent refl refl;
  distinct = distinct_more vs k.value old.distinct absent;
}

pub indexed_after : (es fs : List (ExternKey × ℕ)) (vs ws : List HostValue) (k : ExternKey) (n : ℕ) (x : HostValue) → IsIndexed es vs → place_of k.value vs ≡ None → n ≡ length vs → x ≡ k.value → ws ≡ vs ++ x ∷ []
    → ((q : ExternKey) → lookup (λ p. is_eq (key_cmp q p)) fs ≡ cond (is_eq (key_cmp k q)) (Some n) (lookup (λ p. is_eq (key_cmp q p)) es))
    → IsIndexed fs ws
indexed_after es fs vs ws k n x old absent count one all update =
    subst (IsIndexed fs) (ap (λ y. vs ++ y ∷ []) (sym one) ∙ sym all)
    (indexed_more es fs vs k old absent (λ q. update q ∙ ap (λ m. cond (is_eq (key_cmp k q)) (Some m) (lookup (λ p. is_eq (key_cmp q p)) es)) count))

-- where a value stands is its place
pub place_found : (v : HostValue) (vs : List HostValue) (n : ℕ) → AreDistinct vs → slice_get vs n ≡ Some v → place_of v vs ≡ Some n
place_found v vs n all at = by (place_of v vs) refl
  where
    by : (r : Option ℕ) → place_of v vs ≡ r → place_of v vs ≡ Some n
    by None e = absurd (none_at v v vs (equal_itself v) e n at)
    by (Some m) e = e ∙ ap Some (all m n v v (place_at v vs m e) at (equal_itself v))
