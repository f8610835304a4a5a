-- Tokens are read as one tree, or refused at one place.
use Rattle.std.specs.Prelude.{◌≡◌, ℕ, zero, suc, ◌+◌, ◌<◌, ◌≤◌, List, [], ◌∷◌, ◌++◌, length, take, drop, map, refl}
use Rattle.std.proofs.Common.{sym, ◌∙◌, ap, subst, arith, ◌⊎◌, inl, inr, append-nil}
use Rattle.std.proofs.lemmas.Bool.{cases_lt}
use Rattle.std.proofs.lemmas.List.{take-append-drop, length-map, take_all}
use Rattle.std.proofs.Math.Seq.{take-length}
use Rattle.host_lexer.specs.declared.token.Token.{Token}
use Rattle.host_grammar.specs.Derivations.{Named, Script}
use Rattle.host_grammar.specs.Printing.{Sign, seen}
use Rattle.host_grammar.specs.Conditions.{IsScript}
use Rattle.host_grammar.specs.Scopes.{IsFirstAgain, HasNoAgain}
use Rattle.host_grammar.specs.Refusals.{Begins, IsUnexpected, IsTooDeep, most_open, Parsed, tree, unexpected, too_deep, early, place_of, IsParsed, IsSame}
use Rattle.host_grammar.specs.Counting.{opens}
use Rattle.host_grammar.proofs.Main.{one_script}
use Rattle.host_grammar.proofs.Deep.{front_take, state_in, opens_in, not_deep_at, token_at}

-- a front of what begins a script begins one
begins_less : (ts : List Sign) (m n : ℕ) → m ≤ n → n ≤ length ts → Begins (take n ts) → Begins (take m ts)
begins_less ts m n h l (rest, x, i) = (
  drop m (take n ts ++ rest),
  x,
  subst (λ z. IsScript z x) (sym (take-append-drop m (take n ts ++ rest)) ∙ ap (λ z. z ++ drop m (take n ts ++ rest)) (front_take n m ts rest h l)) i,
)

script_begins : (ts : List Sign) (x : Script) (m : ℕ) → IsScript ts x → m ≤ length ts → Begins (take m ts)
script_begins ts x m i l = begins_less ts m (length ts) l (omega arith) ([], x, subst (λ z. IsScript z x) (sym (append-nil (take (length ts) ts) ∙ take-length ts)) i)

-- what leaves nothing off
all_begin : (ts : List Sign) (n m : ℕ) → Begins (take n ts) → m ≤ n → m ≤ length ts → (n < length ts) ⊎ (length ts ≤ n) → Begins (take m ts)
all_begin ts n m b h l (inl k) = begins_less ts m n h (omega arith) b
all_begin ts n m b h l (inr k) = begins_less ts m (length ts) l (omega arith) (subst Begins (take_all n ts k ∙ sym (take-length ts)) b)

not_both_at : (ts : List Sign) (x : Script) (k : ℕ) → IsScript ts x → IsUnexpected ts k → (k < length ts) ⊎ (length ts ≤ k) → ⊥
not_both_at ts x k i u (inl h) = u.next h (script_begins ts x (k + 1) i (omega arith))
not_both_at ts x k i u (inr h) = u.ends h x i

not_both : (ts : List Sign) (x : Script) (k : ℕ) → IsScript ts x → IsUnexpected ts k → ⊥
not_both ts x k i u = not_both_at ts x k i u (cases_lt k (length ts))

-- of two unexpected places neither is the lesser
not_less : (ts : List Sign) (k j : ℕ) → IsUnexpected ts k → IsUnexpected ts j → k < j → k < length ts → ⊥
not_less ts k j u v h l = u.next l (all_begin ts j (k + 1) v.begins (omega arith) (omega arith) (cases_lt j (length ts)))

place_behind : (ts : List Token) (len k : ℕ) → length ts ≤ k → place_of ts len k ≡ len
place_behind [] len k h = refl
place_behind (t ∷ ts) len zero h = absurd (omega arith)
place_behind (t ∷ ts) len (suc k) h = place_behind ts len k (omega arith)

places_at : (ts : List Token) (len k j : ℕ) → IsUnexpected (map seen ts) k → IsUnexpected (map seen ts) j → (k < j) ⊎ (j ≤ k) → (k < length ts) ⊎ (length ts ≤ k) → (j < length ts) ⊎ (length ts ≤ j)
    → (j < k) ⊎ (k ≤ j) → place_of ts len k ≡ place_of ts len j
places_at ts len k j u v (inl h) (inl l) m n = let e : length (map seen ts) ≡ length ts = length-map ts seen in absurd (not_less (map seen ts) k j u v h (omega arith))
places_at ts len k j u v (inl h) (inr l) m n = place_behind ts len k l ∙ sym (place_behind ts len j (omega arith))
places_at ts len k j u v (inr h) l (inl m) (inl n) = let e : length (map seen ts) ≡ length ts = length-map ts seen in absurd (not_less (map seen ts) j k v u n (omega arith))
places_at ts len k j u v (inr h) l (inr m) (inl n) = place_behind ts len k (omega arith) ∙ sym (place_behind ts len j m)
places_at ts len k j u v (inr h) l m (inr n) = let e : k ≡ j = omega arith in ap (place_of ts len) e

one_place : (ts : List Token) (len k j : ℕ) → IsUnexpected (map seen ts) k → IsUnexpected (map seen ts) j → place_of ts len k ≡ place_of ts len j
one_place ts len k j u v = places_at ts len k j u v (cases_lt k j) (cases_lt k (length ts)) (cases_lt j (length ts)) (cases_lt j k)

-- nor of two that are too deep
not_deeper : (ts : List Sign) (k j : ℕ) → IsTooDeep ts k → IsTooDeep ts j → k < j → ⊥
not_deeper ts k j d f h =
    let l : j < length ts = f.within in
    let s = state_in ts f.more (j + 1) f.script f.is_script (omega arith) k (omega arith) in
    let t = token_at ts k (omega arith) in
    let a : most_open < opens s.0 t.0.kind = not_deep_at ts k s.0 t.0 d s.1 t.1 in
    let b : opens s.0 t.0.kind ≤ most_open = f.first k (record { sign = t.0; nth = opens s.0 t.0.kind }) h (opens_in ts f.more (j + 1) f.script f.is_script (omega arith) k s.0 t.0 (omega arith) s.1 t.1) in
    absurd (omega arith)

deep_at : (ts : List Sign) (k j : ℕ) → IsTooDeep ts k → IsTooDeep ts j → (k < j) ⊎ (j ≤ k) → (j < k) ⊎ (k ≤ j) → k ≡ j
deep_at ts k j d f (inl h) n = absurd (not_deeper ts k j d f h)
deep_at ts k j d f (inr h) (inl n) = absurd (not_deeper ts j k f d n)
deep_at ts k j d f (inr h) (inr n) = omega arith

-- the first later declaration stands at one place
one_again : (x y : Script) (m n : Named) → IsFirstAgain x m → IsFirstAgain y n → x ≡ y → m.spot.place ≡ n.spot.place
one_again x y m n f g e =
    let h : IsFirstAgain y m = subst (λ z. IsFirstAgain z m) e f in
    let a : m.spot.place ≤ n.spot.place = h.first g.scope n g.is_scope g.again in
    let b : n.spot.place ≤ m.spot.place = g.first h.scope m h.is_scope h.again in
    omega arith

again_not : (x y : Script) (n : Named) → HasNoAgain x → IsFirstAgain y n → x ≡ y → ⊥
again_not x y n h g e = subst HasNoAgain e h g.scope n g.is_scope g.again

pub one_reading : (ts : List Token) (len : ℕ) (a b : Parsed) → IsParsed ts len a → IsParsed ts len b → IsSame a b
one_reading ts len (tree s) (tree t) h g = one_script (map seen ts) s t h.0 g.0
one_reading ts len (tree s) (unexpected p) h g = not_both (map seen ts) s g.0 h.0 g.2
one_reading ts len (tree s) (too_deep p) h g = h.1 g.0 g.2
one_reading ts len (tree s) (early p n) h g = again_not s g.0 g.1 h.2 g.4 (one_script (map seen ts) s g.0 h.0 g.2)
one_reading ts len (unexpected p) (tree t) h g = not_both (map seen ts) t h.0 g.0 h.2
one_reading ts len (unexpected p) (unexpected q) h g = h.1 ∙ one_place ts len h.0 g.0 h.2 g.2 ∙ sym g.1
one_reading ts len (unexpected p) (too_deep q) h g = h.3 g.0 g.2
one_reading ts len (unexpected p) (early q n) h g = not_both (map seen ts) g.0 h.0 g.2 h.2
one_reading ts len (too_deep p) (tree t) h g = g.1 h.0 h.2
one_reading ts len (too_deep p) (unexpected q) h g = g.3 h.0 h.2
one_reading ts len (too_deep p) (too_deep q) h g = h.1 ∙ ap (place_of ts len) (deep_at (map seen ts) h.0 g.0 h.2 g.2 (cases_lt h.0 g.0) (cases_lt g.0 h.0)) ∙ sym g.1
one_reading ts len (too_deep p) (early q n) h g = g.3 h.0 h.2
one_reading ts len (early p n) (tree t) h g = again_not t h.0 h.1 g.2 h.4 (one_script (map seen ts) t h.0 g.0 h.2)
one_reading ts len (early p n) (unexpected q) h g = not_both (map seen ts) h.0 g.0 h.2 g.2
one_reading ts len (early p n) (too_deep q) h g = h.3 g.0 g.2
one_reading ts len (early p n) (early q m) h g = h.5 ∙ one_again h.0 g.0 h.1 g.1 h.4 g.4 (one_script (map seen ts) h.0 g.0 h.2 g.2) ∙ sym g.5
