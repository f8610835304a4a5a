-- A text spells one key, and no other text spells it.
use Rattle.std.proofs.Common.{◌≡◌, ℕ, ◌+◌, ◌-◌, ◌*◌, ◌<◌, ◌≤◌, Bool, true, false, cond, ◌||◌, ◌&&◌, List, [], ◌∷◌, length, refl, sym, ap, ap₂, subst, ◌∙◌, arith}
use Rattle.std.specs.Prelude.{Option, Some, None, nat_eq, nat_lt, nat_le}
use Rattle.std.specs.Option.{option_map_or}
use Rattle.std.specs.Str.{bytes_eq}
use Rattle.std.proofs.lemmas.Bool.{eqb-true, ltb-false, le-leb, eq-eqb}
use Rattle.std.proofs.lemmas.Slice.Eq.{bytes_eq-Decides}
use Rattle.host_values.specs.KeyOrder.{greatest_index, next_index, index_after, index_of, key_of_text}
use Rattle.host_values.specs.SameKeys.{same_key}
use Rattle.host_values.specs.Laws.{SameKeysAreEqual}
use Rattle.host_values.specs.declared.keys.Key.TheVariants as keys

-- ---- digits

-- a number after a digit
record Follows (n c m : ℕ) : Type 0 where
  pub low : 48 ≤ c
  pub high : c ≤ 57
  pub value : m ≡ n * 10 + (c - 48)

follows_by : (n c m : ℕ) (low high fits : Bool) → nat_lt c 48 ≡ low → nat_lt 57 c ≡ high
    → cond (low || high) None (cond fits (Some (n * 10 + (c - 48))) None) ≡ Some m → Follows n c m
follows_by n c m true high fits e f h = absurd (cc)
follows_by n c m false true fits e f h = absurd (cc)
follows_by n c m false false false e f h = absurd (cc)
follows_by n c m false false true e f h = record { low = ltb-false c 48 e; high = ltb-false 57 c f; value = let same : n * 10 + (c - 48) ≡ m = cc in sym same }

follows : (n c m : ℕ) → next_index n c ≡ Some m → Follows n c m
follows n c m h = follows_by n c m (nat_lt c 48) (nat_lt 57 c) (nat_le (n * 10 + (c - 48)) greatest_index) refl refl h

-- the first of the digits, and those that follow it
record Begins (n c : ℕ) (cs : List ℕ) (r : ℕ) : Type 0 where
  pub next : ℕ
  pub first : Follows n c next
  pub rest : index_after next cs ≡ Some r

begins_by : (n c r : ℕ) (cs : List ℕ) (o : Option ℕ) → next_index n c ≡ o → option_map_or (λ m. index_after m cs) o None ≡ Some r → Begins n c cs r
begins_by n c r cs None e h = absurd (cc)
begins_by n c r cs (Some m) e h = record { next = m; first = follows n c m e; rest = h }

begins : (n c : ℕ) (cs : List ℕ) (r : ℕ) → index_after n (c ∷ cs) ≡ Some r → Begins n c cs r
begins n c cs r h = begins_by n c r cs (next_index n c) refl h

same_value : (m r : ℕ) → index_after m [] ≡ Some r → m ≡ r
same_value m r h = let same : m ≡ r = cc in same

-- as many digits at least, after a greater number, give a greater one
less : (cs ds : List ℕ) (m n r q : ℕ) → index_after m cs ≡ Some r → index_after n ds ≡ Some q → m < n → length cs ≤ length ds → r < q
less [] [] m n r q a b lt le = omega (arith, lt, same_value m r a, same_value n q b)
less [] (d ∷ ds) m n r q a b lt le =
    let s : Begins n d ds q = begins n d ds q b in
    less [] ds m s.next r q a s.rest (omega (arith, lt, s.first.value)) (omega arith)
less (c ∷ cs) [] m n r q a b lt le = absurd (omega (arith, le))
less (c ∷ cs) (d ∷ ds) m n r q a b lt le =
    let s : Begins m c cs r = begins m c cs r a in
    let t : Begins n d ds q = begins n d ds q b in
    less cs ds s.next t.next r q s.rest t.rest (omega (arith, lt, s.first.low, s.first.high, s.first.value, t.first.value)) (omega (arith, le))

-- so as many digits that give one number follow one number
from_one : (cs ds : List ℕ) (m n r : ℕ) → length cs ≡ length ds → index_after m cs ≡ Some r → index_after n ds ≡ Some r → m ≡ n
from_one cs ds m n r len a b =
    let up : m < n → ⊥ = λ lt. absurd (omega (arith, less cs ds m n r r a b lt (omega (arith, len)))) in
    let down : n < m → ⊥ = λ lt. absurd (omega (arith, less ds cs n m r r b a lt (omega (arith, len)))) in
    omega (arith, up, down)

same_digit : (n c d k l : ℕ) → Follows n c k → Follows n d l → k ≡ l → c ≡ d
same_digit n c d k l f g e = omega (arith, f.low, f.high, f.value, g.low, g.high, g.value, e)

-- and are the same
same_digits : (cs ds : List ℕ) (n r : ℕ) → length cs ≡ length ds → index_after n cs ≡ Some r → index_after n ds ≡ Some r → cs ≡ ds
same_digits [] [] n r len a b = refl
same_digits [] (d ∷ ds) n r len a b = absurd (omega (arith, len))
same_digits (c ∷ cs) [] n r len a b = absurd (omega (arith, len))
same_digits (c ∷ cs) (d ∷ ds) n r len a b =
    let s : Begins n c cs r = begins n c cs r a in
    let t : Begins n d ds r = begins n d ds r b in
    let short : length cs ≡ length ds = omega (arith, len) in
    let one : s.next ≡ t.next = from_one cs ds s.next t.next r short s.rest t.rest in
    ap₂ (λ x xs. x ∷ xs) (same_digit n c d s.next t.next s.first t.first one)
    (same_digits cs ds s.next r short s.rest (subst (λ k. index_after k ds ≡ Some r) (sym one) t.rest))

-- ---- canonical texts

-- the digits of an index: the first of more than one isn't 0
record IsCanonical (c : ℕ) (cs : List ℕ) (r : ℕ) : Type 0 where
  pub digits : index_after 0 (c ∷ cs) ≡ Some r
  pub first : (nat_eq c 48 && nat_le 2 (length (c ∷ cs))) ≡ false

canonical_by : (c : ℕ) (cs : List ℕ) (r : ℕ) (z b : Bool) → nat_eq (length (c ∷ cs)) 0 ≡ z → (nat_eq c 48 && nat_le 2 (length (c ∷ cs))) ≡ b
    → cond (z || b) None (index_after 0 (c ∷ cs)) ≡ Some r → IsCanonical c cs r
canonical_by c cs r true b e f h = absurd (let no_length : length (c ∷ cs) ≡ 0 = eqb-true (length (c ∷ cs)) 0 e in omega (arith, no_length))
canonical_by c cs r false true e f h = absurd (cc)
canonical_by c cs r false false e f h = record { digits = h; first = f }

canonical : (c : ℕ) (cs : List ℕ) (r : ℕ) → index_of (c ∷ cs) ≡ Some r → IsCanonical c cs r
canonical c cs r h = canonical_by c cs r (nat_eq (length (c ∷ cs)) 0) (nat_eq c 48 && nat_le 2 (length (c ∷ cs))) refl refl h

not_zero : (c : ℕ) (x : Bool) → nat_eq c 48 ≡ x → (x && true) ≡ false → c ≡ 48 → ⊥
not_zero c true e f h = absurd (cc)
not_zero c false e f h = absurd (let n : true ≡ false = sym (eq-eqb c 48 h) ∙ e in cc)

first_of_more : (d k : ℕ) (ds : List ℕ) (r : ℕ) → IsCanonical d (k ∷ ds) r → d ≡ 48 → ⊥
first_of_more d k ds r canon h =
    not_zero d (nat_eq d 48) refl (subst (λ b. (nat_eq d 48 && b) ≡ false) (le-leb 2 (length (d ∷ k ∷ ds)) (omega arith)) canon.first) h

-- more digits give another number
longer : (c d : ℕ) (cs ds : List ℕ) (r : ℕ) → IsCanonical c cs r → IsCanonical d ds r → length cs < length ds → ⊥
longer c d cs [] r a b lt = absurd (omega (arith, lt))
longer c d cs (k ∷ ds) r a b lt =
    let s : Begins 0 c cs r = begins 0 c cs r a.digits in
    let t : Begins 0 d (k ∷ ds) r = begins 0 d (k ∷ ds) r b.digits in
    let u : Begins t.next k ds r = begins t.next k ds r t.rest in
    let nonzero : d ≡ 48 → ⊥ = first_of_more d k ds r b in
    let more : s.next < u.next = omega (arith, s.first.low, s.first.high, s.first.value, t.first.low, t.first.high, t.first.value, u.first.value, nonzero) in
    absurd (omega (arith, less cs ds s.next u.next r r s.rest u.rest more (omega (arith, lt))))

index_once : (s t : List ℕ) (r : ℕ) → index_of s ≡ Some r → index_of t ≡ Some r → s ≡ t
index_once [] t r a b = absurd (cc)
index_once (c ∷ cs) [] r a b = absurd (cc)
index_once (c ∷ cs) (d ∷ ds) r a b =
    let s : IsCanonical c cs r = canonical c cs r a in
    let t : IsCanonical d ds r = canonical d ds r b in
    let up : length cs < length ds → ⊥ = longer c d cs ds r s t in
    let down : length ds < length cs → ⊥ = longer d c ds cs r t s in
    same_digits (c ∷ cs) (d ∷ ds) 0 r (omega (arith, up, down)) s.digits t.digits

-- ---- keys

once_by : (s t : List ℕ) (a b : Option ℕ) → index_of s ≡ a → index_of t ≡ b
    → option_map_or (λ i. keys.Index i) a (keys.Name s) ≡ option_map_or (λ i. keys.Index i) b (keys.Name t) → s ≡ t
once_by s t None None e f h = let same : s ≡ t = cc in same
once_by s t None (Some n) e f h = absurd (cc)
once_by s t (Some m) None e f h = absurd (cc)
once_by s t (Some m) (Some n) e f h = let same : m ≡ n = cc in index_once s t m e (f ∙ ap Some (sym same))

pub spelled_once : (s t : List ℕ) → key_of_text s ≡ key_of_text t → s ≡ t
spelled_once s t h = once_by s t (index_of s) (index_of t) refl refl h

-- texts that differ spell keys that differ
pub keys_differ : SameKeysAreEqual → (s t : List ℕ) → bytes_eq s t ≡ false → same_key (key_of_text s) (key_of_text t) ≡ false
keys_differ law s t h = by (same_key (key_of_text s) (key_of_text t)) refl
  where
    by : (b : Bool) → same_key (key_of_text s) (key_of_text t) ≡ b → b ≡ false
    by false e = refl
    by true e = absurd (let n : true ≡ false = sym ((bytes_eq-Decides s t).1 (spelled_once s t (law (key_of_text s) (key_of_text t) e))) ∙ h in cc)
