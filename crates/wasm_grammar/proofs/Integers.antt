-- What a reader of numbers takes is spelled so, and what is spelled so it takes.
use Rattle.std.proofs.Common.{◌≡◌, ℕ, suc, ◌+◌, ◌-◌, ◌*◌, ◌^◌, ◌<◌, ◌≤◌, false, cond, ltb, eqb, List, [], ◌∷◌, ◌++◌, length, Option, Some, None, refl, sym, ap, subst, ◌∙◌, arith, inl, inr}
use Rattle.std.proofs.Math.Nat.{pow-succ'}
use Rattle.std.proofs.lemmas.Bool.{ltb-false, ltb-true, le-ltb, lt-ltb, eqb-false, ne_eqb}
use Rattle.wasm_grammar.specs.Forms.{Form, Front}
use Rattle.wasm_grammar.specs.Leb128.{IsLeb128, IsU32, IsWord, IsSigned, IsTypeIndex}
use Rattle.wasm_grammar.specs.Reading.{◌>>=◌, leb_at, u32_at, word_of, signed_at, type_index_at}
use Rattle.wasm_grammar.proofs.Steps.{bind_some, guard_not, guard_is, chosen, some_is}

-- a reader of a form that builds nothing
pub record ReadsPlain {A : Type 0} (P : Form A) (read : List ℕ → Option (A × List ℕ)) : Type 0 where
  pub takes : (after : ℕ) (bytes : List ℕ) (x : A × List ℕ) → read bytes ≡ Some x → Front P after bytes x.0 x.1
  pub again : (after : ℕ) (front rest : List ℕ) (x : A) → P (after + length rest) front x → read (front ++ rest) ≡ Some (x, rest)

-- ---- groups of seven bits

record LebFront (sum unit most : ℕ) (bytes : List ℕ) (x : (ℕ × ℕ) × List ℕ) : Type 0 where
  pub front : List ℕ
  pub number : ℕ
  pub parts : bytes ≡ front ++ x.1
  pub groups : IsLeb128 front number
  pub short : length front ≤ most
  pub sum_is : x.0.0 ≡ sum + unit * number
  pub top_is : x.0.1 ≡ unit * 128 ^ length front

times : (u d m : ℕ) → u * (d + 128 * m) ≡ d * u + 128 * u * m
times u d m = omega arith

-- one group more
pub powers : (k : ℕ) → 128 ^ suc k ≡ 128 * 128 ^ k
powers k = pow-succ' 128 k

longer_top : (unit k : ℕ) → 128 * unit * 128 ^ k ≡ unit * 128 ^ suc k
longer_top unit k = rw (powers k) (omega arith)

one_group : (sum unit most b : ℕ) (bytes : List ℕ) (x : (ℕ × ℕ) × List ℕ) → 0 < most → b < 128 → ((sum + b * unit, 128 * unit), bytes) ≡ x → LebFront sum unit most (b ∷ bytes) x
one_group sum unit most b bytes x pos lt e =
    let top : 128 * unit ≡ unit * 128 = omega arith in
    let value : sum + b * unit ≡ sum + unit * b = omega arith in
    let one : 1 ≤ most = omega arith in
    subst (λ (y : (ℕ × ℕ) × List ℕ). LebFront sum unit most (b ∷ bytes) y) e (record { front = b ∷ []; number = b; parts = refl; groups = (lt, refl); short = one; sum_is = value; top_is = top })

longer : (b : ℕ) (front : List ℕ) (high : ℕ) → 128 ≤ b → IsLeb128 front high → IsLeb128 (b ∷ front) (b - 128 + 128 * high)
longer b [] high le h = absurd h
longer b (c ∷ front) high le h = (le, high, omega arith, h)

more_groups : (sum unit most b : ℕ) (bytes : List ℕ) (x : (ℕ × ℕ) × List ℕ) → 0 < most → 128 ≤ b → LebFront (sum + (b - 128) * unit) (128 * unit) (most - 1) bytes x → LebFront sum unit most (b ∷ bytes) x
more_groups sum unit most b bytes x pos le t = record {
  front = b ∷ t.front;
  number = b - 128 + 128 * t.number;
  parts = ap (λ (w : List ℕ). b ∷ w) t.parts;
  groups = longer b t.front t.number le t.groups;
  short = omega (arith, t.short);
  sum_is = omega (arith, t.sum_is, times unit (b - 128) t.number);
  top_is = t.top_is ∙ longer_top unit (length t.front);
}

leb_takes : (bytes : List ℕ) (sum unit most : ℕ) (x : (ℕ × ℕ) × List ℕ) → leb_at sum unit bytes most ≡ Some x → LebFront sum unit most bytes x
unfolding leb_at
leb_takes [] sum unit most x e = absurd cc
leb_takes (b ∷ bytes) sum unit most x e =
    let last : Option ((ℕ × ℕ) × List ℕ) = Some ((sum + b * unit, 128 * unit), bytes) in
    let more : Option ((ℕ × ℕ) × List ℕ) = leb_at (sum + (b - 128) * unit) (128 * unit) bytes (most - 1) in
    let g = guard_not (eqb most 0) (cond (ltb b 128) last more) x e in
    let pos : 0 < most = omega (arith, eqb-false most 0 g.0) in
    elim (chosen (ltb b 128) last more (Some x) g.1) [
      | inl h ↦ one_group sum unit most b bytes x pos (ltb-true b 128 h.0) (some_is _ _ h.1)
      | inr h ↦ more_groups sum unit most b bytes x pos (ltb-false b 128 h.0) (leb_takes bytes (sum + (b - 128) * unit) (128 * unit) (most - 1) x h.1)
    ]

leb_again : (front : List ℕ) (sum unit most number : ℕ) (rest : List ℕ) → IsLeb128 front number → length front ≤ most → leb_at sum unit (front ++ rest) most ≡ Some ((sum + unit * number, unit * 128 ^ length front), rest)
unfolding leb_at
leb_again [] sum unit most number rest h le = absurd h
leb_again (b ∷ []) sum unit most number rest h le =
    let p : eqb most 0 ≡ false = ne_eqb most 0 (omega arith) in
    let value : sum + b * unit ≡ sum + unit * number = rw h.1 (omega arith) in
    let top : 128 * unit ≡ unit * 128 = omega arith in
    rw (p, lt-ltb b 128 h.0, value, top) refl
leb_again (b ∷ c ∷ front) sum unit most number rest h le =
    let p : eqb most 0 ≡ false = ne_eqb most 0 (omega arith) in
    let q : ltb b 128 ≡ false = le-ltb b 128 h.0 in
    let more = leb_again (c ∷ front) (sum + (b - 128) * unit) (128 * unit) (most - 1) h.1 rest h.3 (omega arith) in
    let is : b - 128 + 128 * h.1 ≡ number = omega (arith, h.2, h.0) in
    let value : sum + (b - 128) * unit + 128 * unit * h.1 ≡ sum + unit * number = rw (← is) (omega (arith, times unit (b - 128) h.1)) in
    let top : 128 * unit * 128 ^ length (c ∷ front) ≡ unit * 128 ^ length (b ∷ c ∷ front) = longer_top unit (length (c ∷ front)) in
    rw (p, q, more, value, top) refl

-- ---- from the first group on

record FirstGroups (most : ℕ) (bytes : List ℕ) (x : (ℕ × ℕ) × List ℕ) : Type 0 where
  pub front : List ℕ
  pub parts : bytes ≡ front ++ x.1
  pub groups : IsLeb128 front x.0.0
  pub short : length front ≤ most
  pub top_is : x.0.1 ≡ 128 ^ length front

groups_take : (bytes : List ℕ) (most : ℕ) (x : (ℕ × ℕ) × List ℕ) → leb_at 0 1 bytes most ≡ Some x → FirstGroups most bytes x
groups_take bytes most x e =
    let t = leb_takes bytes 0 1 most x e in
    let number_is : t.number ≡ x.0.0 = omega (arith, t.sum_is) in
    record { front = t.front; parts = t.parts; groups = subst (λ (n : ℕ). IsLeb128 t.front n) number_is t.groups; short = t.short; top_is = omega (arith, t.top_is) }

groups_again : (front : List ℕ) (most number : ℕ) (rest : List ℕ) → IsLeb128 front number → length front ≤ most → leb_at 0 1 (front ++ rest) most ≡ Some ((number, 128 ^ length front), rest)
groups_again front most number rest h le =
    let value : 0 + 1 * number ≡ number = omega arith in
    let top : 1 * 128 ^ length front ≡ 128 ^ length front = omega arith in
    leb_again front 0 1 most number rest h le ∙ rw (value, top) refl

-- ---- integers

pub u32_reads : ReadsPlain IsU32 u32_at
unfolding u32_at
u32_reads = record {
  takes = λ after bytes x e.
      let s = bind_some (leb_at 0 1 bytes 5) (λ x. cond (ltb x.0.0 (2 ^ 32)) (Some (x.0.0, x.1)) None) x e in
      let g = guard_is (ltb s.0.0.0 (2 ^ 32)) (Some (s.0.0.0, s.0.1)) x s.2 in
      let t = groups_take bytes 5 s.0 s.1 in
      subst (λ (y : ℕ × List ℕ). Front IsU32 after bytes y.0 y.1) (some_is _ _ g.1)
      (record { front = t.front; parts = t.parts; is_form = record { groups = t.groups; short = t.short; fits = ltb-true _ _ g.0 } });
  again = λ after front rest n p. rw (groups_again front 5 n rest p.groups p.short, lt-ltb n (2 ^ 32) p.fits) refl;
}

word_is : (half top n word : ℕ) → word_of half top n ≡ Some word → IsWord half top n word
word_is half top n word e =
    elim (chosen (ltb (n + n) top) (cond (ltb n half) (Some n) None) (cond (ltb (n + half) top) None (Some (n + half + half - top))) (Some word) e) [
      | inl h ↦ let g = guard_is (ltb n half) (Some n) word h.1 in inl (ltb-true _ _ h.0, ltb-true _ _ g.0, sym (some_is _ _ g.1))
      | inr h ↦
          let g = guard_not (ltb (n + half) top) (Some (n + half + half - top)) word h.1 in
          let is : n + half + half - top ≡ word = some_is _ _ g.1 in
          let a : top ≤ n + n = ltb-false _ _ h.0 in
          let b : top ≤ n + half = ltb-false _ _ g.0 in
          inr (a, b, omega arith)
    ]

word_again : (half top n word : ℕ) → IsWord half top n word → word_of half top n ≡ Some word
word_again half top n word (inl h) = rw (lt-ltb _ _ h.0, lt-ltb _ _ h.1, h.2) refl
word_again half top n word (inr h) =
    let is : n + half + half - top ≡ word = omega (arith, h.1, h.2) in
    rw (le-ltb (n + n) top h.0, le-ltb (n + half) top h.1, is) refl

pub signed_reads : (most half : ℕ) → ReadsPlain (IsSigned most half) (signed_at most half)
unfolding signed_at
signed_reads most half = record {
  takes = λ after bytes x e.
      let s = bind_some (leb_at 0 1 bytes most) (λ x. word_of half x.0.1 x.0.0 >>= λ word. Some (word, x.1)) x e in
      let g = bind_some (word_of half s.0.0.1 s.0.0.0) (λ word. Some (word, s.0.1)) x s.2 in
      let t = groups_take bytes most s.0 s.1 in
      subst (λ (y : ℕ × List ℕ). Front (IsSigned most half) after bytes y.0 y.1) (some_is _ _ g.2)
      (record { front = t.front; parts = t.parts; is_form = record { number = s.0.0.0; groups = t.groups; short = t.short; is_word = subst (λ (top : ℕ). IsWord half top s.0.0.0 g.0) t.top_is (word_is half s.0.0.1 s.0.0.0 g.0 g.1) } });
  again = λ after front rest word p. rw (groups_again front most p.number rest p.groups p.short, word_again half (128 ^ length front) p.number word p.is_word) refl;
}

pub type_index_reads : ReadsPlain IsTypeIndex type_index_at
unfolding type_index_at
type_index_reads = record {
  takes = λ after bytes x e.
      let s = bind_some (leb_at 0 1 bytes 5) (λ x. cond (ltb (x.0.0 + x.0.0) x.0.1) (cond (ltb x.0.0 (2 ^ 32)) (Some (x.0.0, x.1)) None) None) x e in
      let g = guard_is (ltb (s.0.0.0 + s.0.0.0) s.0.0.1) (cond (ltb s.0.0.0 (2 ^ 32)) (Some (s.0.0.0, s.0.1)) None) x s.2 in
      let f = guard_is (ltb s.0.0.0 (2 ^ 32)) (Some (s.0.0.0, s.0.1)) x g.1 in
      let t = groups_take bytes 5 s.0 s.1 in
      subst (λ (y : ℕ × List ℕ). Front IsTypeIndex after bytes y.0 y.1) (some_is _ _ f.1)
      (record { front = t.front; parts = t.parts; is_form = record { groups = t.groups; short = t.short; not_negative = subst (λ (top : ℕ). s.0.0.0 + s.0.0.0 < top) t.top_is (ltb-true _ _ g.0); fits = ltb-true _ _ f.0 } });
  again = λ after front rest n p. rw (groups_again front 5 n rest p.groups p.short, lt-ltb (n + n) (128 ^ length front) p.not_negative, lt-ltb n (2 ^ 32) p.fits) refl;
}
