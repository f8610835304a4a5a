-- The laws of reading that builds: what a reader takes is spelled so, and what is spelled so it takes.
use Rattle.std.proofs.Common.{◌≡◌, ℕ, zero, suc, ◌+◌, Bool, true, false, eqb, List, [], ◌∷◌, ◌++◌, length, Option, Some, None, refl, sym, ap, subst, ◌∙◌, append_assoc, length-append, arith}
use Rattle.std.proofs.lemmas.Bool.{eqb-true}
use Rattle.std.proofs.lemmas.List.{append-nil, nil_from_length}
use Rattle.wasm_grammar.specs.Forms.{Form, Nothing, Both, Made, Items, ByFirst, When, Never}
use Rattle.wasm_grammar.specs.Leb128.{IsU32}
use Rattle.wasm_grammar.specs.Binary.{IsVector, IsSized, ByNumber}
use Rattle.wasm_grammar.specs.Reading.{◌>>=◌, u32_at, part_at}
use Rattle.wasm_grammar.specs.Threads.{Making, make_same, make_both, make_each, make_of, make_after, Reader, same_in, nothing_in, never_in, both_in, of_in, after_in, by_number, by_first, when, items_in, vector_in, Whole, at_end, whole_in, both_whole, of_whole, sized_in}
use Rattle.wasm_grammar.proofs.Steps.{bind_some, guard_is, some_is}
use Rattle.wasm_grammar.proofs.Integers.{ReadsPlain, u32_reads}
use Rattle.wasm_grammar.proofs.Sizes.{part_takes, part_again}

-- what a reader took from the front: the bytes of a tree, and what the tree makes
pub record Took {S T B : Type 0} (P : Form T) (f : Making S T B) (s : S) (after : ℕ) (bytes : List ℕ) (x : (B × S) × List ℕ) : Type 0 where
  pub tree : T
  pub front : List ℕ
  pub parts : bytes ≡ front ++ x.1
  pub is_form : P (after + length x.1) front tree
  pub made : x.0 ≡ f tree s

pub record Reads {S T B : Type 0} (P : Form T) (f : Making S T B) (read : Reader S B) : Type 0 where
  pub takes : (s : S) (after : ℕ) (bytes : List ℕ) (x : (B × S) × List ℕ) → read s after bytes ≡ Some x → Took P f s after bytes x
  pub again : (s : S) (after : ℕ) (front rest : List ℕ) (t : T) → P (after + length rest) front t → read s after (front ++ rest) ≡ Some (f t s, rest)

-- the same for all of the bytes
pub record TookAll {S T B : Type 0} (P : Form T) (f : Making S T B) (s : S) (after : ℕ) (bytes : List ℕ) (x : B × S) : Type 0 where
  pub tree : T
  pub is_form : P after bytes tree
  pub made : x ≡ f tree s

pub record ReadsAll {S T B : Type 0} (P : Form T) (f : Making S T B) (all : Whole S B) : Type 0 where
  pub takes : (s : S) (after : ℕ) (bytes : List ℕ) (x : B × S) → all s after bytes ≡ Some x → TookAll P f s after bytes x
  pub again : (s : S) (after : ℕ) (bytes : List ℕ) (t : T) → P after bytes t → all s after bytes ≡ Some (f t s)

-- ---- single parts

pub same_reads : {S A : Type 0} (P : Form A) (read : List ℕ → Option (A × List ℕ)) → ReadsPlain P read → Reads {S = S} P make_same (same_in read)
same_reads {S} {A} P read r = record {
  takes = λ s after bytes x e.
      let a = bind_some (read bytes) (λ x. Some ((x.0, s), x.1)) x e in
      let t = r.takes after bytes a.0 a.1 in
      subst (λ (y : (A × S) × List ℕ). Took P make_same s after bytes y) (some_is _ _ a.2)
      (record { tree = a.0.0; front = t.front; parts = t.parts; is_form = t.is_form; made = refl });
  again = λ s after front rest t p. rw (r.again after front rest t p) refl;
}

pub nothing_reads : {S T B : Type 0} (t : T) (f : Making S T B) → Reads (Nothing t) f (nothing_in (f t))
nothing_reads {S} {T} {B} t f = record {
  takes = λ s after bytes x e. subst (λ (y : (B × S) × List ℕ). Took (Nothing t) f s after bytes y) (some_is _ _ e) (record { tree = t; front = []; parts = refl; is_form = (refl, refl); made = refl });
  again = λ s after front rest u p. rw (p.0, p.1) refl;
}

pub never_reads : {S T B : Type 0} (f : Making S T B) → Reads Never f never_in
never_reads f = record { takes = λ s after bytes x e. absurd cc; again = λ s after front rest t p. absurd p }

pub when_reads : {S T B : Type 0} (c : Bool) (P Q : Form T) (f : Making S T B) (read other : Reader S B) → Reads P f read → Reads Q f other → Reads (When c P Q) f (when c read other)
when_reads true P Q f read other r q = record { takes = λ s after bytes x e. let t = r.takes s after bytes x e in record { tree = t.tree; front = t.front; parts = t.parts; is_form = t.is_form; made = t.made }; again = r.again }
when_reads false P Q f read other r q = record { takes = λ s after bytes x e. let t = q.takes s after bytes x e in record { tree = t.tree; front = t.front; parts = t.parts; is_form = t.is_form; made = t.made }; again = q.again }

module _ {S T B : Type 0} (K : ℕ → Form T) (f : Making S T B) (k : ℕ → Reader S B) (r : (b : ℕ) → Reads (K b) f (k b)) where
  first_takes : (s : S) (after : ℕ) (bytes : List ℕ) (x : (B × S) × List ℕ) → by_first k s after bytes ≡ Some x → Took (ByFirst K) f s after bytes x
  first_takes s after [] x e = absurd cc
  first_takes s after (b ∷ bytes) x e =
      let t = (r b).takes s after bytes x e in
      record { tree = t.tree; front = b ∷ t.front; parts = ap (λ (w : List ℕ). b ∷ w) t.parts; is_form = t.is_form; made = t.made }

  first_again : (s : S) (after : ℕ) (front rest : List ℕ) (t : T) → ByFirst K (after + length rest) front t → by_first k s after (front ++ rest) ≡ Some (f t s, rest)
  first_again s after [] rest t p = absurd p
  first_again s after (b ∷ front) rest t p = (r b).again s after front rest t p

  pub by_first_reads : Reads (ByFirst K) f (by_first k)
  by_first_reads = record { takes = first_takes; again = first_again }

pub of_reads : {S T B C : Type 0} (h : B → C) (P : Form T) (f : Making S T B) (read : Reader S B) → Reads P f read → Reads P (make_of h f) (of_in h read)
of_reads {S} {T} {B} {C} h P f read r = record {
  takes = λ s after bytes x e.
      let a = bind_some (read s after bytes) (λ x. Some ((h x.0.0, x.0.1), x.1)) x e in
      let t = r.takes s after bytes a.0 a.1 in
      subst (λ (y : (C × S) × List ℕ). Took P (make_of h f) s after bytes y) (some_is _ _ a.2)
      (record { tree = t.tree; front = t.front; parts = t.parts; is_form = t.is_form; made = ap (λ (z : B × S). (h z.0, z.1)) t.made });
  again = λ s after front rest t p. rw (r.again s after front rest t p) refl;
}

pub after_reads : {S T B C : Type 0} (g : B → S → C × S) (P : Form T) (f : Making S T B) (read : Reader S B) → Reads P f read → Reads P (make_after g f) (after_in g read)
after_reads {S} {T} {B} {C} g P f read r = record {
  takes = λ s after bytes x e.
      let a = bind_some (read s after bytes) (λ x. Some (g x.0.0 x.0.1, x.1)) x e in
      let t = r.takes s after bytes a.0 a.1 in
      subst (λ (y : (C × S) × List ℕ). Took P (make_after g f) s after bytes y) (some_is _ _ a.2)
      (record { tree = t.tree; front = t.front; parts = t.parts; is_form = t.is_form; made = ap (λ (z : B × S). g z.0 z.1) t.made });
  again = λ s after front rest t p. rw (r.again s after front rest t p) refl;
}

-- makings that make the same of each tree
pub remade_reads : {S T B : Type 0} (P : Form T) (f g : Making S T B) (read : Reader S B) → ((t : T) (s : S) → f t s ≡ g t s) → Reads P f read → Reads P g read
remade_reads P f g read same r = record {
  takes = λ s after bytes x e.
      let t = r.takes s after bytes x e in
      record { tree = t.tree; front = t.front; parts = t.parts; is_form = t.is_form; made = t.made ∙ same t.tree s };
  again = λ s after front rest t p. r.again s after front rest t p ∙ rw (same t s) refl;
}

pub each_same : {S T : Type 0} (ts : List T) (s : S) → make_each make_same ts s ≡ (ts, s)
each_same [] s = refl
each_same (t ∷ ts) s = rw (each_same ts s) refl

-- a tree that is made of another one
pub made_reads : {S T U B : Type 0} (g : U → T) (P : Form U) (f : Making S T B) (read : Reader S B) → Reads P (λ u. f (g u)) read → Reads (Made g P) f read
made_reads g P f read r = record {
  takes = λ s after bytes x e.
      let t = r.takes s after bytes x e in
      record { tree = g t.tree; front = t.front; parts = t.parts; is_form = record { of = t.tree; is_made = refl; is_of = t.is_form }; made = t.made };
  again = λ s after front rest t p. r.again s after front rest p.of p.is_of ∙ rw p.is_made refl;
}

-- ---- one part after the other

pub joined : (P : ℕ → List ℕ → Type 0) (after : ℕ) (bytes mid rest a b : List ℕ) → bytes ≡ a ++ mid → mid ≡ b ++ rest → P (after + length mid) a → (bytes ≡ (a ++ b) ++ rest) × P (after + length rest + length b) a
joined P after bytes mid rest a b e g p =
    let long : after + length mid ≡ after + length rest + length b = omega (arith, ap length g ∙ length-append b rest) in
    (e ∙ ap (λ (w : List ℕ). a ++ w) g ∙ sym (append_assoc a b rest), subst (λ (k : ℕ). P k a) long p)

pub record Parted (P : ℕ → List ℕ → Type 0) (after : ℕ) (front rest a b : List ℕ) : Type 0 where
  pub whole_is : front ++ rest ≡ a ++ (b ++ rest)
  pub first : P (after + length (b ++ rest)) a

pub parted : (P : ℕ → List ℕ → Type 0) (after : ℕ) (front rest a b : List ℕ) → front ≡ a ++ b → P (after + length rest + length b) a → Parted P after front rest a b
parted P after front rest a b e p =
    let long : after + length rest + length b ≡ after + length (b ++ rest) = omega (arith, length-append b rest) in
    record { whole_is = ap (λ (w : List ℕ). w ++ rest) e ∙ append_assoc a b rest; first = subst (λ (k : ℕ). P k a) long p }

pub both_reads : {S T U B C : Type 0} (P : Form T) (Q : Form U) (f : Making S T B) (g : Making S U C) (read : Reader S B) (more : Reader S C) → Reads P f read → Reads Q g more → Reads (Both P Q) (make_both f g) (both_in read more)
both_reads {S} {T} {U} {B} {C} P Q f g read more r q = record {
  takes = λ s after bytes x e.
      let a = bind_some (read s after bytes) (λ x. more x.0.1 after x.1 >>= λ y. Some (((x.0.0, y.0.0), y.0.1), y.1)) x e in
      let b = bind_some (more a.0.0.1 after a.0.1) (λ y. Some (((a.0.0.0, y.0.0), y.0.1), y.1)) x a.2 in
      let t = r.takes s after bytes a.0 a.1 in
      let u = q.takes a.0.0.1 after a.0.1 b.0 b.1 in
      let j = joined (λ k w. P k w t.tree) after bytes a.0.1 b.0.1 t.front u.front t.parts u.parts t.is_form in
      let second : b.0.0 ≡ g u.tree (f t.tree s).1 = u.made ∙ ap (λ (z : B × S). g u.tree z.1) t.made in
      let made : ((a.0.0.0, b.0.0.0), b.0.0.1) ≡ make_both f g (t.tree, u.tree) s = ap (λ (z : B × S). ((z.0, b.0.0.0), b.0.0.1)) t.made ∙ ap (λ (z : C × S). (((f t.tree s).0, z.0), z.1)) second in
      subst (λ (y : ((B × C) × S) × List ℕ). Took (Both P Q) (make_both f g) s after bytes y) (some_is _ _ b.2)
      (record { tree = (t.tree, u.tree); front = t.front ++ u.front; parts = j.0; is_form = record { front = t.front; back = u.front; parts = refl; first = j.1; second = u.is_form }; made = made });
  again = λ s after front rest t p.
      let d = parted (λ k w. P k w t.0) after front rest p.front p.back p.parts p.first in
      let one = r.again s after p.front (p.back ++ rest) t.0 d.first in
      let two = q.again (f t.0 s).1 after p.back rest t.1 p.second in
      rw (d.whole_is, one, two) refl;
}

-- a number, and what it chooses
pub by_number_reads : {S T B : Type 0} (K : (left number : ℕ) → Form T) (f : Making S T B) (k : (left number : ℕ) → Reader S B) → ((left number : ℕ) → Reads (K left number) f (k left number)) → Reads (ByNumber K) f (by_number k)
by_number_reads {S} {T} {B} K f k r = record {
  takes = λ s after bytes x e.
      let a = bind_some (u32_at bytes) (λ n. k (after + length bytes) n.0 s after n.1) x e in
      let t = u32_reads.takes after bytes a.0 a.1 in
      let u = (r (after + length bytes) a.0.0).takes s after a.0.1 x a.2 in
      let j = joined (λ l w. IsU32 l w a.0.0) after bytes a.0.1 x.1 t.front u.front t.parts u.parts t.is_form in
      let long : after + length bytes ≡ after + length x.1 + length (t.front ++ u.front) = omega (arith, ap length j.0, length-append (t.front ++ u.front) x.1) in
      record { tree = u.tree; front = t.front ++ u.front; parts = j.0; is_form = record { front = t.front; back = u.front; parts = refl; number = a.0.0; is_number = j.1; chosen = subst (λ (l : ℕ). K l a.0.0 (after + length x.1) u.front u.tree) long u.is_form }; made = u.made };
  again = λ s after front rest t p.
      let d = parted (λ l w. IsU32 l w p.number) after front rest p.front p.back p.parts p.is_number in
      let long : after + length rest + length front ≡ after + length (front ++ rest) = omega (arith, length-append front rest) in
      let is : K (after + length (front ++ rest)) p.number (after + length rest) p.back t = subst (λ (l : ℕ). K l p.number (after + length rest) p.back t) long p.chosen in
      let one = (r (after + length (front ++ rest)) p.number).again s after p.back rest t is in
      let two : u32_at (front ++ rest) ≡ Some (p.number, p.back ++ rest) = ap u32_at d.whole_is ∙ u32_reads.again after p.front (p.back ++ rest) p.number d.first in
      rw two one;
}

module _ {S T B : Type 0} (P : Form T) (f : Making S T B) (read : Reader S B) (r : Reads P f read) where
  items_take : (n : ℕ) (s : S) (after : ℕ) (bytes : List ℕ) (x : (List B × S) × List ℕ) → items_in read n s after bytes ≡ Some x → (t : Took (Items P) (make_each f) s after bytes x) × (length t.tree ≡ n)
  unfolding items_in
  items_take zero s after bytes x e =
      subst (λ (y : (List B × S) × List ℕ). (t : Took (Items P) (make_each f) s after bytes y) × (length t.tree ≡ 0)) (some_is _ _ e)
      (record { tree = []; front = []; parts = refl; is_form = refl; made = refl }, refl)
  items_take (suc n) s after bytes x e =
      let a = bind_some (read s after bytes) (λ x. items_in read n x.0.1 after x.1 >>= λ xs. Some ((x.0.0 ∷ xs.0.0, xs.0.1), xs.1)) x e in
      let b = bind_some (items_in read n a.0.0.1 after a.0.1) (λ xs. Some ((a.0.0.0 ∷ xs.0.0, xs.0.1), xs.1)) x a.2 in
      let t = r.takes s after bytes a.0 a.1 in
      let v = items_take n a.0.0.1 after a.0.1 b.0 b.1 in
      let u = v.0 in
      let j = joined (λ k w. P k w t.tree) after bytes a.0.1 b.0.1 t.front u.front t.parts u.parts t.is_form in
      let second : b.0.0 ≡ make_each f u.tree (f t.tree s).1 = u.made ∙ ap (λ (z : B × S). make_each f u.tree z.1) t.made in
      let made : (a.0.0.0 ∷ b.0.0.0, b.0.0.1) ≡ make_each f (t.tree ∷ u.tree) s = ap (λ (z : B × S). (z.0 ∷ b.0.0.0, b.0.0.1)) t.made ∙ ap (λ (z : List B × S). ((f t.tree s).0 ∷ z.0, z.1)) second in
      subst (λ (y : (List B × S) × List ℕ). (t : Took (Items P) (make_each f) s after bytes y) × (length t.tree ≡ suc n)) (some_is _ _ b.2)
      (record { tree = t.tree ∷ u.tree; front = t.front ++ u.front; parts = j.0; is_form = (t.front, u.front, refl, j.1, u.is_form); made = made }, ap suc v.1)

  items_again : (ts : List T) (s : S) (after : ℕ) (front rest : List ℕ) → Items P (after + length rest) front ts → items_in read (length ts) s after (front ++ rest) ≡ Some (make_each f ts s, rest)
  unfolding items_in
  items_again [] s after front rest p = rw p refl
  items_again (t ∷ ts) s after front rest p =
      let d = parted (λ k w. P k w t) after front rest p.0 p.1 p.2 p.3 in
      let one = r.again s after p.0 (p.1 ++ rest) t d.first in
      rw (d.whole_is, one, items_again ts (f t s).1 after p.1 rest p.4) refl

  pub vector_reads : Reads (IsVector P) (make_each f) (vector_in read)
  vector_reads = record {
    takes = λ s after bytes x e.
        let a = bind_some (u32_at bytes) (λ n. items_in read n.0 s after n.1) x e in
        let t = u32_reads.takes after bytes a.0 a.1 in
        let v = items_take a.0.0 s after a.0.1 x a.2 in
        let u = v.0 in
        let j = joined (λ k w. IsU32 k w a.0.0) after bytes a.0.1 x.1 t.front u.front t.parts u.parts t.is_form in
        let count : IsU32 (after + length x.1 + length u.front) t.front (length u.tree) = rw v.1 j.1 in
        record { tree = u.tree; front = t.front ++ u.front; parts = j.0; is_form = record { front = t.front; back = u.front; parts = refl; count = count; items = u.is_form }; made = u.made };
    again = λ s after front rest ts p.
        let d = parted (λ k w. IsU32 k w (length ts)) after front rest p.front p.back p.parts p.count in
        rw (d.whole_is, u32_reads.again after p.front (p.back ++ rest) (length ts) d.first) (items_again ts s after p.back rest p.items);
  }

-- ---- all of the bytes

pub at_end_is : {A : Type 0} (r : Option (A × List ℕ)) (y : A) → at_end r ≡ Some y → r ≡ Some (y, [])
at_end_is None y e = absurd cc
at_end_is {A} (Some x) y e =
    let g = guard_is (eqb (length x.1) 0) (Some x.0) y e in
    let n : x.1 ≡ [] = nil_from_length x.1 (eqb-true _ _ g.0) in
    let v : x.0 ≡ y = some_is _ _ g.1 in
    ap (λ (z : A × List ℕ). Some z) (ap (λ (w : List ℕ). (x.0, w)) n ∙ ap (λ (w : A). (w, [])) v)

pub whole_reads : {S T B : Type 0} (P : Form T) (f : Making S T B) (read : Reader S B) → Reads P f read → ReadsAll P f (whole_in read)
whole_reads P f read r = record {
  takes = λ s after bytes x e.
      let u = r.takes s after bytes (x, []) (at_end_is (read s after bytes) x e) in
      let front_is : u.front ≡ bytes = sym (u.parts ∙ append-nil u.front) in
      let is : P after bytes u.tree = subst (λ (w : List ℕ). P after w u.tree) front_is (subst (λ (k : ℕ). P k u.front u.tree) (omega arith) u.is_form) in
      record { tree = u.tree; is_form = is; made = u.made };
  again = λ s after bytes t p.
      let is : P (after + 0) bytes t = subst (λ (k : ℕ). P k bytes t) (omega arith) p in
      let one : read s after bytes ≡ Some (f t s, []) = ap (read s after) (sym (append-nil bytes)) ∙ r.again s after bytes [] t is in
      rw one refl;
}

pub sized_reads : {S T B : Type 0} (P : Form T) (f : Making S T B) (all : Whole S B) → ReadsAll P f all → Reads (IsSized P) f (sized_in all)
sized_reads {S} {T} {B} P f all r = record {
  takes = λ s after bytes x e.
      let a = bind_some (part_at bytes) (λ x. all s (after + length x.1) x.0 >>= λ y. Some (y, x.1)) x e in
      let b = bind_some (all s (after + length a.0.1) a.0.0) (λ y. Some (y, a.0.1)) x a.2 in
      let t = part_takes (after + length a.0.1 + length a.0.0) bytes a.0 a.1 in
      let u = r.takes s (after + length a.0.1) a.0.0 b.0 b.1 in
      subst (λ (y : (B × S) × List ℕ). Took (IsSized P) f s after bytes y) (some_is _ _ b.2)
      (record { tree = u.tree; front = t.front ++ a.0.0; parts = t.parts; is_form = record { front = t.front; back = a.0.0; parts = refl; size = t.size; body = u.is_form }; made = u.made });
  again = λ s after front rest t p.
      let whole_is : front ++ rest ≡ p.front ++ (p.back ++ rest) = ap (λ (w : List ℕ). w ++ rest) p.parts ∙ append_assoc p.front p.back rest in
      rw (whole_is, part_again _ p.front p.back rest p.size, r.again s (after + length rest) p.back t p.body) refl;
}

pub both_whole_reads : {S T U B C : Type 0} (P : Form T) (Q : Form U) (f : Making S T B) (g : Making S U C) (read : Reader S B) (all : Whole S C) → Reads P f read → ReadsAll Q g all → ReadsAll (Both P Q) (make_both f g) (both_whole read all)
both_whole_reads {S} {T} {U} {B} {C} P Q f g read all r q = record {
  takes = λ s after bytes x e.
      let a = bind_some (read s after bytes) (λ x. all x.0.1 after x.1 >>= λ y. Some ((x.0.0, y.0), y.1)) x e in
      let b = bind_some (all a.0.0.1 after a.0.1) (λ y. Some ((a.0.0.0, y.0), y.1)) x a.2 in
      let t = r.takes s after bytes a.0 a.1 in
      let u = q.takes a.0.0.1 after a.0.1 b.0 b.1 in
      let second : b.0 ≡ g u.tree (f t.tree s).1 = u.made ∙ ap (λ (z : B × S). g u.tree z.1) t.made in
      let made : ((a.0.0.0, b.0.0), b.0.1) ≡ make_both f g (t.tree, u.tree) s = ap (λ (z : B × S). ((z.0, b.0.0), b.0.1)) t.made ∙ ap (λ (z : C × S). (((f t.tree s).0, z.0), z.1)) second in
      subst (λ (y : (B × C) × S). TookAll (Both P Q) (make_both f g) s after bytes y) (some_is _ _ b.2)
      (record { tree = (t.tree, u.tree); is_form = record { front = t.front; back = a.0.1; parts = t.parts; first = t.is_form; second = u.is_form }; made = made });
  again = λ s after bytes t p.
      let one = r.again s after p.front p.back t.0 p.first in
      let two = q.again (f t.0 s).1 after p.back t.1 p.second in
      rw (p.parts, one, two) refl;
}

pub of_whole_reads : {S T B C : Type 0} (h : B → C) (P : Form T) (f : Making S T B) (all : Whole S B) → ReadsAll P f all → ReadsAll P (make_of h f) (of_whole h all)
of_whole_reads {S} {T} {B} {C} h P f all r = record {
  takes = λ s after bytes x e.
      let a = bind_some (all s after bytes) (λ x. Some (h x.0, x.1)) x e in
      let t = r.takes s after bytes a.0 a.1 in
      subst (λ (y : C × S). TookAll P (make_of h f) s after bytes y) (some_is _ _ a.2) (record { tree = t.tree; is_form = t.is_form; made = ap (λ (z : B × S). (h z.0, z.1)) t.made });
  again = λ s after bytes t p. rw (r.again s after bytes t p) refl;
}
