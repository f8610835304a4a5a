-- Laws of the numbering of blocks.
use Rattle.std.proofs.Common.{◌≡◌, ℕ, suc, ◌+◌, ◌-◌, ◌<◌, ◌≤◌, Bool, true, false, ◌&&◌, nat_eq, List, [], ◌∷◌, ◌++◌, length, map, flat_map, Option, Some, None, Result, Ok, Err, IfOk, take, get_or, refl, sym, ◌∙◌, ap, subst, arith, append_assoc, eq-eqb, inl, inr}
use Rattle.std.proofs.lemmas.Grind.{flat_map-append}
use Rattle.std.proofs.lemmas.List.{append-nil, map-append, take_more, length-append}
use Rattle.std.proofs.lemmas.Bool.{ne_eqb}
use Rattle.std.proofs.lemmas.Bool.Decides.{eqb_tells}
use Rattle.wasm_syntax.specs.Blocks.{block_of}
use Rattle.wasm_syntax.specs.declared.instructions.BlockId.{BlockId}
use Rattle.wasm_syntax.specs.declared.module.Module.{Module}
use Rattle.wasm_syntax.specs.declared.module.GlobalDef.{GlobalDef}
use Rattle.wasm_syntax.specs.declared.module.Elem.{Elem}
use Rattle.wasm_syntax.specs.declared.module.Func.{Func}
use Rattle.wasm_syntax.specs.declared.module.Data.{Data}
use Rattle.wasm_syntax.specs.Numbering.{nested_in, offset_of, ends_in, outermost, counts_to, is_numbered}
use Rattle.wasm_valid.specs.Numbers.{Deep, ids_of, ends_of, AreDeep, Pending, Found, Leaves}

and_false : (a : Bool) → (a && false) ≡ false
and_false true = refl
and_false false = refl

swap_and : (a b c : Bool) → (a && (b && c)) ≡ (b && (a && c))
swap_and true true c = refl
swap_and true false c = refl
swap_and false true c = refl
swap_and false false c = refl

one_number : (x j k : ℕ) → ((nat_eq x j) && (nat_eq (suc j) (suc k))) ≡ ((nat_eq x k) && (nat_eq j k))
one_number x j k = elim (eqb_tells j k) [
  | inl same ↦ ap (λ b. (nat_eq x j) && b) (eq-eqb (suc j) (suc k) (ap suc same.1)) ∙ ap (λ n. (nat_eq x n) && true) same.1 ∙ sym (ap (λ b. (nat_eq x k) && b) same.0)
  | inr apart ↦ ap (λ b. (nat_eq x j) && b) (ne_eqb (suc j) (suc k) (λ e. apart.1 (omega arith))) ∙ and_false (nat_eq x j) ∙ sym (ap (λ b. (nat_eq x k) && b) apart.0 ∙ and_false (nat_eq x k))
]

-- the last of these numbers
pub counts_to-snoc : (k j : ℕ) (xs : List ℕ) (x : ℕ) → counts_to (suc k) j (xs ++ x ∷ []) ≡ ((nat_eq x k) && counts_to k j xs)
counts_to-snoc k j [] x = one_number x j k
counts_to-snoc k j (y ∷ xs) x = ap (λ b. (nat_eq y j) && b) (counts_to-snoc k (suc j) xs x) ∙ swap_and (nat_eq y j) (nat_eq x k) (counts_to k (suc j) xs)

counts_past : (j : ℕ) (xs : List ℕ) → counts_to 0 (suc j) xs ≡ false
counts_past j [] = ne_eqb (suc j) 0 (λ e. omega arith)
counts_past j (x ∷ xs) = ap (λ b. (nat_eq x (suc j)) && b) (counts_past (suc j) xs) ∙ and_false (nat_eq x (suc j))

-- no list with an element has none
counts_none : (j : ℕ) (xs : List ℕ) (y : ℕ) (zs : List ℕ) → counts_to 0 j (xs ++ y ∷ zs) ≡ false
counts_none j [] y zs = ap (λ b. (nat_eq y j) && b) (counts_past j zs) ∙ and_false (nat_eq y j)
counts_none j (x ∷ xs) y zs = ap (λ b. (nat_eq x j) && b) (counts_none (suc j) xs y zs) ∙ and_false (nat_eq x j)

at_depth : ℕ → List BlockId → List Deep
at_depth d ids = map (λ (id : BlockId). (d, id)) ids

ids-at_depth : (d : ℕ) (ids : List BlockId) → ids_of (at_depth d ids) ≡ ids
unfolding at_depth
ids-at_depth d [] = refl
ids-at_depth d (id ∷ ids) = ap (λ xs. id ∷ xs) (ids-at_depth d ids)

ends-at_depth : (m : Module) (d : ℕ) (ids : List BlockId) → ends_of m (at_depth d ids) ≡ flat_map (ends_in m d) ids
unfolding at_depth
ends-at_depth m d [] = refl
ends-at_depth m d (id ∷ ids) = ap (λ xs. ends_in m d id ++ xs) (ends-at_depth m d ids)

deep-at_depth : (k d : ℕ) (ids : List BlockId) → k ≤ d → AreDeep k (at_depth d ids)
unfolding at_depth
deep-at_depth k d [] h = tt
deep-at_depth k d (id ∷ ids) h = (h, deep-at_depth k d ids h)

deep-append : (k : ℕ) (xs ys : List Deep) → AreDeep k xs → AreDeep k ys → AreDeep k (xs ++ ys)
deep-append k [] ys h g = g
deep-append k (x ∷ xs) ys h g = (h.0, deep-append k xs ys h.1 g)

deep-less : (k j : ℕ) (xs : List Deep) → j ≤ k → AreDeep k xs → AreDeep j xs
deep-less k j [] le h = tt
deep-less k j (x ∷ xs) le h = (omega (arith, h.0), deep-less k j xs le h.1)

deep-first : (k : ℕ) (xs ys : List Deep) → AreDeep k (xs ++ ys) → AreDeep k xs
deep-first k [] ys h = tt
deep-first k (x ∷ xs) ys h = (h.0, deep-first k xs ys h.1)

deep-last : (k : ℕ) (xs : List Deep) (y : Deep) → AreDeep k (xs ++ y ∷ []) → k ≤ y.0
deep-last k [] y h = h.0
deep-last k (x ∷ xs) y h = deep-last k xs y h.1

-- a list whose image ends with an element
pub record Ends (qs : List Deep) (ids : List BlockId) (id : BlockId) : Type 0 where
  pub front : List Deep
  pub depth : ℕ
  pub whole : qs ≡ front ++ (depth, id) ∷ []
  pub ids_are : ids_of front ≡ ids

front_back : (qs : List Deep) (ids : List BlockId) (id : BlockId) → ids_of qs ≡ ids ++ id ∷ [] → Ends qs ids id
front_back [] [] id e = cc
front_back [] (x ∷ xs) id e = cc
front_back (q ∷ []) [] id e =
    let same : q.1 ≡ id = cc in
    record { front = []; depth = q.0; whole = ap (λ x. (q.0, x) ∷ []) same; ids_are = refl }
front_back (q ∷ r ∷ qs) [] id e = cc
front_back (q ∷ qs) (x ∷ xs) id e =
    let rest : ids_of qs ≡ xs ++ id ∷ [] = cc in
    let first : q.1 ≡ x = cc in
    let h = front_back qs xs id rest in
    record { front = q ∷ h.front; depth = h.depth; whole = ap (λ ys. q ∷ ys) h.whole; ids_are = ap (λ y. y ∷ ids_of h.front) first ∙ ap (λ ys. x ∷ ys) h.ids_are }

pub pending_first : (m : Module) (ids : List BlockId) → ids ≡ outermost m → Pending m (length m.blocks) ids
pending_first m ids e = record {
  blocks = at_depth (suc (length m.blocks)) ids;
  ids_are = ids-at_depth (suc (length m.blocks)) ids;
  deep = deep-at_depth (length m.blocks + 1) (suc (length m.blocks)) ids (omega arith);
  counts = sym (ap (counts_to (length m.blocks) 0) (ends-at_depth m (suc (length m.blocks)) ids ∙ ap (flat_map (ends_in m (suc (length m.blocks)))) e));
}

-- the last one to come ends last, and its own blocks before it
module _ (m : Module) (left : ℕ) (ids rest : List BlockId) (id : BlockId) (some_left : 0 < left) (p : Pending m left ids) (e : ids ≡ rest ++ id ∷ []) where
  abbrev parts : Ends p.blocks rest id
  parts = front_back p.blocks rest id (p.ids_are ∙ e)

  deep_enough : left + 1 ≤ parts.depth
  deep_enough = deep-last (left + 1) parts.front (parts.depth, id) (subst (AreDeep (left + 1)) parts.whole p.deep)

  abbrev inside : List BlockId
  inside = flat_map nested_in (block_of m id)

  abbrev next : List Deep
  next = parts.front ++ at_depth (parts.depth - 1) inside

  ends_split : ends_of m p.blocks ≡ ends_of m next ++ id.0 ∷ []
  ends_split =
      let same : parts.depth ≡ suc (parts.depth - 1) = omega (arith, deep_enough) in
      ap (ends_of m) parts.whole
      ∙ flat_map-append (λ (q : Deep). ends_in m q.0 q.1) parts.front ((parts.depth, id) ∷ [])
      ∙ ap (λ xs. ends_of m parts.front ++ xs) (append-nil (ends_in m parts.depth id) ∙ ap (λ d. ends_in m d id) same ∙ ap (λ xs. xs ++ id.0 ∷ []) (sym (ends-at_depth m (parts.depth - 1) inside)))
      ∙ sym (append_assoc (ends_of m parts.front) (ends_of m (at_depth (parts.depth - 1) inside)) (id.0 ∷ []))
      ∙ ap (λ xs. xs ++ id.0 ∷ []) (sym (flat_map-append (λ (q : Deep). ends_in m q.0 q.1) parts.front (at_depth (parts.depth - 1) inside)))

  counted : is_numbered m ≡ ((nat_eq id.0 (left - 1)) && counts_to (left - 1) 0 (ends_of m next))
  counted =
      p.counts ∙ ap (counts_to left 0) ends_split ∙ ap (λ k. counts_to k 0 (ends_of m next ++ id.0 ∷ [])) (omega arith) ∙ counts_to-snoc (left - 1) 0 (ends_of m next) id.0

  pub wrong_number : (id.0 ≡ left - 1 → ⊥) → is_numbered m ≡ false
  wrong_number h = counted ∙ ap (λ b. b && counts_to (left - 1) 0 (ends_of m next)) (ne_eqb id.0 (left - 1) h)

  pub right_number : id.0 ≡ left - 1 → (more : List BlockId) → more ≡ rest ++ inside → Pending m (left - 1) more
  right_number h more f = record {
    blocks = next;
    ids_are = map-append (λ (q : Deep). q.1) parts.front (at_depth (parts.depth - 1) inside) ∙ ap (λ xs. xs ++ ids_of (at_depth (parts.depth - 1) inside)) parts.ids_are
        ∙ ap (λ xs. rest ++ xs) (ids-at_depth (parts.depth - 1) inside) ∙ sym f;
    deep = deep-append ((left - 1) + 1) parts.front (at_depth (parts.depth - 1) inside)
        (deep-less (left + 1) ((left - 1) + 1) parts.front (omega arith) (deep-first (left + 1) parts.front ((parts.depth, id) ∷ []) (subst (AreDeep (left + 1)) parts.whole p.deep)))
        (deep-at_depth ((left - 1) + 1) (parts.depth - 1) inside (omega (arith, deep_enough)));
    counts = counted ∙ ap (λ b. b && counts_to (left - 1) 0 (ends_of m next)) (eq-eqb id.0 (left - 1) h);
  }

-- at the end nothing is to come
pub some_unfound : (m : Module) (ids : List BlockId) → Pending m 0 ids → (ids ≡ [] → ⊥) → is_numbered m ≡ false
some_unfound m ids p h = p.counts ∙ by_first p.blocks p.deep (λ e. h (sym p.ids_are ∙ ap ids_of e))
  where
    by_first : (qs : List Deep) → AreDeep (0 + 1) qs → (qs ≡ [] → ⊥) → counts_to 0 0 (ends_of m qs) ≡ false
    by_first [] d h = absurd (h refl)
    by_first (q ∷ qs) d h =
        let same : q.0 ≡ suc (q.0 - 1) = omega (arith, d.0) in
        ap (λ k. counts_to 0 0 (ends_in m k q.1 ++ ends_of m qs)) same
        ∙ ap (counts_to 0 0) (append_assoc (flat_map (ends_in m (q.0 - 1)) (flat_map nested_in (block_of m q.1))) (q.1.0 ∷ []) (ends_of m qs))
        ∙ counts_none 0 (flat_map (ends_in m (q.0 - 1)) (flat_map nested_in (block_of m q.1))) q.1.0 (ends_of m qs)

-- A block is found, and those that stand in it, the last one first.
module _ (m : Module) (from : ℕ) (ids : List BlockId) (left : ℕ) (front : List BlockId) (id : BlockId) (so_far : Leaves m from ids left (front ++ id ∷ [])) where
  -- more are to come than there are
  pub too_many : left ≡ 0 → Found m from ids None
  too_many e = λ rest p.
      let P : ℕ → Type 0 = λ k. Pending m k (rest ++ (front ++ id ∷ [])) in
      some_unfound m (rest ++ (front ++ id ∷ [])) (subst P e (so_far rest p))
      (λ same. let n : length (rest ++ (front ++ id ∷ [])) ≡ 0 = ap length same in
      omega (arith, n, length-append rest (front ++ id ∷ []), length-append front (id ∷ [])))

  split : (rest : List BlockId) → rest ++ (front ++ id ∷ []) ≡ (rest ++ front) ++ id ∷ []
  split rest = sym (append_assoc rest front (id ∷ []))

  pub other_number : (left ≡ 0 → ⊥) → (id.0 ≡ left - 1 → ⊥) → Found m from ids None
  other_number some h = λ rest p.
      wrong_number m left (rest ++ (front ++ id ∷ [])) (rest ++ front) id (omega (arith, some)) (so_far rest p) (split rest) h

  pub this_number : (left ≡ 0 → ⊥) → id.0 ≡ left - 1 → (more : List BlockId) → more ≡ front ++ flat_map nested_in (block_of m id) → Leaves m from ids (left - 1) more
  this_number some h more e = λ rest p.
      right_number m left (rest ++ (front ++ id ∷ [])) (rest ++ front) id (omega (arith, some)) (so_far rest p) (split rest) h (rest ++ more)
      (ap (λ xs. rest ++ xs) e ∙ sym (append_assoc rest front (flat_map nested_in (block_of m id))))

pub leaves_same : (m : Module) (from : ℕ) (ids : List BlockId) (left : ℕ) (less same : List BlockId) → Leaves m from ids left less → less ≡ same → Leaves m from ids left same
leaves_same m from ids left less same h e =
    let P : List BlockId → Type 0 = λ xs. Leaves m from ids left xs in
    subst P e h

-- at first all are left
pub leaves_all : (m : Module) (from left : ℕ) (ids all : List BlockId) → left ≡ from → all ≡ ids → Leaves m from ids left all
leaves_all m from left ids all e f = λ rest p.
    let P : ℕ → Type 0 = λ k. Pending m k (rest ++ all) in
    let Q : List BlockId → Type 0 = λ xs. Pending m from (rest ++ xs) in
    subst P (sym e) (subst Q (sym f) p)

-- and at last none
pub leaves_none : (m : Module) (from : ℕ) (ids : List BlockId) (left : ℕ) (less : List BlockId) → Leaves m from ids left less → less ≡ [] → Found m from ids (Some left)
leaves_none m from ids left less h e = λ rest p.
    let P : List BlockId → Type 0 = λ xs. Pending m left xs in
    subst P (ap (λ xs. rest ++ xs) e ∙ append-nil rest) (h rest p)

-- the last of those that are left are found
pub then_found : (m : Module) (from : ℕ) (ids : List BlockId) (left : ℕ) (less fewer some : List BlockId) (k : ℕ)
    → Leaves m from ids left less → less ≡ fewer ++ some → Found m left some (Some k) → Leaves m from ids k fewer
then_found m from ids left less fewer some k h e f = λ rest p.
    let P : List BlockId → Type 0 = λ xs. Pending m left xs in
    f (rest ++ fewer) (subst P (ap (λ xs. rest ++ xs) e ∙ sym (append_assoc rest fewer some)) (h rest p))

pub then_unfound : (m : Module) (from : ℕ) (ids : List BlockId) (left : ℕ) (less fewer some : List BlockId)
    → Leaves m from ids left less → less ≡ fewer ++ some → Found m left some None → Found m from ids None
then_unfound m from ids left less fewer some h e f = λ rest p.
    let P : List BlockId → Type 0 = λ xs. Pending m left xs in
    f (rest ++ fewer) (subst P (ap (λ xs. rest ++ xs) e ∙ sym (append_assoc rest fewer some)) (h rest p))

-- no blocks are found at once
pub found_nothing : (m : Module) (from : ℕ) → Found m from [] (Some from)
found_nothing m from = λ rest p.
    let P : List BlockId → Type 0 = λ xs. Pending m from xs in
    subst P (append-nil rest) p

-- one list of blocks and another one
pub found_both : (m : Module) (from : ℕ) (xs ys : List BlockId) (k : ℕ) (answer : Option ℕ) → Found m from ys (Some k) → Found m k xs answer → Found m from (xs ++ ys) answer
found_both m from xs ys k answer f g = λ rest p.
    let P : List BlockId → Type 0 = λ xs. Pending m from xs in
    g rest (f (rest ++ xs) (subst P (sym (append_assoc rest xs ys)) p))

pub found_not : (m : Module) (from : ℕ) (xs ys : List BlockId) → Found m from ys None → Found m from (xs ++ ys) None
found_not m from xs ys f = λ rest p.
    let P : List BlockId → Type 0 = λ xs. Pending m from xs in
    f (rest ++ xs) (subst P (sym (append_assoc rest xs ys)) p)

-- the last one of the first so many
pub last_taken : {X : Type 0} (xs : List X) (at : ℕ) (d : X) → 0 < at → at ≤ length xs → take at xs ≡ take (at - 1) xs ++ get_or xs (at - 1) d ∷ []
last_taken xs at d p q =
    let same : at ≡ (at - 1) + 1 = omega arith in
    ap (λ k. take k xs) same ∙ take_more xs (at - 1) d (omega arith)

pub last_mapped : {X : Type 0} (f : X → BlockId) (xs : List X) (at : ℕ) (d : X) → 0 < at → at ≤ length xs → map f (take at xs) ≡ map f (take (at - 1) xs) ++ f (get_or xs (at - 1) d) ∷ []
last_mapped f xs at d p q = ap (map f) (last_taken xs at d p q) ∙ map-append f (take (at - 1) xs) (get_or xs (at - 1) d ∷ [])

pub last_parts : {X : Type 0} (f : X → List BlockId) (xs : List X) (at : ℕ) (d : X) → 0 < at → at ≤ length xs
    → flat_map f (take at xs) ≡ flat_map f (take (at - 1) xs) ++ f (get_or xs (at - 1) d)
last_parts f xs at d p q =
    ap (flat_map f) (last_taken xs at d p q) ∙ flat_map-append f (take (at - 1) xs) (get_or xs (at - 1) d ∷ [])
    ∙ ap (λ ys. flat_map f (take (at - 1) xs) ++ ys) (append-nil (f (get_or xs (at - 1) d)))

-- once all that stand in no other are found, the blocks are numbered where none is left
pub numbered_is : (m : Module) (k : ℕ) (b : Bool) → Found m (length m.blocks) (outermost m) (Some k) → b ≡ nat_eq k 0 → b ≡ is_numbered m
numbered_is m k b f e =
    let p : Pending m k [] = f [] (pending_first m (outermost m) refl) in
    e ∙ flipped k ∙ sym (p.counts ∙ ap (λ qs. counts_to k 0 (ends_of m qs)) (no_blocks p.blocks p.ids_are))
  where
    no_blocks : (qs : List Deep) → ids_of qs ≡ [] → qs ≡ []
    no_blocks [] e = refl
    no_blocks (q ∷ qs) e = cc

    flipped : (k : ℕ) → nat_eq k 0 ≡ nat_eq 0 k
    flipped k = elim (eqb_tells k 0) [
      | inl same ↦ same.0 ∙ sym (eq-eqb 0 k (sym same.1))
      | inr apart ↦ apart.0 ∙ sym (ne_eqb 0 k (λ e. apart.1 (sym e)))
    ]

pub unnumbered_is : (m : Module) → Found m (length m.blocks) (outermost m) None → false ≡ is_numbered m
unnumbered_is m f = sym (f [] (pending_first m (outermost m) refl))

pub found_on : {E : Type 0} (m : Module) (from : ℕ) (xs ys : List BlockId) (k : ℕ) (result : Result (Option ℕ) E) → Found m from ys (Some k) → IfOk result (Found m k xs) → IfOk result (Found m from (xs ++ ys))
found_on m from xs ys k (Ok answer) f g = found_both m from xs ys k answer f g
found_on m from xs ys k (Err e) f g = tt

pub none_of : (xs : List BlockId) → length xs ≡ 0 → xs ≡ []
none_of [] e = refl
none_of (x ∷ xs) e = cc

-- The blocks that stand in no other, section by section from the last one on.
abbrev in_globals : Module → List BlockId
in_globals m = map (λ (g : GlobalDef). g.init) m.globals

abbrev in_elems : Module → List BlockId
in_elems m = flat_map (λ (segment : Elem). offset_of segment.mode ++ segment.items) m.elems

abbrev in_funcs : Module → List BlockId
in_funcs m = map (λ (f : Func). f.body) m.funcs

abbrev in_datas : Module → List BlockId
in_datas m = flat_map (λ (segment : Data). offset_of segment.mode) m.datas

counted_from : (m : Module) (n : ℕ) (answer : Option ℕ) → n ≡ length m.blocks → Found m n (in_globals m ++ (in_elems m ++ (in_funcs m ++ in_datas m))) answer
    → Found m (length m.blocks) (outermost m) answer
counted_from m n answer e f =
    let same : in_globals m ++ (in_elems m ++ (in_funcs m ++ in_datas m)) ≡ outermost m =
    sym (append_assoc (in_globals m ++ in_elems m) (in_funcs m) (in_datas m) ∙ append_assoc (in_globals m) (in_elems m) (in_funcs m ++ in_datas m)) in
    let P : ℕ → Type 0 = λ k. Found m k (outermost m) answer in
    let Q : List BlockId → Type 0 = λ ids. Found m n ids answer in
    subst P e (subst Q same f)

pub no_datas : (m : Module) (n : ℕ) → n ≡ length m.blocks → Found m n (in_datas m) None → Found m (length m.blocks) (outermost m) None
no_datas m n e f =
    counted_from m n None e
    (found_not m n (in_globals m) (in_elems m ++ (in_funcs m ++ in_datas m)) (found_not m n (in_elems m) (in_funcs m ++ in_datas m) (found_not m n (in_funcs m) (in_datas m) f)))

pub no_funcs : (m : Module) (n k : ℕ) → n ≡ length m.blocks → Found m n (in_datas m) (Some k) → Found m k (in_funcs m) None → Found m (length m.blocks) (outermost m) None
no_funcs m n k e f g =
    counted_from m n None e
    (found_not m n (in_globals m) (in_elems m ++ (in_funcs m ++ in_datas m)) (found_not m n (in_elems m) (in_funcs m ++ in_datas m) (found_both m n (in_funcs m) (in_datas m) k None f g)))

pub no_elems : (m : Module) (n k j : ℕ) → n ≡ length m.blocks → Found m n (in_datas m) (Some k) → Found m k (in_funcs m) (Some j) → Found m j (in_elems m) None
    → Found m (length m.blocks) (outermost m) None
no_elems m n k j e f g h =
    counted_from m n None e
    (found_not m n (in_globals m) (in_elems m ++ (in_funcs m ++ in_datas m))
    (found_both m n (in_elems m) (in_funcs m ++ in_datas m) j None (found_both m n (in_funcs m) (in_datas m) k (Some j) f g) h))

pub globals_last : {E : Type 0} (m : Module) (n k j i : ℕ) (result : Result (Option ℕ) E) → n ≡ length m.blocks → Found m n (in_datas m) (Some k) → Found m k (in_funcs m) (Some j)
    → Found m j (in_elems m) (Some i) → IfOk result (Found m i (in_globals m)) → IfOk result (Found m (length m.blocks) (outermost m))
globals_last m n k j i (Err r) e f g h l = tt
globals_last m n k j i (Ok answer) e f g h l =
    counted_from m n answer e
    (found_both m n (in_globals m) (in_elems m ++ (in_funcs m ++ in_datas m)) i answer
    (found_both m n (in_elems m) (in_funcs m ++ in_datas m) j (Some i) (found_both m n (in_funcs m) (in_datas m) k (Some j) f g) h) l)
