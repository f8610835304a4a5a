-- A branch, a return, and the end of a list at work in a frame that fits: what they find, and that what they leave fits.
use Rattle.std.proofs.Common.{◌≡◌, ℕ, zero, suc, ◌≤◌, ◌<◌, List, [], ◌∷◌, ◌++◌, length, take, drop, refl, sym, ap, ◌∙◌, subst, arith, Option, Some, None, map, Bool, true, false, ◌&&◌}
use Rattle.std.specs.Prelude.{slice_get, slice_index_or, reverse, is_some, ◌==◌}
use Rattle.std.proofs.lemmas.Option.{same_Some}
use Rattle.std.proofs.lemmas.List.{length-map, length-reverse, map-append, take-append-drop, reverse-append, reverse-reverse}
use Rattle.std.proofs.lemmas.List.Elements.{All-append, All-take, All-head, All-tail, All-push}
use Rattle.wasm_syntax.specs.declared.types.ValType.{ValType}
use Rattle.wasm_syntax.specs.declared.types.ValType.TheVariants as y
use Rattle.wasm_syntax.specs.declared.value.Value.{Value}
use Rattle.wasm_syntax.specs.declared.value.Value.TheVariants as w
use Rattle.wasm_syntax.specs.declared.instructions.Instr.{Instr}
use Rattle.wasm_syntax.specs.declared.sorts.Sort.{Sort}
use Rattle.wasm_syntax.specs.declared.sorts.Sort.TheVariants as sort
use Rattle.wasm_syntax.specs.Sorts.{sort_of, labels_of}
use Rattle.wasm_valid.specs.Spaces.{when, then_}
use Rattle.wasm_valid.specs.Operands.{Operands, take_one, take_all as taking, exchange, leaves}
use Rattle.wasm_valid.specs.Typing.{after_sort, is_block, branches, branches_if, branches_table, after_table, all_fit}
use Rattle.wasm_store.specs.Store.{Store}
use Rattle.wasm_store.specs.Whole.{value_type, IsLive, AreLive}
use Rattle.wasm_machine.specs.View.{View, Open, with_values, with_labels, branched, rest_of, count_of, operands_of, module_for, left, left_to}
use Rattle.wasm_machine.specs.Control.{IsNumberFirst, CanBranch}
use Rattle.wasm_machine.specs.Fits.{standing, Expects, IsTypedAt, AreLiveIn, FitsAt, Fits}
use Rattle.wasm_machine.proofs.Types.{standing_of, IsTops, Taken, taken, Exchanged, exchanged, when_some, leaves_tops, tops_types, ends_exactly}
use Rattle.wasm_machine.proofs.Going.{next_at, context_of, room_now, typed_goes}
use Rattle.wasm_machine.proofs.Labels.{branched_typed, label_of_typed, outermost_of_typed, arity_of_values, left_typed}
use Rattle.wasm_machine.proofs.Beginning.{first_of_taken}

tops_long : (us : List ValType) (vs : List Value) → IsTops us vs → length us ≤ length vs
tops_long [] vs h = omega arith
tops_long (u ∷ us) [] h = absurd h
tops_long (u ∷ us) (a ∷ vs) h = omega (arith, tops_long us vs h.1)

-- the label, whose types the topmost of these values have
pub record IsTarget (labels : List (List ValType)) (l : ℕ) (vs : List Value) : Type 0 where
  pub types : List ValType
  pub label_is : slice_get labels l ≡ Some types
  pub tops : IsTops (reverse types) vs

abbrev pub TargetOf : {R : List ValType} → (s : Store) (is : List Instr) (v : View) → FitsAt s R is [] v → ℕ → List Value → Type 0
TargetOf s is v f l vs = IsTarget (f.typed.label ∷ f.typed.labels) l vs

-- what a branch finds, with the values that are left after its number
pub can_branch : {R : List ValType} → (s : Store) (is : List Instr) (v u : View) (l : ℕ) → (f : FitsAt s R is [] v) → TargetOf s is v f l u.top.values → u ≡ with_values u.top.values v → CanBranch l u
can_branch {R} s is v u l f t q =
    let m = module_for s v in
    let a = label_of_typed m is [] v l t.types f.typed t.label_is in
    let b = label_of_typed m is [] v (length v.outer) R f.typed (outermost_of_typed m is [] v f.typed) in
    let x : CanBranch l (with_values u.top.values v) = record {
      within = a.0;
      enough = omega (arith, arity_of_values l v u.top.values, a.1, tops_long (reverse t.types) u.top.values t.tops, length-reverse t.types);
      outermost = arity_of_values (length v.outer) v u.top.values ∙ b.1 ∙ f.typed.long;
    } in
    subst (CanBranch l) (sym q) x

-- a branch keeps all but the labels

branched_is : (l : ℕ) (vs : List Value) (o : Open) (os : List Open) (v : View) → branched l vs o os v ≡ with_labels (branched l vs o os v).top (branched l vs o os v).outer v
branched_is zero vs o [] v = refl
branched_is zero vs o (p ∷ os) v = refl
branched_is (suc l) vs o [] v = refl
branched_is (suc l) vs o (p ∷ os) v = branched_is l vs p os v

branched_live : (s : Store) (l : ℕ) (vs : List Value) (o : Open) (os : List Open) (v : View) → AreLive s vs → AreLiveIn s (o ∷ os) → AreLiveIn s ((branched l vs o os v).top ∷ (branched l vs o os v).outer)
branched_live s zero vs o [] v h k = k
branched_live s zero vs o (p ∷ os) v h k = (All-append (IsLive s) (take o.arity vs) p.values (All-take (IsLive s) o.arity vs h) k.1.0, k.1.1)
branched_live s (suc l) vs o [] v h k = k
branched_live s (suc l) vs o (p ∷ os) v h k = branched_live s l vs p os v h k.1

with_labels_fits : {R : List ValType} → (s : Store) (is js : List Instr) (v : View) (o : Open) (os : List Open) → FitsAt s R is [] v → IsTypedAt (module_for s v) R js [] (with_labels o os v) → AreLiveIn s (o ∷ os) → FitsAt s R js [] (with_labels o os v)
with_labels_fits s is js v o os f t lives = record { live = f.live; module_is = f.module_is; set = f.set; lists = f.lists; typed = t; locals = f.locals; operands = lives }

with_values_same : (vs : List Value) (l : ℕ) (v : View) → let x : View = branched l vs (record v.top { values = vs }) v.outer (with_values vs v) in x ≡ with_labels x.top x.outer v
with_values_same vs l v =
    let x : View = branched l vs (record v.top { values = vs }) v.outer (with_values vs v) in
    branched_is l vs (record v.top { values = vs }) v.outer (with_values vs v)

branched_at : {R : List ValType} → (s : Store) (is : List Instr) (v : View) (vs : List Value) (l : ℕ) → (f : FitsAt s R is [] v) → TargetOf s is v f l vs → AreLive s vs → l < length v.outer
    → Fits s R (branched l vs (record v.top { values = vs }) v.outer (with_values vs v))
branched_at {R} s is v vs l f t lives lt =
    let m = module_for s v in
    let x : View = branched l vs (record v.top { values = vs }) v.outer (with_values vs v) in
    let y : View = with_labels x.top x.outer v in
    let same : x ≡ y = with_values_same vs l v in
    let typed : IsTypedAt m R (rest_of m x) [] x = branched_typed m v is vs l t.types f.typed t.label_is t.tops lt in
    let typed2 : IsTypedAt m R (rest_of m y) [] y = subst (λ (z : View). IsTypedAt m R (rest_of m z) [] z) same typed in
    let lives2 : AreLiveIn s (x.top ∷ x.outer) = branched_live s l vs (record v.top { values = vs }) v.outer (with_values vs v) lives (lives, f.operands.1) in
    subst (Fits s R) (sym same) (with_labels_fits s is (rest_of m y) v x.top x.outer f typed2 lives2)

-- what a branch leaves
pub branches_fits : {R : List ValType} → (s : Store) (is : List Instr) (v u x : View) (l : ℕ) → (f : FitsAt s R is [] v) → TargetOf s is v f l u.top.values → AreLive s u.top.values → u ≡ with_values u.top.values v → l < length u.outer → x ≡ branched l u.top.values u.top u.outer u → Fits s R x
branches_fits {R} s is v u x l f t lives q lt e =
    let within : l < length v.outer = subst (λ (z : View). l < length z.outer) q lt in
    let same : x ≡ branched l u.top.values (record v.top { values = u.top.values }) v.outer (with_values u.top.values v) = e ∙ ap (λ (z : View). branched l u.top.values z.top z.outer z) q in
    subst (Fits s R) (sym same) (branched_at s is v u.top.values l f t lives within)

-- The values with which a frame ends.

pub record AreResults (s : Store) (R : List ValType) (values : List Value) : Type 0 where
  pub types : map value_type values ≡ R
  pub live : AreLive s values

pub reverse_map : (vs : List Value) → map value_type (reverse vs) ≡ reverse (map value_type vs)
reverse_map [] = refl
reverse_map (a ∷ vs) =
    ap (map value_type) (reverse-append (a ∷ []) vs) ∙ map-append value_type (reverse vs) (a ∷ []) ∙ ap (λ ts. ts ++ value_type a ∷ []) (reverse_map vs) ∙ sym (reverse-append (value_type a ∷ []) (map value_type vs))

pub reverse_live : (s : Store) (vs : List Value) → AreLive s vs → AreLive s (reverse vs)
reverse_live s [] h = h
reverse_live s (a ∷ vs) h =
    subst (AreLive s) (sym (reverse-append (a ∷ []) vs)) (All-push (IsLive s) (reverse vs) a (reverse_live s vs (All-tail (IsLive s) a vs h)) (All-head (IsLive s) a vs h))

pub results_by : (s : Store) (R : List ValType) (vs values : List Value) → IsTops (reverse R) vs → AreLive s vs → reverse values ≡ take (length R) vs → AreResults s R values
results_by s R vs values t lives e =
    let a : map value_type (reverse values) ≡ reverse R = ap (map value_type) (e ∙ ap (λ k. take k vs) (sym (length-reverse R))) ∙ tops_types (reverse R) vs t in
    let b : map value_type values ≡ R = sym (reverse-reverse (map value_type values)) ∙ ap reverse (sym (reverse_map values) ∙ a) ∙ reverse-reverse R in
    let c : AreLive s (reverse values) = subst (AreLive s) (sym e) (All-take (IsLive s) (length R) vs lives) in
    record { types = b; live = subst (AreLive s) (reverse-reverse values) (reverse_live s (reverse values) c) }

-- after a branch out of the outermost label
pub branch_results : {R : List ValType} → (s : Store) (is : List Instr) (v u : View) (l : ℕ) (values : List Value) → (f : FitsAt s R is [] v) → TargetOf s is v f l u.top.values → AreLive s u.top.values → u ≡ with_values u.top.values v → l ≡ length u.outer → reverse values ≡ take u.results u.top.values → AreResults s R values
branch_results {R} s is v u l values f t lives q e a =
    let m = module_for s v in
    let n : l ≡ length v.outer = e ∙ ap (λ (z : View). length z.outer) q in
    let same : t.types ≡ R = same_Some _ _ (sym t.label_is ∙ ap (slice_get (f.typed.label ∷ f.typed.labels)) n ∙ outermost_of_typed m is [] v f.typed) in
    let long : u.results ≡ length R = ap (λ (z : View). z.results) q ∙ sym f.typed.long in
    results_by s R u.top.values values (subst (λ us. IsTops (reverse us) u.top.values) same t.tops) lives (a ∙ ap (λ k. take k u.top.values) long)

-- Which instructions find a label.

pub typing_at : {R : List ValType} → (s : Store) (instr : Instr) (is : List Instr) (v : View) (k : Sort) → (f : FitsAt s R (instr ∷ is) [] v) → sort_of instr ≡ k
    → after_sort (is_block (module_for s v) f.typed.depth) (module_for s v) (context_of (module_for s v) (instr ∷ is) [] v f.typed) instr k (standing_of v.top.values) ≡ Some (next_at (module_for s v) instr is v f.typed).next
typing_at s instr is v k f e =
    ap (λ z. after_sort (is_block (module_for s v) f.typed.depth) (module_for s v) (context_of (module_for s v) (instr ∷ is) [] v f.typed) instr z (standing_of v.top.values)) (sym e) ∙ (next_at (module_for s v) instr is v f.typed).typed

target_by : (labels : List (List ValType)) (l : ℕ) (vs : List Value) (next : Operands) (o : Option (List ValType)) → slice_get labels l ≡ o → branches o (standing_of vs) ≡ Some next → IsTarget labels l vs
target_by labels l vs next None e h = absurd (let f : ◌≡◌ None (Some next) = h in cc)
target_by labels l vs next (Some us) e h = record { types = us; label_is = e; tops = (leaves_tops (reverse us) vs next _ refl h).tops }

-- br
pub br_target : {R : List ValType} → (s : Store) (instr : Instr) (is : List Instr) (v : View) (l : ℕ) → (f : FitsAt s R (instr ∷ is) [] v) → sort_of instr ≡ sort.Br l → TargetOf s (instr ∷ is) v f l v.top.values
br_target s instr is v l f e = target_by (f.typed.label ∷ f.typed.labels) l v.top.values _ (slice_get (f.typed.label ∷ f.typed.labels) l) refl (typing_at s instr is v (sort.Br l) f e)

-- br_if, whose number is taken off

pub record IsChoice (labels : List (List ValType)) (l : ℕ) (vs : List Value) (next : Operands) : Type 0 where
  pub target : IsTarget labels l vs
  pub next_is : next ≡ standing_of vs

same_after : (us : List ValType) (vs : List Value) (next : Operands) → Exchanged us us vs next → next ≡ standing_of vs
same_after us vs next x = x.next_is ∙ ap standing (ap (λ ts. ts ++ map value_type (drop (length us) vs)) (sym (tops_types us vs x.tops)) ∙ sym (map-append value_type (take (length us) vs) (drop (length us) vs)) ∙ ap (map value_type) (take-append-drop (length us) vs))

choice_by : (labels : List (List ValType)) (l : ℕ) (vs : List Value) (next : Operands) (o : Option (List ValType)) → slice_get labels l ≡ o → then_ o (λ ts. exchange (reverse ts) (reverse ts) (standing_of vs)) ≡ Some next → IsChoice labels l vs next
choice_by labels l vs next None e h = absurd (let f : ◌≡◌ None (Some next) = h in cc)
choice_by labels l vs next (Some us) e h =
    let x = exchanged (reverse us) (reverse us) vs next h in
    record { target = record { types = us; label_is = e; tops = x.tops }; next_is = same_after (reverse us) vs next x }

one_by : (o : Option (List ValType)) (t : Option Operands) (f : List ValType → Operands → Option Operands) (next : Operands) → then_ o (λ ts. then_ t (f ts)) ≡ Some next → (r : Operands) × (t ≡ Some r)
one_by None t f next h = absurd (let g : ◌≡◌ None (Some next) = h in cc)
one_by (Some ts) None f next h = absurd (let g : ◌≡◌ None (Some next) = h in cc)
one_by (Some ts) (Some r) f next h = (r, refl)

pub br_if_first : {R : List ValType} → (s : Store) (instr : Instr) (is : List Instr) (v : View) (l : ℕ) → FitsAt s R (instr ∷ is) [] v → sort_of instr ≡ sort.BrIf l → IsNumberFirst v.top.values
br_if_first s instr is v l f e =
    let t = one_by (slice_get (f.typed.label ∷ f.typed.labels) l) (take_one y.I32 (standing_of v.top.values)) (λ ts. exchange (reverse ts) (reverse ts)) _ (typing_at s instr is v (sort.BrIf l) f e) in
    first_of_taken v.top.values t.0 t.1

br_if_choice : {R : List ValType} → (s : Store) (instr : Instr) (is : List Instr) (v : View) (l k : ℕ) (ws : List Value) → (f : FitsAt s R (instr ∷ is) [] v) → sort_of instr ≡ sort.BrIf l → v.top.values ≡ w.I32 k ∷ ws
    → IsChoice (f.typed.label ∷ f.typed.labels) l ws (next_at (module_for s v) instr is v f.typed).next
br_if_choice s instr is v l k ws f e t =
    let a : branches_if (slice_get (f.typed.label ∷ f.typed.labels) l) (standing_of v.top.values) ≡ Some (next_at (module_for s v) instr is v f.typed).next = typing_at s instr is v (sort.BrIf l) f e in
    choice_by (f.typed.label ∷ f.typed.labels) l ws _ (slice_get (f.typed.label ∷ f.typed.labels) l) refl (ap (λ us. branches_if (slice_get (f.typed.label ∷ f.typed.labels) l) (standing_of us)) (sym t) ∙ a)

pub br_if_target : {R : List ValType} → (s : Store) (instr : Instr) (is : List Instr) (v u : View) (l k : ℕ) → (f : FitsAt s R (instr ∷ is) [] v) → sort_of instr ≡ sort.BrIf l → v.top.values ≡ w.I32 k ∷ u.top.values → TargetOf s (instr ∷ is) v f l u.top.values
br_if_target s instr is v u l k f e t = (br_if_choice s instr is v l k u.top.values f e t).target

pub popped_live : {R : List ValType} → (s : Store) (is : List Instr) (v u : View) (k : ℕ) → FitsAt s R is [] v → v.top.values ≡ w.I32 k ∷ u.top.values → AreLive s u.top.values
popped_live s is v u k f t = All-tail (IsLive s) (w.I32 k) u.top.values (subst (AreLive s) t f.operands.0)

-- where it isn't taken
pub br_if_stays : {R : List ValType} → (s : Store) (instr : Instr) (is : List Instr) (v u : View) (l k : ℕ) → FitsAt s R (instr ∷ is) [] v → sort_of instr ≡ sort.BrIf l → v.top.values ≡ w.I32 k ∷ u.top.values → u ≡ with_values u.top.values v → FitsAt s R is [] u
br_if_stays {R} s instr is v u l k f e t q =
    let c = br_if_choice s instr is v l k u.top.values f e t in
    let x : FitsAt s R is [] (with_values u.top.values v) = record {
      live = f.live;
      module_is = f.module_is;
      set = f.set;
      lists = f.lists;
      typed = typed_goes (module_for s v) instr is v v.locals u.top.values f.typed (next_at (module_for s v) instr is v f.typed) c.next_is refl;
      locals = f.locals;
      operands = (popped_live s (instr ∷ is) v u k f t, f.operands.1);
    } in
    subst (FitsAt s R is []) (sym q) x

-- br_table, whose number is taken off

fits_by : (labels : List (List ValType)) (n l : ℕ) (vs : List Value) (o : Option (List ValType)) → slice_get labels l ≡ o → is_some (then_ o (λ ts. when (length ts == n) (taking (reverse ts) (standing_of vs)))) ≡ true → IsTarget labels l vs
fits_by labels n l vs None e h = absurd (let f : false ≡ true = h in cc)
fits_by labels n l vs (Some us) e h = record { types = us; label_is = e; tops = (some_taken (length us == n) us vs (taking (reverse us) (standing_of vs)) refl h).tops }
  where
    some_taken : (b : Bool) (us : List ValType) (vs : List Value) (o : Option Operands) → taking (reverse us) (standing_of vs) ≡ o → is_some (when b o) ≡ true → Taken (reverse us) vs (standing_of (drop (length (reverse us)) vs))
    some_taken true us vs (Some r) e h = let t = taken (reverse us) vs r e in record { tops = t.tops; long = t.long; left = refl }
    some_taken true us vs None e h = absurd (let f : false ≡ true = h in cc)
    some_taken false us vs o e h = absurd (let f : false ≡ true = h in cc)

both : (a b : Bool) → (a && b) ≡ true → (a ≡ true) × (b ≡ true)
both true true e = (refl, refl)
both true false e = cc
both false b e = cc

all_targets : (labels : List (List ValType)) (n : ℕ) (ls : List ℕ) (default k : ℕ) (vs : List Value) → all_fit labels n ls (standing_of vs) ≡ true → IsTarget labels default vs → IsTarget labels (slice_index_or ls k default) vs
all_targets labels n [] default k vs h t = t
all_targets labels n (l ∷ ls) default zero vs h t = fits_by labels n l vs (slice_get labels l) refl (both _ _ h).0
all_targets labels n (l ∷ ls) default (suc k) vs h t = all_targets labels n ls default k vs (both _ _ h).1 t

abbrev after_table_on : List (List ValType) → List ℕ → Operands → List ValType → Option Operands
after_table_on labels ls s ts = after_table labels ls ts s

table_by : (labels : List (List ValType)) (ls : List ℕ) (default j : ℕ) (vs : List Value) (next : Operands) (o : Option (List ValType)) → slice_get labels default ≡ o → then_ o (after_table_on labels ls (standing_of vs)) ≡ Some next → IsTarget labels (slice_index_or ls j default) vs
table_by labels ls default j vs next None e h = absurd (let f : ◌≡◌ None (Some next) = h in cc)
table_by labels ls default j vs next (Some us) e h =
    let p = when_some (all_fit labels (length us) ls (standing_of vs)) (leaves (reverse us) (standing_of vs)) next h in
    let t : IsTarget labels default vs = record { types = us; label_is = e; tops = (leaves_tops (reverse us) vs next _ refl p.1).tops } in
    all_targets labels (length us) ls default j vs p.0 t

pub br_table_first : {R : List ValType} → (s : Store) (instr : Instr) (is : List Instr) (v : View) (l : ℕ) → FitsAt s R (instr ∷ is) [] v → sort_of instr ≡ sort.BrTable l → IsNumberFirst v.top.values
br_table_first s instr is v l f e =
    let t = one_by (slice_get (f.typed.label ∷ f.typed.labels) l) (take_one y.I32 (standing_of v.top.values)) (after_table (f.typed.label ∷ f.typed.labels) (labels_of instr)) _ (typing_at s instr is v (sort.BrTable l) f e) in
    first_of_taken v.top.values t.0 t.1

pub br_table_target : {R : List ValType} → (s : Store) (instr : Instr) (is : List Instr) (v u : View) (l k j : ℕ) → (f : FitsAt s R (instr ∷ is) [] v) → sort_of instr ≡ sort.BrTable l → v.top.values ≡ w.I32 k ∷ u.top.values → TargetOf s (instr ∷ is) v f (slice_index_or (labels_of instr) j l) u.top.values
br_table_target s instr is v u l k j f e t =
    let labels = f.typed.label ∷ f.typed.labels in
    let a : branches_table labels (labels_of instr) l (standing_of v.top.values) ≡ Some (next_at (module_for s v) instr is v f.typed).next = typing_at s instr is v (sort.BrTable l) f e in
    table_by labels (labels_of instr) l j u.top.values _ (slice_get labels l) refl (ap (λ us. branches_table labels (labels_of instr) l (standing_of us)) (sym t) ∙ a)

-- Room for the operands that there are.
pub operands_fit : {R : List ValType} → (s : Store) (is : List Instr) (v : View) → FitsAt s R is [] v → operands_of v ≤ v.room
operands_fit s is v f =
    let r = room_now (module_for s v) f.typed.depth (context_of (module_for s v) is [] v f.typed) is (standing_of v.top.values) (count_of v.outer) v.room f.typed.inner.fits in
    let l : length (standing_of v.top.values).types ≡ length v.top.values = length-map (map value_type v.top.values) Some ∙ length-map v.top.values value_type in
    omega (arith, r, l)

-- Return.

return_tops : {R : List ValType} → (s : Store) (instr : Instr) (is : List Instr) (v : View) → FitsAt s R (instr ∷ is) [] v → sort_of instr ≡ sort.Return → IsTops (reverse R) v.top.values
return_tops {R} s instr is v f e = (leaves_tops (reverse R) v.top.values _ _ refl (typing_at s instr is v sort.Return f e)).tops

pub can_return : {R : List ValType} → (s : Store) (instr : Instr) (is : List Instr) (v : View) → FitsAt s R (instr ∷ is) [] v → sort_of instr ≡ sort.Return → v.results ≤ length v.top.values
can_return {R} s instr is v f e = omega (arith, tops_long (reverse R) v.top.values (return_tops s instr is v f e), length-reverse R, f.typed.long)

pub return_results : {R : List ValType} → (s : Store) (instr : Instr) (is : List Instr) (v : View) (values : List Value) → FitsAt s R (instr ∷ is) [] v → sort_of instr ≡ sort.Return → reverse values ≡ take v.results v.top.values → AreResults s R values
return_results {R} s instr is v values f e a = results_by s R v.top.values values (return_tops s instr is v f e) f.operands.0 (a ∙ ap (λ k. take k v.top.values) (sym f.typed.long))

-- The end of a list.

ended_types : {R : List ValType} → (s : Store) (v : View) → FitsAt s R [] [] v → v.outer ≡ [] → map value_type v.top.values ≡ reverse R
ended_types {R} s v f e =
    let x : Expects (module_for s v) (suc f.typed.depth) (map value_type v.locals) R v.room [] f.typed.labels f.typed.gives = subst (λ os. Expects (module_for s v) (suc f.typed.depth) (map value_type v.locals) R v.room os f.typed.labels f.typed.gives) e f.typed.expects in
    ends_exactly f.typed.gives v.top.values f.typed.inner.code ∙ ap reverse x.1

pub ended_long : {R : List ValType} → (s : Store) (v : View) → FitsAt s R [] [] v → v.outer ≡ [] → length v.top.values ≡ v.results
ended_long {R} s v f e = sym (length-map v.top.values value_type) ∙ ap length (ended_types s v f e) ∙ length-reverse R ∙ f.typed.long

pub ended_results : {R : List ValType} → (s : Store) (v : View) (values : List Value) → FitsAt s R [] [] v → v.outer ≡ [] → reverse values ≡ take v.results v.top.values → AreResults s R values
ended_results {R} s v values f e a =
    let t : IsTops (reverse R) v.top.values = tops_of (reverse R) v.top.values (ended_types s v f e) in
    results_by s R v.top.values values t f.operands.0 (a ∙ ap (λ k. take k v.top.values) (sym f.typed.long))
  where
    tops_of : (ts : List ValType) (vs : List Value) → map value_type vs ≡ ts → IsTops ts vs
    tops_of [] vs e = tt
    tops_of (t ∷ ts) [] e = absurd (let f : ◌≡◌ [] (t ∷ ts) = e in cc)
    tops_of (t ∷ ts) (a ∷ vs) e = let f : value_type a ∷ map value_type vs ≡ t ∷ ts = e in ((let g : value_type a ≡ t = cc in g), tops_of ts vs (let g : map value_type vs ≡ ts = cc in g))

-- the list round it goes on
left_at : {R : List ValType} → (s : Store) (v : View) (os : List Open) → os ≡ v.outer → 0 < length os → FitsAt s R [] [] v → Fits s R (left v)
left_at s v [] e lt f = absurd (omega arith)
left_at {R} s v (o ∷ os) e lt f =
    let m = module_for s v in
    let t : IsTypedAt m R (rest_of m (left v)) [] (left v) = left_typed m v o os (sym e) f.typed in
    let g : AreLiveIn s (v.top ∷ o ∷ os) = subst (λ xs. AreLiveIn s (v.top ∷ xs)) (sym e) f.operands in
    let p : Open = record o { values = v.top.values ++ o.values } in
    let same : left v ≡ with_labels p os v = ap (left_to v) (sym e) in
    let t2 : IsTypedAt m R (rest_of m (with_labels p os v)) [] (with_labels p os v) = subst (λ (z : View). IsTypedAt m R (rest_of m z) [] z) same t in
    subst (Fits s R) (sym same) (with_labels_fits s [] (rest_of m (with_labels p os v)) v p os f t2 (All-append (IsLive s) v.top.values o.values g.0 g.1.0, g.1.1))

pub left_fits : {R : List ValType} → (s : Store) (v x : View) → Fits s R v → rest_of (module_for s v) v ≡ [] → 0 < length v.outer → x ≡ left v → Fits s R x
left_fits {R} s v x f e lt q = subst (Fits s R) (sym q) (left_at s v v.outer refl lt (subst (λ is. FitsAt s R is [] v) e f))
