-- Labels of typed frames: a block that is begun, a branch, and the end of a list.
use Rattle.std.proofs.Common.{◌≡◌, ℕ, zero, suc, ◌+◌, ◌-◌, ◌≤◌, ◌<◌, List, [], ◌∷◌, ◌++◌, length, take, drop, refl, sym, ap, ◌∙◌, subst, arith, Option, Some, None, map, true, false, ◌&&◌, max}
use Rattle.std.specs.Prelude.{slice_get, reverse}
use Rattle.std.proofs.lemmas.List.{length-map, length-reverse, length-append, map-append}
use Rattle.wasm_syntax.specs.Blocks.{block_of}
use Rattle.wasm_syntax.specs.declared.types.ValType.{ValType}
use Rattle.wasm_syntax.specs.declared.types.FuncType.{FuncType}
use Rattle.wasm_syntax.specs.declared.value.Value.{Value}
use Rattle.wasm_syntax.specs.declared.instructions.BlockId.{BlockId}
use Rattle.wasm_syntax.specs.declared.instructions.BlockType.{BlockType}
use Rattle.wasm_syntax.specs.declared.instructions.Instr.{Instr}
use Rattle.wasm_syntax.specs.declared.instructions.Instr.TheVariants as i
use Rattle.wasm_syntax.specs.declared.module.Module.{Module}
use Rattle.wasm_syntax.specs.ValueTypes.{block_type}
use Rattle.wasm_valid.specs.Spaces.{when, then_}
use Rattle.wasm_valid.specs.Operands.{ends_with, exactly, take_all, put}
use Rattle.wasm_valid.specs.Typing.{Context, with_label as in_label, after, after_all, nested_height, holding, calls, is_block, height_all, height_on, block_height, count_at, most_nested}
use Rattle.wasm_store.specs.Whole.{value_type}
use Rattle.wasm_machine.specs.View.{View, Open, with_values, with_label, rest_of, code_at, count_of, next_code, left, resumed, branched, arity_in, IsLinked}
use Rattle.wasm_machine.specs.Fits.{standing, context, IsCode, HasRoom, IsLoop, IsAgain, Expects, IsTypedAt}
use Rattle.wasm_machine.proofs.Types.{IsTops, tops_types, ends_exactly, take_over, put_standing}
use Rattle.wasm_machine.proofs.Going.{linked_same, linked_at, room_now}

-- The end of a list.

left_by : {R : List ValType} → (m : Module) (v : View) (o : Open) (os : List Open) → v.outer ≡ o ∷ os → IsTypedAt m R [] [] (record v { outer = o ∷ os }) → IsTypedAt m R (code_at m o) [] (left (record v { outer = o ∷ os }))
left_by {R} m v o os e h =
    let x = h.expects in
    let l = x.4 in
    let t : map value_type v.top.values ≡ reverse h.gives = ends_exactly h.gives v.top.values h.inner.code in
    let f : reverse h.gives ++ map value_type o.values ≡ map value_type (v.top.values ++ o.values) = ap (λ ts. ts ++ map value_type o.values) (sym t) ∙ sym (map-append value_type v.top.values o.values) in
    let c = context (map value_type v.locals) (x.0 ∷ x.2) R in
    record {
      depth = suc h.depth;
      few = (let few : h.depth + length (o ∷ os) ≤ most_nested = h.few in omega (arith, few));
      long = h.long;
      label = x.0;
      gives = x.1;
      labels = x.2;
      inner = record {
        arity = l.arity;
        code = subst (λ ts. IsCode m (suc h.depth) c (code_at m o) ts x.1) f l.code;
        fits = subst (λ ts. HasRoom m (suc h.depth) c (code_at m o) ts (count_of os) v.room) f l.fits;
        again = l.again;
      };
      expects = x.5;
      linked = linked_same m o (v.top.values ++ o.values) os h.linked.1;
    }

-- the list round it goes on
pub left_typed : {R : List ValType} → (m : Module) (v : View) (o : Open) (os : List Open) → v.outer ≡ o ∷ os → IsTypedAt m R [] [] v → IsTypedAt m R (rest_of m (left v)) [] (left v)
left_typed {R} m v o os e h =
    let h' : IsTypedAt m R [] [] (record v { outer = o ∷ os }) = subst (λ xs. IsTypedAt m R [] [] (record v { outer = xs })) e h in
    let t : IsTypedAt m R (rest_of m (left (record v { outer = o ∷ os }))) [] (left (record v { outer = o ∷ os })) = left_by m v o os e h' in
    subst (λ xs. IsTypedAt m R (rest_of m (left (record v { outer = xs }))) [] (left (record v { outer = xs }))) (sym e) t

-- A block that is begun.

-- the parts of a typed frame, other than its innermost list's code, at this depth
pub record Round (m : Module) (d : ℕ) (v : View) (results label gives : List ValType) (labels : List (List ValType)) : Type 0 where
  pub few : d + length v.outer ≤ most_nested
  pub long : length results ≡ v.results
  pub arity : length label ≡ v.top.arity
  pub again : IsAgain m (suc d) (context (map value_type v.locals) labels results) v.top.again v.top.block label gives (count_of v.outer) v.room
  pub expects : Expects m (suc d) (map value_type v.locals) results v.room v.outer labels gives
  pub linked : IsLinked m v.top v.outer

-- a block of this type stands on these values, with room for it, and the list round it goes on with its results
pub record Opens (m : Module) (d : ℕ) (c : Context) (id : BlockId) (g : FuncType) (label : List ValType) (vs : List Value) (is : List Instr) (gives : List ValType) (below room : ℕ) : Type 0 where
  pub body : is_block m d (in_label label c) id g ≡ true
  pub tops : IsTops (reverse g.params) vs
  pub fits : below + (length (drop (length g.params) vs) + block_height m d (in_label label c) id g) ≤ room
  pub code : IsCode m d c is (reverse g.results ++ map value_type (drop (length g.params) vs)) gives
  pub left : HasRoom m d c is (reverse g.results ++ map value_type (drop (length g.params) vs)) below room

opens_at : (m : Module) (d : ℕ) (v : View) (vs : List Value) (id : BlockId) (g : FuncType) (again : Option BlockType) (lab results label gives : List ValType) (labels : List (List ValType))
    → Round m d v results label gives labels
    → Opens m d (context (map value_type v.locals) (label ∷ labels) results) id g lab vs (rest_of m v) gives (count_of v.outer) v.room
    → IsAgain m d (context (map value_type v.locals) (label ∷ labels) results) again id lab g.results (length (drop (length g.params) vs) + count_of v.outer) v.room
    → drop (v.top.at - length (next_code id again)) (block_of m v.top.block) ≡ next_code id again ++ code_at m v.top
    → IsTypedAt m results (block_of m id) [] (with_label (length g.params) (length lab) again id (with_values vs v))
opens_at m zero v vs id g again lab results label gives labels r o new place = absurd (let f : false ≡ true = o.body in cc)
opens_at m (suc d) v vs id g again lab results label gives labels r o new place =
    let L = map value_type v.locals in
    let c = context L (label ∷ labels) results in
    let ps : reverse g.params ≡ map value_type (take (length g.params) vs) =
    sym (tops_types (reverse g.params) vs o.tops) ∙ ap (λ k. map value_type (take k vs)) (length-reverse g.params) in
    let body : IsCode m d (context L (lab ∷ label ∷ labels) results) (block_of m id) (map value_type (take (length g.params) vs)) g.results =
    subst (λ ts. IsCode m d (context L (lab ∷ label ∷ labels) results) (block_of m id) ts g.results) ps o.body in
    let tall : HasRoom m d (context L (lab ∷ label ∷ labels) results) (block_of m id) (reverse g.params) (length (drop (length g.params) vs) + count_of v.outer) v.room = omega (arith, o.fits) in
    record {
      depth = d;
      few = (let few : suc d + length v.outer ≤ most_nested = r.few in omega (arith, few));
      long = r.long;
      label = lab;
      gives = g.results;
      labels = label ∷ labels;
      inner = record {
        arity = refl;
        code = body;
        fits = subst (λ ts. HasRoom m d (context L (lab ∷ label ∷ labels) results) (block_of m id) ts (length (drop (length g.params) vs) + count_of v.outer) v.room) ps tall;
        again = new;
      };
      expects = (label, gives, labels, refl, record { arity = r.arity; code = o.code; fits = o.left; again = r.again }, r.expects);
      linked = (place, linked_same m v.top (drop (length g.params) vs) v.outer r.linked);
    }

pub block_opens : (m : Module) (d : ℕ) (v : View) (vs : List Value) (id : BlockId) (g : FuncType) (results label gives : List ValType) (labels : List (List ValType))
    → Round m d v results label gives labels
    → Opens m d (context (map value_type v.locals) (label ∷ labels) results) id g g.results vs (rest_of m v) gives (count_of v.outer) v.room
    → IsTypedAt m results (block_of m id) [] (with_label (length g.params) (length g.results) None id (with_values vs v))
block_opens m d v vs id g results label gives labels r o =
    let place : drop (v.top.at - 0) (block_of m v.top.block) ≡ code_at m v.top = ap (λ k. drop k (block_of m v.top.block)) (let z : v.top.at - 0 ≡ v.top.at = omega arith in z) in
    opens_at m d v vs id g None g.results results label gives labels r o refl place

pub loop_opens : (m : Module) (d : ℕ) (v : View) (vs : List Value) (ty : BlockType) (id : BlockId) (g : FuncType) (results label gives : List ValType) (labels : List (List ValType))
    → block_type m ty ≡ Some g
    → Round m d v results label gives labels
    → Opens m d (context (map value_type v.locals) (label ∷ labels) results) id g g.params vs (rest_of m v) gives (count_of v.outer) v.room
    → drop (v.top.at - 1) (block_of m v.top.block) ≡ i.Loop ty id ∷ code_at m v.top
    → IsTypedAt m results (block_of m id) [] (with_label (length g.params) (length g.params) (Some ty) id (with_values vs v))
loop_opens m d v vs ty id g results label gives labels e r o place =
    let new : IsLoop m d (context (map value_type v.locals) (label ∷ labels) results) ty id g.params g.results (length (drop (length g.params) vs) + count_of v.outer) v.room =
    record { type = g; type_is = e; label_is = refl; gives_is = refl; body = o.body; fits = omega (arith, o.fits) } in
    opens_at m d v vs id g (Some ty) g.params results label gives labels r o new place

-- A branch.

standing_long : (ts : List ValType) → length (standing ts).types ≡ length ts
standing_long ts = length-map ts Some

-- a loop that is begun again, over operands that stay below
again_after : (m : Module) (d : ℕ) (c : Context) (ty : BlockType) (id : BlockId) (g : FuncType) (bs : List ValType) → block_type m ty ≡ Some g → is_block m d (in_label g.params c) id g ≡ true
    → after (is_block m d) m c (i.Loop ty id) (standing (reverse g.params ++ bs)) ≡ Some (standing (reverse g.results ++ bs))
again_after m d c ty id g bs e t =
    ap (λ o. then_ o (λ (k : FuncType). holding (is_block m d) c (record { ty = ty; body = id; other = None; again = true }) k (standing (reverse g.params ++ bs)))) e
    ∙ ap (λ b. when (b && true) (calls g (standing (reverse g.params ++ bs)))) t
    ∙ ap (λ r. then_ r (λ s. Some (put (map Some (reverse g.results)) s))) (take_over (reverse g.params) bs)
    ∙ ap Some (put_standing (reverse g.results) bs)

params_low : (m : Module) (d : ℕ) (c : Context) (id : BlockId) (g : FuncType) → length g.params ≤ block_height m (suc d) c id g
params_low m d c id g =
    let r = room_now m d c (block_of m id) (exactly g.params) 0 (height_all (block_height m d) (is_block m d) m c (block_of m id) (exactly g.params)) (omega arith) in
    let l : length (exactly g.params).types ≡ length g.params = standing_long (reverse g.params) ∙ length-reverse g.params in
    omega (arith, r, l)

again_height : (m : Module) (d : ℕ) (c : Context) (ty : BlockType) (id : BlockId) (g : FuncType) (bs : List ValType) → block_type m ty ≡ Some g
    → nested_height (block_height m d) m c (record { ty = ty; body = id; other = None; again = true }) (standing (reverse g.params ++ bs)) ≡ length bs + max (block_height m d (in_label g.params c) id g) 0
again_height m d c ty id g bs e =
    ap (λ o. count_at o (λ (k : FuncType). count_at (take_all (reverse k.params) (standing (reverse g.params ++ bs))) (height_on (block_height m d) c (record { ty = ty; body = id; other = None; again = true }) k))) e
    ∙ ap (λ o. count_at o (height_on (block_height m d) c (record { ty = ty; body = id; other = None; again = true }) g)) (take_over (reverse g.params) bs)
    ∙ ap (λ n. n + max (block_height m d (in_label g.params c) id g) 0) (standing_long bs)

-- what a branch to a label finds: its end, or the start of the loop
pub record Resumes (m : Module) (d : ℕ) (c : Context) (is : List Instr) (ts rs : List ValType) (below room : ℕ) : Type 0 where
  pub code : IsCode m d c is ts rs
  pub left : HasRoom m d c is ts below room

loop_resumes : (m : Module) (d : ℕ) (c : Context) (ty : BlockType) (block : BlockId) (g : FuncType) (bs rs : List ValType) (is : List Instr) (below room : ℕ)
    → block_type m ty ≡ Some g → is_block m (suc d) (in_label g.params c) block g ≡ true → (length bs + below) + block_height m (suc d) (in_label g.params c) block g ≤ room
    → IsCode m (suc d) c is (reverse g.results ++ bs) rs → HasRoom m (suc d) c is (reverse g.results ++ bs) below room
    → Resumes m (suc d) c (i.Loop ty block ∷ is) (reverse g.params ++ bs) rs below room
loop_resumes m d c ty block g bs rs is below room e t fits code r =
    let a = again_after m (suc d) c ty block g bs e t in
    let n = again_height m (suc d) c ty block g bs e in
    let l : length (standing (reverse g.params ++ bs)).types ≡ length g.params + length bs = standing_long (reverse g.params ++ bs) ∙ length-append (reverse g.params) bs ∙ ap (λ k. k + length bs) (length-reverse g.params) in
    let p = params_low m d (in_label g.params c) block g in
    let f : count_at (after (is_block m (suc d)) m c (i.Loop ty block) (standing (reverse g.params ++ bs))) (height_all (block_height m (suc d)) (is_block m (suc d)) m c is) ≡ height_all (block_height m (suc d)) (is_block m (suc d)) m c is (standing (reverse g.results ++ bs)) =
    ap (λ o. count_at o (height_all (block_height m (suc d)) (is_block m (suc d)) m c is)) a in
    record {
      code = subst (λ o. ends_with rs (then_ o (after_all (is_block m (suc d)) m c is)) ≡ true) (sym a) code;
      left = omega (arith, n, l, p, f, fits, r);
    }

resumes : (m : Module) (d : ℕ) (c : Context) (again : Option BlockType) (block : BlockId) (lab gives bs rs : List ValType) (is : List Instr) (below room : ℕ)
    → IsAgain m (suc d) c again block lab gives (length bs + below) room
    → IsCode m (suc d) c is (reverse gives ++ bs) rs → HasRoom m (suc d) c is (reverse gives ++ bs) below room
    → Resumes m (suc d) c (next_code block again ++ is) (reverse lab ++ bs) rs below room
resumes m d c None block lab gives bs rs is below room a code r = record {
  code = subst (λ ts. IsCode m (suc d) c is (reverse ts ++ bs) rs) (sym a) code;
  left = subst (λ ts. HasRoom m (suc d) c is (reverse ts ++ bs) below room) (sym a) r;
}
resumes m d c (Some ty) block lab gives bs rs is below room a code r =
    let code' : IsCode m (suc d) c is (reverse a.type.results ++ bs) rs = subst (λ ts. IsCode m (suc d) c is (reverse ts ++ bs) rs) a.gives_is code in
    let room' : HasRoom m (suc d) c is (reverse a.type.results ++ bs) below room = subst (λ ts. HasRoom m (suc d) c is (reverse ts ++ bs) below room) a.gives_is r in
    subst (λ ts. Resumes m (suc d) c (i.Loop ty block ∷ is) (reverse ts ++ bs) rs below room) (sym a.label_is) (loop_resumes m d c ty block a.type bs rs is below room a.type_is a.body a.fits code' room')

-- a label of these types: its arity, and what a branch to it finds
pub record IsLabel (m : Module) (d : ℕ) (L R : List ValType) (o : Open) (lab gives : List ValType) (labels : List (List ValType)) (below room : ℕ) : Type 0 where
  pub arity : length lab ≡ o.arity
  pub again : IsAgain m (suc d) (context L labels R) o.again o.block lab gives below room

branch_typed : (m : Module) (v : View) (vs : List Value) (k : ℕ) (o : Open) (os : List Open) (d : ℕ) (R lab gives us : List ValType) (ls : List (List ValType))
    → d + length os ≤ most_nested → length R ≡ v.results → IsLabel m d (map value_type v.locals) R o lab gives ls (count_of os) v.room → Expects m (suc d) (map value_type v.locals) R v.room os ls gives → IsLinked m o os
    → k < length os → slice_get (lab ∷ ls) k ≡ Some us → IsTops (reverse us) vs → IsTypedAt m R (rest_of m (branched k vs o os v)) [] (branched k vs o os v)
branch_typed m v vs k o [] d R lab gives us ls few r i x l lt e t = absurd (omega arith)
branch_typed m v vs zero o (p ∷ os) d R lab gives us ls few r i x l lt e t =
    let f : lab ≡ us = cc in
    let L = map value_type v.locals in
    let c = context L (x.0 ∷ x.2) R in
    let n : length (reverse lab) ≡ o.arity = length-reverse lab ∙ i.arity in
    let b : map value_type (take o.arity vs) ≡ reverse lab = ap (λ j. map value_type (take j vs)) (sym n) ∙ tops_types (reverse lab) vs (subst (λ w. IsTops (reverse w) vs) (sym f) t) in
    let below : count_of (p ∷ os) ≡ length (map value_type p.values) + count_of os = ap (λ j. j + count_of os) (sym (length-map p.values value_type)) in
    let again0 : IsAgain m (suc d) c o.again o.block lab gives (count_of (p ∷ os)) v.room = subst (λ w. IsAgain m (suc d) (context L w R) o.again o.block lab gives (count_of (p ∷ os)) v.room) x.3 i.again in
    let again : IsAgain m (suc d) c o.again o.block lab gives (length (map value_type p.values) + count_of os) v.room = subst (λ j. IsAgain m (suc d) c o.again o.block lab gives j v.room) below again0 in
    let s = resumes m d c o.again o.block lab gives (map value_type p.values) x.1 (code_at m p) (count_of os) v.room again x.4.code x.4.fits in
    let types : reverse lab ++ map value_type p.values ≡ map value_type (take o.arity vs ++ p.values) = ap (λ w. w ++ map value_type p.values) (sym b) ∙ sym (map-append value_type (take o.arity vs) p.values) in
    let s2 : Resumes m (suc d) c (code_at m (resumed o vs p)) (map value_type (take o.arity vs ++ p.values)) x.1 (count_of os) v.room =
    subst (λ js. Resumes m (suc d) c js (map value_type (take o.arity vs ++ p.values)) x.1 (count_of os) v.room) (sym l.0) (subst (λ w. Resumes m (suc d) c (next_code o.block o.again ++ code_at m p) w x.1 (count_of os) v.room) types s) in
    record {
      depth = suc d;
      few = omega (arith, few);
      long = r;
      label = x.0;
      gives = x.1;
      labels = x.2;
      inner = record { arity = x.4.arity; code = s2.code; fits = s2.left; again = x.4.again };
      expects = x.5;
      linked = linked_at m (record p { values = take o.arity vs ++ p.values }) (p.at - length (next_code o.block o.again)) os (linked_same m p (take o.arity vs ++ p.values) os l.1);
    }
branch_typed m v vs (suc k) o (p ∷ os) d R lab gives us ls few r i x l lt e t =
    branch_typed m v vs k p os (suc d) R x.0 x.1 us x.2 (omega (arith, few)) r (record { arity = x.4.arity; again = x.4.again }) x.5 l.1 (omega arith) (ap (λ w. slice_get w k) (sym x.3) ∙ e) t

-- a branch with these values out of a label that stands in the list of another one
pub branched_typed : {R : List ValType} → (m : Module) (v : View) (is : List Instr) (vs : List Value) (k : ℕ) (us : List ValType) → (h : IsTypedAt m R is [] v) → slice_get (h.label ∷ h.labels) k ≡ Some us → IsTops (reverse us) vs → k < length v.outer
    → let x : View = branched k vs (record v.top { values = vs }) v.outer (with_values vs v) in IsTypedAt m R (rest_of m x) [] x
branched_typed {R} m v is vs k us h e t lt =
    branch_typed m (with_values vs v) vs k (record v.top { values = vs }) v.outer h.depth R h.label h.gives us h.labels h.few h.long (record { arity = h.inner.arity; again = h.inner.again }) h.expects (linked_same m v.top vs v.outer h.linked) lt e t

-- Labels and their arities.

label_at : (m : Module) (d : ℕ) (L R : List ValType) (k : ℕ) (o : Open) (os : List Open) (lab gives us : List ValType) (ls : List (List ValType)) (room : ℕ)
    → length lab ≡ o.arity → Expects m (suc d) L R room os ls gives → slice_get (lab ∷ ls) k ≡ Some us → (k ≤ length os) × (arity_in k o os ≡ length us)
label_at m d L R zero o os lab gives us ls room a x e = let f : lab ≡ us = cc in (omega arith, sym a ∙ ap length f)
label_at m d L R (suc k) o [] lab gives us ls room a x e = absurd (let f : ◌≡◌ None (Some us) = ap (λ l. slice_get l k) (sym x.0) ∙ e in cc)
label_at m d L R (suc k) o (p ∷ os) lab gives us ls room a x e =
    let r = label_at m (suc d) L R k p os x.0 x.1 us x.2 room x.4.arity x.5 (ap (λ l. slice_get l k) (sym x.3) ∙ e) in
    (omega (arith, r.0), r.1)

-- the outermost label has the frame's results
outermost_at : (m : Module) (d : ℕ) (L R : List ValType) (o : Open) (os : List Open) (lab gives : List ValType) (ls : List (List ValType)) (room : ℕ)
    → IsLabel m d L R o lab gives ls (count_of os) room → Expects m (suc d) L R room os ls gives → IsLinked m o os → slice_get (lab ∷ ls) (length os) ≡ Some R
outermost_at m d L R o [] lab gives ls room i x l =
    let a : lab ≡ gives = subst (λ g. IsAgain m (suc d) (context L ls R) g o.block lab gives 0 room) l i.again in
    ap Some (a ∙ x.1)
outermost_at m d L R o (p ∷ os) lab gives ls room i x l =
    ap (λ ws. slice_get ws (length os)) x.3 ∙ outermost_at m (suc d) L R p os x.0 x.1 x.2 room (record { arity = x.4.arity; again = x.4.again }) x.5 l.1

pub label_of_typed : {R : List ValType} → (m : Module) (is : List Instr) (ts : List ValType) (v : View) (k : ℕ) (us : List ValType) → (h : IsTypedAt m R is ts v) → slice_get (h.label ∷ h.labels) k ≡ Some us → (k ≤ length v.outer) × (arity_in k v.top v.outer ≡ length us)
label_of_typed {R} m is ts v k us h e = label_at m h.depth (map value_type v.locals) R k v.top v.outer h.label h.gives us h.labels v.room h.inner.arity h.expects e

pub outermost_of_typed : {R : List ValType} → (m : Module) (is : List Instr) (ts : List ValType) (v : View) → (h : IsTypedAt m R is ts v) → slice_get (h.label ∷ h.labels) (length v.outer) ≡ Some R
outermost_of_typed {R} m is ts v h = outermost_at m h.depth (map value_type v.locals) R v.top v.outer h.label h.gives h.labels v.room (record { arity = h.inner.arity; again = h.inner.again }) h.expects h.linked

arity_same : (k : ℕ) (o : Open) (vs : List Value) (os : List Open) → arity_in k (record o { values = vs }) os ≡ arity_in k o os
arity_same zero o vs os = refl
arity_same (suc k) o vs [] = refl
arity_same (suc k) o vs (p ∷ os) = refl

pub arity_of_values : (k : ℕ) (v : View) (vs : List Value) → arity_in k (with_values vs v).top (with_values vs v).outer ≡ arity_in k v.top v.outer
arity_of_values k v vs = arity_same k v.top vs v.outer
