-- A block, loop or if at work in a frame that fits finds what it needs, and leaves a frame that fits.
use Rattle.std.proofs.Common.{◌≡◌, ◌⊎◌, inl, inr, ℕ, zero, suc, ◌+◌, ◌-◌, ◌≤◌, ◌<◌, List, [], ◌∷◌, ◌++◌, length, drop, refl, sym, ap, ◌∙◌, subst, arith, Option, Some, None, map, Bool, true, false, ◌&&◌, max}
use Rattle.std.specs.Prelude.{reverse}
use Rattle.std.proofs.lemmas.Option.{same_Some}
use Rattle.std.proofs.lemmas.List.{length-map, length-reverse}
use Rattle.std.proofs.lemmas.List.Elements.{All-take, All-drop, All-tail}
use Rattle.wasm_syntax.specs.Blocks.{block_of}
use Rattle.wasm_syntax.specs.declared.types.ValType.{ValType}
use Rattle.wasm_syntax.specs.declared.types.ValType.TheVariants as v
use Rattle.wasm_syntax.specs.declared.types.FuncType.{FuncType}
use Rattle.wasm_syntax.specs.declared.value.Value.{Value}
use Rattle.wasm_syntax.specs.declared.value.Value.TheVariants as w
use Rattle.wasm_syntax.specs.declared.instructions.BlockId.{BlockId}
use Rattle.wasm_syntax.specs.declared.instructions.BlockType.{BlockType}
use Rattle.wasm_syntax.specs.declared.instructions.Instr.{Instr}
use Rattle.wasm_syntax.specs.declared.instructions.Instr.TheVariants as i
use Rattle.wasm_syntax.specs.declared.module.Module.{Module}
use Rattle.wasm_syntax.specs.declared.sorts.Nesting.{Nesting}
use Rattle.wasm_syntax.specs.declared.sorts.Sort.TheVariants as sort
use Rattle.wasm_syntax.specs.Sorts.{sort_of, nesting_in}
use Rattle.wasm_syntax.specs.ValueTypes.{block_type}
use Rattle.wasm_valid.specs.Spaces.{then_}
use Rattle.wasm_valid.specs.Operands.{Operands, ends_with, take_one, take_all, put}
use Rattle.wasm_valid.specs.Typing.{Context, Blocks, with_label as in_label, label_of, tested, other_is, holding, calls, after_sort, after_nested, after_all, is_block, height_all, height_within, nested_height, height_on, other_height, block_height, count_at, most_nested}
use Rattle.wasm_store.specs.Store.{Store}
use Rattle.wasm_store.specs.Whole.{value_type, IsLive, AreLive}
use Rattle.wasm_machine.specs.View.{View, with_values, with_label, rest_of, count_of, module_for}
use Rattle.wasm_machine.specs.Control.{IsNumberFirst, CanBegin, Begins, again_for}
use Rattle.wasm_machine.specs.Fits.{standing, IsTypedAt, FitsAt, Fits}
use Rattle.wasm_machine.proofs.Types.{standing_of, IsTops, taken, exchanged, when_some}
use Rattle.wasm_machine.proofs.Going.{next_at, context_of}
use Rattle.wasm_machine.proofs.Labels.{Round, Opens, block_opens, loop_opens}

both : (a b : Bool) → (a && b) ≡ true → (a ≡ true) × (b ≡ true)
both true true e = (refl, refl)
both true false e = cc
both false b e = cc

-- one of the blocks that an instruction holds
abbrev pub IsPart : Nesting → BlockId → Type 0
IsPart n id = (id ≡ n.body) ⊎ (n.other ≡ Some id)

-- each of them is typed, and stands on these values
pub record Held (m : Module) (d : ℕ) (c : Context) (n : Nesting) (vs : List Value) (is : List Instr) (gives : List ValType) (below room : ℕ) : Type 0 where
  pub type : FuncType
  pub type_is : block_type m n.ty ≡ Some type
  pub enough : length type.params ≤ length vs
  pub opens : (id : BlockId) → IsPart n id → Opens m d c id type (label_of n.again type) vs is gives below room

took : (ts us : List ValType) (s next : Operands) (o : Option Operands) → take_all ts s ≡ o → then_ o (λ r. Some (put (map Some us) r)) ≡ Some next → (r : Operands) × (take_all ts s ≡ Some r)
took ts us s next None e h = absurd (let f : ◌≡◌ None (Some next) = h in cc)
took ts us s next (Some r) e h = (r, e)

part_typed : (b : BlockId → Bool) (n : Nesting) (id : BlockId) → b n.body ≡ true → other_is b n.other ≡ true → IsPart n id → b id ≡ true
part_typed b n id e f (inl p) = ap b p ∙ e
part_typed b n id e f (inr p) = ap (other_is b) (sym p) ∙ f

part_low : (h : BlockId → ℕ) (n : Nesting) (id : BlockId) → IsPart n id → h id ≤ max (h n.body) (other_height h n.other)
part_low h n id (inl p) = let f : h id ≡ h n.body = ap h p in omega (arith, f)
part_low h n id (inr p) = let f : other_height h n.other ≡ h id = ap (other_height h) p in omega (arith, f)

standing_long : (ts : List ValType) → length (standing ts).types ≡ length ts
standing_long ts = length-map ts Some

held_with : (m : Module) (d : ℕ) (c : Context) (n : Nesting) (vs : List Value) (is : List Instr) (gives : List ValType) (below room : ℕ) (s next : Operands) (g : FuncType)
    → block_type m n.ty ≡ Some g → tested n.other s ≡ Some (standing_of vs) → holding (is_block m d) c n g (standing_of vs) ≡ Some next
    → ends_with gives (after_all (is_block m d) m c is next) ≡ true → below + height_all (block_height m d) (is_block m d) m c is next ≤ room → below + nested_height (block_height m d) m c n s ≤ room
    → Held m d c n vs is gives below room
held_with m d c n vs is gives below room s next g e t h code fits tall =
    let inner = in_label (label_of n.again g) c in
    let p = when_some (is_block m d inner n.body g && other_is (λ id. is_block m d inner id g) n.other) (calls g (standing_of vs)) next h in
    let q = both _ _ p.0 in
    let x = exchanged (reverse g.params) (reverse g.results) vs next p.1 in
    let r = took (reverse g.params) (reverse g.results) (standing_of vs) next (take_all (reverse g.params) (standing_of vs)) refl p.1 in
    let k : r.0 ≡ standing_of (drop (length g.params) vs) = (taken (reverse g.params) vs r.0 r.1).left ∙ ap (λ j. standing_of (drop j vs)) (length-reverse g.params) in
    let next_is : next ≡ standing (reverse g.results ++ map value_type (drop (length g.params) vs)) = x.next_is ∙ ap (λ j. standing (reverse g.results ++ map value_type (drop j vs))) (length-reverse g.params) in
    let high : nested_height (block_height m d) m c n s ≡ length (drop (length g.params) vs) + max (block_height m d inner n.body g) (other_height (λ id. block_height m d inner id g) n.other) =
    ap (λ o. count_at o (λ k. count_at (tested n.other s) (λ rest. count_at (take_all (reverse k.params) rest) (height_on (block_height m d) c n k)))) e
    ∙ ap (λ o. count_at o (λ rest. count_at (take_all (reverse g.params) rest) (height_on (block_height m d) c n g))) t
    ∙ ap (λ o. count_at o (height_on (block_height m d) c n g)) (r.1 ∙ ap Some k)
    ∙ ap (λ j. j + max (block_height m d inner n.body g) (other_height (λ id. block_height m d inner id g) n.other)) (standing_long (map value_type (drop (length g.params) vs)) ∙ length-map (drop (length g.params) vs) value_type) in
    record {
      type = g;
      type_is = e;
      enough = omega (arith, x.long, length-reverse g.params);
      opens = λ id part. record {
        body = part_typed (λ id. is_block m d inner id g) n id q.0 q.1 part;
        tops = x.tops;
        fits = omega (arith, high, tall, part_low (λ id. block_height m d inner id g) n id part);
        code = subst (λ s. ends_with gives (after_all (is_block m d) m c is s) ≡ true) next_is code;
        left = subst (λ s. below + height_all (block_height m d) (is_block m d) m c is s ≤ room) next_is fits;
      };
    }

held_at : (m : Module) (d : ℕ) (c : Context) (n : Nesting) (vs : List Value) (is : List Instr) (gives : List ValType) (below room : ℕ) (s next : Operands) (o : Option FuncType)
    → block_type m n.ty ≡ o → tested n.other s ≡ Some (standing_of vs) → then_ o (λ g. then_ (tested n.other s) (holding (is_block m d) c n g)) ≡ Some next
    → ends_with gives (after_all (is_block m d) m c is next) ≡ true → below + height_all (block_height m d) (is_block m d) m c is next ≤ room → below + nested_height (block_height m d) m c n s ≤ room
    → Held m d c n vs is gives below room
held_at m d c n vs is gives below room s next None e t h code fits tall = absurd (let f : ◌≡◌ None (Some next) = h in cc)
held_at m d c n vs is gives below room s next (Some g) e t h code fits tall =
    held_with m d c n vs is gives below room s next g e t (ap (λ o. then_ o (holding (is_block m d) c n g)) (sym t) ∙ h) code fits tall

-- At work in a frame.

abbrev pub HeldBy : {R : List ValType} → (m : Module) (is : List Instr) (ts : List ValType) (v : View) → IsTypedAt m R is ts v → Nesting → List Value → Type 0
HeldBy m is ts v h n vs = Held m h.depth (context_of m is ts v h) n vs (rest_of m v) h.gives (count_of v.outer) v.room

nested_room : {R : List ValType} → (m : Module) (instr : Instr) (is : List Instr) (v : View) (n : Nesting) (h : IsTypedAt m R (instr ∷ is) [] v) → sort_of instr ≡ sort.Nested n → count_of v.outer + nested_height (block_height m h.depth) m (context_of m (instr ∷ is) [] v h) n (standing_of v.top.values) ≤ v.room
nested_room m instr is v n h e =
    let f : height_within (nesting_in (sort_of instr)) (block_height m h.depth) m (context_of m (instr ∷ is) [] v h) (standing_of v.top.values) ≡ nested_height (block_height m h.depth) m (context_of m (instr ∷ is) [] v h) n (standing_of v.top.values) =
    ap (λ k. height_within (nesting_in k) (block_height m h.depth) m (context_of m (instr ∷ is) [] v h) (standing_of v.top.values)) e in
    omega (arith, f, h.inner.fits)

-- the blocks of an instruction stand on the values that are left of its test
pub held : {R : List ValType} → (m : Module) (instr : Instr) (v : View) (n : Nesting) (vs : List Value) (h : IsTypedAt m R (instr ∷ rest_of m v) [] v) → sort_of instr ≡ sort.Nested n → tested n.other (standing_of v.top.values) ≡ Some (standing_of vs)
    → HeldBy m (instr ∷ rest_of m v) [] v h n vs
held m instr v n vs h e t =
    let c = context_of m (instr ∷ rest_of m v) [] v h in
    let x = next_at m instr (rest_of m v) v h in
    let a : after_nested (is_block m h.depth) m c n (standing_of v.top.values) ≡ Some x.next = ap (λ z. after_sort (is_block m h.depth) m c instr z (standing_of v.top.values)) (sym e) ∙ x.typed in
    held_at m h.depth c n vs (rest_of m v) h.gives (count_of v.outer) v.room (standing_of v.top.values) x.next (block_type m n.ty) refl t a x.code x.fits (nested_room m instr (rest_of m v) v n h e)

-- an if finds its test

number_first : (vs : List Value) → IsTops (v.I32 ∷ []) vs → IsNumberFirst vs
number_first [] h = absurd h
number_first (w.I32 k ∷ vs) h = tt
number_first (w.I64 k ∷ vs) h = cc
number_first (w.FuncNull ∷ vs) h = cc
number_first (w.Func a ∷ vs) h = cc
number_first (w.ExternNull ∷ vs) h = cc
number_first (w.Extern a ∷ vs) h = cc

pub first_of_taken : (vs : List Value) (r : Operands) → take_one v.I32 (standing_of vs) ≡ Some r → IsNumberFirst vs
first_of_taken vs r e = number_first vs (taken (v.I32 ∷ []) vs r (ap (λ o. then_ o (take_all [])) e)).tops

test_by : (b : Blocks) (c : Context) (n : Nesting) (t : Option Operands) (o : Option FuncType) (next : Operands) → then_ o (λ g. then_ t (holding b c n g)) ≡ Some next → (r : Operands) × (t ≡ Some r)
test_by b c n t None next h = absurd (let f : ◌≡◌ None (Some next) = h in cc)
test_by b c n None (Some g) next h = absurd (let f : ◌≡◌ None (Some next) = h in cc)
test_by b c n (Some r) (Some g) next h = (r, refl)

pub if_first : {R : List ValType} → (s : Store) (instr : Instr) (v : View) (n : Nesting) (other : BlockId) → FitsAt s R (instr ∷ rest_of (module_for s v) v) [] v → sort_of instr ≡ sort.Nested n → n.other ≡ Some other → IsNumberFirst v.top.values
if_first s instr v n other f e p =
    let m = module_for s v in
    let h = f.typed in
    let c = context_of m (instr ∷ rest_of m v) [] v h in
    let x = next_at m instr (rest_of m v) v h in
    let a : after_nested (is_block m h.depth) m c n (standing_of v.top.values) ≡ Some x.next = ap (λ z. after_sort (is_block m h.depth) m c instr z (standing_of v.top.values)) (sym e) ∙ x.typed in
    let t = test_by (is_block m h.depth) c n (tested n.other (standing_of v.top.values)) (block_type m n.ty) x.next a in
    first_of_taken v.top.values t.0 (ap (λ o. tested o (standing_of v.top.values)) (sym p) ∙ t.1)

-- a depth at which a block is typed
deep : (m : Module) (d : ℕ) (c : Context) (id : BlockId) (g : FuncType) → is_block m d c id g ≡ true → 1 ≤ d
deep m zero c id g e = absurd (let f : false ≡ true = e in cc)
deep m (suc d) c id g e = omega arith

few_labels : (d n : ℕ) → 1 ≤ d → d + n ≤ most_nested → n + 1 < 257
unfolding most_nested
few_labels d n one few = omega (arith, one, few)

can_begin_with : {R : List ValType} → (m : Module) (instr : Instr) (v u : View) (n : Nesting) (h : IsTypedAt m R (instr ∷ rest_of m v) [] v) → HeldBy m (instr ∷ rest_of m v) [] v h n u.top.values → u.outer ≡ v.outer → CanBegin m n.ty u
can_begin_with m instr v u n h k same = record {
  type = k.type;
  type_is = k.type_is;
  enough = k.enough;
  few = (let f = few_labels h.depth (length v.outer) (deep m h.depth _ n.body k.type (k.opens n.body (inl refl)).body) h.few in let e : length u.outer ≡ length v.outer = ap length same in omega (arith, f, e));
}

no_test : (n : Nesting) (s : Operands) → n.other ≡ None → tested n.other s ≡ Some s
no_test n s e = ap (λ o. tested o s) e

pub can_begin : {R : List ValType} → (s : Store) (instr : Instr) (v : View) (n : Nesting) → FitsAt s R (instr ∷ rest_of (module_for s v) v) [] v → sort_of instr ≡ sort.Nested n → n.other ≡ None → CanBegin (module_for s v) n.ty v
can_begin s instr v n f e p = can_begin_with (module_for s v) instr v v n f.typed (held (module_for s v) instr v n v.top.values f.typed e (no_test n (standing_of v.top.values) p)) refl

if_test : (n : Nesting) (other : BlockId) (vs ws : List Value) (k : ℕ) → n.other ≡ Some other → vs ≡ w.I32 k ∷ ws → tested n.other (standing_of vs) ≡ Some (standing_of ws)
if_test n other vs ws k e f = ap (λ o. tested o (standing_of vs)) e ∙ ap (λ us. take_one v.I32 (standing_of us)) f

pub can_begin_if : {R : List ValType} → (s : Store) (instr : Instr) (v u : View) (n : Nesting) (other : BlockId) (k : ℕ) → FitsAt s R (instr ∷ rest_of (module_for s v) v) [] v → sort_of instr ≡ sort.Nested n → n.other ≡ Some other
    → v.top.values ≡ w.I32 k ∷ u.top.values → u ≡ with_values u.top.values v → CanBegin (module_for s v) n.ty u
can_begin_if s instr v u n other k f e p t q = can_begin_with (module_for s v) instr v u n f.typed (held (module_for s v) instr v n u.top.values f.typed e (if_test n other v.top.values u.top.values k p t)) (ap (λ (x : View). x.outer) q)

-- What is left of the frame.

round_of : {R : List ValType} → (m : Module) (is : List Instr) (ts : List ValType) (v : View) (h : IsTypedAt m R is ts v) → Round m h.depth v R h.label h.gives h.labels
round_of m is ts v h = record { few = h.few; long = h.long; arity = h.inner.arity; again = h.inner.again; expects = h.expects; linked = h.linked }

-- an instruction that is begun again is a loop, which has no second block
loop_is : (instr : Instr) (n : Nesting) → sort_of instr ≡ sort.Nested n → n.again ≡ true → (instr ≡ i.Loop n.ty n.body) × (n.other ≡ None)
loop_is (i.Block bt id) n e a = let f : record { ty = bt; body = id; other = None; again = false } ≡ n = cc in absurd (let g : false ≡ true = ap (λ (k : Nesting). k.again) f ∙ a in cc)
loop_is (i.If parts) n e a = let f : record { ty = parts.ty; body = parts.body; other = Some parts.other; again = false } ≡ n = cc in absurd (let g : false ≡ true = ap (λ (k : Nesting). k.again) f ∙ a in cc)
loop_is (i.Loop bt id) n e a = let f : record { ty = bt; body = id; other = None; again = true } ≡ n = cc in (ap (λ (k : Nesting). i.Loop k.ty k.body) f, ap (λ (k : Nesting). k.other) (sym f))
loop_is _ n e a = absurd cc

part_of_loop : (n : Nesting) (id : BlockId) → n.other ≡ None → IsPart n id → id ≡ n.body
part_of_loop n id e (inl p) = p
part_of_loop n id e (inr p) = absurd (let f : ◌≡◌ None (Some id) = sym e ∙ p in cc)

-- the values of the frame, some of them taken off, with a label on the topmost n
begun_fits : {R : List ValType} → (s : Store) (is : List Instr) (v : View) (vs : List Value) (k arity : ℕ) (again : Option BlockType) (id : BlockId) → FitsAt s R is [] v → AreLive s vs
    → IsTypedAt (module_for s v) R (block_of (module_for s v) id) [] (with_label k arity again id (with_values vs v)) → Fits s R (with_label k arity again id (with_values vs v))
begun_fits s is v vs k arity again id f lives t = record {
  live = f.live;
  module_is = f.module_is;
  set = f.set;
  lists = f.lists;
  typed = t;
  locals = f.locals;
  operands = (All-take (IsLive s) k vs lives, (All-drop (IsLive s) k vs lives, f.operands.1));
}

begun_by : {R : List ValType} → (s : Store) (instr : Instr) (v : View) (vs : List Value) (n : Nesting) (id : BlockId) (b : Bool) → (f : FitsAt s R (instr ∷ rest_of (module_for s v) v) [] v) → sort_of instr ≡ sort.Nested n → AreLive s vs
    → drop (v.top.at - 1) (block_of (module_for s v) v.top.block) ≡ instr ∷ rest_of (module_for s v) v → IsPart n id → n.again ≡ b → (k : HeldBy (module_for s v) (instr ∷ rest_of (module_for s v) v) [] v f.typed n vs)
    → Fits s R (with_label (length k.type.params) (length (label_of b k.type)) (again_for b n.ty) id (with_values vs v))
begun_by s instr v vs n id false f e lives place part again k =
    let m = module_for s v in
    let o = subst (λ a. Opens m f.typed.depth (context_of m (instr ∷ rest_of m v) [] v f.typed) id k.type (label_of a k.type) vs (rest_of m v) f.typed.gives (count_of v.outer) v.room) again (k.opens id part) in
    begun_fits s (instr ∷ rest_of m v) v vs (length k.type.params) (length k.type.results) None id f lives
    (block_opens m f.typed.depth v vs id k.type _ f.typed.label f.typed.gives f.typed.labels (round_of m (instr ∷ rest_of m v) [] v f.typed) o)
begun_by s instr v vs n id true f e lives place part again k =
    let m = module_for s v in
    let l = loop_is instr n e again in
    let same : id ≡ n.body = part_of_loop n id l.1 part in
    let o = subst (λ a. Opens m f.typed.depth (context_of m (instr ∷ rest_of m v) [] v f.typed) id k.type (label_of a k.type) vs (rest_of m v) f.typed.gives (count_of v.outer) v.room) again (k.opens id part) in
    let place' : drop (v.top.at - 1) (block_of m v.top.block) ≡ i.Loop n.ty id ∷ rest_of m v = place ∙ ap (λ j. j ∷ rest_of m v) (l.0 ∙ ap (i.Loop n.ty) (sym same)) in
    begun_fits s (instr ∷ rest_of m v) v vs (length k.type.params) (length k.type.params) (Some n.ty) id f lives
    (loop_opens m f.typed.depth v vs n.ty id k.type _ f.typed.label f.typed.gives f.typed.labels k.type_is (round_of m (instr ∷ rest_of m v) [] v f.typed) o place')

begun_to : {R : List ValType} → (s : Store) (instr : Instr) (v u x : View) (n : Nesting) (id : BlockId) → (f : FitsAt s R (instr ∷ rest_of (module_for s v) v) [] v) → sort_of instr ≡ sort.Nested n → AreLive s u.top.values
    → drop (v.top.at - 1) (block_of (module_for s v) v.top.block) ≡ instr ∷ rest_of (module_for s v) v → IsPart n id → (k : HeldBy (module_for s v) (instr ∷ rest_of (module_for s v) v) [] v f.typed n u.top.values)
    → u ≡ with_values u.top.values v → Begins (module_for s v) n.again n.ty id u x → Fits s R x
begun_to {R} s instr v u x n id f e lives place part k q b =
    let same : b.type ≡ k.type = same_Some _ _ (sym b.type_is ∙ k.type_is) in
    let t = begun_by s instr v u.top.values n id n.again f e lives place part refl k in
    let l : x ≡ with_label (length k.type.params) (length (label_of n.again k.type)) (again_for n.again n.ty) id (with_values u.top.values v) =
    b.label ∙ ap (λ (g : FuncType). with_label (length g.params) (length (label_of n.again g)) (again_for n.again n.ty) id u) same ∙ ap (with_label (length k.type.params) (length (label_of n.again k.type)) (again_for n.again n.ty) id) q in
    subst (Fits s R) (sym l) t

-- a block or loop
pub begins_fits : {R : List ValType} → (s : Store) (instr : Instr) (v x : View) (n : Nesting) → FitsAt s R (instr ∷ rest_of (module_for s v) v) [] v → sort_of instr ≡ sort.Nested n → n.other ≡ None
    → drop (v.top.at - 1) (block_of (module_for s v) v.top.block) ≡ instr ∷ rest_of (module_for s v) v → Begins (module_for s v) n.again n.ty n.body v x → Fits s R x
begins_fits s instr v x n f e p place b =
    begun_to s instr v v x n n.body f e f.operands.0 place (inl refl) (held (module_for s v) instr v n v.top.values f.typed e (no_test n (standing_of v.top.values) p)) refl b

-- an if, whose test has been taken off, with one of its blocks
pub begins_if_fits : {R : List ValType} → (s : Store) (instr : Instr) (v u x : View) (n : Nesting) (other id : BlockId) (k : ℕ) → FitsAt s R (instr ∷ rest_of (module_for s v) v) [] v → sort_of instr ≡ sort.Nested n → n.other ≡ Some other
    → drop (v.top.at - 1) (block_of (module_for s v) v.top.block) ≡ instr ∷ rest_of (module_for s v) v → v.top.values ≡ w.I32 k ∷ u.top.values → u ≡ with_values u.top.values v → IsPart n id → Begins (module_for s v) n.again n.ty id u x → Fits s R x
begins_if_fits s instr v u x n other id k f e p place t q part b =
    let lives : AreLive s u.top.values = All-tail (IsLive s) (w.I32 k) u.top.values (subst (AreLive s) t f.operands.0) in
    begun_to s instr v u x n id f e lives place part (held (module_for s v) instr v n u.top.values f.typed e (if_test n other v.top.values u.top.values k p t)) q b
