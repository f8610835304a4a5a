-- Typed code goes on: the operands after its first instruction, and the frame with them.
use Rattle.std.proofs.Common.{◌≡◌, ℕ, suc, ◌+◌, ◌-◌, ◌≤◌, List, [], ◌∷◌, ◌++◌, length, take, drop, refl, sym, ap, ◌∙◌, subst, arith, Option, Some, None, map, true, false}
use Rattle.std.proofs.lemmas.List.{length-map, take-append-drop, map-append, length-append}
use Rattle.wasm_syntax.specs.declared.types.ValType.{ValType}
use Rattle.wasm_syntax.specs.declared.value.Value.{Value}
use Rattle.wasm_syntax.specs.declared.instructions.Instr.{Instr}
use Rattle.wasm_syntax.specs.declared.module.Module.{Module}
use Rattle.wasm_syntax.specs.declared.sorts.Simple.{Simple}
use Rattle.wasm_syntax.specs.declared.sorts.Sort.TheVariants as sort
use Rattle.wasm_syntax.specs.Sorts.{sort_of}
use Rattle.wasm_valid.specs.Spaces.{then_}
use Rattle.wasm_valid.specs.Operands.{Operands, ends_with, exchange}
use Rattle.wasm_valid.specs.Typing.{Context, Signature, signature, after, after_all, after_sort, after_simple, is_block, height_all, block_height, count_at}
use Rattle.wasm_store.specs.Whole.{value_type}
use Rattle.wasm_machine.specs.View.{View, Open, with_values, with_locals, count_of, advanced, IsLinked}
use Rattle.wasm_machine.specs.Fits.{standing, context, IsCode, HasRoom, IsList, Expects, IsTypedAt}
use Rattle.wasm_machine.proofs.Types.{IsTops, exchanged, tops_types}

-- the operands after the first instruction of typed code
pub record Next (m : Module) (d : ℕ) (c : Context) (i : Instr) (is : List Instr) (ts rs : List ValType) (below room : ℕ) : Type 0 where
  pub next : Operands
  pub typed : after (is_block m d) m c i (standing ts) ≡ Some next
  pub code : ends_with rs (after_all (is_block m d) m c is next) ≡ true
  pub fits : below + height_all (block_height m d) (is_block m d) m c is next ≤ room

next_by : (m : Module) (d : ℕ) (c : Context) (i : Instr) (is : List Instr) (ts rs : List ValType) (below room : ℕ) (o : Option Operands)
    → after (is_block m d) m c i (standing ts) ≡ o → ends_with rs (then_ o (after_all (is_block m d) m c is)) ≡ true → HasRoom m d c (i ∷ is) ts below room → Next m d c i is ts rs below room
next_by m d c i is ts rs below room None e h r = absurd (let f : false ≡ true = h in cc)
next_by m d c i is ts rs below room (Some s) e h r =
    let f : count_at (after (is_block m d) m c i (standing ts)) (height_all (block_height m d) (is_block m d) m c is) ≡ height_all (block_height m d) (is_block m d) m c is s = ap (λ o. count_at o (height_all (block_height m d) (is_block m d) m c is)) e in
    record { next = s; typed = e; code = h; fits = omega (arith, f, r) }

pub next_of : (m : Module) (d : ℕ) (c : Context) (i : Instr) (is : List Instr) (ts rs : List ValType) (below room : ℕ) → IsCode m d c (i ∷ is) ts rs → HasRoom m d c (i ∷ is) ts below room → Next m d c i is ts rs below room
next_of m d c i is ts rs below room h r = next_by m d c i is ts rs below room (after (is_block m d) m c i (standing ts)) refl h r

-- the operands of a place have room
pub room_now : (m : Module) (d : ℕ) (c : Context) (is : List Instr) (s : Operands) (below room : ℕ) → below + height_all (block_height m d) (is_block m d) m c is s ≤ room → below + length s.types ≤ room
room_now m d c [] s below room h = h
room_now m d c (i ∷ is) s below room h = omega (arith, h)

-- what the places of a frame see
abbrev pub context_of : {R : List ValType} → (m : Module) (is : List Instr) (ts : List ValType) (v : View) → IsTypedAt m R is ts v → Context
context_of {R} m is ts v h = context (map value_type v.locals) (h.label ∷ h.labels) R

abbrev pub NextOf : {R : List ValType} → (m : Module) (i : Instr) (is : List Instr) (v : View) → IsTypedAt m R (i ∷ is) [] v → Type 0
NextOf {R} m i is v h = Next m h.depth (context_of m (i ∷ is) [] v h) i is (map value_type v.top.values) h.gives (count_of v.outer) v.room

pub next_at : {R : List ValType} → (m : Module) (i : Instr) (is : List Instr) (v : View) (h : IsTypedAt m R (i ∷ is) [] v) → NextOf m i is v h
next_at {R} m i is v h = next_of m h.depth (context_of m (i ∷ is) [] v h) i is (map value_type v.top.values) h.gives (count_of v.outer) v.room h.inner.code h.inner.fits

-- Places and links.

pub linked_same : (m : Module) (o : Open) (ws : List Value) (os : List Open) → IsLinked m o os → IsLinked m (record o { values = ws }) os
linked_same m o ws [] l = l
linked_same m o ws (q ∷ os) l = l

pub linked_at : (m : Module) (o : Open) (n : ℕ) (os : List Open) → IsLinked m o os → IsLinked m (record o { at = n }) os
linked_at m o n [] l = l
linked_at m o n (q ∷ os) l = l

-- the frame has gone past an instruction, which is at work
pub advanced_typed : {R : List ValType} → (m : Module) (is : List Instr) (ts : List ValType) (v : View) → IsTypedAt m R is ts v → IsTypedAt m R is ts (advanced v)
advanced_typed {R} m is ts v h = record {
  depth = h.depth;
  few = h.few;
  long = h.long;
  label = h.label;
  gives = h.gives;
  labels = h.labels;
  inner = record { arity = h.inner.arity; code = h.inner.code; fits = h.inner.fits; again = h.inner.again };
  expects = h.expects;
  linked = linked_at m v.top (v.top.at + 1) v.outer h.linked;
}

-- The frame after an instruction that goes on in its list.

-- the parts of a typed frame that name its locals' types
record Inside (m : Module) (d : ℕ) (L R : List ValType) (o : Open) (is : List Instr) (ts label gives : List ValType) (labels : List (List ValType)) (os : List Open) (room : ℕ) : Type 0 where
  inner : IsList m d L R o is ts label gives labels (count_of os) room
  expects : Expects m (suc d) L R room os labels gives

pub typed_goes : {R : List ValType} → (m : Module) (i : Instr) (is : List Instr) (v : View) (G ws : List Value) → (h : IsTypedAt m R (i ∷ is) [] v) → (n : NextOf m i is v h) → n.next ≡ standing (map value_type ws) → map value_type G ≡ map value_type v.locals
    → IsTypedAt m R is [] (with_locals G (with_values ws v))
typed_goes {R} m i is v G ws h n e l =
    let c = context_of m (i ∷ is) [] v h in
    let code : IsCode m h.depth c is (map value_type ws) h.gives = subst (λ (s : Operands). ends_with h.gives (after_all (is_block m h.depth) m c is s) ≡ true) e n.code in
    let fits : HasRoom m h.depth c is (map value_type ws) (count_of v.outer) v.room = subst (λ (s : Operands). count_of v.outer + height_all (block_height m h.depth) (is_block m h.depth) m c is s ≤ v.room) e n.fits in
    let o : Open = record v.top { values = ws } in
    let old : Inside m h.depth (map value_type v.locals) R o is [] h.label h.gives h.labels v.outer v.room = record { inner = record { arity = h.inner.arity; code = code; fits = fits; again = h.inner.again }; expects = h.expects } in
    let now : Inside m h.depth (map value_type G) R o is [] h.label h.gives h.labels v.outer v.room = subst (λ (L : List ValType). Inside m h.depth L R o is [] h.label h.gives h.labels v.outer v.room) (sym l) old in
    record { depth = h.depth; few = h.few; long = h.long; label = h.label; gives = h.gives; labels = h.labels; inner = now.inner; expects = now.expects; linked = linked_same m v.top ws v.outer h.linked }

-- Simple instructions.

-- the type of a simple instruction, whose operands stand over others
pub record IsAt (m : Module) (L : List ValType) (k : Simple) (vs : List Value) (next : Operands) : Type 0 where
  pub type : Signature
  pub type_is : signature m L k ≡ Some type
  pub others : List ValType
  pub values : map value_type vs ≡ type.takes ++ others
  pub next_is : next ≡ standing (type.gives ++ others)

split_types : (ts : List ValType) (vs : List Value) → IsTops ts vs → map value_type vs ≡ ts ++ map value_type (drop (length ts) vs)
split_types ts vs h =
    ap (map value_type) (sym (take-append-drop (length ts) vs)) ∙ map-append value_type (take (length ts) vs) (drop (length ts) vs) ∙ ap (λ us. us ++ map value_type (drop (length ts) vs)) (tops_types ts vs h)

at_by : (m : Module) (L : List ValType) (k : Simple) (vs : List Value) (next : Operands) (o : Option Signature) → signature m L k ≡ o → then_ o (λ g. exchange g.takes g.gives (standing (map value_type vs))) ≡ Some next → IsAt m L k vs next
at_by m L k vs next None e t = absurd (let f : ◌≡◌ None (Some next) = t in cc)
at_by m L k vs next (Some g) e t =
    let x = exchanged g.takes g.gives vs next t in
    record { type = g; type_is = e; others = map value_type (drop (length g.takes) vs); values = split_types g.takes vs x.tops; next_is = x.next_is }

pub simple_at : {R : List ValType} → (m : Module) (i : Instr) (is : List Instr) (v : View) (k : Simple) (h : IsTypedAt m R (i ∷ is) [] v) → sort_of i ≡ sort.Simple k → (n : NextOf m i is v h) → IsAt m (map value_type v.locals) k v.top.values n.next
simple_at {R} m i is v k h e n =
    let c = context_of m (i ∷ is) [] v h in
    let t : after_simple m c k (standing (map value_type v.top.values)) ≡ Some n.next = ap (λ z. after_sort (is_block m h.depth) m c i z (standing (map value_type v.top.values))) (sym e) ∙ n.typed in
    at_by m (map value_type v.locals) k v.top.values n.next (signature m (map value_type v.locals) k) refl t

-- so many operands as it takes are there, and those that it gives have room
pub record HasTops (v : View) (takes gives : ℕ) : Type 0 where
  pub enough : takes ≤ length v.top.values
  pub room : gives + (length v.top.values - takes) + count_of v.outer ≤ v.room

standing_long : (ts : List ValType) → length (standing ts).types ≡ length ts
standing_long ts = length-map ts Some

pub simple_room : {R : List ValType} → (m : Module) (i : Instr) (is : List Instr) (v : View) (k : Simple) (h : IsTypedAt m R (i ∷ is) [] v) → (n : NextOf m i is v h) → (a : IsAt m (map value_type v.locals) k v.top.values n.next) → HasTops v (length a.type.takes) (length a.type.gives)
simple_room {R} m i is v k h n a =
    let r = room_now m h.depth (context_of m (i ∷ is) [] v h) is n.next (count_of v.outer) v.room n.fits in
    let l : length n.next.types ≡ length a.type.gives + length a.others = ap (λ (s : Operands). length s.types) a.next_is ∙ standing_long (a.type.gives ++ a.others) ∙ length-append a.type.gives a.others in
    let w : length v.top.values ≡ length a.type.takes + length a.others = sym (length-map v.top.values value_type) ∙ ap length a.values ∙ length-append a.type.takes a.others in
    record { enough = omega (arith, w); room = omega (arith, r, l, w) }
