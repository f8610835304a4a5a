-- Laws of the places of a body.
use Rattle.std.proofs.Common.{◌≡◌, ℕ, zero, suc, ◌+◌, ◌-◌, ◌<◌, ◌≤◌, max, Bool, true, false, ◌&&◌, List, [], ◌∷◌, ◌++◌, Option, Some, None, length, reverse, map, take, drop, get_or, refl, sym, ◌∙◌, ap, subst, arith}
use Rattle.std.proofs.Math.Nat.{sub-zero}
use Rattle.std.specs.Prelude.{slice_get}
use Rattle.std.proofs.lemmas.List.{get_or-reverse, length-reverse, drop_more, drop_all, take_at, drop_at, length-append, length-drop, length-map, length-take-le, reverse-append}
use Rattle.wasm_syntax.specs.Blocks.{block_of}
use Rattle.wasm_syntax.specs.declared.types.ValType.{ValType}
use Rattle.wasm_syntax.specs.declared.types.FuncType.{FuncType}
use Rattle.wasm_syntax.specs.declared.instructions.BlockId.{BlockId}
use Rattle.wasm_syntax.specs.declared.instructions.Instr.{Instr}
use Rattle.wasm_syntax.specs.declared.module.Module.{Module}
use Rattle.wasm_syntax.specs.declared.sorts.Nesting.{Nesting}
use Rattle.wasm_syntax.specs.declared.sorts.Sort.{Sort}
use Rattle.wasm_syntax.specs.declared.sorts.Sort.TheVariants as sort
use Rattle.wasm_valid.specs.declared.opens.Open.{Open}
use Rattle.wasm_valid.specs.declared.opens.Outer.{Outer}
use Rattle.wasm_valid.specs.declared.operands.Saved.{Saved}
use Rattle.wasm_valid.specs.declared.pass.Step.{Step}
use Rattle.wasm_valid.specs.declared.pass.Step.TheVariants.{Went, Untyped, Ended}
use Rattle.wasm_valid.specs.declared.types.Types.{Types}
use Rattle.wasm_valid.specs.declared.types.Types.TheVariants as y
use Rattle.wasm_syntax.specs.Sorts.{sort_of, nesting_in, nesting_of}
use Rattle.wasm_syntax.specs.ValueTypes.{block_type}
use Rattle.wasm_valid.specs.Spaces.{when, then_}
use Rattle.wasm_valid.specs.Operands.{Operands, exactly, put, take_all, ends_with, is_spent}
use Rattle.wasm_valid.specs.Signatures.{types_in}
use Rattle.wasm_valid.specs.declared.opens.Opens.{Opens}
use Rattle.wasm_valid.specs.Piles.{Becomes, Pile}
use Rattle.wasm_valid.specs.Typing.{Blocks, Heights, Context, after, after_all, after_flat, after_sort, after_nested, holding, tested, label_of, with_label, is_block, most_nested, other_is, height_all, height_on, height_within, block_height, other_height, count_at}
use Rattle.wasm_valid.specs.Places.{Goes, Moves, Closes, step_of, start_of, Reached, NestsAt, next_open, label_by, opened_by, place_of, Frame, Place, IsPlace, IsStacked, Steps, labels_in, context_in, type_in, depth_in, rest_of, own_of, under_of, outer_typed, left_typed, rest_height, outer_height, left_height, code_work, nested_work, other_work, block_work, left_work}

pub slice_get-map : {X Y : Type 0} (f : X → Y) (xs : List X) (k : ℕ) (d : X) → k < length xs → slice_get (map f xs) k ≡ Some (f (get_or xs k d))
slice_get-map f [] k d h = absurd (omega arith)
slice_get-map f (x ∷ xs) zero d h = refl
slice_get-map f (x ∷ xs) (suc k) d h = slice_get-map f xs k d (omega arith)

-- the label of a block round the innermost one
pub label_found : (m : Module) (top : Open) (xs : List Outer) (index len : ℕ) (o : Outer) (ts : List ValType)
    → (index ≡ 0 → ⊥) → index ≤ len → len ≡ length xs → o ≡ get_or xs (len - index) o → ts ≡ types_in m o.open.label
    → Some ts ≡ slice_get (labels_in m top (reverse xs)) index
label_found m top xs zero len o ts n h e f g = absurd (n refl)
label_found m top xs (suc k) len o ts n h e f g =
    let within : k < length (reverse xs) = omega (arith, length-reverse xs) in
    let turned : get_or (reverse xs) k o ≡ get_or xs (length xs - 1 - k) o = get_or-reverse xs k o (omega arith) in
    let place : length xs - 1 - k ≡ len - suc k = omega arith in
    sym (slice_get-map (λ (outer : Outer). types_in m outer.open.label) (reverse xs) k o within
    ∙ ap (λ (outer : Outer). Some (types_in m outer.open.label)) (turned ∙ ap (λ j. get_or xs j o) place ∙ sym f)
    ∙ ap Some (sym g))

-- Numbers.

pub above_flat : (HA HA' L R OH : ℕ) → HA ≡ max L (max 0 HA') → max (max HA R) OH ≡ max L (max (max HA' R) OH)
above_flat HA HA' L R OH e = omega arith

pub same_above : (n U L X OUT : ℕ) → L + U ≤ n → max n (max (U + max L X) OUT) ≡ max n (max (U + X) OUT)
same_above n U L X OUT h = omega arith

pub above_nested : (HA HA' L N R OH : ℕ) → HA ≡ max L (max N HA') → max (max HA R) OH ≡ max L (max N (max (max HA' R) OH))
above_nested HA HA' L N R OH e = omega arith

pub same_nested : (n U L N M X OUT : ℕ) → L + U ≤ n → max n (max (U + max L (max (N + M) X)) OUT) ≡ max n (max ((N + U) + M) (max (U + X) OUT))
same_nested n U L N M X OUT h = omega arith

-- Code.

-- an instruction that holds no blocks, and one that holds some
flat_sort : (b : Blocks) (m : Module) (c : Context) (i : Instr) (k : Sort) (s : Operands) → nesting_in k ≡ None → after_sort b m c i k s ≡ after_flat m c i k s
flat_sort b m c i (sort.Simple p) s e = refl
flat_sort b m c i (sort.Nested n) s e = cc
flat_sort b m c i sort.Unreachable s e = refl
flat_sort b m c i (sort.Br l) s e = refl
flat_sort b m c i (sort.BrIf l) s e = refl
flat_sort b m c i (sort.BrTable l) s e = refl
flat_sort b m c i sort.Return s e = refl
flat_sort b m c i (sort.Call x) s e = refl
flat_sort b m c i (sort.CallIndirect x y) s e = refl
flat_sort b m c i sort.Drop s e = refl
flat_sort b m c i sort.Select s e = refl
flat_sort b m c i sort.SelectTyped s e = refl
flat_sort b m c i sort.RefIsNull s e = refl

pub holds_none : (k : Sort) → ((n : Nesting) → k ≡ sort.Nested n → ⊥) → nesting_in k ≡ None
holds_none (sort.Nested n) h = absurd (h n refl)
holds_none k h = refl

nested_sort : (b : Blocks) (m : Module) (c : Context) (i : Instr) (k : Sort) (n : Nesting) (s : Operands) → nesting_in k ≡ Some n → after_sort b m c i k s ≡ after_nested b m c n s
nested_sort b m c i (sort.Nested n') n s e = let same : n' ≡ n = cc in ap (λ x. after_nested b m c x s) same
nested_sort b m c i k n s e = cc

pub flat_after : (b : Blocks) (m : Module) (c : Context) (i : Instr) (s : Operands) → nesting_of i ≡ None → after b m c i s ≡ after_flat m c i (sort_of i) s
flat_after b m c i s e = flat_sort b m c i (sort_of i) s e

pub nested_after : (b : Blocks) (m : Module) (c : Context) (i : Instr) (n : Nesting) (s : Operands) → nesting_of i ≡ Some n → after b m c i s ≡ after_nested b m c n s
nested_after b m c i n s e = nested_sort b m c i (sort_of i) n s e

pub code_step : (b : Blocks) (m : Module) (c : Context) (i : Instr) (is code : List Instr) (s s' : Operands)
    → code ≡ i ∷ is → nesting_of i ≡ None → after_flat m c i (sort_of i) s ≡ Some s' → after_all b m c code s ≡ after_all b m c is s'
code_step b m c i is code s s' e n f =
    ap (λ k. after_all b m c k s) e
    ∙ ap (λ o. then_ o (after_all b m c is)) (flat_after b m c i s n)
    ∙ ap (λ o. then_ o (after_all b m c is)) f

pub code_stuck : (b : Blocks) (m : Module) (c : Context) (i : Instr) (is code : List Instr) (s : Operands)
    → code ≡ i ∷ is → nesting_of i ≡ None → after_flat m c i (sort_of i) s ≡ None → after_all b m c code s ≡ None
code_stuck b m c i is code s e n f =
    ap (λ k. after_all b m c k s) e
    ∙ ap (λ o. then_ o (after_all b m c is)) (flat_after b m c i s n)
    ∙ ap (λ o. then_ o (after_all b m c is)) f

pub height_step : (h : Heights) (b : Blocks) (m : Module) (c : Context) (i : Instr) (is code : List Instr) (s s' : Operands)
    → code ≡ i ∷ is → nesting_of i ≡ None → after_flat m c i (sort_of i) s ≡ Some s'
    → height_all h b m c code s ≡ max (length s.types) (max 0 (height_all h b m c is s'))
height_step h b m c i is code s s' e n f =
    ap (λ k. height_all h b m c k s) e
    ∙ ap (λ o. max (length s.types) (max (height_within o h m c s) (count_at (after b m c i s) (height_all h b m c is)))) n
    ∙ ap (λ o. max (length s.types) (max 0 (count_at o (height_all h b m c is)))) (flat_after b m c i s n)
    ∙ ap (λ o. max (length s.types) (max 0 (count_at o (height_all h b m c is)))) f

pub work_step : (w : BlockId → ℕ) (i : Instr) (is code : List Instr) (n : Option Nesting)
    → code ≡ i ∷ is → nesting_of i ≡ n → code_work w code ≡ 1 + (nested_work w n + code_work w is)
work_step w i is code n e f = ap (code_work w) e ∙ ap (λ o. 1 + (nested_work w o + code_work w is)) f

-- Flat instructions.

pub flat_goes : (m : Module) (F : Frame) (top : Open) (os : List Outer) (own : Operands) (under : List (Option ValType)) (i : Instr) (own' : Operands) (n : ℕ)
    → rest_of m top ≡ i ∷ rest_of m (next_open top) → nesting_of i ≡ None → after_flat m (context_in m F top os) i (sort_of i) own ≡ Some own'
    → length own.types + length under ≤ n → IsPlace (record { top = top; own = own; outer = os; under = under })
    → Steps m F (record { top = top; own = own; outer = os; under = under }) n (record { top = next_open top; own = own'; outer = os; under = under }) n
unfolding left_typed left_height left_work
flat_goes m F top os own under i own' n e f a h p =
    let c = context_in m F top os in
    let b = is_block m (depth_in os) in
    let hs = block_height m (depth_in os) in
    let is = rest_of m (next_open top) in
    let HA : ℕ = height_all hs b m c (rest_of m top) own in
    let HA' : ℕ = height_all hs b m c is own' in
    let R : ℕ = length (types_in m top.results) in
    let OH : ℕ = other_height (λ id. block_height m (suc (depth_in os)) c id (type_in m top)) top.second in
    let OUT : ℕ = outer_height m F (types_in m top.results) os under in
    let tall : HA ≡ max (length own.types) (max 0 HA') = height_step hs b m c i is (rest_of m top) own own' e f a in
    let work : code_work (block_work m (depth_in os)) (rest_of m top) ≡ 1 + (0 + code_work (block_work m (depth_in os)) is) = work_step (block_work m (depth_in os)) i is (rest_of m top) None e f in
    record {
      typed = ap (λ o. (ends_with (types_in m top.results) o && other_is (λ id. is_block m (suc (depth_in os)) c id (type_in m top)) top.second) && outer_typed m F (types_in m top.results) os under) (code_step b m c i is (rest_of m top) own own' e f a);
      height = λ _.
          ap (λ x. max n (max (length under + x) OUT)) (above_flat HA HA' (length own.types) R OH tall)
          ∙ same_above n (length under) (length own.types) (max (max HA' R) OH) OUT h;
      work = omega (arith, work);
      place = record { stacked = p.stacked; nested = p.nested };
    }

-- what can't go on isn't typed
pub stuck : (m : Module) (F : Frame) (top : Open) (os : List Outer) (own : Operands) (under : List (Option ValType))
    → after_all (is_block m (depth_in os)) m (context_in m F top os) (rest_of m top) own ≡ None
    → left_typed m F (record { top = top; own = own; outer = os; under = under }) ≡ false
unfolding left_typed
stuck m F top os own under e =
    ap (λ o. (ends_with (types_in m top.results) o && other_is (λ id. is_block m (suc (depth_in os)) (context_in m F top os) id (type_in m top)) top.second) && outer_typed m F (types_in m top.results) os under) e

pub flat_stuck : (m : Module) (F : Frame) (top : Open) (os : List Outer) (own : Operands) (under : List (Option ValType)) (i : Instr)
    → rest_of m top ≡ i ∷ rest_of m (next_open top) → nesting_of i ≡ None → after_flat m (context_in m F top os) i (sort_of i) own ≡ None
    → left_typed m F (record { top = top; own = own; outer = os; under = under }) ≡ false
flat_stuck m F top os own under i e f a = stuck m F top os own under (code_stuck (is_block m (depth_in os)) m (context_in m F top os) i (rest_of m (next_open top)) (rest_of m top) own e f a)

-- both answers of a flat instruction
pub flat_moves : (m : Module) (F : Frame) (top : Open) (os : List Outer) (own : Operands) (under under' : List (Option ValType)) (i : Instr) (fine : Bool) (own' : Operands) (n : ℕ)
    → rest_of m top ≡ i ∷ rest_of m (next_open top) → nesting_of i ≡ None → Becomes (after_flat m (context_in m F top os) i (sort_of i) own) fine own' → under' ≡ under
    → length own.types + length under ≤ n → IsPlace (record { top = top; own = own; outer = os; under = under })
    → Goes m F (record { top = top; own = own; outer = os; under = under }) n fine (record { top = next_open top; own = own'; outer = os; under = under' })
flat_moves m F top os own under under' i true own' n e f a u h p =
    let P : List (Option ValType) → Type 0 = λ us. Steps m F (record { top = top; own = own; outer = os; under = under }) n (record { top = next_open top; own = own'; outer = os; under = us }) n in
    subst P (sym u) (flat_goes m F top os own under i own' n e f a h p)
flat_moves m F top os own under under' i false own' n e f a u h p = flat_stuck m F top os own under i e f a

-- Blocks, loops and ifs.

and_assoc : (a b c : Bool) → ((a && b) && c) ≡ (a && (b && c))
and_assoc true b c = refl
and_assoc false b c = refl

and_true : (a : Bool) → (a && true) ≡ a
and_true true = refl
and_true false = refl

left_of_and : (a b : Bool) → (a && b) ≡ true → a ≡ true
left_of_and true b e = refl
left_of_and false b e = e

when_none : {A : Type 0} (b : Bool) → when {A = A} b None ≡ None
when_none true = refl
when_none false = refl

label_is : (m : Module) (again : Bool) (ps rs : Types) → types_in m (label_by again ps rs) ≡ label_of again (record { params = types_in m ps; results = types_in m rs })
label_is m true ps rs = refl
label_is m false ps rs = refl

-- an instruction that holds blocks, where its type is there and its operands
pub after_opens : (b : Blocks) (m : Module) (c : Context) (i : Instr) (n : Nesting) (g : FuncType) (s r1 r2 : Operands)
    → nesting_of i ≡ Some n → block_type m n.ty ≡ Some g → tested n.other s ≡ Some r1 → take_all (reverse g.params) r1 ≡ Some r2
    → after b m c i s ≡ when (b (with_label (label_of n.again g) c) n.body g && other_is (λ id. b (with_label (label_of n.again g) c) id g) n.other) (Some (put (map Some (reverse g.results)) r2))
after_opens b m c i n g s r1 r2 e f t k =
    nested_after b m c i n s e
    ∙ ap (λ o. then_ o (λ g. then_ (tested n.other s) (holding b c n g))) f
    ∙ ap (λ o. then_ o (holding b c n g)) t
    ∙ ap (λ o. when (b (with_label (label_of n.again g) c) n.body g && other_is (λ id. b (with_label (label_of n.again g) c) id g) n.other) (then_ o (λ rest. Some (put (map Some (reverse g.results)) rest)))) k

-- the greatest number of operands within it
pub within_opens : (h : Heights) (m : Module) (c : Context) (n : Nesting) (g : FuncType) (s r1 r2 : Operands)
    → block_type m n.ty ≡ Some g → tested n.other s ≡ Some r1 → take_all (reverse g.params) r1 ≡ Some r2
    → height_within (Some n) h m c s
    ≡ length r2.types + max (h (with_label (label_of n.again g) c) n.body g) (other_height (λ id. h (with_label (label_of n.again g) c) id g) n.other)
within_opens h m c n g s r1 r2 f t k =
    ap (λ o. count_at o (λ g. count_at (tested n.other s) (λ rest. count_at (take_all (reverse g.params) rest) (height_on h c n g)))) f
    ∙ ap (λ o. count_at o (λ rest. count_at (take_all (reverse g.params) rest) (height_on h c n g))) t
    ∙ ap (λ o. count_at o (height_on h c n g)) k

open_shape : (B : Bool) (R : List ValType) (s : Operands) (K : Operands → Option Operands) (S O : Bool)
    → ((ends_with R (then_ (when B (Some s)) K) && S) && O) ≡ (B && ((ends_with R (K s) && S) && O))
open_shape true R s K S O = refl
open_shape false R s K S O = refl

own_back : (r : Operands) (under : List (Option ValType)) (o : Open)
    → own_of (record { «open» = o; saved = record { base = length under; any = r.any } }) (r.types ++ under) ≡ r
own_back r under o = ap (λ ts. record { types = ts; any = r.any }) (take_at r.types under (length (r.types ++ under) - length under) (omega (arith, length-append r.types under)))

under_back : (r : Operands) (under : List (Option ValType)) (o : Open)
    → under_of (record { «open» = o; saved = record { base = length under; any = r.any } }) (r.types ++ under) ≡ under
under_back r under o = drop_at r.types under (length (r.types ++ under) - length under) (omega (arith, length-append r.types under))

-- the blocks that an instruction holds, at a depth and under a context
abbrev inner_typed : Module → ℕ → Context → Nesting → FuncType → Bool
inner_typed m d c n g = is_block m d c n.body g && other_is (λ id. is_block m d c id g) n.other

abbrev inner_height : Module → ℕ → Context → Nesting → FuncType → ℕ
inner_height m d c n g = max (block_height m d c n.body g) (other_height (λ id. block_height m d c id g) n.other)

module _ (m : Module) (F : Frame) (top : Open) (os : List Outer) (own : Operands) (under : List (Option ValType)) (i : Instr) (nst : Nesting) (ps rs : Types) (r1 r2 : Operands)
    (code : rest_of m top ≡ i ∷ rest_of m (next_open top)) (nests : nesting_of i ≡ Some nst)
    (type : block_type m nst.ty ≡ Some (record { params = types_in m ps; results = types_in m rs }))
    (test : tested nst.other own ≡ Some r1) (taken : take_all (reverse (types_in m ps)) r1 ≡ Some r2) (shallow : length os < most_nested) where
  abbrev round : Outer
  round = record { «open» = next_open top; saved = record { base = length under; any = r2.any } }

  abbrev gives : FuncType
  gives = record { params = types_in m ps; results = types_in m rs }

  abbrev outside : Context
  outside = context_in m F top os

  abbrev inside : Context
  inside = context_in m F (opened_by nst ps rs) (round ∷ os)

  deeper : depth_in os ≡ suc (depth_in (round ∷ os))
  deeper = omega arith

  context_is : inside ≡ with_label (label_of nst.again gives) outside
  context_is = ap (λ (l : List ValType). with_label l outside) (label_is m nst.again ps rs)

  inner_is : inner_typed m (depth_in os) (with_label (label_of nst.again gives) outside) nst gives ≡ inner_typed m (suc (depth_in (round ∷ os))) inside nst gives
  inner_is = ap (λ d. inner_typed m d (with_label (label_of nst.again gives) outside) nst gives) deeper ∙ ap (λ c. inner_typed m (suc (depth_in (round ∷ os))) c nst gives) (sym context_is)

  inner_tall : inner_height m (depth_in os) (with_label (label_of nst.again gives) outside) nst gives ≡ inner_height m (suc (depth_in (round ∷ os))) inside nst gives
  inner_tall = ap (λ d. inner_height m d (with_label (label_of nst.again gives) outside) nst gives) deeper ∙ ap (λ c. inner_height m (suc (depth_in (round ∷ os))) c nst gives) (sym context_is)

  abbrev rest : List Instr
  rest = rest_of m (next_open top)

  abbrev after_it : Operands
  after_it = put (map Some (reverse (types_in m rs))) r2

  code_opens : after_all (is_block m (depth_in os)) m outside (rest_of m top) own
      ≡ then_ (when (inner_typed m (depth_in os) (with_label (label_of nst.again gives) outside) nst gives) (Some after_it)) (after_all (is_block m (depth_in os)) m outside rest)
  code_opens =
      ap (λ k. after_all (is_block m (depth_in os)) m outside k own) code
      ∙ ap (λ o. then_ o (after_all (is_block m (depth_in os)) m outside rest)) (after_opens (is_block m (depth_in os)) m outside i nst gives own r1 r2 nests type test taken)

  abbrev second_typed : Bool
  second_typed = other_is (λ id. is_block m (suc (depth_in os)) outside id (type_in m top)) top.second

  abbrev outer_is : Bool
  outer_is = outer_typed m F (types_in m top.results) os under

  pub opens_typed : left_typed m F (record { top = top; own = own; outer = os; under = under })
      ≡ left_typed m F (record { top = opened_by nst ps rs; own = exactly (types_in m ps); outer = round ∷ os; under = r2.types ++ under })
  unfolding left_typed
  opens_typed =
      ap (λ o. (ends_with (types_in m top.results) o && second_typed) && outer_is) code_opens
      ∙ open_shape (inner_typed m (depth_in os) (with_label (label_of nst.again gives) outside) nst gives) (types_in m top.results) after_it (after_all (is_block m (depth_in os)) m outside rest) second_typed outer_is
      ∙ ap (λ b. b && ((ends_with (types_in m top.results) (after_all (is_block m (depth_in os)) m outside rest after_it) && second_typed) && outer_is)) inner_is
      ∙ ap (λ s. inner_typed m (suc (depth_in (round ∷ os))) inside nst gives && ((ends_with (types_in m top.results) (after_all (is_block m (depth_in os)) m outside rest (put (map Some (reverse (types_in m rs))) s)) && second_typed) && outer_is)) (sym (own_back r2 under (next_open top)))
      ∙ ap (λ us. inner_typed m (suc (depth_in (round ∷ os))) inside nst gives && ((ends_with (types_in m top.results) (after_all (is_block m (depth_in os)) m outside rest (put (map Some (reverse (types_in m rs))) (own_of round (r2.types ++ under)))) && second_typed) && outer_typed m F (types_in m top.results) os us)) (sym (under_back r2 under (next_open top)))

  abbrev taller : Heights
  taller = block_height m (depth_in os)

  abbrev own_height : ℕ
  own_height = height_all taller (is_block m (depth_in os)) m outside (rest_of m top) own

  abbrev next_height : Operands → ℕ
  next_height s = height_all taller (is_block m (depth_in os)) m outside rest (put (map Some (reverse (types_in m rs))) s)

  height_opens : inner_typed m (depth_in os) (with_label (label_of nst.again gives) outside) nst gives ≡ true
      → own_height ≡ max (length own.types) (max (length r2.types + inner_height m (depth_in os) (with_label (label_of nst.again gives) outside) nst gives) (next_height r2))
  height_opens typed =
      ap (λ k. height_all taller (is_block m (depth_in os)) m outside k own) code
      ∙ ap (λ o. max (length own.types) (max (height_within o taller m outside own) (count_at (after (is_block m (depth_in os)) m outside i own) (height_all taller (is_block m (depth_in os)) m outside rest)))) nests
      ∙ ap (λ x. max (length own.types) (max x (count_at (after (is_block m (depth_in os)) m outside i own) (height_all taller (is_block m (depth_in os)) m outside rest)))) (within_opens taller m outside nst gives own r1 r2 type test taken)
      ∙ ap (λ o. max (length own.types) (max (length r2.types + inner_height m (depth_in os) (with_label (label_of nst.again gives) outside) nst gives) (count_at o (height_all taller (is_block m (depth_in os)) m outside rest)))) (after_opens (is_block m (depth_in os)) m outside i nst gives own r1 r2 nests type test taken)
      ∙ ap (λ b. max (length own.types) (max (length r2.types + inner_height m (depth_in os) (with_label (label_of nst.again gives) outside) nst gives) (count_at (when b (Some after_it)) (height_all taller (is_block m (depth_in os)) m outside rest)))) typed

  abbrev results_height : ℕ
  results_height = length (types_in m top.results)

  abbrev second_height : ℕ
  second_height = other_height (λ id. block_height m (suc (depth_in os)) outside id (type_in m top)) top.second

  abbrev outer_tall : List (Option ValType) → ℕ
  outer_tall us = outer_height m F (types_in m top.results) os us

  under_more : length (r2.types ++ under) ≡ length r2.types + length under
  under_more = length-append r2.types under

  pub opens_height : (n : ℕ) → length own.types + length under ≤ n
      → left_typed m F (record { top = opened_by nst ps rs; own = exactly (types_in m ps); outer = round ∷ os; under = r2.types ++ under }) ≡ true
      → max n (left_height m F (record { top = top; own = own; outer = os; under = under }))
      ≡ max n (left_height m F (record { top = opened_by nst ps rs; own = exactly (types_in m ps); outer = round ∷ os; under = r2.types ++ under }))
  unfolding left_typed left_height
  opens_height n h typed =
      let inner : inner_typed m (depth_in os) (with_label (label_of nst.again gives) outside) nst gives ≡ true = inner_is ∙ left_of_and _ _ typed in
      ap (λ x. max n (max (length under + x) (outer_tall under))) (above_nested own_height (next_height r2) (length own.types) (length r2.types + inner_height m (depth_in os) (with_label (label_of nst.again gives) outside) nst gives) results_height second_height (height_opens inner))
      ∙ same_nested n (length under) (length own.types) (length r2.types) (inner_height m (depth_in os) (with_label (label_of nst.again gives) outside) nst gives) (max (max (next_height r2) results_height) second_height) (outer_tall under) h
      ∙ ap (λ x. max n (max ((length r2.types + length under) + x) (max (length under + max (max (next_height r2) results_height) second_height) (outer_tall under)))) inner_tall
      ∙ ap (λ k. max n (max (k + inner_height m (suc (depth_in (round ∷ os))) inside nst gives) (max (length under + max (max (next_height r2) results_height) second_height) (outer_tall under)))) (sym under_more)
      ∙ ap (λ s. max n (max (length (r2.types ++ under) + inner_height m (suc (depth_in (round ∷ os))) inside nst gives) (max (length under + max (max (next_height s) results_height) second_height) (outer_tall under)))) (sym (own_back r2 under (next_open top)))
      ∙ ap (λ us. max n (max (length (r2.types ++ under) + inner_height m (suc (depth_in (round ∷ os))) inside nst gives) (max (length under + max (max (next_height (own_of round (r2.types ++ under))) results_height) second_height) (outer_tall us)))) (sym (under_back r2 under (next_open top)))

  abbrev inner_work : ℕ → ℕ
  inner_work d = block_work m d nst.body + other_work (block_work m d) nst.other

  pub opens_work : left_work m (record { top = opened_by nst ps rs; own = exactly (types_in m ps); outer = round ∷ os; under = r2.types ++ under })
      < left_work m (record { top = top; own = own; outer = os; under = under })
  unfolding left_work
  opens_work =
      let here : code_work (block_work m (depth_in os)) (rest_of m top) ≡ 1 + (inner_work (depth_in os) + code_work (block_work m (depth_in os)) rest) =
      work_step (block_work m (depth_in os)) i rest (rest_of m top) (Some nst) code nests in
      let same : inner_work (depth_in os) ≡ inner_work (suc (depth_in (round ∷ os))) = ap inner_work deeper in
      omega (arith, here, same)

  pub opens_block : (n : ℕ) → length own.types + length under ≤ n → IsPlace (record { top = top; own = own; outer = os; under = under })
      → Steps m F (record { top = top; own = own; outer = os; under = under }) n
      (record { top = opened_by nst ps rs; own = exactly (types_in m ps); outer = round ∷ os; under = r2.types ++ under }) n
  opens_block n h p = record {
    typed = opens_typed;
    height = opens_height n h;
    work = opens_work;
    place = record { stacked = (omega (arith, under_more), p.stacked); nested = omega arith };
  }

pub same_place : (t t' : Open) (o o' : Operands) (os os' : List Outer) (u u' : List (Option ValType)) → t ≡ t' → o ≡ o' → os ≡ os' → u ≡ u'
    → ◌≡◌ {A = Place} (record { top = t; own = o; outer = os; under = u }) (record { top = t'; own = o'; outer = os'; under = u' })
same_place t t' o o' os os' u u' e f g h =
    ap (λ (x : Open). record { top = x; own = o; outer = os; under = u }) e
    ∙ ap (λ (x : Operands). record { top = t'; own = x; outer = os; under = u }) f
    ∙ ap (λ (x : List Outer). record { top = t'; own = o'; outer = x; under = u }) g
    ∙ ap (λ (x : List (Option ValType)). record { top = t'; own = o'; outer = os'; under = x }) h

same_saved : (saved : Saved) (n : ℕ) (any : Bool) → saved.base ≡ n → saved.any ≡ any → ◌≡◌ {A = Saved} saved (record { base = n; any = any })
same_saved saved n any e f = ap (λ (x : ℕ). record { base = x; any = saved.any }) e ∙ ap (λ (x : Bool). record { base = n; any = x }) f

pub passes : (o : Option Operands) (b : Bool) (s : Operands) → Becomes o b s → b ≡ true → o ≡ Some s
passes o true s h e = h
passes o false s h e = cc

pub fails : (o : Option Operands) (b : Bool) (s : Operands) → Becomes o b s → b ≡ false → o ≡ None
fails o true s h e = cc
fails o false s h e = h

code_none : (b : Blocks) (m : Module) (c : Context) (i : Instr) (is code : List Instr) (s : Operands)
    → code ≡ i ∷ is → after b m c i s ≡ None → after_all b m c code s ≡ None
code_none b m c i is code s e f = ap (λ k. after_all b m c k s) e ∙ ap (λ o. then_ o (after_all b m c is)) f

module _ (m : Module) (F : Frame) (top : Open) (os : List Outer) (own : Operands) (under : List (Option ValType)) (nst : Nesting) (at : NestsAt m top nst) where
  abbrev known : Blocks
  known = is_block m (depth_in os)

  abbrev around : Context
  around = context_in m F top os

  not_after : after known m around at.0 own ≡ None → left_typed m F (record { top = top; own = own; outer = os; under = under }) ≡ false
  not_after e = stuck m F top os own under (code_none known m around at.0 (rest_of m (next_open top)) (rest_of m top) own at.1 e)

  pub no_type : block_type m nst.ty ≡ None → left_typed m F (record { top = top; own = own; outer = os; under = under }) ≡ false
  no_type e = not_after (nested_after known m around at.0 nst own at.2 ∙ ap (λ o. then_ o (λ g. then_ (tested nst.other own) (holding known around nst g))) e)

  pub no_test : (g : FuncType) (b : Bool) (s : Operands) → block_type m nst.ty ≡ Some g → Becomes (tested nst.other own) b s → b ≡ false
      → left_typed m F (record { top = top; own = own; outer = os; under = under }) ≡ false
  no_test g b s e t f =
      not_after (nested_after known m around at.0 nst own at.2 ∙ ap (λ o. then_ o (λ g. then_ (tested nst.other own) (holding known around nst g))) e
      ∙ ap (λ o. then_ o (holding known around nst g)) (fails (tested nst.other own) b s t f))

  pub no_params : (g : FuncType) (b b' : Bool) (s s' : Operands) → block_type m nst.ty ≡ Some g → Becomes (tested nst.other own) b s → b ≡ true
      → Becomes (take_all (reverse g.params) s) b' s' → b' ≡ false
      → left_typed m F (record { top = top; own = own; outer = os; under = under }) ≡ false
  no_params g b b' s s' e t f k w =
      not_after (nested_after known m around at.0 nst own at.2 ∙ ap (λ o. then_ o (λ g. then_ (tested nst.other own) (holding known around nst g))) e
      ∙ ap (λ o. then_ o (holding known around nst g)) (passes (tested nst.other own) b s t f)
      ∙ ap (λ o. when (known (with_label (label_of nst.again g) around) nst.body g && other_is (λ id. known (with_label (label_of nst.again g) around) id g) nst.other) (then_ o (λ rest. Some (put (map Some (reverse g.results)) rest))))
      (fails (take_all (reverse g.params) s) b' s' k w)
      ∙ when_none (known (with_label (label_of nst.again g) around) nst.body g && other_is (λ id. known (with_label (label_of nst.again g) around) id g) nst.other))

  pub too_deep : (g : FuncType) (b b' : Bool) (s s' : Operands) → block_type m nst.ty ≡ Some g → Becomes (tested nst.other own) b s → b ≡ true
      → Becomes (take_all (reverse g.params) s) b' s' → b' ≡ true → most_nested ≤ length os
      → left_typed m F (record { top = top; own = own; outer = os; under = under }) ≡ false
  too_deep g b b' s s' e t f k w deep =
      let none_left : depth_in os ≡ 0 = omega arith in
      not_after (after_opens known m around at.0 nst g own s s' at.2 e (passes (tested nst.other own) b s t f) (passes (take_all (reverse g.params) s) b' s' k w)
      ∙ ap (λ d. when (inner_typed m d (with_label (label_of nst.again g) around) nst g) (Some (put (map Some (reverse g.results)) s'))) none_left)

-- the same, as the code does it
pub open_goes : (m : Module) (F : Frame) (top top' : Open) (xs xs' : List Outer) (own own' : Operands) (under under' under2 : List (Option ValType)) (nst : Nesting) (ps rs : Types) (b b' : Bool) (s s' : Operands) (saved : Saved) (n : ℕ)
    → NestsAt m top nst → block_type m nst.ty ≡ Some (record { params = types_in m ps; results = types_in m rs })
    → Becomes (tested nst.other own) b s → b ≡ true → Becomes (take_all (reverse (types_in m ps)) s) b' s' → b' ≡ true
    → under2 ≡ under → saved.base ≡ length under2 → saved.any ≡ s'.any
    → top' ≡ opened_by nst ps rs → own' ≡ exactly (types_in m ps) → xs' ≡ xs ++ record { «open» = next_open top; saved = saved } ∷ [] → under' ≡ s'.types ++ under2
    → length xs < most_nested → length own.types + length under ≤ n → IsPlace (record { top = top; own = own; outer = reverse xs; under = under })
    → Steps m F (record { top = top; own = own; outer = reverse xs; under = under }) n (record { top = top'; own = own'; outer = reverse xs'; under = under' }) n
open_goes m F top top' xs xs' own own' under under' under2 nst ps rs b b' s s' saved n at type t f k w u base any et eo ex eu shallow counted p =
    let P : Place → Type 0 = λ q. Steps m F (record { top = top; own = own; outer = reverse xs; under = under }) n q n in
    let kept : saved ≡ record { base = length under; any = s'.any } = same_saved saved (length under) s'.any (base ∙ ap length u) any in
    let outer : reverse xs' ≡ record { «open» = next_open top; saved = record { base = length under; any = s'.any } } ∷ reverse xs =
    ap reverse ex ∙ reverse-append xs (record { «open» = next_open top; saved = saved } ∷ []) ∙ ap (λ (v : Saved). record { «open» = next_open top; saved = v } ∷ reverse xs) kept in
    subst P (sym (same_place _ _ _ _ _ _ _ _ et eo outer (eu ∙ ap (λ us. s'.types ++ us) u)))
    (opens_block m F top (reverse xs) own under at.0 nst ps rs s s' at.1 at.2 type (passes (tested nst.other own) b s t f) (passes (take_all (reverse (types_in m ps)) s) b' s' k w)
    (omega (arith, length-reverse xs)) n counted p)

-- Ends.

height_least : (h : Heights) (b : Blocks) (m : Module) (c : Context) (is : List Instr) (s : Operands) → length s.types ≤ height_all h b m c is s
height_least h b m c [] s = omega arith
height_least h b m c (i ∷ is) s = omega arith

above_second : (L R HQ : ℕ) → max (max L R) (max HQ R) ≡ max L (max (max HQ R) 0)
above_second L R HQ = omega arith

above_close : (n U L R Q OUT : ℕ) → L + U ≤ n → U + R ≤ Q → max n (max (U + max (max L R) 0) (max Q OUT)) ≡ max n (max Q OUT)
above_close n U L R Q OUT h k = omega arith

above_end : (n U L R : ℕ) → L + U ≤ n → max n (R + U) ≡ max n (max (U + max (max L R) 0) 0)
above_end n U L R h = omega arith

module _ (m : Module) (F : Frame) (top : Open) (own : Operands) (under : List (Option ValType)) (n : ℕ) (done_ : rest_of m top ≡ []) where
  abbrev there : List Outer → Place
  there os = record { top = top; own = own; outer = os; under = under }

  ends_at : (os : List Outer) → ends_with (types_in m top.results) (after_all (is_block m (depth_in os)) m (context_in m F top os) (rest_of m top) own) ≡ is_spent (take_all (reverse (types_in m top.results)) own)
  ends_at os = ap (λ k. ends_with (types_in m top.results) (after_all (is_block m (depth_in os)) m (context_in m F top os) k own)) done_

  tall_at : (os : List Outer) → height_all (block_height m (depth_in os)) (is_block m (depth_in os)) m (context_in m F top os) (rest_of m top) own ≡ length own.types
  tall_at os = ap (λ k. height_all (block_height m (depth_in os)) (is_block m (depth_in os)) m (context_in m F top os) k own) done_

  work_at : (w : BlockId → ℕ) → code_work w (rest_of m top) ≡ 1
  work_at w = ap (code_work w) done_

  -- the results aren't there, or aren't alone
  pub end_fails : (os : List Outer) → is_spent (take_all (reverse (types_in m top.results)) own) ≡ false → left_typed m F (there os) ≡ false
  unfolding left_typed
  end_fails os e = ap (λ b. (b && other_is (λ id. is_block m (suc (depth_in os)) (context_in m F top os) id (type_in m top)) top.second) && outer_typed m F (types_in m top.results) os under) (ends_at os ∙ e)

  pub end_second : (os : List Outer) (id : BlockId) → is_spent (take_all (reverse (types_in m top.results)) own) ≡ true → top.second ≡ Some id
      → length own.types + length under ≤ n → IsPlace (there os)
      → Steps m F (there os) n (record { top = record top { block = id; at = 0; second = None }; own = exactly (types_in m top.params); outer = os; under = under }) n
  unfolding left_typed left_height left_work
  end_second os id e f h p =
      let d = depth_in os in
      let c = context_in m F top os in
      let g = type_in m top in
      let O : Bool = outer_typed m F (types_in m top.results) os under in
      let X : Bool = is_block m (suc d) c id g in
      let HQ : ℕ = height_all (block_height m d) (is_block m d) m c (block_of m id) (exactly (types_in m top.params)) in
      let R : ℕ = length (types_in m top.results) in
      let OUT : ℕ = outer_height m F (types_in m top.results) os under in
      let OH : ℕ = other_height (λ id. block_height m (suc d) c id g) top.second in
      let work : other_work (block_work m (suc d)) top.second ≡ block_work m (suc d) id = ap (other_work (block_work m (suc d))) f in
      record {
        typed =
            ap (λ b. (b && other_is (λ id. is_block m (suc d) c id g) top.second) && O) (ends_at os ∙ e)
            ∙ ap (λ o. other_is (λ id. is_block m (suc d) c id g) o && O) f
            ∙ ap (λ b. b && O) (sym (and_true X));
        height = λ _.
            ap (λ x. max n (max (length under + max (max x R) OH) OUT)) (tall_at os)
            ∙ ap (λ o. max n (max (length under + max (max (length own.types) R) (other_height (λ id. block_height m (suc d) c id g) o)) OUT)) f
            ∙ ap (λ x. max n (max (length under + x) OUT)) (above_second (length own.types) R HQ)
            ∙ same_above n (length under) (length own.types) (max (max HQ R) 0) OUT h;
        work = omega (arith, work, work_at (block_work m d));
        place = record { stacked = p.stacked; nested = p.nested };
      }

  pub end_close : (o : Outer) (os : List Outer) → is_spent (take_all (reverse (types_in m top.results)) own) ≡ true → top.second ≡ None
      → length own.types + length under ≤ n → IsPlace (there (o ∷ os))
      → Steps m F (there (o ∷ os)) n (record { top = o.«open»; own = put (map Some (reverse (types_in m top.results))) (own_of o under); outer = os; under = under_of o under }) n
  unfolding left_typed left_height left_work
  end_close o os e f h p =
      let d = depth_in (o ∷ os) in
      let c = context_in m F top (o ∷ os) in
      let g = type_in m top in
      let s : Operands = put (map Some (reverse (types_in m top.results))) (own_of o under) in
      let O : Bool = outer_typed m F (types_in m top.results) (o ∷ os) under in
      let R : ℕ = length (types_in m top.results) in
      let OUT : ℕ = outer_height m F (types_in m o.«open».results) os (under_of o under) in
      let OH : ℕ = other_height (λ id. block_height m (suc d) c id g) top.second in
      let Q : ℕ → ℕ = λ k. rest_height m F o.«open» os k s in
      let base : length (under_of o under) ≡ o.saved.base = omega (arith, length-drop (length under - o.saved.base) under, p.stacked.0) in
      let count : length s.types ≡ R + (length under - o.saved.base) =
      length-append (map Some (reverse (types_in m top.results))) (take (length under - o.saved.base) under)
      ∙ omega (arith, length-map (reverse (types_in m top.results)) (λ (t : ValType). Some t), length-reverse (types_in m top.results), length-take-le (length under - o.saved.base) under (omega arith)) in
      let least : length s.types ≤ height_all (block_height m (depth_in os)) (is_block m (depth_in os)) m (context_in m F o.«open» os) (rest_of m o.«open») s =
      height_least (block_height m (depth_in os)) (is_block m (depth_in os)) m (context_in m F o.«open» os) (rest_of m o.«open») s in
      let more : length under + R ≤ Q o.saved.base = omega (arith, count, least, p.stacked.0) in
      let work : other_work (block_work m (suc d)) top.second ≡ 0 = ap (other_work (block_work m (suc d))) f in
      record {
        typed =
            ap (λ b. (b && other_is (λ id. is_block m (suc d) c id g) top.second) && O) (ends_at (o ∷ os) ∙ e)
            ∙ ap (λ (x : Option BlockId). other_is (λ id. is_block m (suc d) c id g) x && O) f;
        height = λ _.
            ap (λ x. max n (max (length under + max (max x R) OH) (max (Q o.saved.base) OUT))) (tall_at (o ∷ os))
            ∙ ap (λ (x : Option BlockId). max n (max (length under + max (max (length own.types) R) (other_height (λ id. block_height m (suc d) c id g) x)) (max (Q o.saved.base) OUT))) f
            ∙ above_close n (length under) (length own.types) R (Q o.saved.base) OUT h more
            ∙ ap (λ k. max n (max (Q k) OUT)) (sym base);
        work = omega (arith, work, work_at (block_work m d));
        place = record { stacked = subst (IsStacked os) (sym base) p.stacked.1; nested = omega (arith, p.nested) };
      }

  pub end_body : is_spent (take_all (reverse (types_in m top.results)) own) ≡ true → top.second ≡ None → length own.types + length under ≤ n
      → (left_typed m F (there []) ≡ true) × (max n (length (types_in m top.results) + length under) ≡ max n (left_height m F (there [])))
  unfolding left_typed left_height
  end_body e f h =
      let d = depth_in [] in
      let c = context_in m F top [] in
      let g = type_in m top in
      let R : ℕ = length (types_in m top.results) in (
        ap (λ b. (b && other_is (λ id. is_block m (suc d) c id g) top.second) && true) (ends_at [] ∙ e)
            ∙ ap (λ o. other_is (λ id. is_block m (suc d) c id g) o && true) f,
        above_end n (length under) (length own.types) R h
            ∙ sym (ap (λ x. max n (max (length under + max (max x R) (other_height (λ id. block_height m (suc d) c id g) top.second)) 0)) (tall_at [])
            ∙ ap (λ o. max n (max (length under + max (max (length own.types) R) (other_height (λ id. block_height m (suc d) c id g) o)) 0)) f),
      )

step_to : (m : Module) (F : Frame) (p q q' : Place) (n k : ℕ) → Steps m F p n q n → q' ≡ q → k ≡ n → Steps m F p n q' k
step_to m F p q q' n k h e f =
    let P : Place → Type 0 = λ x. Steps m F p n x n in
    let Q : ℕ → Type 0 = λ x. Steps m F p n q' x in
    subst Q (sym f) (subst P (sym e) h)

-- the second block of an `if` begins, as the code does it
pub second_goes : (m : Module) (F : Frame) (top top' : Open) (os os' : List Outer) (own own' : Operands) (under under' : List (Option ValType)) (n k : ℕ) (id : BlockId)
    → rest_of m top ≡ [] → is_spent (take_all (reverse (types_in m top.results)) own) ≡ true → top.second ≡ Some id
    → length own.types + length under ≤ n → IsPlace (record { top = top; own = own; outer = os; under = under })
    → top' ≡ record top { block = id; at = 0; second = None } → own' ≡ exactly (types_in m top.params) → os' ≡ os → under' ≡ under → k ≡ n
    → Steps m F (record { top = top; own = own; outer = os; under = under }) n (record { top = top'; own = own'; outer = os'; under = under' }) k
second_goes m F top top' os os' own own' under under' n k id at e f h p et eo ex eu ek =
    step_to m F _ _ _ n k (end_second m F top own under n at os id e f h p) (same_place _ _ _ _ _ _ _ _ et eo ex eu) ek

-- a block or the body ends, as the code does it
pub end_moves : (m : Module) (F : Frame) (top : Open) (os : List Outer) (own r : Operands) (under under' : List (Option ValType)) (n k : ℕ) (step : Step) (q : Place)
    → rest_of m top ≡ [] → is_spent (take_all (reverse (types_in m top.results)) own) ≡ true → top.second ≡ None
    → length own.types + length under ≤ n → IsPlace (record { top = top; own = own; outer = os; under = under }) → under' ≡ under
    → Closes m (record { top = top; own = r; outer = os; under = under' }) n step q k
    → Moves m F (record { top = top; own = own; outer = os; under = under }) n step q k
end_moves m F top os own r under under' n k Went q at e f h p u closes =
    let to = closes.0 in
    let P : List Outer → Type 0 = λ xs. IsPlace (record { top = top; own = own; outer = xs; under = under }) → Steps m F (record { top = top; own = own; outer = xs; under = under }) n q k in
    subst P (sym to.outer) (λ p'.
    step_to m F _ _ q n k (end_close m F top own under n at to.round q.outer e f h p')
    (same_place q.top to.round.«open» q.own (put (map Some (reverse (types_in m top.results))) (own_of to.round under)) q.outer q.outer q.under (under_of to.round under)
    to.top (to.own ∙ ap (λ us. put (map Some (reverse (types_in m top.results))) (own_of to.round us)) u) refl (to.under ∙ ap (under_of to.round) u))
    closes.1) p
end_moves m F top os own r under under' n k Untyped q at e f h p u closes = absurd closes
end_moves m F top os own r under under' n k Ended q at e f h p u closes =
    let P : List Outer → Type 0 = λ xs. (left_typed m F (record { top = top; own = own; outer = xs; under = under }) ≡ true) × (k ≡ max n (left_height m F (record { top = top; own = own; outer = xs; under = under }))) in
    let both = end_body m F top own under n at e f h in
    subst P (sym closes.0) (both.0, closes.1 ∙ ap (λ us. max n (length (types_in m top.results) + length us)) u ∙ both.1)

-- Steps.

pub goes_moves : (m : Module) (F : Frame) (p : Place) (n k : ℕ) (fine : Bool) (q : Place) → Goes m F p n fine q → k ≡ n → Moves m F p n (step_of fine) q k
goes_moves m F p n k true q h e = step_to m F p q q n k h refl e
goes_moves m F p n k false q h e = h

place_least : (m : Module) (F : Frame) (p : Place) → length p.own.types + length p.under ≤ left_height m F p
unfolding left_height
place_least m F p =
    let least = height_least (block_height m (depth_in p.outer)) (is_block m (depth_in p.outer)) m (context_in m F p.top p.outer) (rest_of m p.top) p.own in
    omega (arith, least)

absorbs : (n n' L H : ℕ) → n' ≡ max n L → L ≤ H → max n' H ≡ max n H
absorbs n n' L H e h = omega arith

-- the operands of a place are among those that are left to be counted
pub note_moves : (m : Module) (F : Frame) (p : Place) (n n' : ℕ) (step : Step) (q : Place) (k : ℕ) → n' ≡ max n (length p.own.types + length p.under)
    → Moves m F p n' step q k → Moves m F p n step q k
note_moves m F p n n' Went q k e h = record {
  typed = h.typed;
  height = λ t. sym (absorbs n n' _ _ e (place_least m F p)) ∙ h.height t;
  work = h.work;
  place = h.place;
}
note_moves m F p n n' Untyped q k e h = h
note_moves m F p n n' Ended q k e h = (h.0, h.1 ∙ absorbs n n' _ _ e (place_least m F p))

-- where a block has no more instructions, and where it has
pub rest_ends : (m : Module) (o : Open) (code : List Instr) → code ≡ block_of m o.block → length code ≤ o.at → rest_of m o ≡ []
rest_ends m o code e h = ap (drop o.at) (sym e) ∙ drop_all o.at code h

pub rest_begins : (m : Module) (o : Open) (code : List Instr) (i : Instr) → code ≡ block_of m o.block → o.at < length code → i ≡ get_or code o.at i
    → rest_of m o ≡ i ∷ rest_of m (next_open o)
rest_begins m o code i e h f = ap (drop o.at) (sym e) ∙ drop_more code o.at i h ∙ ap (λ x. x ∷ drop (o.at + 1) code) (sym f) ∙ ap (λ k. i ∷ drop (o.at + 1) k) e

-- the place is the same where only the count changed
pub same_after_note : (a b : Pile) (s t : Opens) → a ≡ b → s ≡ t → place_of a s ≡ place_of b t
same_after_note a b s t e f = ap (λ (x : Pile). place_of x s) e ∙ ap (λ (x : Opens). place_of b x) f

pub place_after_note : (a b : Pile) (s t : Opens) → a ≡ b → s ≡ t → IsPlace (place_of b t) → IsPlace (place_of a s)
place_after_note a b s t e f p = subst IsPlace (sym (same_after_note a b s t e f)) p

pub counted_after_note : (a b : Pile) (n n' : ℕ) → a ≡ b → n' ≡ max n (length b.own.types + length b.under) → length a.own.types + length a.under ≤ n'
counted_after_note a b n n' e f = omega (arith, ap (λ (x : Pile). length x.own.types + length x.under) e)

pub moves_after_note : (m : Module) (F : Frame) (a b : Pile) (s t : Opens) (n n' k : ℕ) (step : Step) (q : Place) → a ≡ b → s ≡ t → n' ≡ max n (length b.own.types + length b.under)
    → Moves m F (place_of a s) n' step q k → Moves m F (place_of b t) n step q k
moves_after_note m F a b s t n n' k step q e f g h =
    let P : Place → Type 0 = λ p. Moves m F p n' step q k in
    note_moves m F (place_of b t) n n' step q k g (subst P (same_after_note a b s t e f) h)

pub went_moves : (m : Module) (F : Frame) (a b : Pile) (s t : Opens) (n n' k : ℕ) (fine : Bool) (step : Step) (q : Place) → a ≡ b → s ≡ t → n' ≡ max n (length b.own.types + length b.under)
    → step ≡ step_of fine → k ≡ n' → Goes m F (place_of a s) n' fine q → Moves m F (place_of b t) n step q k
went_moves m F a b s t n n' k fine step q e f g w l h =
    let P : Step → Type 0 = λ x. Moves m F (place_of b t) n x q k in
    subst P (sym w) (moves_after_note m F a b s t n n' k (step_of fine) q e f g (goes_moves m F (place_of a s) n' k fine q h l))

-- The whole pass.

pub start_reached : (m : Module) (F : Frame) (body : BlockId) (ty : ℕ) (q : Place) (n : ℕ) → q ≡ start_of body ty → n ≡ 0 → Reached m F (start_of body ty) q n
start_reached m F body ty q n e f =
    let P : Place → Type 0 = λ x. Reached m F (start_of body ty) x n in
    subst P (sym e) (record {
      place = record { stacked = refl; nested = omega arith };
      typed = refl;
      height = λ _. ap (λ k. max k (left_height m F (start_of body ty))) (sym f);
    })

pub reached_on : (m : Module) (F : Frame) (p q r : Place) (n k : ℕ) → Reached m F p q n → Steps m F q n r k → Reached m F p r k
reached_on m F p q r n k h s = record {
  place = s.place;
  typed = h.typed ∙ s.typed;
  height = λ t. h.height (s.typed ∙ t) ∙ s.height t;
}

start_typed : (m : Module) (F : Frame) (body : BlockId) (ty : ℕ) → left_typed m F (start_of body ty)
    ≡ is_block m (suc most_nested) (record { locals = F.locals; labels = types_in m (y.Results ty) ∷ []; results = F.results }) body (record { params = []; results = types_in m (y.Results ty) })
unfolding left_typed
start_typed m F body ty =
    let c : Context = record { locals = F.locals; labels = types_in m (y.Results ty) ∷ []; results = F.results } in
    and_true _ ∙ and_true _ ∙ ap (λ d. is_block m (suc d) c body (record { params = []; results = types_in m (y.Results ty) })) (sub-zero most_nested)

start_height : (m : Module) (F : Frame) (body : BlockId) (ty : ℕ) → max 0 (left_height m F (start_of body ty))
    ≡ block_height m (suc most_nested) (record { locals = F.locals; labels = types_in m (y.Results ty) ∷ []; results = F.results }) body (record { params = []; results = types_in m (y.Results ty) })
unfolding left_height
start_height m F body ty =
    let c : Context = record { locals = F.locals; labels = types_in m (y.Results ty) ∷ []; results = F.results } in
    alone _ ∙ ap (λ d. block_height m (suc d) c body (record { params = []; results = types_in m (y.Results ty) })) (sub-zero most_nested)
  where
    alone : (x : ℕ) → max 0 (max (0 + max x 0) 0) ≡ x
    alone x = omega arith

pub body_untyped : (m : Module) (F : Frame) (body : BlockId) (ty : ℕ) (q : Place) (n : ℕ) → Reached m F (start_of body ty) q n → left_typed m F q ≡ false
    → is_block m (suc most_nested) (record { locals = F.locals; labels = types_in m (y.Results ty) ∷ []; results = F.results }) body (record { params = []; results = types_in m (y.Results ty) }) ≡ false
body_untyped m F body ty q n h e = sym (start_typed m F body ty) ∙ h.typed ∙ e

pub body_ends : (m : Module) (F : Frame) (body : BlockId) (ty : ℕ) (q : Place) (n k : ℕ) → Reached m F (start_of body ty) q n → left_typed m F q ≡ true → k ≡ max n (left_height m F q)
    → (is_block m (suc most_nested) (record { locals = F.locals; labels = types_in m (y.Results ty) ∷ []; results = F.results }) body (record { params = []; results = types_in m (y.Results ty) }) ≡ true)
    × (k ≡ block_height m (suc most_nested) (record { locals = F.locals; labels = types_in m (y.Results ty) ∷ []; results = F.results }) body (record { params = []; results = types_in m (y.Results ty) }))
body_ends m F body ty q n k h e f = (sym (start_typed m F body ty) ∙ h.typed ∙ e, f ∙ sym (h.height e) ∙ start_height m F body ty)
