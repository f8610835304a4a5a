-- The instructions of more than one type that work on operands alone: drop, select and ref.is_null.
use Rattle.std.proofs.Common.{◌≡◌, ℕ, zero, suc, List, [], ◌∷◌, drop, refl, sym, ap, ◌∙◌, Option, Some, None, map, Bool, true, false, ◌&&◌}
use Rattle.std.proofs.lemmas.Option.{same_Some}
use Rattle.std.proofs.lemmas.List.Elements.{All-head, All-tail, All-cons}
use Rattle.wasm_syntax.specs.declared.types.ValType.{ValType}
use Rattle.wasm_syntax.specs.declared.types.ValType.TheVariants as v
use Rattle.wasm_syntax.specs.declared.value.Value.{Value}
use Rattle.wasm_syntax.specs.declared.value.Value.TheVariants as w
use Rattle.wasm_syntax.specs.declared.instructions.Instr.{Instr}
use Rattle.wasm_syntax.specs.declared.sorts.Sort.{Sort}
use Rattle.wasm_syntax.specs.declared.sorts.Sort.TheVariants as sort
use Rattle.wasm_syntax.specs.Sorts.{sort_of, types_of}
use Rattle.wasm_syntax.specs.ValueTypes.{same_type}
use Rattle.wasm_valid.specs.Spaces.{when, then_}
use Rattle.wasm_valid.specs.Operands.{Operands, is_number}
use Rattle.wasm_valid.specs.Typing.{after_sort, is_block, drops, selects, after_select, tests_reference}
use Rattle.wasm_store.specs.Store.{Store}
use Rattle.wasm_store.specs.Whole.{value_type, IsLive, AreLive}
use Rattle.wasm_machine.specs.View.{View, module_for}
use Rattle.wasm_machine.specs.Performing.{Performed, performs, lacks, perform_drop, perform_select, perform_is_null, chosen}
use Rattle.wasm_machine.specs.Steps.{Performs}
pub use Rattle.wasm_machine.specs.Classes.{IsOperand}
use Rattle.wasm_machine.specs.Classes.{IsReferenceFirst, IsSelectable}
use Rattle.wasm_machine.specs.Fits.{standing, FitsAt}
use Rattle.wasm_machine.proofs.Types.{same_types, standing_of, exchanged, IsTops}
use Rattle.wasm_machine.proofs.PerformLaws.{IsFine}
use Rattle.wasm_machine.proofs.Going.{next_at, context_of}
use Rattle.wasm_machine.proofs.Kept.{gone_fits}

-- what is done goes on with these operands
pub record Comes (s : Store) (F : List Value) (next : Operands) (d : Performed) : Type 0 where
  pub types : List ValType
  pub next_is : next ≡ standing types
  pub fine : IsFine s F types d

both : (a b : Bool) → (a && b) ≡ true → (a ≡ true) × (b ≡ true)
both true true e = (refl, refl)
both true false e = cc
both false b e = cc

comes_with : (s : Store) (F : List Value) (next : Operands) (u : Value) (ts : List ValType) (us : List Value) → next ≡ standing (value_type u ∷ map value_type us) → IsLive s u → AreLive s us → AreLive s F → Comes s F next (performs s F (u ∷ us))
comes_with s F next u ts us e live lives locals = record {
  types = value_type u ∷ map value_type us;
  next_is = e;
  fine = record { types = refl; live = All-cons (IsLive s) u us live lives; locals = refl; live_locals = locals };
}

drop_comes : (s : Store) (F vs : List Value) (next : Operands) → drops (standing_of vs) ≡ Some next → AreLive s vs → AreLive s F → Comes s F next (perform_drop s F vs)
drop_comes s F [] next e lives locals = absurd (let f : ◌≡◌ None (Some next) = e in cc)
drop_comes s F (u ∷ us) next e lives locals = record {
  types = map value_type us;
  next_is = sym (same_Some _ _ e);
  fine = record { types = refl; live = All-tail (IsLive s) u us lives; locals = refl; live_locals = locals };
}

null_comes : (s : Store) (F vs : List Value) (next : Operands) → tests_reference (standing_of vs) ≡ Some next → AreLive s vs → AreLive s F → Comes s F next (perform_is_null s F vs)
null_comes s F [] next e lives locals = absurd (let f : ◌≡◌ None (Some next) = e in cc)
null_comes s F (w.I32 k ∷ us) next e lives locals = absurd (let f : ◌≡◌ None (Some next) = e in cc)
null_comes s F (w.I64 k ∷ us) next e lives locals = absurd (let f : ◌≡◌ None (Some next) = e in cc)
null_comes s F (w.FuncNull ∷ us) next e lives locals = comes_with s F next (w.I32 1) [] us (sym (same_Some _ _ e)) tt (All-tail (IsLive s) w.FuncNull us lives) locals
null_comes s F (w.Func a ∷ us) next e lives locals = comes_with s F next (w.I32 0) [] us (sym (same_Some _ _ e)) tt (All-tail (IsLive s) (w.Func a) us lives) locals
null_comes s F (w.ExternNull ∷ us) next e lives locals = comes_with s F next (w.I32 1) [] us (sym (same_Some _ _ e)) tt (All-tail (IsLive s) w.ExternNull us lives) locals
null_comes s F (w.Extern a ∷ us) next e lives locals = comes_with s F next (w.I32 0) [] us (sym (same_Some _ _ e)) tt (All-tail (IsLive s) (w.Extern a) us lives) locals

-- two values of one type under a number
three_comes : (s : Store) (F : List Value) (next : Operands) (k : ℕ) (b a : Value) (rest : List Value) → value_type a ≡ value_type b → next ≡ standing (value_type a ∷ map value_type rest) → AreLive s (b ∷ a ∷ rest) → AreLive s F
    → Comes s F next (performs s F (chosen k a b ∷ rest))
three_comes s F next zero b a rest same e lives locals =
    let two : AreLive s (a ∷ rest) = All-tail (IsLive s) b (a ∷ rest) lives in
    comes_with s F next b [] rest (e ∙ ap (λ t. standing (t ∷ map value_type rest)) same) (All-head (IsLive s) b (a ∷ rest) lives) (All-tail (IsLive s) a rest two) locals
three_comes s F next (suc k) b a rest same e lives locals =
    let two : AreLive s (a ∷ rest) = All-tail (IsLive s) b (a ∷ rest) lives in
    comes_with s F next a [] rest e (All-head (IsLive s) a rest two) (All-tail (IsLive s) a rest two) locals

select_comes : (s : Store) (F vs : List Value) (next : Operands) → selects (standing_of vs) ≡ Some next → AreLive s vs → AreLive s F → Comes s F next (perform_select s F vs)
select_comes s F [] next e lives locals = absurd (let f : ◌≡◌ None (Some next) = e in cc)
select_comes s F (w.I64 k ∷ us) next e lives locals = absurd (let f : ◌≡◌ None (Some next) = e in cc)
select_comes s F (w.FuncNull ∷ us) next e lives locals = absurd (let f : ◌≡◌ None (Some next) = e in cc)
select_comes s F (w.Func a ∷ us) next e lives locals = absurd (let f : ◌≡◌ None (Some next) = e in cc)
select_comes s F (w.ExternNull ∷ us) next e lives locals = absurd (let f : ◌≡◌ None (Some next) = e in cc)
select_comes s F (w.Extern a ∷ us) next e lives locals = absurd (let f : ◌≡◌ None (Some next) = e in cc)
select_comes s F (w.I32 k ∷ []) next e lives locals = absurd (let f : ◌≡◌ None (Some next) = e in cc)
select_comes s F (w.I32 k ∷ b ∷ []) next e lives locals = absurd (let f : ◌≡◌ None (Some next) = e in cc)
select_comes s F (w.I32 k ∷ b ∷ a ∷ rest) next e lives locals =
    let c = chosen_by (is_number (Some (value_type a)) && is_number (Some (value_type b))) (same_type (value_type a) (value_type b)) (value_type a) (value_type b) (map value_type rest) next refl e in
    three_comes s F next k b a rest c.0 c.1 (All-tail (IsLive s) (w.I32 k) (b ∷ a ∷ rest) lives) locals
  where
    chosen_by : (n same : Bool) (t u : ValType) (ts : List ValType) (next : Operands) → same_type t u ≡ same → then_ (when n (when same (Some (Some t)))) (λ (o : Option ValType). Some (record { types = o ∷ map Some ts; any = false })) ≡ Some next → (t ≡ u) × (next ≡ standing (t ∷ ts))
    chosen_by true true t u ts next f e = (sym (same_types t u f), sym (same_Some _ _ e))
    chosen_by true false t u ts next f e = absurd (let g : ◌≡◌ None (Some next) = e in cc)
    chosen_by false same t u ts next f e = absurd (let g : ◌≡◌ None (Some next) = e in cc)

typed_comes : (s : Store) (F vs : List Value) (u : ValType) (next : Operands) → IsTops (v.I32 ∷ u ∷ u ∷ []) vs → next ≡ standing (u ∷ map value_type (drop 3 vs)) → AreLive s vs → AreLive s F → Comes s F next (perform_select s F vs)
typed_comes s F [] u next h e lives locals = absurd h
typed_comes s F (w.I64 k ∷ us) u next h e lives locals = cc
typed_comes s F (w.FuncNull ∷ us) u next h e lives locals = cc
typed_comes s F (w.Func a ∷ us) u next h e lives locals = cc
typed_comes s F (w.ExternNull ∷ us) u next h e lives locals = cc
typed_comes s F (w.Extern a ∷ us) u next h e lives locals = cc
typed_comes s F (w.I32 k ∷ []) u next h e lives locals = absurd h.1
typed_comes s F (w.I32 k ∷ b ∷ []) u next h e lives locals = absurd h.1.1
typed_comes s F (w.I32 k ∷ b ∷ a ∷ rest) u next h e lives locals =
    three_comes s F next k b a rest (h.1.1.0 ∙ sym h.1.0) (e ∙ ap (λ t. standing (t ∷ map value_type rest)) (sym h.1.1.0)) (All-tail (IsLive s) (w.I32 k) (b ∷ a ∷ rest) lives) locals

select_typed_comes : (s : Store) (F vs : List Value) (us : List ValType) (next : Operands) → after_select us (standing_of vs) ≡ Some next → AreLive s vs → AreLive s F → Comes s F next (perform_select s F vs)
select_typed_comes s F vs [] next e lives locals = absurd (let f : ◌≡◌ None (Some next) = e in cc)
select_typed_comes s F vs (u ∷ t ∷ us) next e lives locals = absurd (let f : ◌≡◌ None (Some next) = e in cc)
select_typed_comes s F vs (u ∷ []) next e lives locals =
    let x = exchanged (v.I32 ∷ u ∷ u ∷ []) (u ∷ []) vs next e in
    typed_comes s F vs u next x.tops x.next_is lives locals

-- At work in a frame that fits.

-- what an instruction comes to that works on operands alone
abbrev pub worked : Store → View → Sort → Performed
worked s v sort.Drop = perform_drop s v.locals v.top.values
worked s v sort.Select = perform_select s v.locals v.top.values
worked s v sort.SelectTyped = perform_select s v.locals v.top.values
worked s v sort.RefIsNull = perform_is_null s v.locals v.top.values
worked s v _ = lacks

-- an instruction of this sort is at work in a frame that fits
pub record IsSorted (s : Store) (R : List ValType) (is : List Instr) (v : View) (k : Sort) : Type 0 where
  pub instr : Instr
  pub sort_is : sort_of instr ≡ k
  pub fits : FitsAt s R (instr ∷ is) [] v

-- the typing of the instruction at work
sorted_next : {R : List ValType} → (s : Store) (is : List Instr) (v : View) (k : Sort) (h : IsSorted s R is v k) → after_sort (is_block (module_for s v) h.fits.typed.depth) (module_for s v) (context_of (module_for s v) (h.instr ∷ is) [] v h.fits.typed) h.instr k (standing_of v.top.values) ≡ Some (next_at (module_for s v) h.instr is v h.fits.typed).next
sorted_next {R} s is v k h =
    ap (λ z. after_sort (is_block (module_for s v) h.fits.typed.depth) (module_for s v) (context_of (module_for s v) (h.instr ∷ is) [] v h.fits.typed) h.instr z (standing_of v.top.values)) (sym h.sort_is) ∙ (next_at (module_for s v) h.instr is v h.fits.typed).typed

pub worked_comes : {R : List ValType} → (s : Store) (is : List Instr) (v : View) (k : Sort) → IsOperand k → (h : IsSorted s R is v k) → Comes s v.locals (next_at (module_for s v) h.instr is v h.fits.typed).next (worked s v k)
worked_comes {R} s is v sort.Drop o h = drop_comes s v.locals v.top.values _ (sorted_next s is v sort.Drop h) h.fits.operands.0 h.fits.locals
worked_comes {R} s is v sort.Select o h = select_comes s v.locals v.top.values _ (sorted_next s is v sort.Select h) h.fits.operands.0 h.fits.locals
worked_comes {R} s is v sort.SelectTyped o h = select_typed_comes s v.locals v.top.values (types_of h.instr) _ (sorted_next s is v sort.SelectTyped h) h.fits.operands.0 h.fits.locals
worked_comes {R} s is v sort.RefIsNull o h = null_comes s v.locals v.top.values _ (sorted_next s is v sort.RefIsNull h) h.fits.operands.0 h.fits.locals
worked_comes {R} s is v _ o h = absurd o

pub worked_fits : {R : List ValType} → (s r : Store) (is : List Instr) (v u : View) (k : Sort) → IsOperand k → IsSorted s R is v k → Performs (worked s v k) r v u → FitsAt s R is [] u
worked_fits {R} s r is v u k o h q =
    let c = worked_comes s is v k o h in
    gone_fits s r h.instr is v u (worked s v k) c.types h.fits (next_at (module_for s v) h.instr is v h.fits.typed) c.next_is c.fine q

-- What they find.

drop_some : (vs : List Value) (next : Operands) → drops (standing_of vs) ≡ Some next → vs ≡ [] → ⊥
drop_some [] next e f = let g : ◌≡◌ None (Some next) = e in cc
drop_some (a ∷ vs) next e f = let g : ◌≡◌ (a ∷ vs) [] = f in cc

null_first : (vs : List Value) (next : Operands) → tests_reference (standing_of vs) ≡ Some next → IsReferenceFirst vs
null_first [] next e = absurd (let f : ◌≡◌ None (Some next) = e in cc)
null_first (w.I32 k ∷ us) next e = absurd (let f : ◌≡◌ None (Some next) = e in cc)
null_first (w.I64 k ∷ us) next e = absurd (let f : ◌≡◌ None (Some next) = e in cc)
null_first (w.FuncNull ∷ us) next e = tt
null_first (w.Func a ∷ us) next e = tt
null_first (w.ExternNull ∷ us) next e = tt
null_first (w.Extern a ∷ us) next e = tt

select_first : (vs : List Value) (next : Operands) → selects (standing_of vs) ≡ Some next → IsSelectable vs
select_first [] next e = absurd (let f : ◌≡◌ None (Some next) = e in cc)
select_first (w.I64 k ∷ us) next e = absurd (let f : ◌≡◌ None (Some next) = e in cc)
select_first (w.FuncNull ∷ us) next e = absurd (let f : ◌≡◌ None (Some next) = e in cc)
select_first (w.Func a ∷ us) next e = absurd (let f : ◌≡◌ None (Some next) = e in cc)
select_first (w.ExternNull ∷ us) next e = absurd (let f : ◌≡◌ None (Some next) = e in cc)
select_first (w.Extern a ∷ us) next e = absurd (let f : ◌≡◌ None (Some next) = e in cc)
select_first (w.I32 k ∷ []) next e = absurd (let f : ◌≡◌ None (Some next) = e in cc)
select_first (w.I32 k ∷ b ∷ []) next e = absurd (let f : ◌≡◌ None (Some next) = e in cc)
select_first (w.I32 k ∷ b ∷ a ∷ rest) next e = tt

typed_first : (vs : List Value) (u : ValType) → IsTops (v.I32 ∷ u ∷ u ∷ []) vs → IsSelectable vs
typed_first [] u h = absurd h
typed_first (w.I64 k ∷ us) u h = cc
typed_first (w.FuncNull ∷ us) u h = cc
typed_first (w.Func a ∷ us) u h = cc
typed_first (w.ExternNull ∷ us) u h = cc
typed_first (w.Extern a ∷ us) u h = cc
typed_first (w.I32 k ∷ []) u h = absurd h.1
typed_first (w.I32 k ∷ b ∷ []) u h = absurd h.1.1
typed_first (w.I32 k ∷ b ∷ a ∷ rest) u h = tt

select_typed_first : (vs : List Value) (us : List ValType) (next : Operands) → after_select us (standing_of vs) ≡ Some next → IsSelectable vs
select_typed_first vs [] next e = absurd (let f : ◌≡◌ None (Some next) = e in cc)
select_typed_first vs (u ∷ t ∷ us) next e = absurd (let f : ◌≡◌ None (Some next) = e in cc)
select_typed_first vs (u ∷ []) next e = typed_first vs u (exchanged (v.I32 ∷ u ∷ u ∷ []) (u ∷ []) vs next e).tops

pub can_drop : {R : List ValType} → (s : Store) (is : List Instr) (v : View) → IsSorted s R is v sort.Drop → v.top.values ≡ [] → ⊥
can_drop s is v h = drop_some v.top.values _ (sorted_next s is v sort.Drop h)

pub can_select : {R : List ValType} → (s : Store) (is : List Instr) (v : View) → IsSorted s R is v sort.Select → IsSelectable v.top.values
can_select s is v h = select_first v.top.values _ (sorted_next s is v sort.Select h)

pub can_select_typed : {R : List ValType} → (s : Store) (is : List Instr) (v : View) → IsSorted s R is v sort.SelectTyped → IsSelectable v.top.values
can_select_typed s is v h = select_typed_first v.top.values (types_of h.instr) _ (sorted_next s is v sort.SelectTyped h)

pub can_test_null : {R : List ValType} → (s : Store) (is : List Instr) (v : View) → IsSorted s R is v sort.RefIsNull → IsReferenceFirst v.top.values
can_test_null s is v h = null_first v.top.values _ (sorted_next s is v sort.RefIsNull h)
