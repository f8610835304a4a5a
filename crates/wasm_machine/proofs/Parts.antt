-- The parts of a step: what each makes of the frame's term, and that the frame fits afterwards.
use Rattle.std.specs.Prelude.{reverse, slice_get, slice_index_or, Vec}
use Rattle.std.specs.declared.alloc.Global.{Global}
use Rattle.std.specs.List.{AllZip}
use Rattle.std.proofs.lemmas.List.Elements.{All-head, All-tail}
use Rattle.std.proofs.Common.{◌≡◌, ◌≢◌, ℕ, zero, suc, ◌≤◌, ◌<◌, List, [], ◌∷◌, length, take, map, refl, sym, ap, ◌∙◌, subst, arith, Option, Some, None, true, get_or}
use Rattle.wasm_syntax.specs.Sorts.{sort_of, labels_of}
use Rattle.wasm_syntax.specs.ValueTypes.{block_type}
use Rattle.wasm_syntax.specs.declared.types.ValType.{ValType}
use Rattle.wasm_syntax.specs.declared.instructions.BlockId.{BlockId}
use Rattle.wasm_syntax.specs.declared.instructions.Instr.{Instr}
use Rattle.wasm_syntax.specs.declared.sorts.Nesting.{Nesting}
use Rattle.wasm_syntax.specs.declared.sorts.Sort.{Sort}
use Rattle.wasm_syntax.specs.declared.sorts.Sort.TheVariants as sort
use Rattle.wasm_syntax.specs.declared.module.Module.{Module}
use Rattle.wasm_syntax.specs.declared.value.Value.{Value}
use Rattle.wasm_syntax.specs.declared.value.Value.TheVariants as w
use Rattle.wasm_syntax.specs.declared.addresses.FuncAddr.{FuncAddr}
use Rattle.wasm_syntax.specs.declared.addresses.InstAddr.{InstAddr}
use Rattle.wasm_store.specs.declared.instances.Instance.{Instance}
use Rattle.std.proofs.lemmas.Option.{get_or_from_slice_get}
use Rattle.std.proofs.lemmas.List.{nil_from_length}
use Rattle.wasm_syntax.specs.declared.addresses.ModuleAddr.{ModuleAddr}
use Rattle.wasm_store.specs.Store.{Store, type_of, function_at, module_at, instance_at}
use Rattle.wasm_store.specs.Whole.{value_type, IsLive, AreLive, HasType}
use Rattle.wasm_machine.specs.declared.frame.Effect.{Effect}
use Rattle.wasm_machine.specs.declared.frame.Effect.TheVariants.{Went, Call, Returned, Trapped, Grew}
use Rattle.wasm_machine.specs.Terms.{FrameState, here}
use Rattle.wasm_machine.specs.Reduction.{goes, branches, act, act_by, begun, nested, call, call_index, branch_if, branch_table, module_of, rewrites}
use Rattle.wasm_machine.specs.View.{View, with_values, rest_of, state_of, module_for, last_instr, term_of, term_round, left, left_to, Open, IsLinked}
use Rattle.wasm_machine.specs.Control.{CanBegin, Begins, CanBranch, Branches, CanCall, Calls, IsNumberFirst, chosen_label, Ends}
use Rattle.wasm_machine.specs.Growth.{grown_in, growth_of}
use Rattle.wasm_machine.specs.Fits.{FitsAt, Fits}
use Rattle.wasm_machine.specs.Steps.{Makes, LeavesFit, term_before}
use Rattle.wasm_machine.specs.Stepping.{fetched_instr, FitsBut, At, Stepped}
use Rattle.wasm_machine.proofs.Terms.{before_goes, before_returns, step_leaves, step_ends}
use Rattle.wasm_machine.proofs.Growing.{none_by, branch_none, growth_ended, end_none}
use Rattle.wasm_machine.proofs.Stepping.{loop_is, begins_makes, branch_makes, call_makes}
use Rattle.wasm_machine.proofs.Going.{linked_same}
use Rattle.wasm_machine.proofs.Beginning.{if_first, can_begin, can_begin_if, begins_fits, begins_if_fits, IsPart}
use Rattle.wasm_machine.proofs.Branching.{TargetOf, can_branch, branches_fits, AreResults, branch_results, br_target, br_if_first, br_if_target, br_if_stays, br_table_first, br_table_target, popped_live, can_return, return_results, ended_long, ended_results, left_fits}
use Rattle.wasm_machine.proofs.Calling.{Callable, callable, calls_waits, calls_arguments, call_finds}

-- Values of types, one by one.
pub zip_of : (s : Store) (ts : List ValType) (values : List Value) → map value_type values ≡ ts → AreLive s values → AllZip (HasType s) values ts
zip_of s [] [] e h = tt
zip_of s [] (x ∷ xs) e h = cc
zip_of s (t ∷ ts) [] e h = cc
zip_of s (t ∷ ts) (x ∷ xs) e h =
    let a : value_type x ≡ t = cc in
    let b : map value_type xs ≡ ts = cc in
    ((a, All-head (IsLive s) x xs h), zip_of s ts xs b (All-tail (IsLive s) x xs h))

pub zip_results : (s : Store) (ts : List ValType) (values : List Value) → AreResults s ts values → AllZip (HasType s) values ts
zip_results s ts values h = zip_of s ts values h.types h.live

-- the frame as it was before a number was taken off
pub back : (s : Store) (v u x : View) (instr : Instr) (e : Effect) (r : Store) → u ≡ with_values u.top.values v → Makes s (term_before (module_for s u) instr (with_values v.top.values u)) e r x → Makes s (term_before (module_for s v) instr v) e r x
back s v u x instr e r q h = subst (λ z. Makes s (term_before (module_for s z) instr (with_values v.top.values z)) e r x) q h

module_here : {R : List ValType} → (s : Store) (is : List Instr) (v : View) → FitsAt s R is [] v → module_for s v ≡ module_of s (state_of v)
module_here s is v f = ap (module_at s) (sym f.module_is)

abbrev pub others : Store → View → List Instr
others s v = fetched_instr s v ∷ rest_of (module_for s v) v

-- Branches.

pub branch_leaves : {R : List ValType} → (s : Store) (is : List Instr) (v u x : View) (l : ℕ) (e : Effect) → (f : FitsAt s R is [] v) → TargetOf s is v f l u.top.values → AreLive s u.top.values → u ≡ with_values u.top.values v → Branches l u e x → LeavesFit R e s x
branch_leaves s is v u x l Went f t lives q b = branches_fits s is v u x l f t lives q b.0 b.1
branch_leaves {R} s is v u x l (Returned values) f t lives q b = zip_results s R values.items (branch_results s is v u l values.items f t lives q b.0 b.1)
branch_leaves s is v u x l (Call func args) f t lives q b = absurd b
branch_leaves s is v u x l (Trapped cause) f t lives q b = absurd b
branch_leaves s is v u x l (Grew memory) f t lives q b = absurd b

pub br_can : (s : Store) (v : View) (l : ℕ) → At s (sort.Br l) v → CanBranch l v
br_can s v l h = can_branch s (others s v) v v l h.fits (br_target s (fetched_instr s v) (rest_of (module_for s v) v) v l h.fits h.sort_is) refl

pub stepped_br : (s : Store) (v x : View) (l : ℕ) (e : Effect) → At s (sort.Br l) v → Branches l v e x → Stepped s v e s x
stepped_br s v x l e h b = record {
  makes = branch_makes s v (fetched_instr s v) v.top.values l e x (ap (λ k. act_by s (state_of v) (fetched_instr s v) k v.top.values) h.sort_is) (br_can s v l h) h.fits.typed.linked b;
  grew = none_by s v (fetched_instr s v) (sort.Br l) e h.sort_is (branch_none l v e x b) refl;
  fits = λ R f. branch_leaves s (others s v) v v x l e f (br_target s (fetched_instr s v) (rest_of (module_for s v) v) v l f h.sort_is) f.operands.0 refl b;
}

-- br_if

br_if_goes : (s : Store) (F : FrameState) (instr : Instr) (l k : ℕ) (vs us : List Value) → sort_of instr ≡ sort.BrIf l → vs ≡ w.I32 k ∷ us → k ≡ 0 → act s F instr vs ≡ goes s F.locals us here
br_if_goes s F instr l k vs us e t z = ap (λ o. act_by s F instr o vs) e ∙ ap (branch_if s F l) (t ∙ ap (λ j. w.I32 j ∷ us) z)

br_if_breaks : (s : Store) (F : FrameState) (instr : Instr) (l k : ℕ) (vs us : List Value) → sort_of instr ≡ sort.BrIf l → vs ≡ w.I32 k ∷ us → k ≢ 0 → act s F instr vs ≡ branches l us
br_if_breaks s F instr l zero vs us e t ne = absurd (ne refl)
br_if_breaks s F instr l (suc k) vs us e t ne = ap (λ o. act_by s F instr o vs) e ∙ ap (branch_if s F l) t

pub br_if_can : (s : Store) (v u : View) (l k : ℕ) → At s (sort.BrIf l) v → v.top.values ≡ w.I32 k ∷ u.top.values → u ≡ with_values u.top.values v → CanBranch l u
br_if_can s v u l k h t q = can_branch s (others s v) v u l h.fits (br_if_target s (fetched_instr s v) (rest_of (module_for s v) v) v u l k h.fits h.sort_is t) q

pub stepped_not : (s : Store) (v u : View) (l k : ℕ) → At s (sort.BrIf l) v → v.top.values ≡ w.I32 k ∷ u.top.values → u ≡ with_values u.top.values v → k ≡ 0 → Stepped s v Went s u
stepped_not s v u l k h t q z = record {
  makes = λ F. before_goes s (module_for s v) v (fetched_instr s v) s v.locals u.top.values here (br_if_goes s (state_of v) (fetched_instr s v) l k v.top.values u.top.values h.sort_is t z) F ∙ ap (λ y. rewrites s F (term_of s y)) (sym q);
  grew = none_by s v (fetched_instr s v) (sort.BrIf l) Went h.sort_is refl refl;
  fits = λ R f. let a = br_if_stays s (fetched_instr s v) (rest_of (module_for s v) v) v u l k f h.sort_is t q in
      subst (λ is. FitsAt s R is [] u) (ap (λ y. rest_of (module_for s y) y) (sym q)) a;
}

abbrev CanBranchLinked : Store → View → Type 0
CanBranchLinked s v = IsLinked (module_for s v) v.top v.outer

linked_with : (s : Store) (v : View) (us : List Value) → CanBranchLinked s v → CanBranchLinked s (with_values us v)
linked_with s v us h = linked_same (module_for s v) v.top us v.outer h

linked_there : (s : Store) (v u : View) → u ≡ with_values u.top.values v → CanBranchLinked s v → CanBranchLinked s u
linked_there s v u q h = subst (CanBranchLinked s) (sym q) (linked_with s v u.top.values h)

pub stepped_if : (s : Store) (v u x : View) (l k : ℕ) (e : Effect) → At s (sort.BrIf l) v → v.top.values ≡ w.I32 k ∷ u.top.values → u ≡ with_values u.top.values v → k ≢ 0 → Branches l u e x → Stepped s v e s x
stepped_if s v u x l k e h t q ne b = record {
  makes = back s v u x (fetched_instr s v) e s q (branch_makes s u (fetched_instr s v) v.top.values l e x (br_if_breaks s (state_of u) (fetched_instr s v) l k v.top.values u.top.values h.sort_is t ne) (br_if_can s v u l k h t q) (linked_there s v u q h.fits.typed.linked) b);
  grew = none_by s v (fetched_instr s v) (sort.BrIf l) e h.sort_is (branch_none l u e x b) refl;
  fits = λ R f. branch_leaves s (others s v) v u x l e f (br_if_target s (fetched_instr s v) (rest_of (module_for s v) v) v u l k f h.sort_is t) (popped_live s (others s v) v u k f t) q b;
}

-- br_table

table_breaks : (s : Store) (F : FrameState) (instr : Instr) (l k : ℕ) (vs us : List Value) → sort_of instr ≡ sort.BrTable l → vs ≡ w.I32 k ∷ us → act s F instr vs ≡ branches (slice_index_or (labels_of instr) k l) us
table_breaks s F instr l k vs us e t = ap (λ o. act_by s F instr o vs) e ∙ ap (branch_table (labels_of instr) l) t

-- the label is chosen by the instruction that was fetched
chosen_there : (s : Store) (v u : View) (l k j : ℕ) → u ≡ with_values u.top.values v → j ≡ chosen_label (module_for s u) u l k → j ≡ slice_index_or (labels_of (fetched_instr s v)) k l
chosen_there s v u l k j q e = e ∙ ap (λ z. slice_index_or (labels_of (last_instr (module_for s z) z)) k l) q

pub table_can : (s : Store) (v u : View) (l k j : ℕ) → At s (sort.BrTable l) v → v.top.values ≡ w.I32 k ∷ u.top.values → u ≡ with_values u.top.values v → j ≡ chosen_label (module_for s u) u l k → CanBranch j u
table_can s v u l k j h t q e =
    let c = can_branch s (others s v) v u (slice_index_or (labels_of (fetched_instr s v)) k l) h.fits (br_table_target s (fetched_instr s v) (rest_of (module_for s v) v) v u l k k h.fits h.sort_is t) q in
    subst (λ y. CanBranch y u) (sym (chosen_there s v u l k j q e)) c

pub stepped_table : (s : Store) (v u x : View) (l k j : ℕ) (e : Effect) → At s (sort.BrTable l) v → v.top.values ≡ w.I32 k ∷ u.top.values → u ≡ with_values u.top.values v → j ≡ chosen_label (module_for s u) u l k → Branches j u e x → Stepped s v e s x
stepped_table s v u x l k j e h t q c b0 =
    let z = chosen_there s v u l k j q c in
    let n : ℕ = slice_index_or (labels_of (fetched_instr s v)) k l in
    let b : Branches n u e x = subst (λ y. Branches y u e x) z b0 in
    let can : CanBranch n u = subst (λ y. CanBranch y u) z (table_can s v u l k j h t q c) in
    record {
      makes = back s v u x (fetched_instr s v) e s q (branch_makes s u (fetched_instr s v) v.top.values n e x (table_breaks s (state_of u) (fetched_instr s v) l k v.top.values u.top.values h.sort_is t) can (linked_there s v u q h.fits.typed.linked) b);
      grew = none_by s v (fetched_instr s v) (sort.BrTable l) e h.sort_is (branch_none n u e x b) refl;
      fits = λ R f. branch_leaves s (others s v) v u x n e f (br_table_target s (fetched_instr s v) (rest_of (module_for s v) v) v u l k k f h.sort_is t) (popped_live s (others s v) v u k f t) q b;
    }

-- return

pub return_can : (s : Store) (v : View) → At s sort.Return v → v.results ≤ length v.top.values
return_can s v h = can_return s (fetched_instr s v) (rest_of (module_for s v) v) v h.fits h.sort_is

pub stepped_return : (s : Store) (v : View) (values : Vec Value Global) → At s sort.Return v → reverse values.items ≡ take v.results v.top.values → Stepped s v (Returned values) s v
stepped_return s v values h e = record {
  makes = (refl, λ F. before_returns s (module_for s v) v (fetched_instr s v) v.top.values values.items (ap (λ k. act_by s (state_of v) (fetched_instr s v) k v.top.values) h.sort_is) (return_can s v h) e F);
  grew = none_by s v (fetched_instr s v) sort.Return (Returned values) h.sort_is refl refl;
  fits = λ R f. zip_results s R values.items (return_results s (fetched_instr s v) (rest_of (module_for s v) v) v values.items f h.sort_is e);
}

-- block, loop and if

pub begin_can : (s : Store) (v : View) (n : Nesting) → At s (sort.Nested n) v → n.other ≡ None → CanBegin (module_for s v) n.ty v
begin_can s v n h o = can_begin s (fetched_instr s v) v n h.fits h.sort_is o

pub stepped_block : (s : Store) (v x : View) (n : Nesting) → At s (sort.Nested n) v → n.other ≡ None → Begins (module_for s v) n.again n.ty n.body v x → Stepped s v Went s x
stepped_block s v x n h o b =
    let F = state_of v in
    let instr = fetched_instr s v in
    let a : act s F instr v.top.values ≡ begun s F instr n.again n.body v.top.values (block_type (module_of s F) n.ty) =
    ap (λ k. act_by s F instr k v.top.values) h.sort_is ∙ ap (λ y. nested s F instr n y v.top.values) o in
    record {
      makes = begins_makes s v x instr v.top.values n.again n.ty n.body (module_here s (others s v) v h.fits) (begin_can s v n h o) (loop_is instr n h.sort_is) a b;
      grew = none_by s v (fetched_instr s v) (sort.Nested n) Went h.sort_is refl refl;
      fits = λ R f. begins_fits s instr v x n f h.sort_is o h.placed b;
    }

pub if_can : (s : Store) (v u : View) (n : Nesting) (other : BlockId) (k : ℕ) → At s (sort.Nested n) v → n.other ≡ Some other → v.top.values ≡ w.I32 k ∷ u.top.values → u ≡ with_values u.top.values v → CanBegin (module_for s u) n.ty u
if_can s v u n other k h o t q = subst (λ (m : Module). CanBegin m n.ty u) (ap (module_for s) (sym q)) (can_begin_if s (fetched_instr s v) v u n other k h.fits h.sort_is o t q)

abbrev other_in : Sort → Option BlockId
other_in (sort.Nested m) = m.other
other_in _ = None

nesting_other : (instr : Instr) (n : Nesting) (other : BlockId) → sort_of instr ≡ sort.Nested n → n.other ≡ Some other → n.again ≡ true → ⊥
nesting_other instr n other e o a =
    let x : sort.Nested (record { ty = n.ty; body = n.body; other = None; again = true }) ≡ sort.Nested n = ap sort_of (sym (loop_is instr n e a)) ∙ e in
    let y : None ≡ Some other = ap other_in x ∙ o in cc

-- which block of an if is begun
abbrev pub Chosen : Nesting → BlockId → ℕ → BlockId → Type 0
Chosen n other zero id = id ≡ other
Chosen n other (suc k) id = id ≡ n.body

pub chosen_zero : (n : Nesting) (other : BlockId) (k : ℕ) → k ≡ 0 → Chosen n other k other
chosen_zero n other zero e = refl
chosen_zero n other (suc k) e = absurd (omega (arith, e))

pub chosen_else : (n : Nesting) (other : BlockId) (k : ℕ) → k ≢ 0 → Chosen n other k n.body
chosen_else n other zero ne = absurd (ne refl)
chosen_else n other (suc k) ne = refl

if_by : (s : Store) (F : FrameState) (instr : Instr) (n : Nesting) (other id : BlockId) (k : ℕ) (us : List Value) → Chosen n other k id → nested s F instr n (Some other) (w.I32 k ∷ us) ≡ begun s F instr n.again id us (block_type (module_of s F) n.ty)
if_by s F instr n other id zero us c = ap (λ y. begun s F instr n.again y us (block_type (module_of s F) n.ty)) (sym c)
if_by s F instr n other id (suc k) us c = ap (λ y. begun s F instr n.again y us (block_type (module_of s F) n.ty)) (sym c)

if_act : (s : Store) (F : FrameState) (instr : Instr) (n : Nesting) (other id : BlockId) (k : ℕ) (vs us : List Value) → sort_of instr ≡ sort.Nested n → n.other ≡ Some other → vs ≡ w.I32 k ∷ us → Chosen n other k id
    → act s F instr vs ≡ begun s F instr n.again id us (block_type (module_of s F) n.ty)
if_act s F instr n other id k vs us e o t c = ap (λ y. act_by s F instr y vs) e ∙ ap (λ y. nested s F instr n y vs) o ∙ ap (nested s F instr n (Some other)) t ∙ if_by s F instr n other id k us c

pub stepped_if_block : (s : Store) (v u x : View) (n : Nesting) (other id : BlockId) (k : ℕ) → At s (sort.Nested n) v → n.other ≡ Some other → v.top.values ≡ w.I32 k ∷ u.top.values → u ≡ with_values u.top.values v → Chosen n other k id → IsPart n id
    → Begins (module_for s u) n.again n.ty id u x → Stepped s v Went s x
stepped_if_block s v u x n other id k h o t q c part b =
    let instr = fetched_instr s v in
    let same : module_for s v ≡ module_for s u = ap (module_for s) (sym q) in
    let m : module_for s u ≡ module_of s (state_of u) = subst (λ z. module_for s z ≡ module_of s (state_of z)) (sym q) (module_here s (others s v) v h.fits) in
    let b' : Begins (module_for s v) n.again n.ty id u x = subst (λ (y : Module). Begins y n.again n.ty id u x) (sym same) b in
    record {
      makes = back s v u x instr Went s q (begins_makes s u x instr v.top.values n.again n.ty id m (if_can s v u n other k h o t q) (λ a. absurd (nesting_other instr n other h.sort_is o a)) (if_act s (state_of u) instr n other id k v.top.values u.top.values h.sort_is o t c) b);
      grew = none_by s v (fetched_instr s v) (sort.Nested n) Went h.sort_is refl refl;
      fits = λ R f. begins_if_fits s instr v u x n other id k f h.sort_is o h.placed t q part b';
    }

-- call

same_address : (o : Option FuncAddr) (a b : FuncAddr) → o ≡ Some a → o ≡ Some b → a ≡ b
same_address o a b e f = let z : Some a ≡ Some b = sym e ∙ f in cc

pub call_callable : {R : List ValType} → (s : Store) (v : View) (index : ℕ) (a : FuncAddr) (f : FitsBut s R v) → sort_of (fetched_instr s v) ≡ sort.Call index → slice_get (instance_at s v.instance).funcs index ≡ Some a → Callable s R (fetched_instr s v) v v a f
call_callable {R} s v index a f e g =
    let c = call_finds s (fetched_instr s v) v index f e in
    subst (λ (b : FuncAddr). Callable s R (fetched_instr s v) v v b f) (same_address _ c.0 a c.1 g) c.2

pub call_can : (s : Store) (v : View) (index : ℕ) (a : FuncAddr) → At s (sort.Call index) v → slice_get (instance_at s v.instance).funcs index ≡ Some a → CanCall s a v
call_can s v index a h e = callable s (fetched_instr s v) v v a h.fits (call_callable s v index a h.fits h.sort_is e)

call_leaves : {R : List ValType} → (s : Store) (v x : View) (index : ℕ) (a : FuncAddr) (args : Vec Value Global) (f : FitsBut s R v) → sort_of (fetched_instr s v) ≡ sort.Call index → slice_get (instance_at s v.instance).funcs index ≡ Some a → Calls s a args.items v x → LeavesFit R (Call a args) s x
call_leaves s v x index a args f e g c =
    let k = call_callable s v index a f e g in
    (k.live, zip_results s (type_of (function_at s a)).params args.items (calls_arguments s (fetched_instr s v) v v x a args.items f k c), calls_waits s (fetched_instr s v) v v x a args.items f k c)

pub within : {A : Type 0} (xs : List A) (k : ℕ) (x : A) → slice_get xs k ≡ Some x → k < length xs
within [] k x e = cc
within (y ∷ ys) zero x e = omega arith
within (y ∷ ys) (suc k) x e = omega (arith, within ys k x e)

-- the address that the code reads
funcs_are : (s : Store) (v : View) (fs : List FuncAddr) (inst : Instance) (a : InstAddr) → fs ≡ inst.funcs → inst ≡ instance_at s a → a ≡ v.instance → fs ≡ (instance_at s v.instance).funcs
funcs_are s v fs inst a e1 e2 e3 = e1 ∙ ap (λ (x : Instance). x.funcs) (e2 ∙ ap (instance_at s) e3)

pub call_bound : (s : Store) (v : View) (index : ℕ) (fs : List FuncAddr) (inst : Instance) (a : InstAddr) → At s (sort.Call index) v → fs ≡ inst.funcs → inst ≡ instance_at s a → a ≡ v.instance → index < length fs
call_bound s v index fs inst a h e1 e2 e3 =
    let c = call_finds s (fetched_instr s v) v index h.fits h.sort_is in
    subst (λ xs. index < length xs) (sym (funcs_are s v fs inst a e1 e2 e3)) (within _ index c.0 c.1)

pub call_address : (s : Store) (v : View) (index : ℕ) (fs : List FuncAddr) (inst : Instance) (a : InstAddr) (d : FuncAddr) → At s (sort.Call index) v → fs ≡ inst.funcs → inst ≡ instance_at s a → a ≡ v.instance → slice_get (instance_at s v.instance).funcs index ≡ Some (get_or fs index d)
call_address s v index fs inst a d h e1 e2 e3 =
    let c = call_finds s (fetched_instr s v) v index h.fits h.sort_is in
    let f = funcs_are s v fs inst a e1 e2 e3 in
    c.1 ∙ ap Some (sym (ap (λ xs. get_or xs index d) f ∙ get_or_from_slice_get (instance_at s v.instance).funcs index c.0 d c.1))

pub stepped_call : (s : Store) (v x : View) (index : ℕ) (a : FuncAddr) (args : Vec Value Global) → At s (sort.Call index) v → slice_get (instance_at s v.instance).funcs index ≡ Some a → Calls s a args.items v x → Stepped s v (Call a args) s x
stepped_call s v x index a args h e c =
    let instr = fetched_instr s v in
    let act_is : act s (state_of v) instr v.top.values ≡ call s (state_of v) a v.top.values = ap (λ k. act_by s (state_of v) instr k v.top.values) h.sort_is ∙ ap (λ o. call_index s (state_of v) o v.top.values) e in
    record {
      makes = (refl, call_makes s v instr v.top.values a args.items x act_is (call_can s v index a h e) c);
      grew = none_by s v (fetched_instr s v) (sort.Call index) (Call a args) h.sort_is refl refl;
      fits = λ R f. call_leaves s v x index a args f h.sort_is e c;
    }

-- The end of a list.

left_term : (s : Store) (v : View) (os : List Open) → v.outer ≡ os → 0 < length os → (F : FrameState) → rewrites s F (term_round (module_for s v) (left v) here) ≡ rewrites s F (term_of s (left v))
left_term s v [] e lt F = absurd (omega arith)
left_term s v (o ∷ os) e lt F =
    let z : (left v).module ≡ v.module = ap (λ xs. (left_to v xs).module) e in
    ap (λ (a : ModuleAddr). rewrites s F (term_round (module_at s a) (left v) here)) (sym z)

pub end_can : {R : List ValType} → (s : Store) (v : View) → Fits s R v → rest_of (module_for s v) v ≡ [] → length v.outer ≡ 0 → v.results ≤ length v.top.values
end_can {R} s v f e z =
    let o : v.outer ≡ [] = nil_from_length v.outer z in
    omega (arith, ended_long s v (subst (λ is. FitsAt s R is [] v) e f) o)

pub end_makes : {R : List ValType} → (s : Store) (v x : View) (e : Effect) → Fits s R v → rest_of (module_for s v) v ≡ [] → Ends v e x → Makes s (term_of s v) e s x
end_makes s v x Went f r b = λ F. step_leaves s (module_for s v) v v.outer refl r b.0 F ∙ left_term s v v.outer refl b.0 F ∙ ap (λ z. rewrites s F (term_of s z)) (sym b.1)
end_makes {R} s v x (Returned values) f r b =
    let o : v.outer ≡ [] = nil_from_length v.outer b.0 in
    (refl, λ F. step_ends s (module_for s v) v values.items r o (ended_long s v (subst (λ is. FitsAt s R is [] v) r f) o) b.1 F)
end_makes s v x (Call func args) f r b = absurd b
end_makes s v x (Trapped cause) f r b = absurd b
end_makes s v x (Grew memory) f r b = absurd b

pub end_grew : (s : Store) (v x : View) (e : Effect) → rest_of (module_for s v) v ≡ [] → Ends v e x → (F : FrameState) → grown_in e ≡ growth_of s F (term_of s v)
end_grew s v x e r b F = growth_ended s F (module_for s v) v e r (end_none v e x b)

pub end_leaves : {R : List ValType} → (s : Store) (v x : View) (e : Effect) → Fits s R v → rest_of (module_for s v) v ≡ [] → Ends v e x → LeavesFit R e s x
end_leaves s v x Went f r b = left_fits s v x f r b.0 b.1
end_leaves {R} s v x (Returned values) f r b = zip_results s R values.items (ended_results s v values.items (subst (λ is. FitsAt s R is [] v) r f) (nil_from_length v.outer b.0) b.1)
end_leaves s v x (Call func args) f r b = absurd b
end_leaves s v x (Trapped cause) f r b = absurd b
end_leaves s v x (Grew memory) f r b = absurd b
