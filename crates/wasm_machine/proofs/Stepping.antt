-- What the instructions of control make of a frame's term.
use Rattle.std.specs.Prelude.{reverse}
use Rattle.std.proofs.lemmas.List.{reverse-reverse}
use Rattle.std.proofs.Common.{◌≡◌, ℕ, zero, suc, ◌≤◌, List, [], ◌∷◌, length, take, drop, refl, sym, ap, ◌∙◌, subst, arith, Some, Bool, true, false}
use Rattle.wasm_syntax.specs.Blocks.{block_of}
use Rattle.wasm_syntax.specs.Sorts.{sort_of}
use Rattle.wasm_syntax.specs.ValueTypes.{block_type}
use Rattle.wasm_syntax.specs.declared.types.FuncType.{FuncType}
use Rattle.wasm_syntax.specs.declared.instructions.BlockId.{BlockId}
use Rattle.wasm_syntax.specs.declared.instructions.BlockType.{BlockType}
use Rattle.wasm_syntax.specs.declared.instructions.Instr.{Instr}
use Rattle.wasm_syntax.specs.declared.instructions.Instr.TheVariants as i
use Rattle.wasm_syntax.specs.declared.sorts.Nesting.{Nesting}
use Rattle.wasm_syntax.specs.declared.sorts.Sort.{Sort}
use Rattle.wasm_syntax.specs.declared.sorts.Sort.TheVariants as sort
use Rattle.wasm_syntax.specs.declared.value.Value.{Value}
use Rattle.wasm_syntax.specs.declared.addresses.FuncAddr.{FuncAddr}
use Rattle.wasm_syntax.specs.declared.addresses.ModuleAddr.{ModuleAddr}
use Rattle.wasm_valid.specs.Typing.{label_of}
use Rattle.wasm_store.specs.Store.{Store, type_of, function_at, module_at}
use Rattle.wasm_machine.specs.declared.frame.Effect.{Effect}
use Rattle.wasm_machine.specs.declared.frame.Effect.TheVariants.{Went, Call, Returned, Trapped, Grew}
use Rattle.wasm_machine.specs.Terms.{FrameState, label, here, invoke, inside}
use Rattle.wasm_machine.specs.Reduction.{goes, branches, act, begun, opened, next_of, invoked, call, module_of, rewrites, reduce}
use Rattle.wasm_machine.specs.View.{View, Open, with_values, next_code, state_of, module_for, term_round, term_of, branched, IsLinked, arity_in}
use Rattle.wasm_machine.specs.Control.{CanBegin, Begins, again_for, CanBranch, Branches, CanCall, Calls}
use Rattle.wasm_machine.specs.Steps.{Makes, term_before}
use Rattle.wasm_machine.proofs.Terms.{topmost_is, before_goes, before_branches, before_leaves}

abbrev again_in : Sort → Bool
again_in (sort.Nested n) = n.again
again_in _ = false

abbrev loop_in : Sort → Instr
loop_in (sort.Nested n) = i.Loop n.ty n.body
loop_in _ = i.Nop

-- an instruction of the sort of a loop is that loop
pub loop_is : (x : Instr) (n : Nesting) → sort_of x ≡ sort.Nested n → n.again ≡ true → x ≡ i.Loop n.ty n.body
loop_is (i.Block bt id) n e a = absurd (let b : false ≡ true = ap (λ k. again_in k) e ∙ a in cc)
loop_is (i.Loop bt id) n e a = ap loop_in e
loop_is (i.If parts) n e a = absurd (let b : false ≡ true = ap (λ k. again_in k) e ∙ a in cc)
loop_is _ n e a = absurd cc

-- block and loop, and the block of an if that is begun

begun_is : (s : Store) (v : View) (x : Instr) (again : Bool) (ty : BlockType) (id : BlockId) (vs : List Value) (g : FuncType) → module_for s v ≡ module_of s (state_of v)
    → block_type (module_for s v) ty ≡ Some g → length g.params ≤ length vs
    → begun s (state_of v) x again id vs (block_type (module_of s (state_of v)) ty)
    ≡ goes s v.locals (drop (length g.params) vs) (inside (record { kind = label (length (label_of again g)) (next_of again x); values = take (length g.params) vs; rest = block_of (module_for s v) id }) here)
begun_is s v x again ty id vs g m t le =
    let F = state_of v in
    ap (λ n. begun s F x again id vs (block_type n ty)) (sym m)
    ∙ ap (begun s F x again id vs) t
    ∙ ap (opened s F (drop (length g.params) vs) (label (length (label_of again g)) (next_of again x)) (block_of (module_of s F) id)) (topmost_is (length g.params) vs le)
    ∙ ap (λ n. goes s v.locals (drop (length g.params) vs) (inside (record { kind = label (length (label_of again g)) (next_of again x); values = take (length g.params) vs; rest = block_of n id }) here)) (sym m)

next_is : (again : Bool) (ty : BlockType) (id : BlockId) (x : Instr) → (again ≡ true → x ≡ i.Loop ty id) → next_of again x ≡ next_code id (again_for again ty)
next_is true ty id x e = ap (λ y. y ∷ []) (e refl)
next_is false ty id x e = refl

-- an instruction at the values ws that begins a block on the frame's
pub begins_makes : (s : Store) (v u : View) (x : Instr) (ws : List Value) (again : Bool) (ty : BlockType) (id : BlockId) → module_for s v ≡ module_of s (state_of v) → CanBegin (module_for s v) ty v → (again ≡ true → x ≡ i.Loop ty id)
    → act s (state_of v) x ws ≡ begun s (state_of v) x again id v.top.values (block_type (module_of s (state_of v)) ty) → Begins (module_for s v) again ty id v u
    → Makes s (term_before (module_for s v) x (with_values ws v)) Went s u
begins_makes s v u x ws again ty id m can loop a b F =
    let g = b.type in
    let same : can.type ≡ g = let z : Some can.type ≡ Some g = sym can.type_is ∙ b.type_is in cc in
    let le : length g.params ≤ length v.top.values = subst (λ (h : FuncType). length h.params ≤ length v.top.values) same can.enough in
    let vs = v.top.values in
    let k : ℕ = length g.params in
    let goes_there = a ∙ begun_is s v x again ty id vs g m b.type_is le in
    let e = before_goes s (module_for s v) (with_values ws v) x s v.locals (drop k vs) _ goes_there F in
    let n : next_of again x ≡ next_code id (again_for again ty) = next_is again ty id x loop in
    e
    ∙ ap (λ nx. rewrites s F (term_round (module_for s v) (with_values (drop k vs) v) (inside (record { kind = label (length (label_of again g)) nx; values = take k vs; rest = block_of (module_for s v) id }) here))) n
    ∙ ap (λ z. rewrites s F (term_of s z)) (sym b.label)

-- Branches.

branched-module : (l : ℕ) (vs : List Value) (o : Open) (os : List Open) (v : View) → (branched l vs o os v).module ≡ v.module
branched-module zero vs o [] v = refl
branched-module zero vs o (q ∷ os) v = refl
branched-module (suc l) vs o [] v = refl
branched-module (suc l) vs o (q ∷ os) v = branched-module l vs q os v

went_by : (s : Store) (v u : View) (l : ℕ) (F : FrameState) → u ≡ branched l v.top.values v.top v.outer v → rewrites s F (term_round (module_for s v) (branched l v.top.values v.top v.outer v) here) ≡ rewrites s F (term_of s u)
went_by s v u l F e =
    ap (λ (a : ModuleAddr). rewrites s F (term_round (module_at s a) (branched l v.top.values v.top v.outer v) here)) (sym (branched-module l v.top.values v.top v.outer v))
    ∙ ap (λ z. rewrites s F (term_of s z)) (sym e)

-- an instruction at the values ws that branches with the frame's
pub branch_makes : (s : Store) (v : View) (x : Instr) (ws : List Value) (l : ℕ) (e : Effect) (u : View) → act s (state_of v) x ws ≡ branches l v.top.values → CanBranch l v → IsLinked (module_for s v) v.top v.outer
    → Branches l v e u → Makes s (term_before (module_for s v) x (with_values ws v)) e s u
branch_makes s v x ws l Went u a can h b = λ F. before_branches s (module_for s v) v x ws l a b.0 can.enough h F ∙ went_by s v u l F b.1
branch_makes s v x ws l (Returned values) u a can h b =
    let le : v.results ≤ length v.top.values = omega (arith, can.outermost, subst (λ (j : ℕ). arity_in j v.top v.outer ≤ length v.top.values) b.0 can.enough) in
    (refl, λ F. before_leaves s (module_for s v) v x ws values.items l a b.0 h can.outermost le b.1 F)
branch_makes s v x ws l (Call func args) u a can h b = absurd b
branch_makes s v x ws l (Trapped cause) u a can h b = absurd b
branch_makes s v x ws l (Grew memory) u a can h b = absurd b

-- Calls.

call_is : (s : Store) (F : FrameState) (a : FuncAddr) (vs : List Value) → length (type_of (function_at s a)).params ≤ length vs
    → call s F a vs ≡ goes s F.locals (drop (length (type_of (function_at s a)).params) vs) (invoke a (reverse (take (length (type_of (function_at s a)).params) vs)))
call_is s F a vs le = ap (invoked s F a (drop (length (type_of (function_at s a)).params) vs)) (topmost_is (length (type_of (function_at s a)).params) vs le)

-- an instruction at the values ws that calls with the frame's
pub call_makes : (s : Store) (v : View) (x : Instr) (ws : List Value) (a : FuncAddr) (args : List Value) (u : View) → act s (state_of v) x ws ≡ call s (state_of v) a v.top.values → CanCall s a v
    → Calls s a args v u → (F : FrameState) → reduce s F (term_before (module_for s v) x (with_values ws v)) ≡ rewrites s F (term_round (module_for s u) u (invoke a args))
call_makes s v x ws a args u e can c F =
    let k : ℕ = length (type_of (function_at s a)).params in
    let same : reverse (take k v.top.values) ≡ args = ap reverse (sym c.args_are) ∙ reverse-reverse args in
    before_goes s (module_for s v) (with_values ws v) x s v.locals (drop k v.top.values) _ (e ∙ call_is s (state_of v) a v.top.values can.enough) F
    ∙ ap (λ xs. rewrites s F (term_round (module_for s v) (with_values (drop k v.top.values) v) (invoke a xs))) same
    ∙ ap (λ z. rewrites s F (term_round (module_for s z) z (invoke a args))) (sym c.rest)
