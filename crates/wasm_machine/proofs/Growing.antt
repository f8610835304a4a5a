-- Which memory a step grows.
use Rattle.std.proofs.Common.{◌≡◌, ℕ, List, [], ◌∷◌, refl, sym, ap, ◌∙◌, Option, Some, None}
use Rattle.wasm_syntax.specs.Sorts.{sort_of}
use Rattle.wasm_syntax.specs.declared.addresses.MemAddr.{MemAddr}
use Rattle.wasm_syntax.specs.declared.instructions.Instr.{Instr}
use Rattle.wasm_syntax.specs.declared.module.Module.{Module}
use Rattle.wasm_syntax.specs.declared.sorts.Simple.{Simple}
use Rattle.wasm_syntax.specs.declared.sorts.Simple.TheVariants as p
use Rattle.wasm_syntax.specs.declared.sorts.Sort.{Sort}
use Rattle.wasm_syntax.specs.declared.sorts.Sort.TheVariants as sort
use Rattle.wasm_syntax.specs.declared.value.Value.{Value}
use Rattle.wasm_store.specs.declared.instances.Instance.{Instance}
use Rattle.wasm_store.specs.Store.{Store, instance_at}
use Rattle.wasm_machine.specs.declared.frame.Effect.{Effect}
use Rattle.wasm_machine.specs.declared.frame.Effect.TheVariants.{Went, Call, Returned, Trapped, Grew}
use Rattle.wasm_machine.specs.Terms.{FrameState, Level, Term, here, inside}
use Rattle.wasm_machine.specs.Reduction.{under}
use Rattle.wasm_machine.specs.View.{View, Open, close, level_of, state_of, term_round, rest_of}
use Rattle.wasm_machine.specs.Control.{Branches, Ends}
use Rattle.wasm_machine.specs.Classes.{IsOperand}
use Rattle.wasm_machine.specs.Growth.{growth_of_simple, growth_by, growth_next, growth_in, growth_of, grown_in}

-- The growth of a frame's term is that of its innermost list.

growth_close : (s : Store) (F : FrameState) (m : Module) (os : List Open) (l : Level) (t : Term) (vs : List Value) (is : List Instr) → growth_in s F vs is (close m os (inside l t)) ≡ growth_in s (under l.kind F) l.values l.rest t
growth_close s F m [] l t vs is = refl
growth_close s F m (o ∷ os) l t vs is = growth_close s F m os (level_of m o) (inside l t) vs is

growth_is : (s : Store) (F : FrameState) (m : Module) (v : View) → growth_of s F (term_round m v here) ≡ growth_next s (state_of v) v.top.values (rest_of m v)
growth_is s F m v = growth_close s (state_of v) m v.outer (level_of m v.top) here [] []

pub growth_ended : (s : Store) (F : FrameState) (m : Module) (v : View) (e : Effect) → rest_of m v ≡ [] → grown_in e ≡ None → grown_in e ≡ growth_of s F (term_round m v here)
growth_ended s F m v e r n = n ∙ ap (growth_next s (state_of v) v.top.values) (sym r) ∙ sym (growth_is s F m v)

pub growth_begun : (s : Store) (F : FrameState) (m : Module) (v : View) (i : Instr) (is : List Instr) (o : Option MemAddr) → rest_of m v ≡ i ∷ is → o ≡ growth_by s (instance_at s v.instance) (sort_of i) v.top.values → o ≡ growth_of s F (term_round m v here)
growth_begun s F m v i is o r g = g ∙ ap (growth_next s (state_of v) v.top.values) (sym r) ∙ sym (growth_is s F m v)

-- Instructions that grow none.

pub none_by : (s : Store) (v : View) (i : Instr) (k : Sort) (e : Effect) → sort_of i ≡ k → grown_in e ≡ None → growth_by s (instance_at s v.instance) k v.top.values ≡ None → grown_in e ≡ growth_by s (instance_at s v.instance) (sort_of i) v.top.values
none_by s v i k e h n g = n ∙ sym (ap (λ x. growth_by s (instance_at s v.instance) x v.top.values) h ∙ g)

pub branch_none : (l : ℕ) (v : View) (e : Effect) (x : View) → Branches l v e x → grown_in e ≡ None
branch_none l v Went x b = refl
branch_none l v (Returned values) x b = refl
branch_none l v (Call func args) x b = refl
branch_none l v (Trapped cause) x b = refl
branch_none l v (Grew memory) x b = absurd b

pub end_none : (v : View) (e : Effect) (x : View) → Ends v e x → grown_in e ≡ None
end_none v Went x b = refl
end_none v (Returned values) x b = refl
end_none v (Call func args) x b = refl
end_none v (Trapped cause) x b = refl
end_none v (Grew memory) x b = absurd b

pub operand_none : (s : Store) (i : Instance) (k : Sort) (vs : List Value) → IsOperand k → growth_by s i k vs ≡ None
operand_none s i sort.Drop vs o = refl
operand_none s i sort.Select vs o = refl
operand_none s i sort.SelectTyped vs o = refl
operand_none s i sort.RefIsNull vs o = refl
operand_none s i _ vs o = absurd o

pub other_none : (s : Store) (i : Instance) (k : Simple) (vs : List Value) → (k ≡ p.MemoryGrow → ⊥) → growth_of_simple s i k vs ≡ None
other_none s i p.MemoryGrow vs h = absurd (h refl)
other_none s i _ vs h = refl
