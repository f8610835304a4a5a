-- A step as a whole.
use Rattle.std.proofs.Common.{◌≡◌, suc, ◌+◌, ◌-◌, List, [], ◌∷◌, length, drop, refl, sym, ap, ◌∙◌, subst, arith}
use Rattle.std.proofs.lemmas.List.{length-drop}
use Rattle.wasm_syntax.specs.Blocks.{block_of}
use Rattle.wasm_syntax.specs.Sorts.{sort_of}
use Rattle.wasm_syntax.specs.declared.types.ValType.{ValType}
use Rattle.wasm_syntax.specs.declared.sorts.Sort.{Sort}
use Rattle.wasm_syntax.specs.declared.sorts.Sort.TheVariants as sort
use Rattle.wasm_syntax.specs.declared.trap.Trap.TheVariants as because
use Rattle.wasm_store.specs.Store.{Store, instance_at}
use Rattle.wasm_machine.specs.declared.frame.Effect.{Effect}
use Rattle.wasm_machine.specs.declared.frame.Effect.TheVariants.{Trapped}
use Rattle.wasm_machine.specs.Terms.{FrameState}
use Rattle.wasm_machine.specs.Growth.{grown_in, growth_by, growth_of}
use Rattle.wasm_machine.specs.Reduction.{act_by}
use Rattle.wasm_machine.specs.View.{View, rest_of, state_of, module_for, last_instr, advanced, set_back, term_of}
use Rattle.wasm_machine.specs.Control.{IsBehind}
use Rattle.wasm_machine.specs.Fits.{FitsAt, Fits}
use Rattle.wasm_machine.specs.Steps.{Makes, term_before}
use Rattle.wasm_machine.specs.Stepping.{fetched_instr, FitsBut, At, Stepped}
use Rattle.wasm_machine.proofs.Terms.{before_traps, before_is}
use Rattle.wasm_machine.proofs.Growing.{none_by, growth_begun}
use Rattle.wasm_machine.proofs.Kept.{fetched}

-- What was fetched. The frame v has gone on to u.
pub record Fetched (s : Store) (v u : View) (k : Sort) : Type 0 where
  pub rest : rest_of (module_for s v) v ≡ last_instr (module_for s v) u ∷ rest_of (module_for s v) u
  pub sort_is : k ≡ sort_of (last_instr (module_for s v) u)
  pub advanced_is : u ≡ advanced v

module _ (s : Store) (v u : View) (k : Sort) (h : Fetched s v u k) where
  code_same : module_for s u ≡ module_for s v
  code_same = ap (module_for s) h.advanced_is

  instr_same : fetched_instr s u ≡ last_instr (module_for s v) u
  instr_same = ap (λ m. last_instr m u) code_same

  rest_here : rest_of (module_for s v) v ≡ fetched_instr s u ∷ rest_of (module_for s u) u
  rest_here = h.rest ∙ ap (λ m. last_instr m u ∷ rest_of m u) (sym code_same)

  pub fetched_fits : {R : List ValType} → Fits s R v → FitsBut s R u
  fetched_fits {R} f =
      let a : FitsAt s R (last_instr (module_for s v) u ∷ rest_of (module_for s u) u) [] u = fetched s (last_instr (module_for s v) u) v u f h.rest h.advanced_is in
      subst (λ i. FitsAt s R (i ∷ rest_of (module_for s u) u) [] u) (sym instr_same) a

  at_is : u.top.at ≡ v.top.at + 1
  at_is = ap (λ (x : View). x.top.at) h.advanced_is

  block_is : u.top.block ≡ v.top.block
  block_is = ap (λ (x : View). x.top.block) h.advanced_is

  placed_is : drop (u.top.at - 1) (block_of (module_for s u) u.top.block) ≡ fetched_instr s u ∷ rest_of (module_for s u) u
  placed_is =
      ap (λ j. drop j (block_of (module_for s u) u.top.block)) (let e : u.top.at - 1 ≡ v.top.at = omega (arith, at_is) in e)
      ∙ ap (λ m. drop v.top.at (block_of m u.top.block)) code_same ∙ ap (λ b. drop v.top.at (block_of (module_for s v) b)) block_is
      ∙ rest_here

  behind_is : IsBehind (module_for s u) u
  behind_is =
      let long : length (drop (u.top.at - 1) (block_of (module_for s u) u.top.block)) ≡ suc (length (rest_of (module_for s u) u)) = ap length placed_is in
      record { begun = omega (arith, at_is); within = omega (arith, long, length-drop (u.top.at - 1) (block_of (module_for s u) u.top.block)) }

  pub fetched_at : (R : List ValType) → Fits s R v → At s k u
  fetched_at R f = record { sort_is = ap sort_of instr_same ∙ sym h.sort_is; behind = behind_is; placed = placed_is; results = R; fits = fetched_fits f }

  pub step_makes : (e : Effect) (r : Store) (x : View) → Makes s (term_before (module_for s u) (fetched_instr s u) u) e r x → Makes s (term_of s v) e r x
  step_makes e r x m =
      let a : rest_of (module_for s v) v ≡ fetched_instr s u ∷ rest_of (module_for s v) (advanced v) = rest_here ∙ ap (λ n. fetched_instr s u ∷ rest_of n u) code_same ∙ ap (λ z. fetched_instr s u ∷ rest_of (module_for s v) z) h.advanced_is in
      let b : term_of s v ≡ term_before (module_for s v) (fetched_instr s u) (advanced v) = before_is s (module_for s v) v (fetched_instr s u) a in
      let c : term_before (module_for s v) (fetched_instr s u) (advanced v) ≡ term_before (module_for s u) (fetched_instr s u) u = ap (λ z. term_before (module_for s v) (fetched_instr s u) z) (sym h.advanced_is) ∙ ap (λ n. term_before n (fetched_instr s u) u) (sym code_same) in
      subst (λ t. Makes s t e r x) (sym (b ∙ c)) m

  pub step_grew : (e : Effect) → grown_in e ≡ growth_by s (instance_at s u.instance) (sort_of (fetched_instr s u)) u.top.values → (F : FrameState) → grown_in e ≡ growth_of s F (term_of s v)
  step_grew e g F =
      growth_begun s F (module_for s v) v (fetched_instr s u) (rest_of (module_for s u) u) (grown_in e) rest_here
      (g ∙ ap (λ (x : View). growth_by s (instance_at s x.instance) (sort_of (fetched_instr s u)) x.top.values) h.advanced_is)

-- an instruction of another name for its sort
pub at_sort : (s : Store) (k j : Sort) (v : View) → k ≡ j → At s k v → At s j v
at_sort s k j v e h = subst (λ x. At s x v) e h

pub stepped_unreachable : (s : Store) (v : View) → At s sort.Unreachable v → Stepped s v (Trapped because.Unreachable) s v
stepped_unreachable s v h = record {
  grew = none_by s v (fetched_instr s v) sort.Unreachable (Trapped because.Unreachable) h.sort_is refl refl;
  makes = (refl, λ F. before_traps s (module_for s v) v (fetched_instr s v) v.locals v.top.values because.Unreachable (ap (λ x. act_by s (state_of v) (fetched_instr s v) x v.top.values) h.sort_is) F);
  fits = λ R f. tt;
}
