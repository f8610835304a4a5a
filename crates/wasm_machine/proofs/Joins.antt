-- From what an instruction performs to a step.
use Rattle.std.proofs.Common.{◌≡◌, List, [], ◌∷◌, refl, sym, ap, ◌∙◌, subst, Some, None}
use Rattle.wasm_syntax.specs.declared.types.ValType.{ValType}
use Rattle.wasm_syntax.specs.declared.sorts.Simple.{Simple}
use Rattle.wasm_syntax.specs.declared.sorts.Sort.{Sort}
use Rattle.wasm_syntax.specs.declared.sorts.Sort.TheVariants as sort
use Rattle.wasm_syntax.specs.declared.module.Module.{Module}
use Rattle.wasm_syntax.specs.declared.trap.Trap.{Trap}
use Rattle.wasm_syntax.specs.declared.addresses.MemAddr.{MemAddr}
use Rattle.wasm_store.specs.Store.{Store, module_at, instance_at}
use Rattle.wasm_store.specs.Whole.{IsWhole, IsLater}
use Rattle.wasm_store.specs.Laws.{NothingChanges}
use Rattle.wasm_machine.specs.declared.frame.Effect.TheVariants.{Went, Trapped, Grew}
use Rattle.wasm_machine.specs.Terms.{here}
use Rattle.wasm_machine.specs.Reduction.{act, act_by, of_performed, rewrites}
use Rattle.wasm_machine.specs.Performing.{Performed, traps}
use Rattle.wasm_machine.specs.View.{View, rest_of, state_of, module_for, term_round}
use Rattle.wasm_machine.specs.Growth.{growth_of_simple, growth_by}
use Rattle.wasm_machine.specs.Fits.{FitsAt, Fits, FitsLater, CodeStays}
use Rattle.wasm_machine.specs.Steps.{Makes, Performs, term_before}
use Rattle.wasm_machine.specs.Stepping.{At, Stepped, FitsBut, fetched_instr}
use Rattle.wasm_machine.proofs.Terms.{before_performs, before_traps}
use Rattle.wasm_machine.proofs.Growing.{none_by, operand_none}
use Rattle.wasm_machine.proofs.Kept.{performed, simple_fits}
use Rattle.wasm_machine.proofs.Operands.{IsOperand, worked, worked_fits}

-- the frame goes on in the same module, whose code stays in a later store
module_there : CodeStays → {R : List ValType} → (s r : Store) (v u : View) (d : Performed) → IsLater s r → FitsBut s R v → Performs d r v u → module_for r u ≡ module_for s v
module_there stays {R} s r v u d l f p =
    ap (λ (x : View). module_at r x.module) p.rest ∙ stays s r R v (fetched_instr s v ∷ rest_of (module_for s v) v) [] l f

rest_there : CodeStays → {R : List ValType} → (s r : Store) (v u : View) (d : Performed) → IsLater s r → FitsBut s R v → Performs d r v u → rest_of (module_for s v) v ≡ rest_of (module_for r u) u
rest_there stays s r v u d l f p =
    ap (λ (x : View). rest_of (module_for s v) x) (sym p.rest) ∙ ap (λ (m : Module). rest_of m u) (sym (module_there stays s r v u d l f p))

-- what such an instruction performs is its rule
worked_is : (s : Store) (v : View) (k : Sort) → IsOperand k → act_by s (state_of v) (fetched_instr s v) k v.top.values ≡ of_performed s (state_of v) v.top.values (worked s v k)
worked_is s v sort.Drop o = refl
worked_is s v sort.Select o = refl
worked_is s v sort.SelectTyped o = refl
worked_is s v sort.RefIsNull o = refl
worked_is s v _ o = absurd o

performs_makes : CodeStays → {R : List ValType} → (s r : Store) (v u : View) (d : Performed) → IsLater s r → FitsBut s R v → act s (state_of v) (fetched_instr s v) v.top.values ≡ of_performed s (state_of v) v.top.values d → Performs d r v u
    → Makes s (term_before (module_for s v) (fetched_instr s v) v) Went r u
performs_makes stays s r v u d l f a p F =
    before_performs s (module_for s v) v u (fetched_instr s v) r d a p F
    ∙ ap (λ (m : Module). rewrites r F (term_round m u here)) (sym (module_there stays s r v u d l f p))

performs_leaves : FitsLater → CodeStays → {R : List ValType} → (s r : Store) (v u : View) (d : Performed) → IsLater s r → FitsBut s R v → Performs d r v u → FitsAt s R (rest_of (module_for s v) v) [] u → Fits r R u
performs_leaves later stays {R} s r v u d l f p g =
    let h : FitsAt r R (rest_of (module_for s v) v) [] u = later s r R (rest_of (module_for s v) v) [] u l g in
    subst (λ is. FitsAt r R is [] u) (rest_there stays s r v u d l f p) h

-- a simple instruction that grows no memory goes on
pub stepped_performs : FitsLater → CodeStays → (s r : Store) (v u : View) (k : Simple) → IsWhole s → At s (sort.Simple k) v → Performs (performed s v k) r v u → IsLater s r → growth_of_simple s (instance_at s v.instance) k v.top.values ≡ None → Stepped s v Went r u
stepped_performs later stays s r v u k whole h p l none = record {
  grew = none_by s v (fetched_instr s v) (sort.Simple k) Went h.sort_is refl none;
  makes = performs_makes stays s r v u (performed s v k) l h.fits (ap (λ x. act_by s (state_of v) (fetched_instr s v) x v.top.values) h.sort_is) p;
  fits = λ R f. performs_leaves later stays s r v u (performed s v k) l f p (simple_fits s r (rest_of (module_for s v) v) v u k whole (record { instr = fetched_instr s v; sort_is = h.sort_is; fits = f }) p);
}

-- one that grows a memory
pub stepped_grows : FitsLater → CodeStays → (s r : Store) (v u : View) (k : Simple) (a : MemAddr) → IsWhole s → At s (sort.Simple k) v → Performs (performed s v k) r v u → IsLater s r → growth_of_simple s (instance_at s v.instance) k v.top.values ≡ Some a → Stepped s v (Grew a) r u
stepped_grows later stays s r v u k a whole h p l some = record {
  grew = sym (ap (λ x. growth_by s (instance_at s v.instance) x v.top.values) h.sort_is ∙ some);
  makes = performs_makes stays s r v u (performed s v k) l h.fits (ap (λ x. act_by s (state_of v) (fetched_instr s v) x v.top.values) h.sort_is) p;
  fits = λ R f. performs_leaves later stays s r v u (performed s v k) l f p (simple_fits s r (rest_of (module_for s v) v) v u k whole (record { instr = fetched_instr s v; sort_is = h.sort_is; fits = f }) p);
}

-- or traps
pub trapped_performs : (s : Store) (v u : View) (k : Simple) (cause : Trap) → At s (sort.Simple k) v → performed s v k ≡ traps cause → growth_of_simple s (instance_at s v.instance) k v.top.values ≡ None → Stepped s v (Trapped cause) s u
trapped_performs s v u k cause h e none = record {
  grew = none_by s v (fetched_instr s v) (sort.Simple k) (Trapped cause) h.sort_is refl none;
  makes = (refl, λ F. before_traps s (module_for s v) v (fetched_instr s v) v.locals v.top.values cause (ap (λ x. act_by s (state_of v) (fetched_instr s v) x v.top.values) h.sort_is ∙ ap (of_performed s (state_of v) v.top.values) e) F);
  fits = λ R f. tt;
}

-- an instruction of more than one type goes on
pub stepped_worked : FitsLater → CodeStays → NothingChanges → (s : Store) (v u : View) (k : Sort) → IsOperand k → At s k v → Performs (worked s v k) s v u → Stepped s v Went s u
stepped_worked later stays same s v u k o h p = record {
  grew = none_by s v (fetched_instr s v) k Went h.sort_is refl (operand_none s (instance_at s v.instance) k v.top.values o);
  makes = performs_makes stays s s v u (worked s v k) (same s) h.fits (ap (λ x. act_by s (state_of v) (fetched_instr s v) x v.top.values) h.sort_is ∙ worked_is s v k o) p;
  fits = λ R f. performs_leaves later stays s s v u (worked s v k) (same s) f p (worked_fits s s (rest_of (module_for s v) v) v u k o (record { instr = fetched_instr s v; sort_is = h.sort_is; fits = f }) p);
}
