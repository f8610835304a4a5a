-- From what an instruction of a class does to a step.
use Rattle.std.proofs.Common.{◌≡◌, ◌≤◌, [], ◌∷◌, sym, ◌∙◌, subst, inl, inr, Option, Some, None}
use Rattle.std.specs.Prelude.{Result, Ok, Err}
use Rattle.wasm_syntax.specs.declared.trap.Trap.{Trap}
use Rattle.wasm_syntax.specs.declared.addresses.MemAddr.{MemAddr}
use Rattle.wasm_syntax.specs.declared.sorts.Simple.{Simple}
use Rattle.wasm_syntax.specs.declared.sorts.Simple.TheVariants as simple
use Rattle.wasm_syntax.specs.declared.sorts.Sort.{Sort}
use Rattle.wasm_syntax.specs.declared.sorts.Sort.TheVariants as sort
use Rattle.wasm_store.specs.Store.{Store, instance_at}
use Rattle.wasm_store.specs.Whole.{IsWhole, IsLater}
use Rattle.wasm_store.specs.Laws.{NothingChanges}
use Rattle.wasm_machine.specs.declared.frame.Effect.TheVariants.{Went, Trapped, Grew}
use Rattle.wasm_machine.specs.View.{View, rest_of, module_for, operands_of}
use Rattle.wasm_machine.specs.Performing.{traps}
use Rattle.wasm_machine.specs.Fits.{FitsLater, CodeStays}
use Rattle.wasm_machine.specs.Growth.{growth_of_simple}
use Rattle.wasm_machine.specs.Steps.{Performs}
use Rattle.wasm_machine.specs.Classes.{CanPerform, Ends, IsKept, IsOperand, IsReferenceFirst, IsSelectable, performed}
use Rattle.wasm_machine.specs.Stepping.{At, Stepped, fetched_instr}
use Rattle.wasm_machine.proofs.Operands.{IsSorted, worked, can_drop, can_select, can_select_typed, can_test_null}
use Rattle.wasm_machine.proofs.Branching.{operands_fit}
use Rattle.wasm_machine.proofs.Joins.{stepped_performs, stepped_grows, trapped_performs, stepped_worked}
use Rattle.wasm_machine.proofs.Growing.{other_none}

pub can_perform : (s : Store) (v : View) (k : Simple) → At s (sort.Simple k) v → CanPerform s k v
can_perform s v k h = record { results = h.results; instr = fetched_instr s v; rest = rest_of (module_for s v) v; sort_is = h.sort_is; fits = h.fits }

pub kept_later : NothingChanges → (s r : Store) → IsKept s r → IsLater s r
kept_later same s r (inl e) = subst (λ (t : Store). IsLater s t) (sym e) (same s)
kept_later same s r (inr l) = l

pub simple_goes : FitsLater → CodeStays → NothingChanges → (s r : Store) (v u : View) (k : Simple) → IsWhole s → (k ≡ simple.MemoryGrow → ⊥) → At s (sort.Simple k) v → Performs (performed s v k) r v u → IsKept s r → Stepped s v Went r u
simple_goes later stays same s r v u k whole other h p kept = stepped_performs later stays s r v u k whole h p (kept_later same s r kept) (other_none s (instance_at s v.instance) k v.top.values other)

pub simple_traps : (s r : Store) (v u : View) (k : Simple) (cause : Trap) → (k ≡ simple.MemoryGrow → ⊥) → At s (sort.Simple k) v → (performed s v k ≡ traps cause) × (r ≡ s) → Stepped s v (Trapped cause) r u
simple_traps s r v u k cause other h e = subst (λ (t : Store). Stepped s v (Trapped cause) t u) (sym e.1) (trapped_performs s v u k cause h e.0 (other_none s (instance_at s v.instance) k v.top.values other))

-- operands

as_sorted : (s : Store) (v : View) (k j : Sort) → k ≡ j → (h : At s k v) → IsSorted s h.results (rest_of (module_for s v) v) v j
as_sorted s v k j e h = subst (λ i. IsSorted s h.results (rest_of (module_for s v) v) v i) e (record { instr = fetched_instr s v; sort_is = h.sort_is; fits = h.fits })

pub operand_room : (s : Store) (v : View) (k : Sort) → At s k v → operands_of v ≤ v.room
operand_room s v k h = operands_fit s (fetched_instr s v ∷ rest_of (module_for s v) v) v h.fits

pub drop_there : (s : Store) (v : View) (k : Sort) → k ≡ sort.Drop → At s k v → v.top.values ≡ [] → ⊥
drop_there s v k e h = can_drop s (rest_of (module_for s v) v) v (as_sorted s v k sort.Drop e h)

pub select_there : (s : Store) (v : View) (k : Sort) → k ≡ sort.Select → At s k v → IsSelectable v.top.values
select_there s v k e h = can_select s (rest_of (module_for s v) v) v (as_sorted s v k sort.Select e h)

pub select_typed_there : (s : Store) (v : View) (k : Sort) → k ≡ sort.SelectTyped → At s k v → IsSelectable v.top.values
select_typed_there s v k e h = can_select_typed s (rest_of (module_for s v) v) v (as_sorted s v k sort.SelectTyped e h)

pub null_there : (s : Store) (v : View) (k : Sort) → k ≡ sort.RefIsNull → At s k v → IsReferenceFirst v.top.values
null_there s v k e h = can_test_null s (rest_of (module_for s v) v) v (as_sorted s v k sort.RefIsNull e h)

pub operand_goes : FitsLater → CodeStays → NothingChanges → (s : Store) (v u : View) (k j : Sort) → k ≡ j → IsOperand j → At s k v → Performs (worked s v j) s v u → Stepped s v Went s u
operand_goes later stays same s v u k j e o h p = stepped_worked later stays same s v u j o (subst (λ i. At s i v) e h) p

pub simple_went : FitsLater → CodeStays → NothingChanges → (s r : Store) (v u : View) (k : Simple) (x : Result (Unit {0}) Trap) (y : Unit {0}) → IsWhole s → (k ≡ simple.MemoryGrow → ⊥) → At s (sort.Simple k) v → x ≡ Ok y → Ends s k v x r u → IsKept s r → Stepped s v Went r u
simple_went later stays same s r v u k x y whole other h e p kept = simple_goes later stays same s r v u k whole other h (subst (λ z. Ends s k v z r u) e p) kept

pub simple_trapped : (s r : Store) (v u : View) (k : Simple) (x : Result (Unit {0}) Trap) (cause : Trap) → (k ≡ simple.MemoryGrow → ⊥) → At s (sort.Simple k) v → x ≡ Err cause → Ends s k v x r u → Stepped s v (Trapped cause) r u
simple_trapped s r v u k x cause other h e p = simple_traps s r v u k cause other h (subst (λ z. Ends s k v z r u) e p)

-- memory.grow

pub grow_grew : FitsLater → CodeStays → (s r : Store) (v u : View) (o : Option MemAddr) (a : MemAddr) → IsWhole s → At s (sort.Simple simple.MemoryGrow) v → o ≡ Some a → Performs (performed s v simple.MemoryGrow) r v u → IsLater s r → o ≡ growth_of_simple s (instance_at s v.instance) simple.MemoryGrow v.top.values → Stepped s v (Grew a) r u
grow_grew later stays s r v u o a whole h e p l g = stepped_grows later stays s r v u simple.MemoryGrow a whole h p l (sym g ∙ e)

pub grow_refused : FitsLater → CodeStays → (s r : Store) (v u : View) (o : Option MemAddr) → IsWhole s → At s (sort.Simple simple.MemoryGrow) v → o ≡ None → Performs (performed s v simple.MemoryGrow) r v u → IsLater s r → o ≡ growth_of_simple s (instance_at s v.instance) simple.MemoryGrow v.top.values → Stepped s v Went r u
grow_refused later stays s r v u o whole h e p l g = stepped_performs later stays s r v u simple.MemoryGrow whole h p l (sym g ∙ e)
