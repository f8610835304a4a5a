-- A store after an instantiation.
use Rattle.std.proofs.Common.{◌≡◌, ◌+◌, ◌<◌, List, [], ◌∷◌, ◌++◌, length, sym, ap, ◌∙◌, subst, arith}
use Rattle.std.specs.Prelude.{true, Option, Result, map, slice_index_or}
use Rattle.std.specs.List.{All, AllZip}
use Rattle.std.proofs.lemmas.List.{get_or_push, length_push}
use Rattle.std.proofs.lemmas.List.Elements.{All-cons, All-nil}
use Rattle.wasm_syntax.specs.declared.module.Module.{Module}
use Rattle.wasm_syntax.specs.declared.trap.Trap.{Trap}
use Rattle.wasm_syntax.specs.declared.value.Value.{Value}
use Rattle.wasm_syntax.specs.declared.types.GlobalType.{GlobalType}
use Rattle.wasm_syntax.specs.declared.addresses.ModuleAddr.{ModuleAddr}
use Rattle.wasm_syntax.specs.declared.addresses.InstAddr.{InstAddr}
use Rattle.wasm_syntax.specs.declared.addresses.FuncAddr.{FuncAddr}
use Rattle.wasm_syntax.specs.declared.addresses.GlobalAddr.{GlobalAddr}
use Rattle.wasm_valid.specs.ModuleRules.{is_typed_module}
use Rattle.wasm_store.specs.declared.instances.Instance.{Instance}
use Rattle.wasm_store.specs.Laws.{ListsStay, FunctionOfIndex}
use Rattle.wasm_store.specs.Store.{Store, no_module, module_at, instance_at, global_at, blank}
use Rattle.wasm_store.specs.Whole.{IsWhole, IsLater, HasLists, HasGlobal, AllHaveCode, HasSameCode}
use Rattle.wasm_store.specs.Allocated.{instance_of, allocated, IsAllocated}
use Rattle.wasm_instance.specs.Instantiation.{init_segments, instantiated, start_of}
use Rattle.wasm_instance.specs.Laws.{IsStart}
use Rattle.wasm_instance.specs.Parts.{Ends, module_of, offset_in}
use Rattle.wasm_instance.proofs.Callable.{code_stays, start_is}

pub zip_left : {A B : Type 0} (R : A → B → Type 0) (P : A → Type 0) → ((x : A) (y : B) → R x y → P x) → (xs : List A) (ys : List B) → AllZip R xs ys → All P xs
zip_left R P f [] ys h = All-nil P
zip_left R P f (x ∷ xs) [] h = absurd h
zip_left R P f (x ∷ xs) (y ∷ ys) h = All-cons P x xs (f x y h.0) (zip_left R P f xs ys h.1)

pub globals_live : (s : Store) (globals : List GlobalAddr) (tys : List GlobalType) → AllZip (HasGlobal s) globals tys → All (λ (g : GlobalAddr). g.0 < length s.globals) globals
globals_live s globals tys h = zip_left (HasGlobal s) (λ (g : GlobalAddr). g.0 < length s.globals) (λ g ty k. k.0) globals tys h

-- t is the store with all things of the module, and u that after its segments
module _ (s : Store) (a : ModuleAddr) (imports : Instance) (made : IsAllocated s a imports) (i : InstAddr) (first : i.0 ≡ length s.instances) (t : Store) (e : t ≡ allocated a imports s) where
  abbrev inst : Instance
  inst = instance_of a imports s

  pub instance_there : instance_at t i ≡ inst
  instance_there = ap (λ (x : Store). instance_at x i) e ∙ get_or_push s.instances inst (blank (record { 0 = 0 })) i.0 (sym first)

  module_there : module_at t inst.module ≡ module_at s a
  module_there = ap (λ (x : Store). module_at x a) e

  pub own_module_there : module_of t i ≡ module_at s a
  own_module_there = ap (λ (j : Instance). module_at t j.module) instance_there ∙ module_there

  pub live_there : i.0 < length t.instances
  live_there =
      let count : length (s.instances ++ inst ∷ []) ≡ length s.instances + 1 = length_push s.instances inst in
      let there : i.0 < length (s.instances ++ inst ∷ []) = omega (arith, count, first) in
      subst (λ (x : Store). i.0 < length x.instances) (sym e) there

  pub lists_there : HasLists t (instance_at t i)
  lists_there = subst (λ (j : Instance). HasLists t j) (sym instance_there) (subst (λ (x : Store). HasLists x inst) (sym e) made.lists)

  -- what the segments come to
  pub outcome_there : (values : List Value) → values ≡ map (λ (g : GlobalAddr). (global_at s g).value) imports.globals → (r : Result (Unit {0}) Trap) (u : Store) → Ends (init_segments (module_of t i) (instance_at t i) (offset_in (module_of t i) (instance_at t i) values) t) r u → Ends (instantiated a imports s) r u
  outcome_there values vs r u h =
      let by_module : Ends (init_segments (module_at s a) (instance_at t i) (offset_in (module_at s a) (instance_at t i) values) t) r u = subst (λ (m : Module). Ends (init_segments m (instance_at t i) (offset_in m (instance_at t i) values) t) r u) own_module_there h in
      let by_instance : Ends (init_segments (module_at s a) inst (offset_in (module_at s a) inst values) t) r u = subst (λ (j : Instance). Ends (init_segments (module_at s a) j (offset_in (module_at s a) j values) t) r u) instance_there by_module in
      let by_values : Ends (init_segments (module_at s a) inst (offset_in (module_at s a) inst (map (λ (g : GlobalAddr). (global_at s g).value) imports.globals)) t) r u = subst (λ (us : List Value). Ends (init_segments (module_at s a) inst (offset_in (module_at s a) inst us) t) r u) vs by_instance in
      subst (λ (x : Store). Ends (init_segments (module_at s a) inst (offset_in (module_at s a) inst (map (λ (g : GlobalAddr). (global_at s g).value) imports.globals)) x) r u) e by_values

  module _ (u : Store) (same : HasSameCode t u) (l : IsLater t u) where
    pub instance_after : instance_at u i ≡ inst
    instance_after = ap (λ (is : List Instance). slice_index_or is i.0 (blank (record { 0 = 0 }))) same.instances ∙ instance_there

    pub module_after : module_of u i ≡ module_at s a
    module_after =
        ap (λ (j : Instance). module_at u j.module) instance_after
        ∙ ap (λ (ms : List Module). slice_index_or ms a.0 no_module) same.modules ∙ module_there

    pub live_after : i.0 < length u.instances
    live_after = subst (λ (is : List Instance). i.0 < length is) (sym same.instances) live_there

    pub lists_after : ListsStay → HasLists u (instance_at u i)
    lists_after law = subst (λ (j : Instance). HasLists u j) (sym instance_after) (law t u inst l (subst (λ (x : Store). HasLists x inst) (sym e) made.lists))

    pub start_after : (start : Option FuncAddr) → start ≡ start_of (module_of u i) (instance_at u i) → start ≡ start_of (module_at s a) inst
    start_after start is = is ∙ ap (λ (m : Module). start_of m (instance_at u i)) module_after ∙ ap (λ (j : Instance). start_of (module_at s a) j) instance_after

    pub start_is_there : ListsStay → FunctionOfIndex → is_typed_module (module_at s a) ≡ true → (start : Option FuncAddr) → start ≡ start_of (module_of u i) (instance_at u i) → IsStart u start
    start_is_there stay law typed start is =
        subst (λ (o : Option FuncAddr). IsStart u o) (sym is)
        (start_is law u (instance_at u i) (lists_after stay) (subst (λ (m : Module). is_typed_module m ≡ true) (sym module_after) typed))

    pub code_after : IsWhole s → AllHaveCode s → AllHaveCode u
    code_after whole h =
        code_stays s a imports whole h u (same.functions ∙ ap (λ (x : Store). x.functions) e) (same.instances ∙ ap (λ (x : Store). x.instances) e)
