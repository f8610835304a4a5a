-- Functions of a store after an instantiation.
use Rattle.std.proofs.Common.{◌≡◌, ℕ, ◌<◌, List, [], ◌∷◌, ◌++◌, length, refl, sym, ap, ◌∙◌, subst}
use Rattle.std.specs.Prelude.{true, false, ◌==◌, Option, Some, None, slice_get, slice_index_or, suc, option_map}
use Rattle.std.specs.List.{All}
use Rattle.std.proofs.lemmas.List.{get_or_push, get_or_append_left}
use Rattle.std.proofs.lemmas.List.{nil_from_length}
use Rattle.std.proofs.lemmas.Bool.{eqb-true}
use Rattle.std.proofs.lemmas.Option.{get_or_from_slice_get}
use Rattle.std.proofs.lemmas.List.Elements.{All-append, All-cons, All-nil}
use Rattle.wasm_syntax.specs.declared.module.Func.{Func}
use Rattle.wasm_syntax.specs.declared.module.Module.{Module}
use Rattle.wasm_syntax.specs.declared.addresses.ModuleAddr.{ModuleAddr}
use Rattle.wasm_syntax.specs.declared.addresses.InstAddr.{InstAddr}
use Rattle.wasm_syntax.specs.declared.addresses.FuncAddr.{FuncAddr}
use Rattle.wasm_store.specs.declared.instances.FuncInst.{FuncInst}
use Rattle.wasm_store.specs.declared.instances.FuncInst.TheVariants as f
use Rattle.wasm_store.specs.declared.instances.Instance.{Instance}
use Rattle.wasm_syntax.specs.declared.types.FuncType.{FuncType}
use Rattle.wasm_valid.specs.Spaces.{then_, funcs_of, func_type}
use Rattle.wasm_valid.specs.ModuleRules.{is_typed_module, is_start, is_start_type}
use Rattle.wasm_store.specs.Laws.{FunctionOfIndex}
use Rattle.wasm_store.specs.Store.{Store, module_at, instance_at, function_at, type_of, blank}
use Rattle.wasm_store.specs.Whole.{IsWhole, IsFunction, IsBlank, HasCode, AllHaveCode, HasLists}
use Rattle.wasm_store.specs.Allocated.{fresh, func_addr, functions_of, instance_of, allocated}
use Rattle.wasm_instance.specs.Instantiation.{start_of}
use Rattle.wasm_instance.specs.Laws.{IsStart}
use Rattle.wasm_instance.proofs.Rules.{left_true, right_true, rules_typed}

code_same : (s t : Store) (g : FuncInst) → ((i : InstAddr) → i.0 < length s.instances → instance_at t i ≡ instance_at s i) → IsFunction s g → HasCode s g → HasCode t g
code_same s t (f.Wasm ty i x) same fits h = λ b. h (subst IsBlank (same i fits.0) b)
code_same s t (f.Host ty callee) same fits h = h
code_same s t (f.Suspending ty callee) same fits h = h

code_of : (t : Store) (m : Module) (j : InstAddr) → (IsBlank (instance_at t j) → ⊥) → (x : ℕ) (gs : List Func) → All (HasCode t) (functions_of m j x gs)
code_of t m j has x [] = All-nil (HasCode t)
code_of t m j has x (g ∷ gs) = All-cons (HasCode t) _ (functions_of m j (suc x) gs) has (code_of t m j has (suc x) gs)

not_blank : (xs : List FuncAddr) (n : ℕ) (g : Func) (gs : List Func) → xs ++ fresh func_addr n (length (g ∷ gs)) ≡ [] → ⊥
not_blank [] n g gs e = absurd (cc)
not_blank (x ∷ xs) n g gs e = absurd (cc)

own_code : (t : Store) (m : Module) (j : InstAddr) (xs : List FuncAddr) (n : ℕ) (gs : List Func) → (instance_at t j).funcs ≡ xs ++ fresh func_addr n (length gs) → All (HasCode t) (functions_of m j 0 gs)
own_code t m j xs n [] e = All-nil (HasCode t)
own_code t m j xs n (g ∷ gs) e = code_of t m j (λ b. not_blank xs n g gs (sym e ∙ b.funcs)) 0 (g ∷ gs)

all_code : (s t : Store) (gs : List FuncInst) → ((g : FuncInst) → IsFunction s g → HasCode s g → HasCode t g) → All (IsFunction s) gs → All (HasCode s) gs → All (HasCode t) gs
all_code s t gs step fits h k d within = step (slice_index_or gs k d) (fits k d within) (h k d within)

-- the functions that were there and the module's own
pub code_stays : (s : Store) (a : ModuleAddr) (imports : Instance) → IsWhole s → AllHaveCode s → (t : Store) → t.functions ≡ (allocated a imports s).functions → t.instances ≡ (allocated a imports s).instances → AllHaveCode t
code_stays s a imports whole h t functions instances =
    let new : Store = allocated a imports s in
    let i : InstAddr = record { 0 = length s.instances } in
    let same : (j : InstAddr) → j.0 < length s.instances → instance_at t j ≡ instance_at s j = λ j live. ap (λ (is : List Instance). slice_index_or is j.0 (blank (record { 0 = 0 }))) instances ∙ get_or_append_left s.instances (instance_of a imports s ∷ []) (blank (record { 0 = 0 })) j.0 live in
    let there : instance_at t i ≡ instance_of a imports s = ap (λ (is : List Instance). slice_index_or is (length s.instances) (blank (record { 0 = 0 }))) instances ∙ get_or_push s.instances (instance_of a imports s) (blank (record { 0 = 0 })) (length s.instances) refl in
    subst (λ (fs : List FuncInst). All (HasCode t) fs) (sym functions)
    (All-append (HasCode t) s.functions (functions_of (module_at s a) i 0 (module_at s a).funcs)
    (all_code s t s.functions (λ g. code_same s t g same) whole.functions h)
    (own_code t (module_at s a) i imports.funcs (length s.functions) (module_at s a).funcs (ap (λ (j : Instance). j.funcs) there)))

-- The start function.

no_items : {A : Type 0} (xs : List A) → (length xs == 0) ≡ true → xs ≡ []
no_items xs h = nil_from_length xs (eqb-true (length xs) 0 h)

start_type : (m : Module) (x : ℕ) → is_start_type (func_type m x) ≡ true → (y : ℕ) × (slice_get (funcs_of m) x ≡ Some y) × ((g : FuncType) → slice_get m.types y ≡ Some g → (g.params ≡ []) × (g.results ≡ []))
start_type m x h = of_index (slice_get (funcs_of m) x) h
  where
    of_type : (o : Option FuncType) → is_start_type o ≡ true → (g : FuncType) → o ≡ Some g → (g.params ≡ []) × (g.results ≡ [])
    of_type None h g e = absurd (let n : false ≡ true = h in cc)
    of_type (Some k) h g e =
        let same : k ≡ g = cc in (
          ap (λ (t : FuncType). t.params) (sym same) ∙ no_items k.params (left_true (length k.params == 0) (length k.results == 0) h),
          ap (λ (t : FuncType). t.results) (sym same) ∙ no_items k.results (right_true (length k.params == 0) (length k.results == 0) h),
        )

    of_index : (o : Option ℕ) → is_start_type (then_ o (slice_get m.types)) ≡ true → (y : ℕ) × (o ≡ Some y) × ((g : FuncType) → slice_get m.types y ≡ Some g → (g.params ≡ []) × (g.results ≡ []))
    of_index None h = absurd (let n : false ≡ true = h in cc)
    of_index (Some y) h = (y, refl, of_type (slice_get m.types y) h)

pub start_is : FunctionOfIndex → (t : Store) (i : Instance) → HasLists t i → is_typed_module (module_at t i.module) ≡ true → IsStart t (start_of (module_at t i.module) i)
start_is law t i lists typed = of_start (module_at t i.module).start (rules_typed (module_at t i.module) typed).start
  where
    of_start : (o : Option ℕ) → is_start (module_at t i.module) o ≡ true → IsStart t (option_map (λ x. slice_index_or i.funcs x (func_addr 0)) o)
    of_start None h = tt
    of_start (Some x) h =
        let typed_ = start_type (module_at t i.module) x h in
        let named = law t i x typed_.0 lists typed_.1 in
        let same : named.0 ≡ slice_index_or i.funcs x (func_addr 0) = sym (get_or_from_slice_get i.funcs x named.0 (func_addr 0) named.1) in
        let none = typed_.2 (type_of (function_at t named.0)) named.2.1 in
        subst (λ (b : FuncAddr). (b.0 < length t.functions) × ((type_of (function_at t b)).params ≡ []) × ((type_of (function_at t b)).results ≡ [])) same (named.2.0, none.0, none.1)
