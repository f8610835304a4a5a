-- Laws of validation.
use Rattle.std.proofs.Common.{◌≡◌, ℕ, zero, suc, option_map, refl, ◌+◌, ◌<◌, Bool, true, false, ◌&&◌, List, [], ◌∷◌, ◌++◌, Option, Some, None, length, drop, get_or, sym, ◌∙◌, ap, subst, arith, nat_le, if◌then◌else◌}
use Rattle.std.specs.Prelude.{slice_get, is_some, IfSome, replicate, flat_map}
use Rattle.std.specs.List.{list_all}
use Rattle.std.proofs.lemmas.List.{drop_more}
use Rattle.wasm_syntax.specs.declared.types.ValType.{ValType}
use Rattle.wasm_syntax.specs.declared.types.FuncType.{FuncType}
use Rattle.wasm_syntax.specs.declared.module.Func.{Func}
use Rattle.wasm_syntax.specs.declared.module.Module.{Module}
use Rattle.wasm_valid.specs.declared.types.Types.TheVariants as y
use Rattle.wasm_valid.specs.Spaces.{when}
use Rattle.wasm_valid.specs.Signatures.{types_in, results_in}
use Rattle.wasm_valid.specs.Typing.{is_block, block_height, most_nested, most_locals, locals_of, few_locals, typed_within, typed_as, height_as, body_context, body_type, count_locals, is_typed_body, body_height}
use Rattle.wasm_syntax.specs.Numbering.{is_numbered}
use Rattle.wasm_valid.specs.ModuleRules.{obeys_rules, is_framed, is_typed_module, first_untyped, refused_function}
use Rattle.wasm_valid.specs.Places.{BodyIs, results_context, from_nothing}

-- the pass over a body speaks of the function's type
pub body_is : (m : Module) (f : Func) (g : FuncType) (locals : List ValType) (height : Option ℕ) → slice_get m.types f.ty ≡ Some g → locals ≡ locals_of g f → few_locals g f ≡ true
    → BodyIs (is_block m (suc most_nested) (results_context locals (types_in m (y.Results f.ty))) f.body (from_nothing (types_in m (y.Results f.ty))))
    (block_height m (suc most_nested) (results_context locals (types_in m (y.Results f.ty))) f.body (from_nothing (types_in m (y.Results f.ty)))) height
    → BodyIs (is_typed_body m f) (body_height m f) height
body_is m f g locals height e l few =
    let Q : Option FuncType → Type 0 = λ o.
    BodyIs (is_block m (suc most_nested) (results_context locals (results_in o)) f.body (from_nothing (results_in o))) (block_height m (suc most_nested) (results_context locals (results_in o)) f.body (from_nothing (results_in o))) height
    → BodyIs (typed_as o m f) (height_as o m f) height in
    subst Q (sym e) (λ h.
    let P : Bool → Type 0 = λ b. BodyIs (typed_within b m g f) (block_height m (suc most_nested) (body_context g f) f.body (body_type g)) height in
    let L : List ValType → Type 0 = λ ls. BodyIs (is_block m (suc most_nested) (results_context ls g.results) f.body (from_nothing g.results)) (block_height m (suc most_nested) (results_context ls g.results) f.body (from_nothing g.results)) height in
    subst P (sym few) (subst L l h))

-- a function whose body isn't typed, after others whose bodies are
pub first_found : (m : Module) (fs : List Func) (i : ℕ) (f : Func) → i < length fs → f ≡ get_or fs i f → is_typed_body m f ≡ false
    → first_untyped m 0 fs ≡ first_untyped m i (drop i fs) → list_all (is_typed_body m) fs ≡ list_all (is_typed_body m) (drop i fs)
    → (first_untyped m 0 fs ≡ Some i) × (list_all (is_typed_body m) fs ≡ false)
first_found m fs i f h e untyped first all =
    let more : drop i fs ≡ f ∷ drop (i + 1) fs = drop_more fs i f h ∙ ap (λ (x : Func). x ∷ drop (i + 1) fs) (sym e) in (
      first ∙ ap (first_untyped m i) more ∙ ap (λ b. if b then first_untyped m (suc i) (drop (i + 1) fs) else Some i) untyped,
      all ∙ ap (list_all (is_typed_body m)) more ∙ ap (λ b. b && list_all (is_typed_body m) (drop (i + 1) fs)) untyped,
    )

-- Modules.

pub unnumbered : (m : Module) → is_numbered m ≡ false → (is_typed_module m ≡ false) × (None ≡ refused_function m)
unfolding is_typed_module is_framed refused_function
unnumbered m e = (
  ap (λ b. (b && obeys_rules m) && list_all (is_typed_body m) m.funcs) e,
  sym (ap (λ b. when (b && obeys_rules m) (first_untyped m 0 m.funcs)) e),
)

pub unruly : (m : Module) → is_numbered m ≡ true → obeys_rules m ≡ false → (is_typed_module m ≡ false) × (None ≡ refused_function m)
unfolding is_typed_module is_framed refused_function
unruly m e f = (
  ap (λ b. (b && obeys_rules m) && list_all (is_typed_body m) m.funcs) e ∙ ap (λ b. (true && b) && list_all (is_typed_body m) m.funcs) f,
  sym (ap (λ b. when (b && obeys_rules m) (first_untyped m 0 m.funcs)) e ∙ ap (λ b. when (true && b) (first_untyped m 0 m.funcs)) f),
)

pub untyped : (m : Module) (k : ℕ) → is_numbered m ≡ true → obeys_rules m ≡ true → first_untyped m 0 m.funcs ≡ Some k → list_all (is_typed_body m) m.funcs ≡ false
    → (is_typed_module m ≡ false) × (Some k ≡ refused_function m)
unfolding is_typed_module is_framed refused_function
untyped m k e f g h = (
  ap (λ b. (b && obeys_rules m) && list_all (is_typed_body m) m.funcs) e ∙ ap (λ b. (true && b) && list_all (is_typed_body m) m.funcs) f ∙ h,
  sym (ap (λ b. when (b && obeys_rules m) (first_untyped m 0 m.funcs)) e ∙ ap (λ b. when (true && b) (first_untyped m 0 m.funcs)) f ∙ g),
)

pub typed : (m : Module) → is_numbered m ≡ true → obeys_rules m ≡ true → list_all (is_typed_body m) m.funcs ≡ true → is_typed_module m ≡ true
unfolding is_typed_module is_framed
typed m e f h = ap (λ b. (b && obeys_rules m) && list_all (is_typed_body m) m.funcs) e ∙ ap (λ b. (true && b) && list_all (is_typed_body m) m.funcs) f ∙ h

-- Locals.

abbrev pub expand : List ValType → List (ℕ × ValType) → List ValType
expand params runs = params ++ flat_map (λ (run : ℕ × ValType). replicate run.0 run.1) runs

pub locals_are : (g : FuncType) (f : Func) (params : List ValType) (runs : List (ℕ × ValType)) (o : Option (List ValType)) (ls : List ValType)
    → params ≡ g.params → runs ≡ f.locals → o ≡ Some ls → IfSome o (λ types. types ≡ expand params runs) → ls ≡ locals_of g f
locals_are g f params runs o ls e r s h =
    let P : Option (List ValType) → Type 0 = λ x. IfSome x (λ types. types ≡ expand params runs) in
    subst P s h ∙ ap (λ xs. expand xs runs) e ∙ ap (expand g.params) r

pub few_are : (g : FuncType) (f : Func) (params : List ValType) (runs : List (ℕ × ValType)) (o : Option (List ValType)) (ls : List ValType)
    → params ≡ g.params → runs ≡ f.locals → o ≡ Some ls → is_some o ≡ nat_le (length params + count_locals runs) most_locals → few_locals g f ≡ true
few_are g f params runs o ls e r s h =
    sym (ap is_some (sym s) ∙ h ∙ ap (λ (xs : List ValType). nat_le (length xs + count_locals runs) most_locals) e ∙ ap (λ rs. nat_le (length g.params + count_locals rs) most_locals) r)

-- each body of a typed module is typed
both : (a b : Bool) → (a && b) ≡ true → (a ≡ true) × (b ≡ true)
both true b e = (refl, e)
both false b e = cc

all_at : (p : Func → Bool) (fs : List Func) (x : ℕ) → list_all p fs ≡ true → x < length fs → option_map p (slice_get fs x) ≡ Some true
all_at p [] x h l = absurd (omega (arith, l))
all_at p (f ∷ fs) zero h l = ap Some (both (p f) (list_all p fs) h).0
all_at p (f ∷ fs) (suc x) h l = all_at p fs x (both (p f) (list_all p fs) h).1 (omega (arith, l))

pub body_typed : (m : Module) (x : ℕ) → is_typed_module m ≡ true → x < length m.funcs → option_map (is_typed_body m) (slice_get m.funcs x) ≡ Some true
unfolding is_typed_module
body_typed m x h l = all_at (is_typed_body m) m.funcs x (both (is_framed m) (list_all (is_typed_body m) m.funcs) h).1 l
