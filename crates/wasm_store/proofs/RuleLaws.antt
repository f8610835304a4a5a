-- What a typed module's rules say of its parts.
use Rattle.std.proofs.Common.{◌≡◌, List, [], ◌∷◌, refl}
use Rattle.std.specs.Prelude.{true, false, Bool, ◌&&◌, Option, Some, None, is_some}
use Rattle.std.specs.List.{All, list_all}
use Rattle.std.proofs.lemmas.List.Elements.{All-cons, All-nil}
use Rattle.wasm_syntax.specs.declared.types.ValType.{ValType}
use Rattle.wasm_syntax.specs.declared.types.ValType.TheVariants as v
use Rattle.wasm_syntax.specs.ValueTypes.{same_type}
use Rattle.wasm_syntax.specs.declared.module.Func.{Func}
use Rattle.wasm_syntax.specs.declared.module.Module.{Module}
use Rattle.wasm_valid.specs.Spaces.{when, then_}
use Rattle.wasm_valid.specs.ModuleRules.{is_typed_module, is_framed, obeys_rules, type_exists, is_table, is_memory, is_global, is_elem, is_type}

pub left_true : (p q : Bool) → (p && q) ≡ true → p ≡ true
left_true true q h = refl
left_true false q h = h

pub right_true : (p q : Bool) → (p && q) ≡ true → q ≡ true
right_true true q h = h
right_true false q h = absurd (let e : false ≡ true = h in cc)

pub record Rules (m : Module) : Type 0 where
  pub types : list_all (λ (g : Func). type_exists m g.ty) m.funcs ≡ true
  pub tables : list_all is_table m.tables ≡ true
  pub mems : list_all is_memory m.mems ≡ true
  pub globals : list_all (is_global m) m.globals ≡ true
  pub elems : list_all (is_elem m) m.elems ≡ true

rules_of : (m : Module) → obeys_rules m ≡ true → Rules m
rules_of m h =
    let without_datas = left_true _ _ h in
    let elems = right_true _ _ without_datas in
    let without_names = left_true _ _ (left_true _ _ (left_true _ _ without_datas)) in
    let without_exports = left_true _ _ without_names in
    let globals = right_true _ _ without_exports in
    let with_memories = left_true _ _ (left_true _ _ without_exports) in
    let mems = right_true _ _ with_memories in
    let without_memories = left_true _ _ with_memories in
    let tables = right_true _ _ without_memories in
    let types = right_true _ _ (left_true _ _ without_memories) in
    record { types = types; tables = tables; mems = mems; globals = globals; elems = elems }

pub rules_typed : (m : Module) → is_typed_module m ≡ true → Rules m
unfolding is_typed_module is_framed
rules_typed m h = rules_of m (right_true _ _ (left_true _ _ h))

pub all_true : {A : Type 0} (p : A → Bool) (P : A → Type 0) → ((x : A) → p x ≡ true → P x) → (xs : List A) → list_all p xs ≡ true → All P xs
all_true p P f [] h = All-nil P
all_true p P f (x ∷ xs) h = All-cons P x xs (f x (left_true (p x) (list_all p xs) h)) (all_true p P f xs (right_true (p x) (list_all p xs) h))

pub same_is : (x y : ValType) → same_type x y ≡ true → y ≡ x
same_is v.I32 v.I32 h = refl
same_is v.I64 v.I64 h = refl
same_is v.FuncRef v.FuncRef h = refl
same_is v.ExternRef v.ExternRef h = refl
same_is x y h = absurd (let e : false ≡ true = h in cc)

-- a type that comes where a test passes
pub when_is : (ty u : ValType) (b : Bool) → is_type ty (when b (Some u)) ≡ true → (b ≡ true) × (u ≡ ty)
when_is ty u true h = (refl, same_is ty u h)
when_is ty u false h = absurd (let e : false ≡ true = h in cc)

pub then_is : {A B : Type 0} (o : Option A) (f : A → Option B) → is_some (then_ o f) ≡ true → (x : A) × (o ≡ Some x)
then_is None f h = absurd (let e : false ≡ true = h in cc)
then_is (Some x) f h = (x, refl)

pub then_type : {A : Type 0} (ty : ValType) (o : Option A) (test : A → Bool) (f : A → ValType) → is_type ty (then_ o (λ x. when (test x) (Some (f x)))) ≡ true → (x : A) × (o ≡ Some x) × (f x ≡ ty)
then_type ty None test f h = absurd (let e : false ≡ true = h in cc)
then_type ty (Some x) test f h = (x, refl, (when_is ty (f x) (test x) h).1)
