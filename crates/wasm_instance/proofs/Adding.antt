-- One thing more of a kind, and all that there are.
use Rattle.std.proofs.Common.{◌≡◌, ℕ, ◌+◌, ◌<◌, ◌≤◌, List, [], ◌∷◌, ◌++◌, length, take, refl, sym, ap, ◌∙◌, subst, append_assoc, arith, length-append}
use Rattle.std.specs.Prelude.{Some, None, slice_get, zero, suc, option_map}
use Rattle.std.specs.List.{All}
use Rattle.std.proofs.Math.Seq.{take-length}
use Rattle.std.proofs.lemmas.List.{take_more, length-take-le}
use Rattle.std.proofs.lemmas.Option.{slice_get_within, get_or_from_slice_get, slice_get-map}
use Rattle.wasm_syntax.specs.declared.module.Func.{Func}
use Rattle.wasm_syntax.specs.declared.module.Module.{Module}
use Rattle.wasm_syntax.specs.declared.types.FuncType.{FuncType}
use Rattle.wasm_syntax.specs.declared.types.TableType.{TableType}
use Rattle.wasm_syntax.specs.declared.value.Value.{Value}
use Rattle.wasm_syntax.specs.declared.addresses.InstAddr.{InstAddr}
use Rattle.wasm_store.specs.declared.instances.FuncInst.{FuncInst}
use Rattle.wasm_store.specs.declared.instances.FuncInst.TheVariants as f
use Rattle.wasm_store.specs.declared.instances.GlobalInst.{GlobalInst}
use Rattle.wasm_store.specs.Store.{Store, TableInst, MemInst, new_table, with_function, with_new_table, with_new_global, with_new_element}
use Rattle.wasm_store.specs.Allocated.{memories_from, fresh, functions_of, type_with, null_of, tables_from}
use Rattle.wasm_syntax.specs.declared.types.Limit.{Limit}
use Rattle.wasm_store.specs.Memories.{new_memory, with_new_memory, with_new_data}
use Rattle.wasm_instance.specs.Parts.{with_memories, with_datas, with_functions, with_tables, with_globals, with_elements}

pub take_next : {A : Type 0} (xs : List A) (k : ℕ) (x : A) → slice_get xs k ≡ Some x → take (k + 1) xs ≡ take k xs ++ x ∷ []
take_next {A} xs k x e = take_more xs k x (slice_get_within xs k x e) ∙ ap (λ (y : A). take k xs ++ y ∷ []) (get_or_from_slice_get xs k x x e)

fresh_suc : {A : Type 0} (address : ℕ → A) (n k : ℕ) → fresh address n (suc k) ≡ fresh address n k ++ address (n + k) ∷ []
fresh_suc {A} address n zero = ap (λ (j : ℕ). address j ∷ []) (let e : n ≡ n + 0 = omega arith in e)
fresh_suc {A} address n (suc k) =
    ap (λ (xs : List A). address n ∷ xs) (fresh_suc address (suc n) k ∙ ap (λ (j : ℕ). fresh address (suc n) k ++ address j ∷ []) (let e : suc n + k ≡ n + suc k = omega arith in e))

-- one address more
pub address_more : {A : Type 0} (address : ℕ → A) (n k : ℕ) (xs ys zs : List A) (a : A) → ys ≡ xs ++ fresh address n k → a ≡ address (n + k) → zs ≡ ys ++ a ∷ [] → zs ≡ xs ++ fresh address n (k + 1)
address_more {A} address n k xs ys zs a e at made =
    made ∙ ap (λ (us : List A). us ++ a ∷ []) e ∙ append_assoc xs (fresh address n k) (a ∷ []) ∙ ap (λ (b : A). xs ++ (fresh address n k ++ b ∷ [])) at
    ∙ ap (λ (us : List A). xs ++ us) (sym (fresh_suc address n k)) ∙ ap (λ (j : ℕ). xs ++ fresh address n j) (let e' : suc k ≡ k + 1 = omega arith in e')

pub count_taken : {A : Type 0} (xs ys : List A) (k n : ℕ) → k < length ys → n ≡ length (xs ++ take k ys) → n ≡ length xs + k
count_taken xs ys k n h e = e ∙ length-append xs (take k ys) ∙ ap (λ (j : ℕ). length xs + j) (length-take-le k ys (let l : k ≤ length ys = omega arith in l))

joined_more : {A : Type 0} (xs ys : List A) (k : ℕ) (y : A) → slice_get ys k ≡ Some y → (xs ++ take k ys) ++ y ∷ [] ≡ xs ++ take (k + 1) ys
joined_more {A} xs ys k y e = append_assoc xs (take k ys) (y ∷ []) ∙ ap (λ (zs : List A). xs ++ zs) (sym (take_next ys k y e))

joined_all : {A : Type 0} (xs ys : List A) (k : ℕ) → length ys ≤ k → k ≤ length ys → xs ++ take k ys ≡ xs ++ ys
joined_all {A} xs ys k h l = ap (λ (zs : List A). xs ++ zs) (ap (λ (j : ℕ). take j ys) (let e : k ≡ length ys = omega arith in e) ∙ take-length ys)

-- One thing more in a store.

pub functions_more : (s t u : Store) (gs : List FuncInst) (k : ℕ) (g : FuncInst) → t ≡ with_functions (take k gs) s → slice_get gs k ≡ Some g → u ≡ with_function g t → u ≡ with_functions (take (k + 1) gs) s
functions_more s t u gs k g e at made =
    made ∙ ap (λ (x : Store). with_function g x) e ∙ ap (λ (hs : List FuncInst). record s { functions = hs }) (joined_more s.functions gs k g at)

pub functions_all : (s t : Store) (gs : List FuncInst) (k : ℕ) → length gs ≤ k → k ≤ length gs → t ≡ with_functions (take k gs) s → t ≡ with_functions gs s
functions_all s t gs k h l e = e ∙ ap (λ (hs : List FuncInst). record s { functions = hs }) (joined_all s.functions gs k h l)

pub tables_more : (s t u : Store) (gs : List TableInst) (k : ℕ) (g : TableInst) → t ≡ with_tables (take k gs) s → slice_get gs k ≡ Some g → u ≡ with_new_table g t → u ≡ with_tables (take (k + 1) gs) s
tables_more s t u gs k g e at made =
    made ∙ ap (λ (x : Store). with_new_table g x) e ∙ ap (λ (hs : List TableInst). record s { tables = hs }) (joined_more s.tables gs k g at)

pub globals_more : (s t u : Store) (gs : List GlobalInst) (k : ℕ) (g : GlobalInst) → t ≡ with_globals (take k gs) s → slice_get gs k ≡ Some g → u ≡ with_new_global g t → u ≡ with_globals (take (k + 1) gs) s
globals_more s t u gs k g e at made =
    made ∙ ap (λ (x : Store). with_new_global g x) e ∙ ap (λ (hs : List GlobalInst). record s { globals = hs }) (joined_more s.globals gs k g at)

pub elements_more : (s t u : Store) (gs : List (List Value)) (k : ℕ) (g : List Value) → t ≡ with_elements (take k gs) s → slice_get gs k ≡ Some g → u ≡ with_new_element g t → u ≡ with_elements (take (k + 1) gs) s
elements_more s t u gs k g e at made =
    made ∙ ap (λ (x : Store). with_new_element g x) e ∙ ap (λ (hs : List (List Value)). record s { elements = hs }) (joined_more s.elements gs k g at)

pub memories_more : (s t u : Store) (gs : List MemInst) (k : ℕ) (g : MemInst) → t ≡ with_memories (take k gs) s → slice_get gs k ≡ Some g → u ≡ with_new_memory g t → u ≡ with_memories (take (k + 1) gs) s
memories_more s t u gs k g e at made =
    made ∙ ap (λ (x : Store). with_new_memory g x) e ∙ ap (λ (hs : List MemInst). record s { memories = hs }) (joined_more s.memories gs k g at)

pub datas_more : (s t u : Store) (gs : List (List ℕ)) (k : ℕ) (g : List ℕ) → t ≡ with_datas (take k gs) s → slice_get gs k ≡ Some g → u ≡ with_new_data g t → u ≡ with_datas (take (k + 1) gs) s
datas_more s t u gs k g e at made =
    made ∙ ap (λ (x : Store). with_new_data g x) e ∙ ap (λ (hs : List (List ℕ)). record s { datas = hs }) (joined_more s.datas gs k g at)

-- What stands at a place of the lists.

pub function_at_place : (m : Module) (j : InstAddr) (x : ℕ) (gs : List Func) (k : ℕ) (g : Func) → slice_get gs k ≡ Some g → slice_get (functions_of m j x gs) k ≡ Some (f.Wasm (type_with m g.ty) j (x + k))
function_at_place m j x [] k g e = absurd (let n : ◌≡◌ None (Some g) = e in cc)
function_at_place m j x (h ∷ gs) zero g e =
    let same : h ≡ g = cc in
    ap (λ (o : Func). Some (f.Wasm (type_with m o.ty) j x)) same ∙ ap (λ (n : ℕ). Some (f.Wasm (type_with m g.ty) j n)) (let e' : x ≡ x + 0 = omega arith in e')
function_at_place m j x (h ∷ gs) (suc k) g e =
    function_at_place m j (suc x) gs k g e ∙ ap (λ (n : ℕ). Some (f.Wasm (type_with m g.ty) j n)) (let e' : suc x + k ≡ x + suc k = omega arith in e')

-- a function that is made of its type
pub function_made : (m : Module) (j : InstAddr) (k : ℕ) (g : Func) (found ty : FuncType) → slice_get m.funcs k ≡ Some g → slice_get m.types g.ty ≡ Some found → ty ≡ found → slice_get (functions_of m j 0 m.funcs) k ≡ Some (f.Wasm ty j k)
function_made m j k g found ty e there same =
    function_at_place m j 0 m.funcs k g e
    ∙ ap (λ (u : FuncType). Some (f.Wasm u j (0 + k))) (get_or_from_slice_get m.types g.ty found (record { params = []; results = [] }) there ∙ sym same)
    ∙ ap (λ (n : ℕ). Some (f.Wasm ty j n)) (let e' : 0 + k ≡ k = omega arith in e')

pub length_functions : (m : Module) (j : InstAddr) (x : ℕ) (gs : List Func) → length (functions_of m j x gs) ≡ length gs
length_functions m j x [] = refl
length_functions m j x (g ∷ gs) = ap suc (length_functions m j (suc x) gs)

pub table_at_place : (tys : List TableType) (k : ℕ) (ty : TableType) → slice_get tys k ≡ Some ty → slice_get (tables_from tys) k ≡ Some (new_table ty (null_of ty.elem))
table_at_place tys k ty e =
    slice_get-map (λ (ty : TableType). new_table ty (null_of ty.elem)) tys k ∙ ap (option_map (λ (ty : TableType). new_table ty (null_of ty.elem))) e

pub memory_at_place : (limits : List Limit) (k : ℕ) (limit : Limit) → slice_get limits k ≡ Some limit → slice_get (memories_from limits) k ≡ Some (new_memory limit)
memory_at_place limits k limit e = slice_get-map new_memory limits k ∙ ap (option_map new_memory) e

-- what holds of all of a list holds of the element at a place
pub all_at : {A : Type 0} (P : A → Type 0) (xs : List A) (k : ℕ) (x : A) → All P xs → slice_get xs k ≡ Some x → P x
all_at {A} P xs k x h e = subst P (get_or_from_slice_get xs k x x e) (h k x (slice_get_within xs k x e))
