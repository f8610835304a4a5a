-- Segments one after the other.
use Rattle.std.proofs.Common.{◌≡◌, ℕ, ◌+◌, ◌<◌, List, [], ◌∷◌, length, drop, refl, sym, ap, ◌∙◌, subst, arith}
use Rattle.std.specs.Prelude.{true, Some, slice_get, slice_index_or, zero, suc}
use Rattle.std.specs.List.{AllZip}
use Rattle.std.proofs.Math.Seq.{drop-length}
use Rattle.std.proofs.lemmas.List.{at_drop_more}
use Rattle.std.proofs.lemmas.Option.{slice_get_within, get_or_from_slice_get}
use Rattle.wasm_syntax.specs.declared.instructions.BlockId.{BlockId}
use Rattle.wasm_syntax.specs.declared.module.Mode.TheVariants as mode
use Rattle.wasm_syntax.specs.declared.module.Elem.{Elem}
use Rattle.wasm_syntax.specs.declared.module.Data.{Data}
use Rattle.wasm_syntax.specs.declared.module.Module.{Module}
use Rattle.wasm_syntax.specs.declared.trap.Trap.{Trap}
use Rattle.wasm_syntax.specs.declared.addresses.TableAddr.{TableAddr}
use Rattle.wasm_syntax.specs.declared.addresses.MemAddr.{MemAddr}
use Rattle.wasm_syntax.specs.declared.addresses.InstAddr.{InstAddr}
use Rattle.wasm_syntax.specs.declared.addresses.ElemAddr.{ElemAddr}
use Rattle.wasm_syntax.specs.declared.addresses.DataAddr.{DataAddr}
use Rattle.wasm_valid.specs.Spaces.{mems_of}
use Rattle.wasm_valid.specs.ModuleRules.{is_typed_module}
use Rattle.wasm_store.specs.declared.instances.Instance.{Instance}
use Rattle.wasm_store.specs.Store.{Store, no_module, blank, module_at, instance_at, table_at, element_at}
use Rattle.wasm_store.specs.Whole.{IsLater, HasLists, HasElement, HasData, AreTyped, HasSameCode}
use Rattle.wasm_store.specs.Allocated.{table_addr, mem_addr}
use Rattle.wasm_store.specs.Laws.{TableOfIndex, ElementOfIndex, MemoryOfIndex, DataOfIndex}
use Rattle.wasm_instance.specs.Instantiation.{Outcome, goes, traps, and_then, table_of, memory_of, in_order}
use Rattle.wasm_instance.specs.Parts.{module_of}
use Rattle.wasm_instance.proofs.Rules.{table_is_there, memory_is_there}

pub zip_length : {A B : Type 0} (R : A → B → Type 0) (xs : List A) (ys : List B) → AllZip R xs ys → length xs ≡ length ys
zip_length R [] [] h = refl
zip_length R [] (y ∷ ys) h = absurd h
zip_length R (x ∷ xs) [] h = absurd h
zip_length R (x ∷ xs) (y ∷ ys) h = ap suc (zip_length R xs ys h.1)

pub place_there : {A : Type 0} (xs : List A) (k : ℕ) → k < length xs → (x : A) × (slice_get xs k ≡ Some x)
place_there [] k h = absurd (omega (arith, h))
place_there (x ∷ xs) zero h = (x, refl)
place_there (x ∷ xs) (suc k) h = place_there xs k (omega (arith, h))

-- What an active segment names.

pub record Names (s : Store) (a : TableAddr) (e : ElemAddr) : Type 0 where
  pub live : a.0 < length s.tables
  pub live_segment : e.0 < length s.elements
  pub typed : AreTyped s (element_at s e) (table_at s a).elem

pub segment_live : ElementOfIndex → (s : Store) (i : Instance) (k : ℕ) (e : ElemAddr) → HasLists s i → slice_get i.elems k ≡ Some e → (segment : Elem) → slice_get (module_at s i.module).elems k ≡ Some segment → HasElement s e segment
segment_live law s i k e lists at segment there =
    let named = law s i k segment lists there in
    let same : named.0 ≡ e = let both : ◌≡◌ (Some named.0) (Some e) = sym named.1 ∙ at in cc in
    subst (λ (b : ElemAddr). HasElement s b segment) same named.2

pub names_active : TableOfIndex → ElementOfIndex → (s : Store) (i : Instance) (k : ℕ) (e : ElemAddr) (x : ℕ) (id : BlockId) → HasLists s i → is_typed_module (module_at s i.module) ≡ true → slice_get i.elems k ≡ Some e → (segment : Elem) → slice_get (module_at s i.module).elems k ≡ Some segment → segment.mode ≡ mode.Active x id → Names s (table_of i x) e
names_active tables elements s i k e x id lists typed at segment there active =
    let has : HasElement s e segment = segment_live elements s i k e lists at segment there in
    let table = table_is_there (module_at s i.module) typed k segment x id there active in
    let named = tables s i x table.0 lists table.1 in
    let same : table_of i x ≡ named.0 = get_or_from_slice_get i.tables x named.0 (table_addr 0) named.1 in
    let live : (table_of i x).0 < length s.tables = subst (λ (b : TableAddr). b.0 < length s.tables) (sym same) named.2.0 in
    let elem : (table_at s (table_of i x)).elem ≡ segment.ty = ap (λ (b : TableAddr). (table_at s b).elem) same ∙ named.2.1 ∙ table.2 in
    record { live = live; live_segment = has.0; typed = subst (λ ty. AreTyped s (element_at s e) ty) (sym elem) has.1 }

pub data_live : DataOfIndex → (s : Store) (i : Instance) (k : ℕ) (d : DataAddr) → HasLists s i → slice_get i.datas k ≡ Some d → (segment : Data) → slice_get (module_at s i.module).datas k ≡ Some segment → d.0 < length s.datas
data_live law s i k d lists at segment there =
    let named = law s i k segment lists there in
    let same : named.0 ≡ d = let both : ◌≡◌ (Some named.0) (Some d) = sym named.1 ∙ at in cc in
    subst (λ (b : DataAddr). b.0 < length s.datas) same named.2

pub memory_live : MemoryOfIndex → (s : Store) (i : Instance) (k x : ℕ) (id : BlockId) → HasLists s i → is_typed_module (module_at s i.module) ≡ true → (segment : Data) → slice_get (module_at s i.module).datas k ≡ Some segment → segment.mode ≡ mode.Active x id → (memory_of i x).0 < length s.memories
memory_live law s i k x id lists typed segment there active =
    let limit = place_there (mems_of (module_at s i.module)) x (memory_is_there (module_at s i.module) typed k segment x id there active) in
    let named = law s i x limit.0 lists limit.1 in
    subst (λ (b : MemAddr). b.0 < length s.memories) (sym (get_or_from_slice_get i.mems x named.0 (mem_addr 0) named.1)) named.2

-- the segments at a place of the module
pub segment_there : (s : Store) (i : Instance) (k : ℕ) → HasLists s i → k < length i.elems → (segment : Elem) × (slice_get (module_at s i.module).elems k ≡ Some segment)
segment_there s i k lists within =
    let count : length i.elems ≡ length (module_at s i.module).elems = zip_length (HasElement s) i.elems (module_at s i.module).elems lists.elems in
    place_there (module_at s i.module).elems k (omega (arith, count, within))

pub data_there : (s : Store) (i : Instance) (k : ℕ) → HasLists s i → k < length i.datas → (segment : Data) × (slice_get (module_at s i.module).datas k ≡ Some segment)
data_there s i k lists within =
    let count : length i.datas ≡ length (module_at s i.module).datas = zip_length (HasData s) i.datas (module_at s i.module).datas lists.datas in
    place_there (module_at s i.module).datas k (omega (arith, count, within))

-- The row.

module _ (A B : Type 0) (f : A → B → Store → Outcome) (xs : List A) (ys : List B) where
  next_in_order : (k : ℕ) (x : A) (y : B) (s : Store) → slice_get xs k ≡ Some x → slice_get ys k ≡ Some y → in_order f (drop k xs) (drop k ys) s ≡ and_then (f x y s) (in_order f (drop (k + 1) xs) (drop (k + 1) ys))
  next_in_order k x y s at there =
      at_drop_more (λ (us : List A). in_order f us (drop k ys) s) xs k x (slice_get_within xs k x at)
      ∙ at_drop_more (λ (us : List B). in_order f (slice_index_or xs k x ∷ drop (k + 1) xs) us s) ys k y (slice_get_within ys k y there)
      ∙ ap (λ (a : A). and_then (f a (slice_index_or ys k y) s) (in_order f (drop (k + 1) xs) (drop (k + 1) ys))) (get_or_from_slice_get xs k x x at)
      ∙ ap (λ (b : B). and_then (f x b s) (in_order f (drop (k + 1) xs) (drop (k + 1) ys))) (get_or_from_slice_get ys k y y there)

  pub left_next : (s t u : Store) (k : ℕ) (x : A) (y : B) → slice_get xs k ≡ Some x → slice_get ys k ≡ Some y → in_order f (drop k xs) (drop k ys) t ≡ in_order f xs ys s → f x y t ≡ goes u → in_order f (drop (k + 1) xs) (drop (k + 1) ys) u ≡ in_order f xs ys s
  left_next s t u k x y at there left step =
      ap (λ (o : Outcome). and_then o (in_order f (drop (k + 1) xs) (drop (k + 1) ys))) (sym step) ∙ sym (next_in_order k x y t at there) ∙ left

  pub left_traps : (s t u : Store) (k : ℕ) (x : A) (y : B) (because : Trap) → slice_get xs k ≡ Some x → slice_get ys k ≡ Some y → in_order f (drop k xs) (drop k ys) t ≡ in_order f xs ys s → f x y t ≡ traps because u → in_order f xs ys s ≡ traps because u
  left_traps s t u k x y because at there left step =
      sym left ∙ next_in_order k x y t at there ∙ ap (λ (o : Outcome). and_then o (in_order f (drop (k + 1) xs) (drop (k + 1) ys))) step

  none_left : (us : List B) (s : Store) → in_order f [] us s ≡ goes s
  none_left [] s = refl
  none_left (u ∷ us) s = refl

  pub left_none : (s t : Store) (k : ℕ) → k ≡ length xs → in_order f (drop k xs) (drop k ys) t ≡ in_order f xs ys s → in_order f xs ys s ≡ goes t
  left_none s t k all left =
      sym left ∙ ap (λ (us : List A). in_order f us (drop k ys) t) (ap (λ (j : ℕ). drop j xs) all ∙ drop-length xs) ∙ none_left (drop k ys) t

-- what is left gives what the whole gives
pub record IsLeft (A B : Type 0) (f : A → B → Store → Outcome) (xs : List A) (ys : List B) (s : Store) (k : ℕ) (t : Store) : Type 0 where
  pub left : in_order f (drop k xs) (drop k ys) t ≡ in_order f xs ys s
  pub same : HasSameCode s t
  pub later : IsLater s t

pub same_code : (s t u : Store) → HasSameCode s t → HasSameCode t u → HasSameCode s u
same_code s t u h k = record { modules = k.modules ∙ h.modules; instances = k.instances ∙ h.instances; functions = k.functions ∙ h.functions }

pub instance_kept : (s t : Store) (i : InstAddr) → HasSameCode s t → instance_at t i ≡ instance_at s i
instance_kept s t i same = ap (λ (is : List Instance). slice_index_or is i.0 (blank (record { 0 = 0 }))) same.instances

pub module_kept : (s t : Store) (i : InstAddr) → HasSameCode s t → module_of t i ≡ module_of s i
module_kept s t i same =
    ap (λ (j : Instance). module_at t j.module) (instance_kept s t i same) ∙ ap (λ (ms : List Module). slice_index_or ms (instance_at s i).module.0 no_module) same.modules

-- what is told of the store as it is, told of the instance as it was
pub told : (P : Instance → Module → Type 0) (s t : Store) (i : InstAddr) → HasSameCode s t → P (instance_at t i) (module_of t i) → P (instance_at s i) (module_of s i)
told P s t i same h =
    subst (λ (m : Module). P (instance_at s i) m) (module_kept s t i same) (subst (λ (j : Instance). P j (module_of t i)) (instance_kept s t i same) h)
