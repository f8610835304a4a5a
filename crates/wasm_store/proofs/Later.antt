-- Each change of a store leaves one that is later.
use Rattle.std.proofs.Common.{◌≡◌, ℕ, ◌<◌, List, [], ◌∷◌, ◌++◌, length, refl, sym, ap, ◌∙◌, subst, inl, inr, arith, length-append}
use Rattle.std.specs.Prelude.{true, false, slice_index_or, slice_set, ◌⊎◌}
use Rattle.std.proofs.lemmas.Bool.{cases_eq}
use Rattle.std.proofs.lemmas.List.{get_or_append_left, get_or-set_same, get_or-set_other, get_or_default, length-set, length_push}
use Rattle.wasm_syntax.specs.declared.value.Value.{Value}
use Rattle.wasm_syntax.specs.declared.module.Module.{Module}
use Rattle.wasm_syntax.specs.declared.addresses.InstAddr.{InstAddr}
use Rattle.wasm_syntax.specs.declared.addresses.TableAddr.{TableAddr}
use Rattle.wasm_syntax.specs.declared.addresses.GlobalAddr.{GlobalAddr}
use Rattle.wasm_syntax.specs.declared.addresses.ElemAddr.{ElemAddr}
use Rattle.wasm_syntax.specs.declared.addresses.MemAddr.{MemAddr}
use Rattle.wasm_syntax.specs.declared.addresses.DataAddr.{DataAddr}
use Rattle.wasm_store.specs.declared.instances.FuncInst.{FuncInst}
use Rattle.wasm_store.specs.declared.instances.Instance.{Instance}
use Rattle.wasm_store.specs.declared.instances.GlobalInst.{GlobalInst}
use Rattle.wasm_store.specs.Store as st
use Rattle.wasm_store.specs.Memories.{no_memory, memory_at, with_new_memory, with_memory, with_new_data, with_data}
use Rattle.wasm_store.specs.Store.{Store, TableInst, MemInst, instance_at, table_at, global_at, element_at}
use Rattle.wasm_store.specs.Whole.{IsLater, Extends, Stays, InstanceStays, TableStays, MemoryStays, GlobalStays, SegmentStays, IsBlank}

-- Lists.

pub extends_same : {A : Type 0} (R : A → A → Type 0) → ((x : A) → R x x) → (xs : List A) → Extends R xs xs
extends_same R same xs = record { count = omega arith; each = λ k d h. same (slice_index_or xs k d) }

pub extends_push : {A : Type 0} (R : A → A → Type 0) → ((x : A) → R x x) → (xs : List A) (x : A) → Extends R xs (xs ++ x ∷ [])
extends_push {A} R same xs x = record {
  count = omega (arith, length_push xs x);
  each = λ k d h. subst (λ (y : A). R (slice_index_or xs k d) y) (sym (get_or_append_left xs (x ∷ []) d k h)) (same (slice_index_or xs k d));
}

pub extends_more : {A : Type 0} (R : A → A → Type 0) → ((x : A) → R x x) → (xs ys : List A) → Extends R xs (xs ++ ys)
extends_more {A} R same xs ys = record {
  count = simp length-append (omega arith);
  each = λ k d h. subst (λ (y : A). R (slice_index_or xs k d) y) (sym (get_or_append_left xs ys d k h)) (same (slice_index_or xs k d));
}

set_at_place : {A : Type 0} (R : A → A → Type 0) → ((x : A) → R x x) → (xs : List A) (i : ℕ) (x e : A) → R (slice_index_or xs i e) x → (k : ℕ) (d : A) → k < length xs → (k ≡ i) ⊎ (k ≡ i → ⊥) → R (slice_index_or xs k d) (slice_index_or (slice_set xs i x) k d)
set_at_place {A} R same xs i x e r k d h (inl same_place) =
    let here : slice_index_or (slice_set xs i x) k d ≡ x = subst (λ (j : ℕ). slice_index_or (slice_set xs j x) k d ≡ x) same_place (get_or-set_same xs k x d h) in
    let there : slice_index_or xs i e ≡ slice_index_or xs k d = ap (λ (j : ℕ). slice_index_or xs j e) (sym same_place) ∙ get_or_default xs k e d h in
    subst (λ (y : A). R (slice_index_or xs k d) y) (sym here) (subst (λ (y : A). R y x) there r)
set_at_place {A} R same xs i x e r k d h (inr other) =
    subst (λ (y : A). R (slice_index_or xs k d) y) (sym (get_or-set_other xs i k x d other)) (same (slice_index_or xs k d))

pub extends_set : {A : Type 0} (R : A → A → Type 0) → ((x : A) → R x x) → (xs : List A) (i : ℕ) (x e : A) → R (slice_index_or xs i e) x → Extends R xs (slice_set xs i x)
extends_set R same xs i x e r = record {
  count = omega (arith, length-set xs i x);
  each = λ k d h. set_at_place R same xs i x e r k d h (cases_eq k i);
}

-- What stays the same.

pub instance_same : (i : Instance) → InstanceStays i i
instance_same i = inr refl

pub table_same : (t : TableInst) → TableStays t t
table_same t = record { elem = refl; max = refl; size = omega arith }

pub memory_same : (m : MemInst) → MemoryStays m m
memory_same m = record { max = refl; size = omega arith }

pub global_same : (g : GlobalInst) → GlobalStays g g
global_same g = record { type_is = refl; value = λ h. refl }

pub segment_same : {A : Type 0} (xs : List A) → SegmentStays xs xs
segment_same xs = inl refl

pub stays_same : {A : Type 0} (x : A) → Stays x x
stays_same x = refl

-- Stores.

-- s and t, told by their lists
later_by : (s t : Store) → Extends Stays s.modules t.modules → Extends InstanceStays s.instances t.instances → Extends Stays s.functions t.functions → Extends TableStays s.tables t.tables → Extends MemoryStays s.memories t.memories → Extends GlobalStays s.globals t.globals → Extends SegmentStays s.elements t.elements → Extends SegmentStays s.datas t.datas → IsLater s t
later_by s t modules instances functions tables memories globals elements datas = record { modules = modules; instances = instances; functions = functions; tables = tables; memories = memories; globals = globals; elements = elements; datas = datas }

modules_same : (s : Store) → Extends Stays s.modules s.modules
modules_same s = extends_same Stays stays_same s.modules

instances_same : (s : Store) → Extends InstanceStays s.instances s.instances
instances_same s = extends_same InstanceStays instance_same s.instances

functions_same : (s : Store) → Extends Stays s.functions s.functions
functions_same s = extends_same Stays stays_same s.functions

tables_same : (s : Store) → Extends TableStays s.tables s.tables
tables_same s = extends_same TableStays table_same s.tables

memories_same : (s : Store) → Extends MemoryStays s.memories s.memories
memories_same s = extends_same MemoryStays memory_same s.memories

globals_same : (s : Store) → Extends GlobalStays s.globals s.globals
globals_same s = extends_same GlobalStays global_same s.globals

elements_same : (s : Store) → Extends SegmentStays s.elements s.elements
elements_same s = extends_same SegmentStays segment_same s.elements

datas_same : (s : Store) → Extends SegmentStays s.datas s.datas
datas_same s = extends_same SegmentStays segment_same s.datas

pub later_same : (s : Store) → IsLater s s
later_same s = later_by s s (modules_same s) (instances_same s) (functions_same s) (tables_same s) (memories_same s) (globals_same s) (elements_same s) (datas_same s)

pub later_refused : (s t : Store) → t ≡ s → IsLater s t
later_refused s t e = subst (λ (u : Store). IsLater s u) (sym e) (later_same s)

pub later_module : (m : Module) (s : Store) → IsLater s (st.with_module m s)
later_module m s = later_by s (st.with_module m s) (extends_push Stays stays_same s.modules m) (instances_same s) (functions_same s) (tables_same s) (memories_same s) (globals_same s) (elements_same s) (datas_same s)

pub later_new_instance : (i : Instance) (s : Store) → IsLater s (st.with_new_instance i s)
later_new_instance i s = later_by s (st.with_new_instance i s) (modules_same s) (extends_push InstanceStays instance_same s.instances i) (functions_same s) (tables_same s) (memories_same s) (globals_same s) (elements_same s) (datas_same s)

pub later_instance : (a : InstAddr) (i : Instance) (s : Store) → IsBlank (instance_at s a) → i.module ≡ (instance_at s a).module → IsLater s (st.with_instance a i s)
later_instance a i s blank same = later_by s (st.with_instance a i s) (modules_same s) (extends_set InstanceStays instance_same s.instances a.0 i (st.blank (record { 0 = 0 })) (inl (blank, same))) (functions_same s) (tables_same s) (memories_same s) (globals_same s) (elements_same s) (datas_same s)

pub later_function : (g : FuncInst) (s : Store) → IsLater s (st.with_function g s)
later_function g s = later_by s (st.with_function g s) (modules_same s) (instances_same s) (extends_push Stays stays_same s.functions g) (tables_same s) (memories_same s) (globals_same s) (elements_same s) (datas_same s)

pub later_new_table : (t : TableInst) (s : Store) → IsLater s (st.with_new_table t s)
later_new_table t s = later_by s (st.with_new_table t s) (modules_same s) (instances_same s) (functions_same s) (extends_push TableStays table_same s.tables t) (memories_same s) (globals_same s) (elements_same s) (datas_same s)

pub later_table : (a : TableAddr) (t : TableInst) (s : Store) → TableStays (table_at s a) t → IsLater s (st.with_table a t s)
later_table a t s stays = later_by s (st.with_table a t s) (modules_same s) (instances_same s) (functions_same s) (extends_set TableStays table_same s.tables a.0 t st.no_table stays) (memories_same s) (globals_same s) (elements_same s) (datas_same s)

pub later_new_global : (g : GlobalInst) (s : Store) → IsLater s (st.with_new_global g s)
later_new_global g s = later_by s (st.with_new_global g s) (modules_same s) (instances_same s) (functions_same s) (tables_same s) (memories_same s) (extends_push GlobalStays global_same s.globals g) (elements_same s) (datas_same s)

pub later_global : (a : GlobalAddr) (v : Value) (s : Store) → (global_at s a).ty.mutable ≡ true → IsLater s (st.with_global a (record { ty = (global_at s a).ty; value = v }) s)
later_global a v s mutable = later_by s (st.with_global a (record { ty = (global_at s a).ty; value = v }) s) (modules_same s) (instances_same s) (functions_same s) (tables_same s) (memories_same s) (extends_set GlobalStays global_same s.globals a.0 (record { ty = (global_at s a).ty; value = v }) st.no_global (record { type_is = refl; value = λ h. absurd (let e : true ≡ false = sym mutable ∙ h in cc) })) (elements_same s) (datas_same s)

pub later_new_element : (items : List Value) (s : Store) → IsLater s (st.with_new_element items s)
later_new_element items s = later_by s (st.with_new_element items s) (modules_same s) (instances_same s) (functions_same s) (tables_same s) (memories_same s) (globals_same s) (extends_push SegmentStays segment_same s.elements items) (datas_same s)

pub later_dropped : (a : ElemAddr) (s : Store) → IsLater s (st.with_element a [] s)
later_dropped a s = later_by s (st.with_element a [] s) (modules_same s) (instances_same s) (functions_same s) (tables_same s) (memories_same s) (globals_same s) (extends_set SegmentStays segment_same s.elements a.0 [] [] (inr refl)) (datas_same s)

-- Memories and data segments.

pub later_new_memory : (m : MemInst) (s : Store) → IsLater s (with_new_memory m s)
later_new_memory m s = later_by s (with_new_memory m s) (modules_same s) (instances_same s) (functions_same s) (tables_same s) (extends_push MemoryStays memory_same s.memories m) (globals_same s) (elements_same s) (datas_same s)

pub later_memory : (a : MemAddr) (m : MemInst) (s : Store) → MemoryStays (memory_at s a) m → IsLater s (with_memory a m s)
later_memory a m s stays = later_by s (with_memory a m s) (modules_same s) (instances_same s) (functions_same s) (tables_same s) (extends_set MemoryStays memory_same s.memories a.0 m no_memory stays) (globals_same s) (elements_same s) (datas_same s)

pub later_new_data : (bytes : List ℕ) (s : Store) → IsLater s (with_new_data bytes s)
later_new_data bytes s = later_by s (with_new_data bytes s) (modules_same s) (instances_same s) (functions_same s) (tables_same s) (memories_same s) (globals_same s) (elements_same s) (extends_push SegmentStays segment_same s.datas bytes)

pub later_data_dropped : (d : DataAddr) (s : Store) → IsLater s (with_data d [] s)
later_data_dropped d s = later_by s (with_data d [] s) (modules_same s) (instances_same s) (functions_same s) (tables_same s) (memories_same s) (globals_same s) (elements_same s) (extends_set SegmentStays segment_same s.datas d.0 [] [] (inr refl))
