-- The laws of stores.
use Rattle.std.proofs.Common.{◌≡◌, ◌≤◌, List, length, ap, ◌∙◌, subst, inl, inr, arith}
use Rattle.std.specs.Prelude.{[], slice_index_or}
use Rattle.wasm_valid.specs.Spaces.{funcs_of, tables_of, mems_of, globals_of}
use Rattle.wasm_store.specs.declared.instances.Instance.{Instance}
use Rattle.wasm_store.specs.declared.instances.GlobalInst.{GlobalInst}
use Rattle.wasm_store.specs.Memories.{no_memory}
use Rattle.wasm_store.specs.Store as st
use Rattle.wasm_store.specs.Store.{Store, TableInst, MemInst, module_at, instance_at}
use Rattle.wasm_store.specs.Whole.{Extends, Stays, InstanceStays, TableStays, MemoryStays, GlobalStays, SegmentStays, IsBlank, HasFunction, HasTable, HasMemory, HasGlobal, HasElement, HasData}
use Rattle.wasm_store.specs.Laws.{LaterStays, ValuesStayTyped, ModulesStay, FunctionsStay, TablesStay, MemoriesStay, GlobalsStay, ElementsStay, DatasStay, InstancesStay, ListsStay, FunctionOfIndex, TableOfIndex, GlobalOfIndex, ElementOfIndex, MemoryOfIndex, DataOfIndex}
use Rattle.wasm_store.proofs.Keeps.{typed_later, lists_later}
use Rattle.wasm_store.proofs.Zips.{zip_at}

extends_through : {A : Type 0} (R : A → A → Type 0) → ((x y z : A) → R x y → R y z → R x z) → (xs ys zs : List A) → Extends R xs ys → Extends R ys zs → Extends R xs zs
extends_through R through xs ys zs h k = record {
  count = (let a : length xs ≤ length ys = h.count in let b : length ys ≤ length zs = k.count in omega arith);
  each = λ n d within. through (slice_index_or xs n d) (slice_index_or ys n d) (slice_index_or zs n d) (h.each n d within) (k.each n d (let a : length xs ≤ length ys = h.count in omega arith));
}

stays_through : {A : Type 0} (x y z : A) → Stays x y → Stays y z → Stays x z
stays_through x y z h k = k ∙ h

instance_through : (x y z : Instance) → InstanceStays x y → InstanceStays y z → InstanceStays x z
instance_through x y z (inl h) (inl k) = inl (h.0, k.1 ∙ h.1)
instance_through x y z (inl h) (inr k) = inl (h.0, ap (λ (i : Instance). i.module) k ∙ h.1)
instance_through x y z (inr h) k = subst (λ (i : Instance). InstanceStays i z) h k

table_through : (x y z : TableInst) → TableStays x y → TableStays y z → TableStays x z
table_through x y z h k = record {
  elem = k.elem ∙ h.elem;
  max = k.max ∙ h.max;
  size = (let a : length x.entries ≤ length y.entries = h.size in let b : length y.entries ≤ length z.entries = k.size in omega arith);
}

memory_through : (x y z : MemInst) → MemoryStays x y → MemoryStays y z → MemoryStays x z
memory_through x y z h k = record {
  max = k.max ∙ h.max;
  size = (let a : length x.bytes ≤ length y.bytes = h.size in let b : length y.bytes ≤ length z.bytes = k.size in omega arith);
}

global_through : (x y z : GlobalInst) → GlobalStays x y → GlobalStays y z → GlobalStays x z
global_through x y z h k = record {
  type_is = k.type_is ∙ h.type_is;
  value = λ fixed. k.value (ap (λ (g : GlobalInst). g.ty.mutable) (h.value fixed) ∙ fixed) ∙ h.value fixed;
}

segment_through : {A : Type 0} (xs ys zs : List A) → SegmentStays xs ys → SegmentStays ys zs → SegmentStays xs zs
segment_through xs ys zs (inl h) (inl k) = inl (k ∙ h)
segment_through xs ys zs (inr h) (inl k) = inr (k ∙ h)
segment_through xs ys zs h (inr k) = inr k

pub later_stays : LaterStays
later_stays s t u h k = record {
  modules = extends_through Stays stays_through s.modules t.modules u.modules h.modules k.modules;
  instances = extends_through InstanceStays instance_through s.instances t.instances u.instances h.instances k.instances;
  functions = extends_through Stays stays_through s.functions t.functions u.functions h.functions k.functions;
  tables = extends_through TableStays table_through s.tables t.tables u.tables h.tables k.tables;
  memories = extends_through MemoryStays memory_through s.memories t.memories u.memories h.memories k.memories;
  globals = extends_through GlobalStays global_through s.globals t.globals u.globals h.globals k.globals;
  elements = extends_through SegmentStays segment_through s.elements t.elements u.elements h.elements k.elements;
  datas = extends_through SegmentStays segment_through s.datas t.datas u.datas h.datas k.datas;
}

pub values_stay_typed : ValuesStayTyped
values_stay_typed s t v ty l h = typed_later s t l v ty h

pub modules_stay : ModulesStay
modules_stay s t a l h = (let more : length s.modules ≤ length t.modules = l.modules.count in omega arith, l.modules.each a.0 st.no_module h)

pub functions_stay : FunctionsStay
functions_stay s t a l h = (let more : length s.functions ≤ length t.functions = l.functions.count in omega arith, l.functions.each a.0 st.no_function h)

pub tables_stay : TablesStay
tables_stay s t a l h = (let more : length s.tables ≤ length t.tables = l.tables.count in omega arith, l.tables.each a.0 st.no_table h)

pub memories_stay : MemoriesStay
memories_stay s t a l h = (let more : length s.memories ≤ length t.memories = l.memories.count in omega arith, l.memories.each a.0 no_memory h)

pub globals_stay : GlobalsStay
globals_stay s t a l h = (let more : length s.globals ≤ length t.globals = l.globals.count in omega arith, l.globals.each a.0 st.no_global h)

pub elements_stay : ElementsStay
elements_stay s t a l h = (let more : length s.elements ≤ length t.elements = l.elements.count in omega arith, l.elements.each a.0 [] h)

pub datas_stay : DatasStay
datas_stay s t a l h = (let more : length s.datas ≤ length t.datas = l.datas.count in omega arith, l.datas.each a.0 [] h)

module_stays : (i j : Instance) → InstanceStays i j → j.module ≡ i.module
module_stays i j (inl h) = h.1
module_stays i j (inr e) = ap (λ (k : Instance). k.module) e

set_stays : (i j : Instance) → InstanceStays i j → (IsBlank i → ⊥) → j ≡ i
set_stays i j (inl h) set = absurd (set h.0)
set_stays i j (inr e) set = e

pub instances_stay : InstancesStay
instances_stay s t a l h =
    let stays = l.instances.each a.0 (st.blank (record { 0 = 0 })) h in
    (let more : length s.instances ≤ length t.instances = l.instances.count in omega arith, module_stays (instance_at s a) (instance_at t a) stays, set_stays (instance_at s a) (instance_at t a) stays)

pub lists_stay : ListsStay
lists_stay s t i l h = lists_later s t l i h

pub function_of_index : FunctionOfIndex
function_of_index s i k x h e = zip_at (HasFunction s (module_at s i.module)) i.funcs (funcs_of (module_at s i.module)) k x h.funcs e

pub table_of_index : TableOfIndex
table_of_index s i k ty h e = zip_at (HasTable s) i.tables (tables_of (module_at s i.module)) k ty h.tables e

pub global_of_index : GlobalOfIndex
global_of_index s i k ty h e = zip_at (HasGlobal s) i.globals (globals_of (module_at s i.module)) k ty h.globals e

pub element_of_index : ElementOfIndex
element_of_index s i k segment h e = zip_at (HasElement s) i.elems (module_at s i.module).elems k segment h.elems e

pub memory_of_index : MemoryOfIndex
memory_of_index s i k limit h e = zip_at (HasMemory s) i.mems (mems_of (module_at s i.module)) k limit h.mems e

pub data_of_index : DataOfIndex
data_of_index s i k segment h e = zip_at (HasData s) i.datas (module_at s i.module).datas k segment h.datas e
