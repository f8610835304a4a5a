-- What holds of a store holds later too, and each change keeps a store whole.
use Rattle.std.proofs.Common.{◌≡◌, ℕ, ◌<◌, ◌≤◌, List, [], length, sym, ap, ◌∙◌, subst, inl, inr, arith}
use Rattle.std.specs.Prelude.{Some}
use Rattle.std.specs.List.{All, AllZip}
use Rattle.std.proofs.lemmas.List.Elements.{All-push, All-set, All-weaker, All-nil}
use Rattle.wasm_syntax.specs.declared.types.ValType.{ValType}
use Rattle.wasm_syntax.specs.declared.types.Limit.{Limit}
use Rattle.wasm_syntax.specs.declared.types.TableType.{TableType}
use Rattle.wasm_syntax.specs.declared.types.GlobalType.{GlobalType}
use Rattle.wasm_syntax.specs.declared.value.Value.{Value}
use Rattle.wasm_syntax.specs.declared.value.Value.TheVariants as w
use Rattle.wasm_syntax.specs.declared.module.Module.{Module}
use Rattle.wasm_syntax.specs.declared.module.Elem.{Elem}
use Rattle.wasm_syntax.specs.declared.module.Data.{Data}
use Rattle.wasm_syntax.specs.declared.addresses.InstAddr.{InstAddr}
use Rattle.wasm_syntax.specs.declared.addresses.FuncAddr.{FuncAddr}
use Rattle.wasm_syntax.specs.declared.addresses.TableAddr.{TableAddr}
use Rattle.wasm_syntax.specs.declared.addresses.MemAddr.{MemAddr}
use Rattle.wasm_syntax.specs.declared.addresses.GlobalAddr.{GlobalAddr}
use Rattle.wasm_syntax.specs.declared.addresses.ElemAddr.{ElemAddr}
use Rattle.wasm_syntax.specs.declared.addresses.DataAddr.{DataAddr}
use Rattle.wasm_valid.specs.Spaces.{funcs_of, tables_of, mems_of, globals_of}
use Rattle.wasm_store.specs.declared.instances.FuncInst.{FuncInst}
use Rattle.wasm_store.specs.declared.instances.FuncInst.TheVariants as f
use Rattle.wasm_store.specs.declared.instances.Instance.{Instance}
use Rattle.wasm_store.specs.declared.instances.GlobalInst.{GlobalInst}
use Rattle.wasm_store.specs.Store as st
use Rattle.wasm_store.specs.Memories.{AreMemories}
use Rattle.wasm_store.specs.Store.{Store, TableInst, MemInst, module_at, instance_at, function_at, element_at, type_of}
use Rattle.wasm_store.specs.Whole.{IsWhole, IsLater, IsLive, HasType, AreTyped, AreLive, IsFunction, IsInstance, IsTable, IsGlobal, IsBlank, HasLists, InstanceStays, SegmentStays, own_type}
use Rattle.wasm_store.specs.Whole.{HasFunction, HasTable, HasMemory, HasGlobal, HasElement, HasData}
use Rattle.wasm_store.proofs.Later as later
use Rattle.wasm_store.proofs.Zips.{zip_weaker}

-- Values.

pub live_later : (s t : Store) → IsLater s t → (v : Value) → IsLive s v → IsLive t v
live_later s t l (w.I32 n) h = h
live_later s t l (w.I64 n) h = h
live_later s t l w.FuncNull h = h
live_later s t l (w.Func a) h = let more : length s.functions ≤ length t.functions = l.functions.count in omega arith
live_later s t l w.ExternNull h = h
live_later s t l (w.Extern a) h = h

pub typed_later : (s t : Store) → IsLater s t → (v : Value) (ty : ValType) → HasType s v ty → HasType t v ty
typed_later s t l v ty h = (h.0, live_later s t l v h.1)

pub values_later : (s t : Store) → IsLater s t → (vs : List Value) (ty : ValType) → AreTyped s vs ty → AreTyped t vs ty
values_later s t l vs ty h = All-weaker (λ (v : Value). HasType s v ty) (λ (v : Value). HasType t v ty) (λ v k. typed_later s t l v ty k) vs h

pub lives_later : (s t : Store) → IsLater s t → (vs : List Value) → AreLive s vs → AreLive t vs
lives_later s t l vs h = All-weaker (IsLive s) (IsLive t) (live_later s t l) vs h

-- Instances.

same_module : (i j : Instance) → InstanceStays i j → j.module ≡ i.module
same_module i j (inl h) = h.1
same_module i j (inr e) = ap (λ (k : Instance). k.module) e

pub function_later : (s t : Store) → IsLater s t → (m : Module) (a : FuncAddr) (x : ℕ) → HasFunction s m a x → HasFunction t m a x
function_later s t l m a x h =
    let more : length s.functions ≤ length t.functions = l.functions.count in
    let same : function_at t a ≡ function_at s a = l.functions.each a.0 st.no_function h.0 in
    (omega arith, h.1 ∙ ap (λ (g : FuncInst). Some (type_of g)) (sym same))

pub table_address_later : (s t : Store) → IsLater s t → (a : TableAddr) (ty : TableType) → HasTable s a ty → HasTable t a ty
table_address_later s t l a ty h =
    let more : length s.tables ≤ length t.tables = l.tables.count in
    (omega arith, (l.tables.each a.0 st.no_table h.0).elem ∙ h.1)

pub memory_later : (s t : Store) → IsLater s t → (a : MemAddr) (ty : Limit) → HasMemory s a ty → HasMemory t a ty
memory_later s t l a ty h = let more : length s.memories ≤ length t.memories = l.memories.count in omega arith

pub global_address_later : (s t : Store) → IsLater s t → (a : GlobalAddr) (ty : GlobalType) → HasGlobal s a ty → HasGlobal t a ty
global_address_later s t l a ty h =
    let more : length s.globals ≤ length t.globals = l.globals.count in
    (omega arith, (l.globals.each a.0 st.no_global h.0).type_is ∙ h.1)

segment_later : (s t : Store) → IsLater s t → (xs ys : List Value) (ty : ValType) → SegmentStays xs ys → AreTyped s xs ty → AreTyped t ys ty
segment_later s t l xs ys ty (inl e) h = subst (λ (vs : List Value). AreTyped t vs ty) (sym e) (values_later s t l xs ty h)
segment_later s t l xs ys ty (inr e) h = subst (λ (vs : List Value). AreTyped t vs ty) (sym e) (All-nil (λ (v : Value). HasType t v ty))

element_later : (s t : Store) → IsLater s t → (a : ElemAddr) (segment : Elem) → HasElement s a segment → HasElement t a segment
element_later s t l a segment h =
    let more : length s.elements ≤ length t.elements = l.elements.count in
    (omega arith, segment_later s t l (element_at s a) (element_at t a) segment.ty (l.elements.each a.0 [] h.0) h.1)

data_later : (s t : Store) → IsLater s t → (a : DataAddr) (segment : Data) → HasData s a segment → HasData t a segment
data_later s t l a segment h = let more : length s.datas ≤ length t.datas = l.datas.count in omega arith

-- the lists of an instance of the module m
record Lists (s : Store) (i : Instance) (m : Module) : Type 0 where
  funcs : AllZip (HasFunction s m) i.funcs (funcs_of m)
  tables : AllZip (HasTable s) i.tables (tables_of m)
  mems : AllZip (HasMemory s) i.mems (mems_of m)
  globals : AllZip (HasGlobal s) i.globals (globals_of m)
  elems : AllZip (HasElement s) i.elems m.elems
  datas : AllZip (HasData s) i.datas m.datas

parts_later : (s t : Store) → IsLater s t → (i : Instance) (m : Module) → Lists s i m → Lists t i m
parts_later s t l i m h = record {
  funcs = zip_weaker (HasFunction s m) (HasFunction t m) (function_later s t l m) i.funcs (funcs_of m) h.funcs;
  tables = zip_weaker (HasTable s) (HasTable t) (table_address_later s t l) i.tables (tables_of m) h.tables;
  mems = zip_weaker (HasMemory s) (HasMemory t) (memory_later s t l) i.mems (mems_of m) h.mems;
  globals = zip_weaker (HasGlobal s) (HasGlobal t) (global_address_later s t l) i.globals (globals_of m) h.globals;
  elems = zip_weaker (HasElement s) (HasElement t) (element_later s t l) i.elems m.elems h.elems;
  datas = zip_weaker (HasData s) (HasData t) (data_later s t l) i.datas m.datas h.datas;
}

pub lists_later : (s t : Store) → IsLater s t → (i : Instance) → HasLists s i → HasLists t i
lists_later s t l i h =
    let more : length s.modules ≤ length t.modules = l.modules.count in
    let live : i.module.0 < length s.modules = h.live in
    let same : module_at t i.module ≡ module_at s i.module = l.modules.each i.module.0 st.no_module live in
    let old : Lists s i (module_at s i.module) = record { funcs = h.funcs; tables = h.tables; mems = h.mems; globals = h.globals; elems = h.elems; datas = h.datas } in
    let now : Lists t i (module_at t i.module) = subst (λ (m : Module). Lists t i m) (sym same) (parts_later s t l i (module_at s i.module) old) in
    record { live = omega arith; funcs = now.funcs; tables = now.tables; mems = now.mems; globals = now.globals; elems = now.elems; datas = now.datas }

pub instance_later : (s t : Store) → IsLater s t → (i : Instance) → IsInstance s i → IsInstance t i
instance_later s t l i (live, inl blank) = let more : length s.modules ≤ length t.modules = l.modules.count in (omega arith, inl blank)
instance_later s t l i (live, inr lists) = let more : length s.modules ≤ length t.modules = l.modules.count in (omega arith, inr (lists_later s t l i lists))

-- The things of a store.

pub is_function_later : (s t : Store) → IsWhole s → IsLater s t → (g : FuncInst) → IsFunction s g → IsFunction t g
is_function_later s t whole l (f.Wasm ty i x) h =
    let more : length s.instances ≤ length t.instances = l.instances.count in
    let before : Instance = instance_at s i in
    let live : (instance_at s i).module.0 < length s.modules = (whole.instances i.0 (st.blank (record { 0 = 0 })) h.0).0 in
    let place : (instance_at t i).module ≡ (instance_at s i).module = same_module (instance_at s i) (instance_at t i) (l.instances.each i.0 (st.blank (record { 0 = 0 })) h.0) in
    let same : module_at t (instance_at t i).module ≡ module_at s (instance_at s i).module = ap (module_at t) place ∙ l.modules.each (instance_at s i).module.0 st.no_module live in
    (omega arith, ap (λ (m : Module). own_type m x) same ∙ h.1)
is_function_later s t whole l (f.Host ty callee) h = h
is_function_later s t whole l (f.Suspending ty callee) h = h

pub table_later : (s t : Store) → IsLater s t → (u : TableInst) → IsTable s u → IsTable t u
table_later s t l u h = record { type_is = h.type_is; few = h.few; typed = values_later s t l u.entries u.elem h.typed }

pub global_later : (s t : Store) → IsLater s t → (g : GlobalInst) → IsGlobal s g → IsGlobal t g
global_later s t l g h = typed_later s t l g.value g.ty.val h

-- what a store held holds in a later one
pub record Kept (s t : Store) : Type 0 where
  pub functions : All (IsFunction t) s.functions
  pub instances : All (IsInstance t) s.instances
  pub tables : All (IsTable t) s.tables
  pub globals : All (IsGlobal t) s.globals
  pub elements : All (AreLive t) s.elements

pub kept : (s t : Store) → IsWhole s → IsLater s t → Kept s t
kept s t whole l = record {
  functions = All-weaker (IsFunction s) (IsFunction t) (is_function_later s t whole l) s.functions whole.functions;
  instances = All-weaker (IsInstance s) (IsInstance t) (instance_later s t l) s.instances whole.instances;
  tables = All-weaker (IsTable s) (IsTable t) (table_later s t l) s.tables whole.tables;
  globals = All-weaker (IsGlobal s) (IsGlobal t) (global_later s t l) s.globals whole.globals;
  elements = All-weaker (AreLive s) (AreLive t) (lives_later s t l) s.elements whole.elements;
}

-- Each change.

pub whole_module : (m : Module) (s : Store) → IsWhole s → IsWhole (st.with_module m s)
whole_module m s whole = let k = kept s (st.with_module m s) whole (later.later_module m s) in
    record { functions = k.functions; instances = k.instances; tables = k.tables; globals = k.globals; elements = k.elements; memories = whole.memories }

pub whole_new_instance : (i : Instance) (s : Store) → IsWhole s → i.module.0 < length s.modules → IsBlank i → IsWhole (st.with_new_instance i s)
whole_new_instance i s whole live blank = let t : Store = st.with_new_instance i s in let k = kept s t whole (later.later_new_instance i s) in
    record { functions = k.functions; instances = All-push (IsInstance t) s.instances i k.instances (live, inl blank); tables = k.tables; globals = k.globals; elements = k.elements; memories = whole.memories }

pub whole_instance : (a : InstAddr) (i : Instance) (s : Store) → IsWhole s → IsBlank (instance_at s a) → i.module ≡ (instance_at s a).module → HasLists s i → IsWhole (st.with_instance a i s)
whole_instance a i s whole blank same lists = let t : Store = st.with_instance a i s in let l = later.later_instance a i s blank same in let k = kept s t whole l in
    record { functions = k.functions; instances = All-set (IsInstance t) s.instances a.0 i (instance_later s t l i (lists.live, inr lists)) k.instances; tables = k.tables; globals = k.globals; elements = k.elements; memories = whole.memories }

pub whole_function : (g : FuncInst) (s : Store) → IsWhole s → IsFunction s g → IsWhole (st.with_function g s)
whole_function g s whole fits = let t : Store = st.with_function g s in let l = later.later_function g s in let k = kept s t whole l in
    record { functions = All-push (IsFunction t) s.functions g k.functions (is_function_later s t whole l g fits); instances = k.instances; tables = k.tables; globals = k.globals; elements = k.elements; memories = whole.memories }

pub whole_new_table : (u : TableInst) (s : Store) → IsWhole s → IsTable s u → IsWhole (st.with_new_table u s)
whole_new_table u s whole fits = let t : Store = st.with_new_table u s in let l = later.later_new_table u s in let k = kept s t whole l in
    record { functions = k.functions; instances = k.instances; tables = All-push (IsTable t) s.tables u k.tables (table_later s t l u fits); globals = k.globals; elements = k.elements; memories = whole.memories }

pub whole_table : (a : TableAddr) (u : TableInst) (s : Store) → IsWhole s → IsLater s (st.with_table a u s) → IsTable s u → IsWhole (st.with_table a u s)
whole_table a u s whole l fits = let t : Store = st.with_table a u s in let k = kept s t whole l in
    record { functions = k.functions; instances = k.instances; tables = All-set (IsTable t) s.tables a.0 u (table_later s t l u fits) k.tables; globals = k.globals; elements = k.elements; memories = whole.memories }

pub whole_new_global : (g : GlobalInst) (s : Store) → IsWhole s → IsGlobal s g → IsWhole (st.with_new_global g s)
whole_new_global g s whole fits = let t : Store = st.with_new_global g s in let l = later.later_new_global g s in let k = kept s t whole l in
    record { functions = k.functions; instances = k.instances; tables = k.tables; globals = All-push (IsGlobal t) s.globals g k.globals (global_later s t l g fits); elements = k.elements; memories = whole.memories }

pub whole_global : (a : GlobalAddr) (g : GlobalInst) (s : Store) → IsWhole s → IsLater s (st.with_global a g s) → IsGlobal s g → IsWhole (st.with_global a g s)
whole_global a g s whole l fits = let t : Store = st.with_global a g s in let k = kept s t whole l in
    record { functions = k.functions; instances = k.instances; tables = k.tables; globals = All-set (IsGlobal t) s.globals a.0 g (global_later s t l g fits) k.globals; elements = k.elements; memories = whole.memories }

pub whole_new_element : (items : List Value) (s : Store) → IsWhole s → AreLive s items → IsWhole (st.with_new_element items s)
whole_new_element items s whole live = let t : Store = st.with_new_element items s in let l = later.later_new_element items s in let k = kept s t whole l in
    record { functions = k.functions; instances = k.instances; tables = k.tables; globals = k.globals; elements = All-push (AreLive t) s.elements items k.elements (lives_later s t l items live); memories = whole.memories }

pub whole_dropped : (a : ElemAddr) (s : Store) → IsWhole s → IsWhole (st.with_element a [] s)
whole_dropped a s whole = let t : Store = st.with_element a [] s in let k = kept s t whole (later.later_dropped a s) in
    record { functions = k.functions; instances = k.instances; tables = k.tables; globals = k.globals; elements = All-set (AreLive t) s.elements a.0 [] (All-nil (IsLive t)) k.elements; memories = whole.memories }

-- other memories, as the limits allow
pub whole_memories : (ms : List MemInst) (s : Store) → IsWhole s → IsLater s (record s { memories = ms }) → AreMemories ms → IsWhole (record s { memories = ms })
whole_memories ms s whole l fit = let k = kept s (record s { memories = ms }) whole l in
    record { functions = k.functions; instances = k.instances; tables = k.tables; globals = k.globals; elements = k.elements; memories = fit }

pub whole_datas : (ds : List (List ℕ)) (s : Store) → IsWhole s → IsLater s (record s { datas = ds }) → IsWhole (record s { datas = ds })
whole_datas ds s whole l = let k = kept s (record s { datas = ds }) whole l in
    record { functions = k.functions; instances = k.instances; tables = k.tables; globals = k.globals; elements = k.elements; memories = whole.memories }
