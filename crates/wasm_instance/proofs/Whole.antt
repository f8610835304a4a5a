-- A module's things are added kind by kind, and then it is allocated.
use Rattle.std.proofs.Common.{◌≡◌, ℕ, ◌+◌, ◌<◌, ◌≤◌, List, [], ◌∷◌, ◌++◌, length, sym, ap, ◌∙◌, subst, arith, length-append}
use Rattle.std.specs.Prelude.{true, slice_set, map, nat_le}
use Rattle.std.specs.List.{All, list_all}
use Rattle.std.proofs.Math.Seq.{set-append_seam}
use Rattle.std.proofs.lemmas.List.{get_or-append-add}
use Rattle.std.proofs.lemmas.List.Elements.{All-weaker, All-nil, All-cons}
use Rattle.std.proofs.lemmas.Bool.{leb-true}
use Rattle.wasm_syntax.specs.declared.types.TableType.{TableType}
use Rattle.wasm_syntax.specs.declared.types.Limit.{Limit}
use Rattle.wasm_syntax.specs.declared.module.Module.{Module}
use Rattle.wasm_syntax.specs.declared.instructions.BlockId.{BlockId}
use Rattle.wasm_syntax.specs.declared.value.Value.{Value}
use Rattle.wasm_syntax.specs.declared.value.Value.TheVariants as w
use Rattle.wasm_syntax.specs.declared.addresses.ModuleAddr.{ModuleAddr}
use Rattle.wasm_syntax.specs.declared.addresses.InstAddr.{InstAddr}
use Rattle.wasm_syntax.specs.declared.addresses.FuncAddr.{FuncAddr}
use Rattle.wasm_syntax.specs.declared.addresses.TableAddr.{TableAddr}
use Rattle.wasm_syntax.specs.declared.addresses.MemAddr.{MemAddr}
use Rattle.wasm_syntax.specs.declared.addresses.GlobalAddr.{GlobalAddr}
use Rattle.wasm_syntax.specs.declared.addresses.ElemAddr.{ElemAddr}
use Rattle.wasm_syntax.specs.declared.addresses.DataAddr.{DataAddr}
use Rattle.raw_memory.specs.Bytes.{most_pages}
use Rattle.wasm_valid.specs.ModuleRules.{is_typed_module}
use Rattle.wasm_store.specs.declared.instances.Instance.{Instance}
use Rattle.wasm_store.specs.declared.instances.GlobalInst.{GlobalInst}
use Rattle.wasm_store.specs.Store.{Store, module_at, global_at, blank, most_entries, with_new_instance, with_instance}
use Rattle.wasm_store.specs.Whole.{IsWhole, IsLive, AreLive, IsGlobal, HasLists}
use Rattle.wasm_store.specs.Allocated.{fresh, func_addr, table_addr, mem_addr, global_addr, elem_addr, data_addr, instance_of, value_of, functions_of, tables_from, memories_from, globals_from, elements_from, allocated, AreImports, IsAllocated, ModulesAreAllocated}
use Rattle.wasm_instance.specs.Instantiation.{are_tables_within, are_memories_within, is_within_limits}
use Rattle.wasm_instance.specs.Parts.{with_functions, with_tables, with_memories, with_globals, with_elements, with_datas, datas_from, constant_in}
use Rattle.wasm_instance.proofs.Rules.{left_true, right_true}

-- What is behind a list.

pub all_behind : {A : Type 0} (P : A → Type 0) (xs ys : List A) → All P (xs ++ ys) → All P ys
all_behind {A} P xs ys h k d within =
    subst P (get_or-append-add xs ys k d) (h (length xs + k) d (let count : length (xs ++ ys) ≡ length xs + length ys = length-append xs ys in omega (arith, count, within)))

live_more : (s t : Store) → length s.functions ≤ length t.functions → (v : Value) → IsLive s v → IsLive t v
live_more s t l (w.I32 n) h = h
live_more s t l (w.I64 n) h = h
live_more s t l w.FuncNull h = h
live_more s t l (w.Func a) h = omega (arith, l, h)
live_more s t l w.ExternNull h = h
live_more s t l (w.Extern a) h = h

pub globals_fit_more : (s t : Store) (gs : List GlobalInst) → length s.functions ≤ length t.functions → All (IsGlobal s) gs → All (IsGlobal t) gs
globals_fit_more s t gs l h = All-weaker (IsGlobal s) (IsGlobal t) (λ g k. (k.0, live_more s t l g.value k.1)) gs h

pub items_live_more : (s t : Store) (items : List Value) → length s.functions ≤ length t.functions → AreLive s items → AreLive t items
items_live_more s t items l h = All-weaker (IsLive s) (IsLive t) (live_more s t l) items h

pub elements_fit_more : (s t : Store) (es : List (List Value)) → length s.functions ≤ length t.functions → All (AreLive s) es → All (AreLive t) es
elements_fit_more s t es l h = All-weaker (AreLive s) (AreLive t) (λ items k. items_live_more s t items l k) es h

-- Within the limits.

few_tables : (tys : List TableType) → list_all (λ (ty : TableType). nat_le ty.limit.min most_entries) tys ≡ true → All (λ (ty : TableType). ty.limit.min ≤ most_entries) tys
few_tables [] h = All-nil (λ (ty : TableType). ty.limit.min ≤ most_entries)
few_tables (ty ∷ tys) h =
    All-cons (λ (ty : TableType). ty.limit.min ≤ most_entries) ty tys (leb-true ty.limit.min most_entries (left_true _ _ h)) (few_tables tys (right_true _ _ h))

few_memories : (limits : List Limit) → list_all (λ (limit : Limit). nat_le limit.min most_pages) limits ≡ true → All (λ (limit : Limit). limit.min ≤ most_pages) limits
few_memories [] h = All-nil (λ (limit : Limit). limit.min ≤ most_pages)
few_memories (limit ∷ limits) h =
    All-cons (λ (limit : Limit). limit.min ≤ most_pages) limit limits (leb-true limit.min most_pages (left_true _ _ h)) (few_memories limits (right_true _ _ h))

pub allocates : ModulesAreAllocated → (s : Store) (a : ModuleAddr) (imports : Instance) → IsWhole s → a.0 < length s.modules → is_typed_module (module_at s a) ≡ true → is_within_limits s (module_at s a) ≡ true → AreImports s (module_at s a) imports → IsAllocated s a imports
allocates law s a imports whole live typed limits given =
    let tables = left_true (are_tables_within (module_at s a).tables) _ limits in
    let memories = right_true (are_tables_within (module_at s a).tables) _ limits in
    law s a imports whole live typed
    (record {
      tables = few_tables (module_at s a).tables tables;
      mems = few_memories (module_at s a).mems (left_true _ _ memories);
      pages = leb-true _ _ (right_true _ _ memories);
    }) given

pub memories_within : (s : Store) (m : Module) → is_within_limits s m ≡ true → are_memories_within s m.mems ≡ true
memories_within s m limits = right_true (are_tables_within m.tables) _ limits

-- The stores on the way.

module _ (s : Store) (a : ModuleAddr) (imports : Instance) where
  abbrev m : Module
  m = module_at s a

  abbrev inst : Instance
  inst = instance_of a imports s

  abbrev next : InstAddr
  next = record { 0 = length s.instances }

  abbrev value : BlockId → Value
  value = value_of a imports s

  abbrev values_of : List Value
  values_of = map (λ (g : GlobalAddr). (global_at s g).value) imports.globals

  abbrev pub with_blank : Store
  with_blank = with_new_instance (blank a) s

  abbrev pub with_own_functions : Store
  with_own_functions = with_functions (functions_of m next 0 m.funcs) with_blank

  abbrev pub with_own_tables : Store
  with_own_tables = with_tables (tables_from m.tables) with_own_functions

  abbrev pub with_own_memories : Store
  with_own_memories = with_memories (memories_from m.mems) with_own_tables

  abbrev pub with_own_globals : Store
  with_own_globals = with_globals (globals_from value m.globals) with_own_memories

  abbrev pub with_own_elements : Store
  with_own_elements = with_elements (elements_from value m.elems) with_own_globals

  abbrev pub with_all : Store
  with_all = with_datas (datas_from m.datas) with_own_elements

  -- each step leads to the next store
  pub functions_there : (t u : Store) (i : InstAddr) → i.0 ≡ length s.instances → t ≡ with_blank → u ≡ with_functions (functions_of (module_at t a) i 0 (module_at t a).funcs) t → u ≡ with_own_functions
  functions_there t u i first e made =
      made ∙ ap (λ (x : Store). with_functions (functions_of (module_at x a) i 0 (module_at x a).funcs) x) e
      ∙ ap (λ (n : ℕ). with_functions (functions_of m (record { 0 = n }) 0 m.funcs) with_blank) first

  pub tables_there : (t u : Store) → t ≡ with_own_functions → u ≡ with_tables (tables_from (module_at t a).tables) t → u ≡ with_own_tables
  tables_there t u e made = made ∙ ap (λ (x : Store). with_tables (tables_from (module_at x a).tables) x) e

  pub memories_there : (t u : Store) → t ≡ with_own_tables → u ≡ with_memories (memories_from (module_at t a).mems) t → u ≡ with_own_memories
  memories_there t u e made = made ∙ ap (λ (x : Store). with_memories (memories_from (module_at x a).mems) x) e

  pub globals_there : (t u : Store) (funcs : List FuncAddr) (values : List Value) → funcs ≡ inst.funcs → values ≡ values_of → t ≡ with_own_memories → u ≡ with_globals (globals_from (constant_in (module_at t a) funcs values) (module_at t a).globals) t → u ≡ with_own_globals
  globals_there t u funcs values fs vs e made =
      made ∙ ap (λ (x : Store). with_globals (globals_from (constant_in (module_at x a) funcs values) (module_at x a).globals) x) e
      ∙ ap (λ (gs : List FuncAddr). with_globals (globals_from (constant_in m gs values) m.globals) with_own_memories) fs
      ∙ ap (λ (us : List Value). with_globals (globals_from (constant_in m inst.funcs us) m.globals) with_own_memories) vs

  pub elements_there : (t u : Store) (funcs : List FuncAddr) (values : List Value) → funcs ≡ inst.funcs → values ≡ values_of → t ≡ with_own_globals → u ≡ with_elements (elements_from (constant_in (module_at t a) funcs values) (module_at t a).elems) t → u ≡ with_own_elements
  elements_there t u funcs values fs vs e made =
      made ∙ ap (λ (x : Store). with_elements (elements_from (constant_in (module_at x a) funcs values) (module_at x a).elems) x) e
      ∙ ap (λ (gs : List FuncAddr). with_elements (elements_from (constant_in m gs values) m.elems) with_own_globals) fs
      ∙ ap (λ (us : List Value). with_elements (elements_from (constant_in m inst.funcs us) m.elems) with_own_globals) vs

  pub datas_there : (t u : Store) → t ≡ with_own_elements → u ≡ with_datas (datas_from (module_at t a).datas) t → u ≡ with_all
  datas_there t u e made = made ∙ ap (λ (x : Store). with_datas (datas_from (module_at x a).datas) x) e

  -- the limits hold until the memories are added
  pub memories_ready : is_within_limits s m ≡ true → (t : Store) → t ≡ with_own_tables → are_memories_within t (module_at t a).mems ≡ true
  memories_ready limits t e = subst (λ (x : Store). are_memories_within x (module_at x a).mems ≡ true) (sym e) (memories_within s m limits)

  -- what the steps ask
  pub globals_ready : IsAllocated s a imports → (t : Store) (funcs : List FuncAddr) (values : List Value) → funcs ≡ inst.funcs → values ≡ values_of → t ≡ with_own_memories → All (IsGlobal t) (globals_from (constant_in (module_at t a) funcs values) (module_at t a).globals)
  globals_ready made t funcs values fs vs e =
      let there : All (IsGlobal with_own_memories) (globals_from value m.globals) =
      globals_fit_more (allocated a imports s) with_own_memories (globals_from value m.globals) (omega arith)
      (all_behind (IsGlobal (allocated a imports s)) s.globals (globals_from value m.globals) made.whole.globals) in
      subst (λ (x : Store). All (IsGlobal x) (globals_from (constant_in (module_at x a) funcs values) (module_at x a).globals)) (sym e)
      (subst (λ (gs : List FuncAddr). All (IsGlobal with_own_memories) (globals_from (constant_in m gs values) m.globals)) (sym fs)
      (subst (λ (us : List Value). All (IsGlobal with_own_memories) (globals_from (constant_in m inst.funcs us) m.globals)) (sym vs) there))

  pub elements_ready : IsAllocated s a imports → (t : Store) (funcs : List FuncAddr) (values : List Value) → funcs ≡ inst.funcs → values ≡ values_of → t ≡ with_own_globals → All (AreLive t) (elements_from (constant_in (module_at t a) funcs values) (module_at t a).elems)
  elements_ready made t funcs values fs vs e =
      let there : All (AreLive with_own_globals) (elements_from value m.elems) =
      elements_fit_more (allocated a imports s) with_own_globals (elements_from value m.elems) (omega arith)
      (all_behind (AreLive (allocated a imports s)) s.elements (elements_from value m.elems) made.whole.elements) in
      subst (λ (x : Store). All (AreLive x) (elements_from (constant_in (module_at x a) funcs values) (module_at x a).elems)) (sym e)
      (subst (λ (gs : List FuncAddr). All (AreLive with_own_globals) (elements_from (constant_in m gs values) m.elems)) (sym fs)
      (subst (λ (us : List Value). All (AreLive with_own_globals) (elements_from (constant_in m inst.funcs us) m.elems)) (sym vs) there))

  -- the lists of the instance
  pub funcs_there : (t : Store) (given funcs : List FuncAddr) → given ≡ imports.funcs → t ≡ with_blank → funcs ≡ given ++ fresh func_addr (length t.functions) (length (module_at t a).funcs) → funcs ≡ inst.funcs
  funcs_there t given funcs g e made =
      made ∙ ap (λ (us : List FuncAddr). us ++ fresh func_addr (length t.functions) (length (module_at t a).funcs)) g
      ∙ ap (λ (x : Store). imports.funcs ++ fresh func_addr (length x.functions) (length (module_at x a).funcs)) e

  pub tables_listed : (t : Store) (given tables : List TableAddr) → given ≡ imports.tables → t ≡ with_own_functions → tables ≡ given ++ fresh table_addr (length t.tables) (length (module_at t a).tables) → tables ≡ inst.tables
  tables_listed t given tables g e made =
      made ∙ ap (λ (us : List TableAddr). us ++ fresh table_addr (length t.tables) (length (module_at t a).tables)) g
      ∙ ap (λ (x : Store). imports.tables ++ fresh table_addr (length x.tables) (length (module_at x a).tables)) e

  pub mems_listed : (t : Store) (given mems : List MemAddr) → given ≡ imports.mems → t ≡ with_own_tables → mems ≡ given ++ fresh mem_addr (length t.memories) (length (module_at t a).mems) → mems ≡ inst.mems
  mems_listed t given mems g e made =
      made ∙ ap (λ (us : List MemAddr). us ++ fresh mem_addr (length t.memories) (length (module_at t a).mems)) g
      ∙ ap (λ (x : Store). imports.mems ++ fresh mem_addr (length x.memories) (length (module_at x a).mems)) e

  pub globals_listed : (t : Store) (given globals : List GlobalAddr) → given ≡ imports.globals → t ≡ with_own_memories → globals ≡ given ++ fresh global_addr (length t.globals) (length (module_at t a).globals) → globals ≡ inst.globals
  globals_listed t given globals g e made =
      made ∙ ap (λ (us : List GlobalAddr). us ++ fresh global_addr (length t.globals) (length (module_at t a).globals)) g
      ∙ ap (λ (x : Store). imports.globals ++ fresh global_addr (length x.globals) (length (module_at x a).globals)) e

  pub elems_listed : (t : Store) (given elems : List ElemAddr) → given ≡ [] → t ≡ with_own_globals → elems ≡ given ++ fresh elem_addr (length t.elements) (length (module_at t a).elems) → elems ≡ inst.elems
  elems_listed t given elems g e made =
      made ∙ ap (λ (us : List ElemAddr). us ++ fresh elem_addr (length t.elements) (length (module_at t a).elems)) g
      ∙ ap (λ (x : Store). fresh elem_addr (length x.elements) (length (module_at x a).elems)) e

  pub datas_listed : (t : Store) (given datas : List DataAddr) → given ≡ [] → t ≡ with_own_elements → datas ≡ given ++ fresh data_addr (length t.datas) (length (module_at t a).datas) → datas ≡ inst.datas
  datas_listed t given datas g e made =
      made ∙ ap (λ (us : List DataAddr). us ++ fresh data_addr (length t.datas) (length (module_at t a).datas)) g
      ∙ ap (λ (x : Store). fresh data_addr (length x.datas) (length (module_at x a).datas)) e

  pub listed_there : (funcs : List FuncAddr) (tables : List TableAddr) (mems : List MemAddr) (globals : List GlobalAddr) (elems : List ElemAddr) (datas : List DataAddr) → funcs ≡ inst.funcs → tables ≡ inst.tables → mems ≡ inst.mems → globals ≡ inst.globals → elems ≡ inst.elems → datas ≡ inst.datas → ◌≡◌ {A = Instance} (record { «module» = a; funcs = funcs; tables = tables; mems = mems; globals = globals; elems = elems; datas = datas }) inst
  listed_there funcs tables mems globals elems datas fs ts ms gs es ds =
      ap (λ (us : List FuncAddr). record inst { funcs = us; tables = tables; mems = mems; globals = globals; elems = elems; datas = datas }) fs
      ∙ ap (λ (us : List TableAddr). record inst { tables = us; mems = mems; globals = globals; elems = elems; datas = datas }) ts
      ∙ ap (λ (us : List MemAddr). record inst { mems = us; globals = globals; elems = elems; datas = datas }) ms
      ∙ ap (λ (us : List GlobalAddr). record inst { globals = us; elems = elems; datas = datas }) gs
      ∙ ap (λ (us : List ElemAddr). record inst { elems = us; datas = datas }) es ∙ ap (λ (us : List DataAddr). record inst { datas = us }) ds

  pub lists_there : IsAllocated s a imports → (t : Store) (i : Instance) → t ≡ with_all → i ≡ inst → HasLists t i
  lists_there made t i e same =
      let there : HasLists with_all inst = record {
        live = made.lists.live;
        funcs = made.lists.funcs;
        tables = made.lists.tables;
        mems = made.lists.mems;
        globals = made.lists.globals;
        elems = made.lists.elems;
        datas = made.lists.datas;
      } in
      subst (λ (x : Store). HasLists x i) (sym e) (subst (λ (j : Instance). HasLists with_all j) (sym same) there)

  pub allocated_there : (t u : Store) (i : InstAddr) (lists : Instance) → i.0 ≡ length s.instances → lists ≡ inst → t ≡ with_all → u ≡ with_instance i lists t → u ≡ allocated a imports s
  allocated_there t u i lists first same e made =
      made ∙ ap (λ (x : Store). with_instance i lists x) e ∙ ap (λ (j : Instance). with_instance i j with_all) same
      ∙ ap (λ (is : List Instance). record with_all { instances = is })
      (ap (λ (n : ℕ). slice_set (s.instances ++ blank a ∷ []) n inst) first ∙ set-append_seam s.instances (blank a) [] inst)
