-- A module's things in a store: the store is whole, and the instance has its lists.
use Rattle.std.proofs.Common.{◌≡◌, ℕ, ◌+◌, ◌<◌, ◌≤◌, List, [], ◌∷◌, ◌++◌, length, refl, sym, ap, ◌∙◌, subst, inr, arith}
use Rattle.std.specs.Prelude.{true, false, Bool, not, Option, Some, None, is_some, slice_get, slice_index_or, zero, suc, map, filter_map, option_map}
use Rattle.std.specs.List.{All, AllZip, list_all}
use Rattle.std.proofs.lemmas.List.{get_or_push, get_or-append-add, length_push}
use Rattle.std.proofs.lemmas.List.Elements.{All-append, All-push, All-map, All-nil, All-cons, All-weaker}
use Rattle.std.proofs.lemmas.Option.{slice_get_within, get_or_from_slice_get, slice_get-get_or, slice_get-map}
use Rattle.std.proofs.lemmas.Bool.{ltb-true}
use Rattle.wasm_syntax.specs.Blocks.{block_of}
use Rattle.wasm_syntax.specs.declared.types.ValType.{ValType}
use Rattle.wasm_syntax.specs.declared.types.ValType.TheVariants as v
use Rattle.wasm_syntax.specs.declared.types.FuncType.{FuncType}
use Rattle.wasm_syntax.specs.declared.types.TableType.{TableType}
use Rattle.wasm_syntax.specs.declared.types.GlobalType.{GlobalType}
use Rattle.wasm_syntax.specs.declared.instructions.BlockId.{BlockId}
use Rattle.wasm_syntax.specs.declared.instructions.Instr.{Instr}
use Rattle.wasm_syntax.specs.declared.instructions.Instr.TheVariants as i
use Rattle.wasm_syntax.specs.declared.module.Func.{Func}
use Rattle.wasm_syntax.specs.declared.module.Import.{Import}
use Rattle.wasm_syntax.specs.declared.module.GlobalDef.{GlobalDef}
use Rattle.wasm_syntax.specs.declared.module.Elem.{Elem}
use Rattle.wasm_syntax.specs.declared.module.Data.{Data}
use Rattle.wasm_syntax.specs.declared.module.Module.{Module}
use Rattle.wasm_syntax.specs.declared.value.Value.{Value}
use Rattle.wasm_syntax.specs.declared.addresses.ModuleAddr.{ModuleAddr}
use Rattle.wasm_syntax.specs.declared.addresses.InstAddr.{InstAddr}
use Rattle.wasm_syntax.specs.declared.addresses.FuncAddr.{FuncAddr}
use Rattle.wasm_syntax.specs.declared.addresses.GlobalAddr.{GlobalAddr}
use Rattle.wasm_valid.specs.Spaces.{then_, func_import, table_import, mem_import, funcs_of, imported_globals_of, func_type}
use Rattle.wasm_syntax.specs.ValueTypes.{is_element}
use Rattle.wasm_valid.specs.ModuleRules.{is_typed_module, type_exists, is_table, is_memory, is_type, constant_type, gives_one, is_constant, is_global, is_elem}
use Rattle.wasm_store.specs.declared.instances.Instance.{Instance}
use Rattle.wasm_store.specs.declared.instances.GlobalInst.{GlobalInst}
use Rattle.wasm_store.specs.Store.{Store, TableInst, new_table, module_at, instance_at, global_at, type_of, most_entries, blank, no_function, no_table, no_global}
use Rattle.wasm_store.specs.Whole.{IsWhole, IsLater, HasType, AreTyped, IsLive, AreLive, IsFunction, IsInstance, IsTable, IsGlobal, HasLists, HasFunction, HasTable, HasMemory, HasGlobal, HasElement, HasData, Stays, InstanceStays, TableStays, MemoryStays, GlobalStays, SegmentStays, own_type}
use Rattle.wasm_store.specs.Allocated.{fresh, func_addr, table_addr, mem_addr, global_addr, elem_addr, data_addr, instance_of, type_with, functions_of, null_of, tables_from, memories_from, globals_from, elements_from, new_global, new_items, constant, first_constant, value_of, allocated, AreImports, IsWithinLimits, IsAllocated, ModulesAreAllocated}
use Rattle.wasm_store.proofs.Later.{extends_more, instance_same, table_same, memory_same, global_same, segment_same, stays_same, extends_same}
use Rattle.wasm_store.proofs.Keeps.{Kept, kept, typed_later, function_later, table_address_later, memory_later, global_address_later}
use Rattle.raw_memory.specs.Bytes.{most_pages}
use Rattle.wasm_syntax.specs.declared.types.Limit.{Limit}
use Rattle.wasm_store.specs.Memories.{new_memory, IsMemory}
use Rattle.wasm_store.proofs.MemoryLaws.{new_is_memory}
use Rattle.wasm_store.proofs.TableLaws.{new_table_fits}
use Rattle.wasm_store.proofs.Zips.{zip_weaker, zip_append, zip_at}
use Rattle.wasm_store.proofs.Fresh.{zip_map, zip_fresh, within_behind, made_behind, made_within}
use Rattle.wasm_store.proofs.RuleLaws.{Rules, rules_typed, left_true, right_true, all_true, same_is, when_is, then_is, then_type}

-- Functions.

length_functions : (m : Module) (j : InstAddr) (x : ℕ) (gs : List Func) → length (functions_of m j x gs) ≡ length gs
length_functions m j x [] = refl
length_functions m j x (g ∷ gs) = ap suc (length_functions m j (suc x) gs)

type_at : (m : Module) (j : InstAddr) (x : ℕ) (gs : List Func) (k : ℕ) (g : Func) → slice_get gs k ≡ Some g → type_of (slice_index_or (functions_of m j x gs) k no_function) ≡ type_with m g.ty
type_at m j x [] k g e = absurd (let n : ◌≡◌ None (Some g) = e in cc)
type_at m j x (h ∷ gs) zero g e = let same : h ≡ g = cc in ap (λ (f : Func). type_with m f.ty) same
type_at m j x (h ∷ gs) (suc k) g e = type_at m j (suc x) gs k g e

type_is_there : (m : Module) (g : Func) → type_exists m g.ty ≡ true → slice_get m.types g.ty ≡ Some (type_with m g.ty)
type_is_there m g h = slice_get-get_or m.types g.ty (record { params = []; results = [] }) (ltb-true g.ty (length m.types) h)

test_at : {A : Type 0} (p : A → Bool) (xs : List A) (k : ℕ) (x : A) → list_all p xs ≡ true → slice_get xs k ≡ Some x → p x ≡ true
test_at p [] k x h e = absurd (let n : ◌≡◌ None (Some x) = e in cc)
test_at p (y ∷ xs) zero x h e = let same : y ≡ x = cc in subst (λ z. p z ≡ true) same (left_true (p y) (list_all p xs) h)
test_at p (y ∷ xs) (suc k) x h e = test_at p xs k x (right_true (p y) (list_all p xs) h) e

-- each of these functions is its module's own in the instance
functions_fit : (t : Store) (m : Module) (j : InstAddr) → j.0 < length t.instances → module_at t (instance_at t j).module ≡ m → (x : ℕ) (gs : List Func) → list_all (λ (g : Func). type_exists m g.ty) gs ≡ true → ((k : ℕ) → slice_get m.funcs (x + k) ≡ slice_get gs k) → All (IsFunction t) (functions_of m j x gs)
functions_fit t m j live same x [] h place = All-nil (IsFunction t)
functions_fit t m j live same x (g ∷ gs) h place =
    let here : slice_get m.funcs x ≡ Some g = subst (λ (n : ℕ). slice_get m.funcs n ≡ Some g) (let e : x + 0 ≡ x = omega arith in e) (place 0) in
    let own : own_type m x ≡ Some (type_with m g.ty) = ap (λ (o : Option Func). then_ o (λ (f : Func). slice_get m.types f.ty)) here ∙ type_is_there m g (left_true (type_exists m g.ty) (list_all (λ (f : Func). type_exists m f.ty) gs) h) in
    All-cons (IsFunction t) _ (functions_of m j (suc x) gs)
    (live, ap (λ (n : Module). own_type n x) same ∙ own)
    (functions_fit t m j live same (suc x) gs (right_true (type_exists m g.ty) (list_all (λ (f : Func). type_exists m f.ty) gs) h)
    (λ k. subst (λ (n : ℕ). slice_get m.funcs n ≡ slice_get gs k) (let e : x + suc k ≡ suc x + k = omega arith in e) (place (suc k))))

-- Tables.

null_typed : (t : Store) (ty : TableType) → is_table ty ≡ true → HasType t (null_of ty.elem) ty.elem
null_typed t ty h = null_of_elem ty.elem (left_true _ _ h)
  where
    null_of_elem : (elem : ValType) → is_element elem ≡ true → HasType t (null_of elem) elem
    null_of_elem v.I32 h = absurd (let e : false ≡ true = h in cc)
    null_of_elem v.I64 h = absurd (let e : false ≡ true = h in cc)
    null_of_elem v.FuncRef h = (refl, tt)
    null_of_elem v.ExternRef h = (refl, tt)

tables_fit : (t : Store) (tys : List TableType) → list_all is_table tys ≡ true → All (λ (ty : TableType). ty.limit.min ≤ most_entries) tys → All (IsTable t) (tables_from tys)
tables_fit t tys h few = All-map (IsTable t) (λ (ty : TableType). new_table ty (null_of ty.elem)) tys
    (λ k d within. new_table_fits t (slice_index_or tys k d) (null_of (slice_index_or tys k d).elem) (all_true is_table (λ ty. is_table ty ≡ true) (λ ty e. e) tys h k d within) (few k d within)
    (null_typed t (slice_index_or tys k d) (all_true is_table (λ ty. is_table ty ≡ true) (λ ty e. e) tys h k d within)))

memories_fit : (limits : List Limit) → list_all is_memory limits ≡ true → All (λ (limit : Limit). limit.min ≤ most_pages) limits → All IsMemory (memories_from limits)
memories_fit limits h few = All-map IsMemory new_memory limits
    (λ k d within. new_is_memory (slice_index_or limits k d) (all_true is_memory (λ limit. is_memory limit ≡ true) (λ limit e. e) limits h k d within) (few k d within))

-- Constant expressions.

module _ (s t : Store) (m : Module) (funcs : List FuncAddr) (globals : List GlobalAddr) (l : IsLater s t) (whole : IsWhole s) (fs : AllZip (HasFunction t m) funcs (funcs_of m)) (gs : AllZip (HasGlobal s) globals (imported_globals_of m)) where
  abbrev values : List Value
  values = map (λ (g : GlobalAddr). (global_at s g).value) globals

  of_function : (ty : ValType) (x : ℕ) → is_type ty (constant_type m (i.RefFunc x)) ≡ true → HasType t (constant funcs values (i.RefFunc x)) ty
  of_function ty x h =
      let test = when_is ty v.FuncRef (is_some (func_type m x)) h in
      let index = then_is (slice_get (funcs_of m) x) (slice_get m.types) test.0 in
      let named = zip_at (HasFunction t m) funcs (funcs_of m) x index.0 fs index.1 in
      let same : slice_index_or funcs x (func_addr 0) ≡ named.0 = get_or_from_slice_get funcs x named.0 (func_addr 0) named.1 in
      (test.1, subst (λ (a : FuncAddr). a.0 < length t.functions) (sym same) named.2.0)

  of_global : (ty : ValType) (x : ℕ) → is_type ty (constant_type m (i.GlobalGet x)) ≡ true → HasType t (constant funcs values (i.GlobalGet x)) ty
  of_global ty x h =
      let test = then_type ty (slice_get (imported_globals_of m) x) (λ (g : GlobalType). not g.mutable) (λ (g : GlobalType). g.val) h in
      let named = zip_at (HasGlobal s) globals (imported_globals_of m) x test.0 gs test.1 in
      let at_place : slice_get values x ≡ Some (global_at s named.0).value = slice_get-map (λ (g : GlobalAddr). (global_at s g).value) globals x ∙ ap (option_map (λ (g : GlobalAddr). (global_at s g).value)) named.1 in
      let same = get_or_from_slice_get values x (global_at s named.0).value (constant funcs values (i.RefNull v.FuncRef)) at_place in
      let has : HasType s (global_at s named.0).value (global_at s named.0).ty.val = whole.globals named.0.0 no_global named.2.0 in
      let typed : HasType t (global_at s named.0).value ty = subst (λ (u : ValType). HasType t (global_at s named.0).value u) (ap (λ (g : GlobalType). g.val) named.2.1 ∙ test.2) (typed_later s t l (global_at s named.0).value (global_at s named.0).ty.val has) in
      subst (λ (u : Value). HasType t u ty) (sym same) typed

  of_null : (ty u : ValType) → is_type ty (constant_type m (i.RefNull u)) ≡ true → HasType t (null_of u) ty
  of_null ty v.I32 h = absurd (let e : false ≡ true = h in cc)
  of_null ty v.I64 h = absurd (let e : false ≡ true = h in cc)
  of_null ty v.FuncRef h = (same_is ty v.FuncRef h, tt)
  of_null ty v.ExternRef h = (same_is ty v.ExternRef h, tt)

  of_instruction : (ty : ValType) (j : Instr) → is_type ty (constant_type m j) ≡ true → HasType t (constant funcs values j) ty
  of_instruction ty (i.I32Const n) h = (same_is ty v.I32 h, tt)
  of_instruction ty (i.I64Const n) h = (same_is ty v.I64 h, tt)
  of_instruction ty (i.RefNull u) h = of_null ty u h
  of_instruction ty (i.RefFunc x) h = of_function ty x h
  of_instruction ty (i.GlobalGet x) h = of_global ty x h
  of_instruction ty j h = absurd (let e : false ≡ true = h in cc)

  pub of_expression : (ty : ValType) (js : List Instr) → gives_one m ty js ≡ true → HasType t (first_constant funcs values js) ty
  of_expression ty [] h = absurd (let e : false ≡ true = h in cc)
  of_expression ty (j ∷ []) h = of_instruction ty j h
  of_expression ty (j ∷ k ∷ js) h = absurd (let e : false ≡ true = h in cc)

-- The whole.

module _ (s : Store) (a : ModuleAddr) (imports : Instance) (whole : IsWhole s) (live : a.0 < length s.modules) (typed : is_typed_module (module_at s a) ≡ true) (limits : IsWithinLimits s (module_at s a)) (given : AreImports s (module_at s a) imports) where
  abbrev m : Module
  m = module_at s a

  abbrev t : Store
  t = allocated a imports s

  abbrev inst : Instance
  inst = instance_of a imports s

  abbrev value : BlockId → Value
  value = value_of a imports s

  all_later : IsLater s t
  all_later = record {
    modules = extends_same Stays stays_same s.modules;
    instances = extends_more InstanceStays instance_same s.instances (inst ∷ []);
    functions = extends_more Stays stays_same s.functions (functions_of m (record { 0 = length s.instances }) 0 m.funcs);
    tables = extends_more TableStays table_same s.tables (tables_from m.tables);
    memories = extends_more MemoryStays memory_same s.memories (memories_from m.mems);
    globals = extends_more GlobalStays global_same s.globals (globals_from value m.globals);
    elements = extends_more SegmentStays segment_same s.elements (elements_from value m.elems);
    datas = extends_more SegmentStays segment_same s.datas (map (λ (segment : Data). segment.bytes) m.datas);
  }

  rules : Rules m
  rules = rules_typed m typed

  new_function : (k : ℕ) (g : Func) → slice_get m.funcs k ≡ Some g → HasFunction t m (func_addr (length s.functions + k)) g.ty
  new_function k g e =
      let count : length (functions_of m (record { 0 = length s.instances }) 0 m.funcs) ≡ length m.funcs = length_functions m (record { 0 = length s.instances }) 0 m.funcs in
      let within : k < length m.funcs = slice_get_within m.funcs k g e in
      let there = get_or-append-add s.functions (functions_of m (record { 0 = length s.instances }) 0 m.funcs) k no_function in (
        within_behind s.functions (functions_of m (record { 0 = length s.instances }) 0 m.funcs) k (omega (arith, count)),
        type_is_there m g (test_at (λ (f : Func). type_exists m f.ty) m.funcs k g rules.types e)
            ∙ ap (λ (ty : FuncType). Some ty) (sym (ap type_of there ∙ type_at m (record { 0 = length s.instances }) 0 m.funcs k g e)),
      )

  funcs_zip : AllZip (HasFunction t m) inst.funcs (funcs_of m)
  funcs_zip =
      zip_append (HasFunction t m) imports.funcs (filter_map (λ (import : Import). func_import import.desc) m.imports) (fresh func_addr (length s.functions) (length m.funcs)) (map (λ (g : Func). g.ty) m.funcs)
      (zip_weaker (HasFunction s m) (HasFunction t m) (function_later s t all_later m) imports.funcs (filter_map (λ (import : Import). func_import import.desc) m.imports) given.funcs)
      (zip_map (HasFunction t m) (λ (g : Func). g.ty) (fresh func_addr (length s.functions) (length m.funcs)) m.funcs
      (zip_fresh (λ (b : FuncAddr) (g : Func). HasFunction t m b g.ty) func_addr (length s.functions) m.funcs new_function))

  expression : (ty : ValType) (id : BlockId) → is_constant m ty id ≡ true → HasType t (value id) ty
  expression ty id h = of_expression s t m inst.funcs imports.globals all_later whole funcs_zip given.globals ty (block_of m id) h

  items_typed : (segment : Elem) → is_elem m segment ≡ true → AreTyped t (map value segment.items) segment.ty
  items_typed segment h =
      All-map (λ (u : Value). HasType t u segment.ty) value segment.items
      (all_true (is_constant m segment.ty) (λ (id : BlockId). HasType t (value id) segment.ty) (expression segment.ty) segment.items (right_true _ _ (left_true _ _ h)))

  lists : HasLists t inst
  lists = record {
    live = live;
    funcs = funcs_zip;
    tables =
        zip_append (HasTable t) imports.tables (filter_map (λ (import : Import). table_import import.desc) m.imports) (fresh table_addr (length s.tables) (length m.tables)) m.tables
        (zip_weaker (HasTable s) (HasTable t) (table_address_later s t all_later) imports.tables (filter_map (λ (import : Import). table_import import.desc) m.imports) given.tables)
        (zip_fresh (HasTable t) table_addr (length s.tables) m.tables
        (λ k ty e. (
          made_within (λ (u : TableType). new_table u (null_of u.elem)) s.tables m.tables k ty e,
          ap (λ (u : TableInst). u.elem) (made_behind (λ (u : TableType). new_table u (null_of u.elem)) s.tables m.tables k ty no_table e),
        )));
    mems =
        zip_append (HasMemory t) imports.mems (filter_map (λ (import : Import). mem_import import.desc) m.imports) (fresh mem_addr (length s.memories) (length m.mems)) m.mems
        (zip_weaker (HasMemory s) (HasMemory t) (memory_later s t all_later) imports.mems (filter_map (λ (import : Import). mem_import import.desc) m.imports) given.mems)
        (zip_fresh (HasMemory t) mem_addr (length s.memories) m.mems (λ k limit e. made_within new_memory s.memories m.mems k limit e));
    globals =
        zip_append (HasGlobal t) imports.globals (imported_globals_of m) (fresh global_addr (length s.globals) (length m.globals)) (map (λ (g : GlobalDef). g.ty) m.globals)
        (zip_weaker (HasGlobal s) (HasGlobal t) (global_address_later s t all_later) imports.globals (imported_globals_of m) given.globals)
        (zip_map (HasGlobal t) (λ (g : GlobalDef). g.ty) (fresh global_addr (length s.globals) (length m.globals)) m.globals
        (zip_fresh (λ (b : GlobalAddr) (g : GlobalDef). HasGlobal t b g.ty) global_addr (length s.globals) m.globals
        (λ k g e. (made_within (new_global value) s.globals m.globals k g e, ap (λ (h : GlobalInst). h.ty) (made_behind (new_global value) s.globals m.globals k g no_global e)))));
    elems =
        zip_fresh (HasElement t) elem_addr (length s.elements) m.elems
        (λ k segment e. (
          made_within (new_items value) s.elements m.elems k segment e,
          subst (λ (vs : List Value). AreTyped t vs segment.ty) (sym (made_behind (new_items value) s.elements m.elems k segment [] e))
              (items_typed segment (test_at (is_elem m) m.elems k segment rules.elems e)),
        ));
    datas =
        zip_fresh (HasData t) data_addr (length s.datas) m.datas (λ k segment e. made_within (λ (data_ : Data). data_.bytes) s.datas m.datas k segment e);
  }

  all_whole : IsWhole t
  all_whole =
      let keep : Kept s t = kept s t whole all_later in
      let count : length (s.instances ++ inst ∷ []) ≡ length s.instances + 1 = length_push s.instances inst in
      let there : instance_at t (record { 0 = length s.instances }) ≡ inst = get_or_push s.instances inst (blank (record { 0 = 0 })) (length s.instances) refl in
      record {
        functions = All-append (IsFunction t) s.functions (functions_of m (record { 0 = length s.instances }) 0 m.funcs) keep.functions
            (functions_fit t m (record { 0 = length s.instances }) (omega (arith, count)) (ap (λ (i : Instance). module_at t i.module) there) 0 m.funcs rules.types
            (λ k. ap (slice_get m.funcs) (let e : 0 + k ≡ k = omega arith in e)));
        memories = record { each = All-append IsMemory s.memories (memories_from m.mems) whole.memories.each (memories_fit m.mems rules.mems limits.mems); pages = limits.pages };
        instances = All-push (IsInstance t) s.instances inst keep.instances (live, inr lists);
        tables = All-append (IsTable t) s.tables (tables_from m.tables) keep.tables (tables_fit t m.tables rules.tables limits.tables);
        globals = All-append (IsGlobal t) s.globals (globals_from value m.globals) keep.globals
            (All-map (IsGlobal t) (new_global value) m.globals
            (all_true (is_global m) (λ (g : GlobalDef). IsGlobal t (new_global value g)) (λ g h. expression g.ty.val g.init h) m.globals rules.globals));
        elements = All-append (AreLive t) s.elements (elements_from value m.elems) keep.elements
            (All-map (AreLive t) (new_items value) m.elems
            (all_true (is_elem m) (λ (segment : Elem). AreLive t (new_items value segment))
            (λ segment h. All-weaker (λ (u : Value). HasType t u segment.ty) (IsLive t) (λ u k. k.1) (map value segment.items) (items_typed segment h)) m.elems rules.elems));
      }

  pub is_allocated : IsAllocated s a imports
  is_allocated = record { later = all_later; whole = all_whole; lists = lists }

pub modules_are_allocated : ModulesAreAllocated
modules_are_allocated s a imports whole live typed limits given = is_allocated s a imports whole live typed limits given
