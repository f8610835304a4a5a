-- An instance that was made: what it is, and that it is sound.
use Rattle.std.proofs.Common.{◌≡◌, ℕ, ◌≤◌, true, false, List, [], ◌∷◌, ◌++◌, length, map, refl, sym, ap, subst, ◌∙◌, arith}
use Rattle.std.specs.Prelude.{Option, Some, None, filter_map, nat_le, slice_get, slice_index_or}
use Rattle.std.specs.List.{AllZip, list_all}
use Rattle.std.specs.Option.{option_map, option_map_or}
use Rattle.std.proofs.lemmas.Bool.{leb-true}
use Rattle.std.proofs.lemmas.List.{nil_from_length}
use Rattle.std.proofs.lemmas.Option.{get_or_from_slice_get, slice_get-map}
use Rattle.host_values.specs.Heaps.{next_object}
use Rattle.host_values.specs.Objects.{HostHeap}
use Rattle.host_values.specs.declared.kinds.Kind.TheVariants as kinds
use Rattle.host_values.specs.declared.values.ErrorClass.{ErrorClass}
use Rattle.host_values.specs.declared.values.ObjId.{ObjId}
use Rattle.iface_caches.specs.Caches as named
use Rattle.iface_caches.specs.Caches.{HostCaches, heap_with_object_of, with_object_of}
use Rattle.wasm_syntax.specs.declared.addresses.FuncAddr.{FuncAddr}
use Rattle.wasm_syntax.specs.declared.addresses.InstAddr.{InstAddr}
use Rattle.wasm_syntax.specs.declared.addresses.ModuleAddr.{ModuleAddr}
use Rattle.wasm_syntax.specs.declared.module.Export.{Export}
use Rattle.wasm_syntax.specs.declared.module.ExportDesc.{ExportDesc}
use Rattle.wasm_syntax.specs.declared.module.ExportDesc.TheVariants as exports
use Rattle.wasm_syntax.specs.declared.module.Func.{Func}
use Rattle.wasm_syntax.specs.declared.module.Import.{Import}
use Rattle.wasm_syntax.specs.declared.module.Module.{Module}
use Rattle.wasm_syntax.specs.declared.types.FuncType.{FuncType}
use Rattle.wasm_valid.specs.Spaces.{func_import, funcs_of, global_import, mem_import, table_import, then_}
use Rattle.wasm_store.specs.Allocated.{AreImports, func_addr, instance_of}
use Rattle.wasm_store.specs.Laws.{FunctionOfIndex, FunctionsStay, ModulesStay}
use Rattle.wasm_store.specs.Store.{Store, blank, function_at, instance_at, module_at, type_of}
use Rattle.wasm_store.specs.Whole.{AllHaveCode, HasFunction, HasGlobal, HasLists, HasMemory, HasTable, IsLater}
use Rattle.wasm_store.specs.declared.instances.Instance.{Instance}
use Rattle.wasm_instance.specs.declared.modules.Instantiated.{Instantiated}
use Rattle.wasm_instance.specs.declared.modules.Instantiated.TheVariants as ends
use Rattle.wasm_instance.specs.Laws.{IsStart, IsThere}
use Rattle.iface_objects.specs.Instances.{Exported, exported, external_address, external_kind, heap_with_exports, instance_object, started_as, with_exports}
use Rattle.iface_objects.specs.Instances as spec
use Rattle.iface_objects.specs.Modules.{is_of_numbers, is_taken, is_taken_desc, is_taken_export, is_taken_function}
use Rattle.iface_objects.specs.Realms.{throws, with_store}
use Rattle.iface_objects.specs.Sound.{AreNamed, CanStart, IsCallable, IsLoaded, IsSound}
use Rattle.iface_objects.specs.declared.realm.Realm.{Realm}
use Rattle.iface_objects.proofs.Exporting.{left_true, right_true}
use Rattle.iface_objects.proofs.Sounds.{IsSafe}
use Rattle.iface_objects.proofs.Stays.{IsFine, fine_exports, fine_function, fine_instance, named_later, named_more, named_object}

-- ---- modules that are taken

no_imports : (m : Module) → is_taken m ≡ true → m.imports ≡ []
no_imports m taken = nil_from_length m.imports (zero_of (length m.imports) (leb-true (length m.imports) 0 (left_true (nat_le (length m.imports) 0) (list_all (is_taken_export m) m.exports) taken)))
  where
    zero_of : (n : ℕ) → n ≤ 0 → n ≡ 0
    zero_of n h = omega (arith, h)

-- so nothing is asked
pub asks_nothing : (s : Store) (m : Module) (a : ModuleAddr) → is_taken m ≡ true → AreImports s m (blank a)
asks_nothing s m a taken =
    let none_are : [] ≡ m.imports = sym (no_imports m taken) in
    record {
      funcs = subst (λ (imports : List Import). AllZip (HasFunction s m) [] (filter_map (λ (import : Import). func_import import.desc) imports)) none_are tt;
      tables = subst (λ (imports : List Import). AllZip (HasTable s) [] (filter_map (λ (import : Import). table_import import.desc) imports)) none_are tt;
      mems = subst (λ (imports : List Import). AllZip (HasMemory s) [] (filter_map (λ (import : Import). mem_import import.desc) imports)) none_are tt;
      globals = subst (λ (imports : List Import). AllZip (HasGlobal s) [] (filter_map (λ (import : Import). global_import import.desc) imports)) none_are tt;
    }

-- the index of a function's type
record Typed (m : Module) (x : ℕ) : Type 0 where
  pub ty : FuncType
  pub index : ℕ
  pub named : slice_get (map (λ (g : Func). g.ty) m.funcs) x ≡ Some index
  pub type_is : slice_get m.types index ≡ Some ty
  pub numbers : is_of_numbers ty ≡ true

typed_at : (m : Module) (x : ℕ) (g : Func) → slice_get m.funcs x ≡ Some g → (o : Option FuncType) → slice_get m.types g.ty ≡ o → option_map_or is_of_numbers o false ≡ true → Typed m x
typed_at m x g e None f h = absurd (let n : false ≡ true = h in cc)
typed_at m x g e (Some t) f h = record { ty = t; index = g.ty; named = slice_get-map (λ (g : Func). g.ty) m.funcs x ∙ ap (option_map (λ (g : Func). g.ty)) e; type_is = f; numbers = h }

typed_by : (m : Module) (x : ℕ) (o : Option Func) → slice_get m.funcs x ≡ o → option_map_or is_of_numbers (then_ o (λ (g : Func). slice_get m.types g.ty)) false ≡ true → Typed m x
typed_by m x None e h = absurd (let n : false ≡ true = h in cc)
typed_by m x (Some g) e h = typed_at m x g e (slice_get m.types g.ty) refl h

typed : (m : Module) (x : ℕ) → is_taken_function m x ≡ true → Typed m x
typed m x taken = typed_by m x (slice_get m.funcs x) refl taken

in_space : (m : Module) (x y : ℕ) → m.imports ≡ [] → slice_get (map (λ (g : Func). g.ty) m.funcs) x ≡ Some y → slice_get (funcs_of m) x ≡ Some y
in_space m x y none_are e = ap (λ (imports : List Import). slice_get (filter_map (λ (import : Import). func_import import.desc) imports ++ map (λ (g : Func). g.ty) m.funcs) x) none_are ∙ e

-- ---- an instance of one of them

module _ (law : FunctionOfIndex) (t : Store) (i : Instance) (lists : HasLists t i) (none_are : (module_at t i.module).imports ≡ []) where
  callable : (x : ℕ) → is_taken_function (module_at t i.module) x ≡ true → IsCallable t (slice_index_or i.funcs x (func_addr 0))
  callable x taken =
      let found : Typed (module_at t i.module) x = typed (module_at t i.module) x taken in
      let there = law t i x found.index lists (in_space (module_at t i.module) x found.index none_are found.named) in
      let same : there.0 ≡ slice_index_or i.funcs x (func_addr 0) = sym (get_or_from_slice_get i.funcs x there.0 (func_addr 0) there.1) in
      let one : found.ty ≡ type_of (function_at t there.0) = some_once found.ty (type_of (function_at t there.0)) (sym found.type_is ∙ there.2.1) in
      subst (IsCallable t) same (record { live = there.2.0; numbers = sym (ap is_of_numbers one) ∙ found.numbers })
    where
      some_once : (g h : FuncType) → ◌≡◌ (Some g) (Some h) → g ≡ h
      some_once g h e = let same : g ≡ h = cc in same

  fine_desc : (d : ExportDesc) → is_taken_desc (module_at t i.module) d ≡ true → IsFine t (named.kind_of (external_kind d) (external_address i d))
  fine_desc (exports.Func x) taken = fine_function t (slice_index_or i.funcs x (func_addr 0)) (callable x taken)
  fine_desc (exports.Table x) taken = absurd (let n : false ≡ true = taken in cc)
  fine_desc (exports.Mem x) taken = absurd (let n : false ≡ true = taken in cc)
  fine_desc (exports.Global x) taken = absurd (let n : false ≡ true = taken in cc)

  -- the objects of its exports
  named_exports : (xs : List Export) (h : HostHeap) (c : HostCaches) → list_all (is_taken_export (module_at t i.module)) xs ≡ true → AreNamed h t → AreNamed (exported i xs h c).heap t
  named_exports [] h c taken before = before
  named_exports (x ∷ xs) h c taken before =
      named_exports xs _ _ (right_true (is_taken_export (module_at t i.module) x) _ taken)
      (named_object h c t (external_kind x.desc) (external_address i x.desc) before (fine_desc x.desc (left_true _ (list_all (is_taken_export (module_at t i.module)) xs) taken)))

  named_instance : (xs : List Export) (h : HostHeap) (c : HostCaches) → list_all (is_taken_export (module_at t i.module)) xs ≡ true → AreNamed h t → AreNamed (spec.heap_with_instance (exported i xs h c)) t
  named_instance xs h c taken before =
      let e : Exported = exported i xs h c in
      named_more (heap_with_exports e) t (kinds.Instance (next_object e.heap)) []
      (named_more e.heap t kinds.Exports e.pairs (named_exports xs h c taken before) (fine_exports t)) (fine_instance t (next_object e.heap))

-- ---- what an instantiation comes to

can_start : (t : Store) (o : Option FuncAddr) → IsStart t o → (x : ObjId) → CanStart t (started_as x o)
can_start t None starts x = tt
can_start t (Some f) starts x = starts

module _ (law : FunctionOfIndex) (functions : FunctionsStay) (modules : ModulesStay) (r : Realm) (sound : IsSound r) (a : ModuleAddr) (loaded : IsLoaded r.store a)
    (t : Store) (later : IsLater r.store t) (code : AllHaveCode r.store → AllHaveCode t) where
  abbrev old : Module
  old = module_at r.store a

  abbrev made : Instance
  made = instance_of a (blank a) r.store

  pub safe_ready : HasLists t made → (start : Option FuncAddr) → IsStart t start → IsSafe r.store (with_exports r t (exported made old.exports r.heap r.caches) start)
  safe_ready lists start starts =
      let stays : module_at t a ≡ old = (modules r.store t a later loaded.live).1 in
      let none_are : (module_at t a).imports ≡ [] = ap (λ (m : Module). m.imports) stays ∙ no_imports old loaded.taken in
      let all_taken : list_all (is_taken_export old) old.exports ≡ true = right_true (nat_le (length old.imports) 0) _ loaded.taken in
      let taken : list_all (is_taken_export (module_at t a)) old.exports ≡ true = ap (λ (m : Module). list_all (is_taken_export m) old.exports) stays ∙ all_taken in
      record {
        sound = record {
          code = code sound.code;
          named = named_instance law t made lists none_are old.exports r.heap r.caches taken (named_later functions modules r.heap r.store t later sound.named);
        };
        starts = can_start t start starts (instance_object (exported made old.exports r.heap r.caches));
        later = later;
      }

  pub safe_trapped : (class : ErrorClass) → IsSafe r.store (throws (with_store t r) class)
  safe_trapped class = record {
    sound = record { code = code sound.code; named = named_later functions modules r.heap r.store t later sound.named };
    starts = tt;
    later = later;
  }

-- ---- after the call

-- the objects of an instance that is ready
pub ready_sound : FunctionOfIndex → FunctionsStay → ModulesStay → (r : Realm) → IsSound r → (a : ModuleAddr) → IsLoaded r.store a
    → (t : Store) → IsLater r.store t → (AllHaveCode r.store → AllHaveCode t) → (imports : Instance) → imports ≡ blank a
    → (x : Instantiated) (at : InstAddr) (start : Option FuncAddr) → x ≡ ends.Ready at start → IsThere a imports r.store x t
    → (i : Instance) → i ≡ instance_at t at → (m : Module) → m ≡ module_at t a → (h : HostHeap) (c : HostCaches)
    → h ≡ spec.heap_with_instance (exported i m.exports r.heap r.caches) → IsSound (record { heap = h; store = t; caches = c; buffers = r.buffers; files = r.files })
ready_sound law functions modules r sound a loaded t later code imports blank_is x at start ready there i i_is m m_is h c heap_is =
    let here : IsThere a (blank a) r.store (ends.Ready at start) t = subst (λ y. IsThere a (blank a) r.store y t) ready (subst (λ j. IsThere a j r.store x t) blank_is there) in
    let lists : HasLists t (instance_of a (blank a) r.store) = subst (HasLists t) here.1 here.2 in
    let same_instance : i ≡ instance_of a (blank a) r.store = i_is ∙ here.1 in
    let same_module : m ≡ module_at r.store a = m_is ∙ (modules r.store t a later loaded.live).1 in
    let same_heap : h ≡ spec.heap_with_instance (exported (instance_of a (blank a) r.store) (module_at r.store a).exports r.heap r.caches) =
    heap_is ∙ ap (λ (j : Instance). spec.heap_with_instance (exported j m.exports r.heap r.caches)) same_instance
    ∙ ap (λ (n : Module). spec.heap_with_instance (exported (instance_of a (blank a) r.store) n.exports r.heap r.caches)) same_module in
    let safe = safe_ready law functions modules r sound a loaded t later code lists start here.3 in
    record { code = code sound.code; named = subst (λ (g : HostHeap). AreNamed g t) (sym same_heap) safe.sound.named }
