-- Instances of modules (WebAssembly JavaScript Interface, section 5.2, in the profile).
use Rattle.std.specs.Prelude.{ℕ, Bool, true, false, List, [], ◌∷◌, Option, Some, None, if◌then◌else◌, slice_index_or}
use Rattle.host_values.specs.Heaps.{kind_at, next_object, with_object}
use Rattle.host_values.specs.KeyOrder.{key_of_text}
use Rattle.host_values.specs.Objects.{HostHeap}
use Rattle.host_values.specs.declared.keys.Key.{Key}
use Rattle.host_values.specs.declared.kinds.Kind.{Kind}
use Rattle.host_values.specs.declared.kinds.Kind.TheVariants as kinds
use Rattle.host_values.specs.declared.values.ErrorClass.TheVariants as errors
use Rattle.host_values.specs.declared.values.HostValue.{HostValue}
use Rattle.host_values.specs.declared.values.HostValue.TheVariants as values
use Rattle.host_values.specs.declared.values.ObjId.{ObjId}
use Rattle.iface_caches.specs.Caches.{HostCaches, object_of, with_object_of, heap_with_object_of}
use Rattle.iface_caches.specs.declared.external.ExternalKind.{ExternalKind}
use Rattle.iface_caches.specs.declared.external.ExternalKind.TheVariants as external
use Rattle.wasm_syntax.specs.declared.addresses.FuncAddr.{FuncAddr}
use Rattle.wasm_syntax.specs.declared.addresses.ModuleAddr.{ModuleAddr}
use Rattle.wasm_syntax.specs.declared.module.Export.{Export}
use Rattle.wasm_syntax.specs.declared.module.ExportDesc.{ExportDesc}
use Rattle.wasm_syntax.specs.declared.module.ExportDesc.TheVariants as exports
use Rattle.wasm_syntax.specs.declared.module.Module.{Module}
use Rattle.wasm_store.specs.Allocated.{func_addr, table_addr, mem_addr, global_addr, instance_of}
use Rattle.wasm_store.specs.Store.{Store, blank, module_at}
use Rattle.wasm_store.specs.declared.instances.Instance.{Instance}
use Rattle.wasm_instance.specs.Instantiation.{Outcome, goes, traps, instantiated, is_within_limits, start_of}
use Rattle.iface_objects.specs.declared.answer.Answer.{Answer}
use Rattle.iface_objects.specs.declared.answer.Answer.TheVariants as answers
use Rattle.iface_objects.specs.declared.realm.Realm.{Realm}
use Rattle.iface_objects.specs.Realms.{Answered, throws, with_store}

-- the second argument, undefined where there is none
abbrev pub second_argument : List HostValue → HostValue
second_argument (v ∷ w ∷ rest) = w
second_argument _ = values.Undefined

-- ---- the exports object

-- what an export of an instance names
abbrev pub external_kind : ExportDesc → ExternalKind
external_kind (exports.Func x) = external.Function
external_kind (exports.Table x) = external.Table
external_kind (exports.Mem x) = external.Memory
external_kind (exports.Global x) = external.Global

abbrev pub external_address : Instance → ExportDesc → ℕ
external_address i (exports.Func x) = (slice_index_or i.funcs x (func_addr 0)).0
external_address i (exports.Table x) = (slice_index_or i.tables x (table_addr 0)).0
external_address i (exports.Mem x) = (slice_index_or i.mems x (mem_addr 0)).0
external_address i (exports.Global x) = (slice_index_or i.globals x (global_addr 0)).0

-- the properties of an exports object, with the heap and the caches in which each export has its object
pub record Exported : Type 0 where
  pub heap : HostHeap
  pub caches : HostCaches
  pub pairs : List (Key × HostValue)

-- one export's property
abbrev pub property_of : Instance → Export → HostHeap → HostCaches → Key × HostValue
property_of i x h c = (key_of_text x.name, values.Object (object_of h c (external_kind x.desc) (external_address i x.desc)))

abbrev pub exported_before : Key × HostValue → Exported → Exported
exported_before p e = record { heap = e.heap; caches = e.caches; pairs = p ∷ e.pairs }

-- the exports from one on, in the order of the module
abbrev pub exported : Instance → List Export → HostHeap → HostCaches → Exported
exported i [] h c = record { heap = h; caches = c; pairs = [] }
exported i (x ∷ xs) h c =
    exported_before (property_of i x h c)
    (exported i xs (heap_with_object_of c (external_kind x.desc) (external_address i x.desc) h) (with_object_of h (external_kind x.desc) (external_address i x.desc) c))

-- ---- `new WebAssembly.Instance(module, imports)`

-- the heap with the exports object and then the instance object
abbrev pub heap_with_exports : Exported → HostHeap
heap_with_exports e = with_object e.heap kinds.Exports e.pairs

abbrev pub instance_object : Exported → ObjId
instance_object e = next_object (heap_with_exports e)

abbrev pub heap_with_instance : Exported → HostHeap
heap_with_instance e = with_object (heap_with_exports e) (kinds.Instance (next_object e.heap)) []

-- the instance object, or the start function that is to run first
abbrev pub started_as : ObjId → Option FuncAddr → Answer
started_as o None = answers.Value (values.Object o)
started_as o (Some f) = answers.Start f o

abbrev pub with_exports : Realm → Store → Exported → Option FuncAddr → Answered
with_exports r s e start =
    record { realm = record r { heap = heap_with_instance e; store = s; caches = e.caches }; answer = started_as (instance_object e) start }

-- once the segments are written; a trap in one of them is an exception, and what was written before stays
abbrev pub instance_made : Realm → Module → Instance → Outcome → Answered
instance_made r m i (goes s) = with_exports r s (exported i m.exports r.heap r.caches) (start_of m i)
instance_made r m i (traps cause s) = throws (with_store s r) errors.RuntimeError

-- an instance of a module without imports
abbrev pub instance_of_module : Realm → ModuleAddr → Answered
instance_of_module r a =
    if is_within_limits r.store (module_at r.store a)
    then instance_made r (module_at r.store a) (instance_of a (blank a) r.store) (instantiated a (blank a) r.store)
    else throws r errors.RangeError

-- whether a value may stand for the imports
abbrev pub is_imports : HostValue → Bool
is_imports values.Undefined = true
is_imports (values.Object o) = true
is_imports _ = false

abbrev pub instance_with : Realm → ModuleAddr → HostValue → Answered
instance_with r a imports = if is_imports imports then instance_of_module r a else throws r errors.TypeError

abbrev pub instance_of_kind : Realm → HostValue → Option Kind → Answered
instance_of_kind r imports (Some (kinds.Module a)) = instance_with r a imports
instance_of_kind r imports _ = throws r errors.TypeError

abbrev pub instance_constructed : Realm → HostValue → HostValue → Answered
instance_constructed r (values.Object o) imports = instance_of_kind r imports (kind_at r.heap o)
instance_constructed r _ imports = throws r errors.TypeError
