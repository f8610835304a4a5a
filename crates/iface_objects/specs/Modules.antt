-- Files as buffers, and buffers as modules (WebAssembly JavaScript Interface, sections 5 and 5.1, in the profile).
use Rattle.std.specs.Prelude.{ℕ, Bool, true, false, ◌&&◌, nat_le, List, [], ◌∷◌, ◌++◌, length, Option, Some, None, slice_get, if◌then◌else◌}
use Rattle.std.specs.List.{list_all}
use Rattle.std.specs.Option.{option_map_or}
use Rattle.std.specs.Str.{bytes_eq}
use Rattle.embed_base.specs.declared.outside.OutsideKind.{OutsideKind}
use Rattle.embed_base.specs.declared.outside.OutsideKind.TheVariants as outside
use Rattle.host_values.specs.Heaps.{kind_at, next_object, with_object}
use Rattle.host_values.specs.declared.kinds.Kind.{Kind}
use Rattle.host_values.specs.declared.kinds.Kind.TheVariants as kinds
use Rattle.host_values.specs.declared.values.ErrorClass.TheVariants as errors
use Rattle.host_values.specs.declared.values.HostValue.{HostValue}
use Rattle.host_values.specs.declared.values.HostValue.TheVariants as values
use Rattle.wasm_syntax.specs.declared.types.ValType.{ValType}
use Rattle.wasm_syntax.specs.declared.types.ValType.TheVariants as types
use Rattle.wasm_syntax.specs.declared.types.FuncType.{FuncType}
use Rattle.wasm_syntax.specs.declared.module.Export.{Export}
use Rattle.wasm_syntax.specs.declared.module.ExportDesc.{ExportDesc}
use Rattle.wasm_syntax.specs.declared.module.ExportDesc.TheVariants as exports
use Rattle.wasm_syntax.specs.declared.module.Module.{Module}
use Rattle.wasm_grammar.specs.declared.built.Foreign.{Foreign}
use Rattle.wasm_grammar.specs.declared.built.Foreign.TheVariants as foreign
use Rattle.wasm_load.specs.Loading.{Loaded, valid, no_module, left_out, invalid}
use Rattle.wasm_store.specs.Store.{with_module}
use Rattle.wasm_store.specs.Whole.{own_type}
use Rattle.iface_objects.specs.declared.answer.Answer.TheVariants as answers
use Rattle.iface_objects.specs.declared.file.ModuleFile.{ModuleFile}
use Rattle.iface_objects.specs.declared.realm.Realm.{Realm}
use Rattle.iface_objects.specs.Loading.{Loading}
use Rattle.iface_objects.specs.Realms.{Answered, gives, throws, refuses, lacks}

-- the first argument, undefined where there is none
abbrev pub first_argument : List HostValue → HostValue
first_argument [] = values.Undefined
first_argument (v ∷ rest) = v

-- ---- `readbuffer(name)`

-- the bytes of the file with a name
abbrev pub file_named : List ModuleFile → List ℕ → Option (List ℕ)
file_named [] name = None
file_named (f ∷ fs) name = if bytes_eq f.name name then Some f.bytes else file_named fs name

-- a new ArrayBuffer of these bytes
abbrev pub buffer_made : Realm → List ℕ → Answered
buffer_made r bytes =
    gives (record r { heap = with_object r.heap (kinds.Buffer (length r.buffers)) []; buffers = r.buffers ++ bytes ∷ [] }) (values.Object (next_object r.heap))

abbrev pub buffer_named : Realm → HostValue → Answered
buffer_named r (values.Text name) = option_map_or (buffer_made r) (file_named r.files name) (throws r errors.TypeError)
buffer_named r _ = throws r errors.TypeError

-- ---- `new WebAssembly.Module(bytes)` (5.1)

abbrev pub kind_of : Foreign → OutsideKind
kind_of foreign.Float = outside.Float
kind_of foreign.Simd = outside.Simd

abbrev pub is_number : ValType → Bool
is_number types.I32 = true
is_number types.I64 = true
is_number types.FuncRef = false
is_number types.ExternRef = false

-- whether a function takes and gives numbers alone
abbrev pub is_of_numbers : FuncType → Bool
is_of_numbers g = list_all is_number g.params && list_all is_number g.results

abbrev pub is_taken_function : Module → ℕ → Bool
is_taken_function m index = option_map_or is_of_numbers (own_type m index) false

abbrev pub is_taken_desc : Module → ExportDesc → Bool
is_taken_desc m (exports.Func index) = is_taken_function m index
is_taken_desc m _ = false

abbrev pub is_taken_export : Module → Export → Bool
is_taken_export m x = is_taken_desc m x.desc

-- modules that are built so far: they import nothing, and export functions of numbers alone
abbrev pub is_taken : Module → Bool
is_taken m = nat_le (length m.imports) 0 && list_all (is_taken_export m) m.exports

-- a new module
abbrev pub module_made : Realm → Module → Answered
module_made r m =
    gives (record r { heap = with_object r.heap (kinds.Module (record { 0 = length r.store.modules })) []; store = with_module m r.store }) (values.Object (next_object r.heap))

abbrev pub module_loaded : Realm → Loaded → Answered
module_loaded r (valid m) = if is_taken m then module_made r m else lacks r
module_loaded r no_module = throws r errors.CompileError
module_loaded r (invalid function) = throws r errors.CompileError
module_loaded r (left_out place what) = record { realm = r; answer = answers.Outside (kind_of what) (Some place) }

-- the bytes of a module, at most
abbrev pub most_module_bytes : ℕ
most_module_bytes = 16777216

abbrev pub module_of_bytes : Loading → Realm → List ℕ → Answered
module_of_bytes load r bytes = if nat_le (length bytes) most_module_bytes then module_loaded r (load bytes) else refuses r outside.ModuleSize

abbrev pub module_of_buffer : Loading → Realm → ℕ → Answered
module_of_buffer load r n = option_map_or (module_of_bytes load r) (slice_get r.buffers n) (throws r errors.TypeError)

abbrev pub module_of_kind : Loading → Realm → Option Kind → Answered
module_of_kind load r (Some (kinds.Buffer n)) = module_of_buffer load r n
module_of_kind load r (Some (kinds.View buffer from len)) = lacks r
module_of_kind load r _ = throws r errors.TypeError

abbrev pub module_constructed : Loading → Realm → HostValue → Answered
module_constructed load r (values.Object o) = module_of_kind load r (kind_at r.heap o)
module_constructed load r _ = throws r errors.TypeError
