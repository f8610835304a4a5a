-- Conversions between values of scripts and of modules over the caches (WebAssembly JavaScript Interface, section 5.6).
use Rattle.std.specs.Prelude.{◌≡◌, ℕ, ◌-◌, ◌^◌, ◌<◌, nat_lt, ℤ, pos, ◌-ℤ◌, length, slice_index_or, Option, Some, Result, Ok, Err, if◌then◌else◌}
use Rattle.wasm_syntax.specs.declared.types.ValType.{ValType}
use Rattle.wasm_syntax.specs.declared.types.ValType.TheVariants as types
use Rattle.wasm_syntax.specs.declared.value.Value.{Value}
use Rattle.wasm_syntax.specs.declared.value.Value.TheVariants as w
use Rattle.host_values.specs.Objects.{HostHeap}
use Rattle.host_values.specs.Heaps.{kind_at}
use Rattle.host_values.specs.declared.kinds.Kind.{Kind}
use Rattle.host_values.specs.declared.kinds.Kind.TheVariants as kinds
use Rattle.host_values.specs.declared.kinds.Callee.TheVariants as callees
use Rattle.host_values.specs.declared.values.ErrorClass.TheVariants as classes
use Rattle.host_values.specs.declared.values.HostValue.{HostValue}
use Rattle.host_values.specs.declared.values.HostValue.TheVariants as values
use Rattle.host_convert.specs.Conversions.{to_int32, to_big_int64}
use Rattle.host_convert.specs.declared.conv.Conv.{Conv}
use Rattle.host_convert.specs.declared.conv.Conv.TheVariants as conv
use Rattle.iface_caches.specs.declared.conversion.Conversion.{Conversion}
use Rattle.iface_caches.specs.declared.conversion.Conversion.TheVariants as conversion
use Rattle.iface_caches.specs.declared.external.ExternalKind.TheVariants as external
use Rattle.iface_caches.specs.Caches.{HostCaches, object_of, with_object_of, heap_with_object_of, extern_of, with_extern}

-- a number of N bits read in two's complement
abbrev pub signed : ℕ → ℕ → ℤ
signed N n = if nat_lt n (2 ^ (N - 1)) then pos n else (pos n -ℤ pos (2 ^ N))

-- an address of a value of the host is that of a value in the caches
abbrev pub IsCached : HostCaches → Value → Type 0
IsCached c (w.Extern e) = e.0 < length c.externs
IsCached c _ = Unit {0}

-- ---- ToJSValue

abbrev pub to_js : HostHeap → HostCaches → Value → HostValue
to_js h c (w.I32 n) = values.Number (signed 32 n)
to_js h c (w.I64 n) = values.BigInt (signed 64 n)
to_js h c w.FuncNull = values.Null
to_js h c (w.Func a) = values.Object (object_of h c external.Function a.0)
to_js h c w.ExternNull = values.Null
to_js h c (w.Extern e) = slice_index_or c.externs e.0 values.Undefined

-- the caches and the heap afterwards: a function has its object
abbrev pub caches_with : HostHeap → Value → HostCaches → HostCaches
caches_with h (w.Func a) c = with_object_of h external.Function a.0 c
caches_with h _ c = c

abbrev pub heap_with : HostCaches → Value → HostHeap → HostHeap
heap_with c (w.Func a) h = heap_with_object_of c external.Function a.0 h
heap_with c _ h = h

-- ---- ToWebAssemblyValue

-- the reference to the function that an object is of
abbrev pub function_reference : Option Kind → Conv Value
function_reference (Some (kinds.Function (callees.Exported a))) = conv.Value (w.Func a)
function_reference _ = conv.Throw classes.TypeError

abbrev pub to_funcref : HostHeap → HostValue → Conv Value
to_funcref h values.Null = conv.Value w.FuncNull
to_funcref h (values.Object o) = function_reference (kind_at h o)
to_funcref h _ = conv.Throw classes.TypeError

abbrev pub to_externref : HostCaches → HostValue → Value
to_externref c values.Null = w.ExternNull
to_externref c v = w.Extern (extern_of c v)

-- a converted number as a value
abbrev pub as_value : (ℕ → Value) → Conv ℕ → Conv Value
as_value F (conv.Value n) = conv.Value (F n)
as_value F (conv.Throw class) = conv.Throw class
as_value F (conv.Outside kind) = conv.Outside kind

abbrev pub to_wasm : HostHeap → HostCaches → HostValue → ValType → Conv Value
to_wasm h c v types.I32 = as_value (λ n. w.I32 n) (to_int32 v)
to_wasm h c v types.I64 = as_value (λ n. w.I64 n) (to_big_int64 v)
to_wasm h c v types.FuncRef = to_funcref h v
to_wasm h c v types.ExternRef = conv.Value (to_externref c v)

-- the caches afterwards: a value of the host has its address
abbrev pub with_reference : HostValue → HostCaches → HostCaches
with_reference values.Null c = c
with_reference v c = with_extern v c

abbrev pub with_converted : HostValue → ValType → HostCaches → HostCaches
with_converted v types.ExternRef c = with_reference v c
with_converted v _ c = c

-- an answer is what a conversion gives, but for want of memory
abbrev pub Answers : Result Value Conversion → Conv Value → Type 0
Answers (Ok v) given = given ≡ conv.Value v
Answers (Err (conversion.Throw class)) given = given ≡ conv.Throw class
Answers (Err (conversion.Outside kind)) given = given ≡ conv.Outside kind
Answers (Err conversion.NoMemory) given = Unit {0}
