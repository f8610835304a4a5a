-- What holds of a store after an instantiation, for who calls functions in it.
use Rattle.std.specs.Prelude.{◌≡◌, ◌<◌, [], Option, Some, None, length}
use Rattle.wasm_syntax.specs.declared.addresses.ModuleAddr.{ModuleAddr}
use Rattle.wasm_syntax.specs.declared.addresses.FuncAddr.{FuncAddr}
use Rattle.wasm_store.specs.declared.instances.Instance.{Instance}
use Rattle.wasm_store.specs.Store.{Store, instance_at, function_at, type_of}
use Rattle.wasm_store.specs.Whole.{HasLists}
use Rattle.wasm_store.specs.Allocated.{instance_of}
use Rattle.wasm_instance.specs.declared.modules.Instantiated.{Instantiated}
use Rattle.wasm_instance.specs.declared.modules.Instantiated.TheVariants as ends

-- a start function takes nothing and gives nothing
abbrev pub IsStart : Store → Option FuncAddr → Type 0
IsStart s None = Unit {0}
IsStart s (Some f) = (f.0 < length s.functions) × ((type_of (function_at s f)).params ≡ []) × ((type_of (function_at s f)).results ≡ [])

-- the new instance is there with its lists, and its start function may be called
abbrev pub IsThere : ModuleAddr → Instance → Store → Instantiated → Store → Type 0
IsThere a imports old (ends.Ready i start) new =
    (i.0 < length new.instances) × (instance_at new i ≡ instance_of a imports old) × HasLists new (instance_at new i) × IsStart new start
IsThere a imports old _ new = Unit {0}
