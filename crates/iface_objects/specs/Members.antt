-- What is constructed, called and read of the objects of the interface (WebAssembly JavaScript Interface, section 5, in the profile, as
-- far as it is built).
use Rattle.std.specs.Prelude.{ℕ, pos, List, length, Option, Some, if◌then◌else◌, codes}
use Rattle.embed_base.specs.declared.outside.OutsideKind.TheVariants as outside
use Rattle.host_values.specs.Heaps.{kind_at}
use Rattle.host_values.specs.Members.{is_name}
use Rattle.host_values.specs.declared.classes.Class.{Class}
use Rattle.host_values.specs.declared.classes.Class.TheVariants as classes
use Rattle.host_values.specs.declared.classes.Target.{Target}
use Rattle.host_values.specs.declared.classes.Target.TheVariants as targets
use Rattle.host_values.specs.declared.keys.Key.{Key}
use Rattle.host_values.specs.declared.kinds.Callee.TheVariants as callees
use Rattle.host_values.specs.declared.kinds.Kind.{Kind}
use Rattle.host_values.specs.declared.kinds.Kind.TheVariants as kinds
use Rattle.host_values.specs.declared.values.HostValue.{HostValue}
use Rattle.host_values.specs.declared.values.HostValue.TheVariants as values
use Rattle.host_values.specs.declared.values.ObjId.{ObjId}
use Rattle.wasm_store.specs.Store.{function_at, type_of}
use Rattle.iface_objects.specs.declared.realm.Realm.{Realm}
use Rattle.iface_objects.specs.Loading.{Loading}
use Rattle.iface_objects.specs.Realms.{Answered, gives, refuses, lacks}
use Rattle.iface_objects.specs.Modules.{first_argument, buffer_named, module_constructed}
use Rattle.iface_objects.specs.Instances.{second_argument, instance_constructed}

-- `new` of a predefined class
abbrev pub constructed : Loading → Realm → Class → List HostValue → Answered
constructed load r classes.Module args = module_constructed load r (first_argument args)
constructed load r classes.Instance args = instance_constructed r (first_argument args) (second_argument args)
constructed load r _ args = lacks r

-- a call of a predefined function, or of a method
abbrev pub method_called : Realm → Target → List ℕ → List HostValue → Answered
method_called r (targets.Builtin classes.Readbuffer) name args = buffer_named r (first_argument args)
method_called r _ name args = lacks r

-- a member that is read
abbrev pub kind_read : Realm → Key → Option Kind → Answered
kind_read r key (Some (kinds.Instance exports)) = if is_name key (codes "exports") then gives r (values.Object exports) else refuses r outside.ObjectMember
kind_read r key (Some (kinds.Buffer n)) = if is_name key (codes "byteLength") then lacks r else refuses r outside.ObjectMember
kind_read r key (Some (kinds.Function (callees.Exported a))) = gives r (values.Number (pos (length (type_of (function_at r.store a)).params)))
kind_read r key _ = lacks r

abbrev pub member_read : Realm → ObjId → Key → Answered
member_read r o key = kind_read r key (kind_at r.heap o)

-- and one that is written
abbrev pub member_written : Realm → ObjId → Key → HostValue → Answered
member_written r o key v = lacks r
