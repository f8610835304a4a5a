-- Members of predefined objects, and methods of objects (ECMA-262, sections 20.1.2, 23.1.3 and 27.2; WebAssembly JavaScript Interface,
-- section 5; JS Promise Integration; in the profile).
use Rattle.std.specs.Prelude.{ℕ, Bool, List, [], ◌∷◌, Option, codes}
use Rattle.std.specs.List.{list_any}
use Rattle.std.specs.Map.{lookup}
use Rattle.std.specs.Str.{bytes_eq}
use Rattle.host_values.specs.Members.{is_name}
use Rattle.host_values.specs.declared.classes.Class.{Class}
use Rattle.host_values.specs.declared.classes.Class.TheVariants as classes
use Rattle.host_values.specs.declared.keys.Key.{Key}
use Rattle.host_values.specs.declared.kinds.Kind.{Kind}
use Rattle.host_values.specs.declared.kinds.Kind.TheVariants as kinds
use Rattle.host_builtins.specs.declared.members.Member.{Member}
use Rattle.host_builtins.specs.declared.members.Member.TheVariants as members

-- a member that is a class, and one that is a function
abbrev pub class_of : List ℕ → Class → List ℕ × Member
class_of name class = (name, members.Class class)

abbrev pub function_of : List ℕ → List ℕ × Member
function_of name = (name, members.Function)

-- the members of `WebAssembly`
abbrev pub web_assembly_members : List (List ℕ × Member)
web_assembly_members =
    class_of (codes "Module") classes.Module
    ∷ class_of (codes "Instance") classes.Instance
    ∷ class_of (codes "Memory") classes.Memory
    ∷ class_of (codes "Table") classes.Table
    ∷ class_of (codes "Global") classes.Global
    ∷ class_of (codes "Suspending") classes.Suspending
    ∷ class_of (codes "CompileError") classes.CompileError
    ∷ class_of (codes "LinkError") classes.LinkError
    ∷ class_of (codes "RuntimeError") classes.RuntimeError
    ∷ class_of (codes "SuspendError") classes.SuspendError
    ∷ function_of (codes "validate")
    ∷ function_of (codes "promising")
    ∷ []

-- the members of a predefined object, by their names
abbrev pub members_of : Class → List (List ℕ × Member)
members_of classes.Object = function_of (codes "keys") ∷ []
members_of classes.Promise = function_of (codes "resolve") ∷ function_of (codes "reject") ∷ function_of (codes "withResolvers") ∷ []
members_of classes.WebAssembly = web_assembly_members
members_of classes.Module = function_of (codes "imports") ∷ function_of (codes "exports") ∷ []
members_of _ = []

-- the member of this name
abbrev pub member_of : Class → List ℕ → Option Member
member_of class name = lookup (bytes_eq name) (members_of class)

-- the names of the methods of an object
abbrev pub methods_of : Kind → List (List ℕ)
methods_of kinds.Array = codes "push" ∷ []
methods_of (kinds.Promise n) = codes "then" ∷ codes "catch" ∷ []
methods_of (kinds.Memory a) = codes "grow" ∷ []
methods_of (kinds.Table a) = codes "get" ∷ codes "set" ∷ codes "grow" ∷ []
methods_of (kinds.Global a) = codes "valueOf" ∷ []
methods_of _ = []

-- whether a key is the name of one of them
abbrev pub is_method : Kind → Key → Bool
is_method k key = list_any (is_name key) (methods_of k)
