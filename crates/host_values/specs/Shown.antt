-- How `print` shows values (the profile).
use Rattle.std.specs.Prelude.{ℕ, Bool, true, false, List, [], ◌++◌, Option, if◌then◌else◌, codes, length, nat_eq}
use Rattle.std.specs.Fmt.{signed_decimal}
use Rattle.std.specs.Option.{option_map_or}
use Rattle.host_values.specs.Objects.{HostHeap}
use Rattle.host_values.specs.Heaps.{kind_at}
use Rattle.host_values.specs.ErrorNames.{class_name}
use Rattle.host_values.specs.declared.kinds.Kind.{Kind}
use Rattle.host_values.specs.declared.kinds.Kind.TheVariants as kinds
use Rattle.host_values.specs.declared.values.ErrorClass.{ErrorClass}
use Rattle.host_values.specs.declared.values.HostValue.{HostValue}
use Rattle.host_values.specs.declared.values.HostValue.TheVariants as values

-- an error shows as its name, and with its message where it has one
abbrev pub shown_error : ErrorClass → List ℕ → List ℕ
shown_error class message = if nat_eq (length message) 0 then class_name class else class_name class ++ codes ": " ++ message

-- how an object of this kind shows
abbrev pub shown_kind : Kind → List ℕ
shown_kind kinds.Plain = codes "[Object]"
shown_kind kinds.Exports = codes "[Object]"
shown_kind kinds.Array = codes "[Array]"
shown_kind (kinds.Error class message) = shown_error class message
shown_kind (kinds.Function callee) = codes "[Function]"
shown_kind (kinds.Promise n) = codes "[Promise]"
shown_kind (kinds.Buffer n) = codes "[ArrayBuffer]"
shown_kind (kinds.View buffer from len) = codes "[Uint8Array]"
shown_kind (kinds.Module a) = codes "[Module]"
shown_kind (kinds.Instance exports) = codes "[Instance]"
shown_kind (kinds.Memory a) = codes "[Memory]"
shown_kind (kinds.Table a) = codes "[Table]"
shown_kind (kinds.Global a) = codes "[Global]"
shown_kind (kinds.Suspending o) = codes "[Suspending]"

-- `true` and `false`
abbrev pub shown_bool : Bool → List ℕ
shown_bool b = if b then codes "true" else codes "false"

-- the shown form of a value
abbrev pub shown_of : HostHeap → HostValue → List ℕ
shown_of h values.Undefined = codes "undefined"
shown_of h values.Null = codes "null"
shown_of h (values.Bool b) = shown_bool b
shown_of h (values.Number z) = signed_decimal z
shown_of h (values.BigInt z) = signed_decimal z ++ codes "n"
shown_of h (values.Text text) = text
shown_of h (values.Object o) = option_map_or shown_kind (kind_at h o) []
