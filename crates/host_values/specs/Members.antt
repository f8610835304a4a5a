-- Members: one function for each kind of object, from a key to its answer (ECMA-262, sections 10.1.8 and 10.1.9, 10.4.2 and
-- 22.1.4, in the profile). A kind, a key and its answer meet in `member_of` and `write_to` alone.
use Rattle.std.specs.Prelude.{ℕ, ◌+◌, Bool, false, ◌||◌, nat_eq, nat_le, nat_lt, ℤ, pos, List, [], ◌∷◌, length, Option, None, if◌then◌else◌, codes}
use Rattle.std.specs.Option.{option_map_or}
use Rattle.std.specs.List.{list_any}
use Rattle.std.specs.Map.{lookup}
use Rattle.std.specs.Str.{bytes_eq}
use Rattle.embed_base.specs.declared.outside.OutsideKind.TheVariants as outside
use Rattle.host_values.specs.SameKeys.{same_key}
use Rattle.host_values.specs.Objects.{HostObject, HostHeap}
use Rattle.host_values.specs.Heaps.{object_at, with_property}
use Rattle.host_values.specs.ErrorNames.{class_name}
use Rattle.host_values.specs.declared.answers.Got.{Got}
use Rattle.host_values.specs.declared.answers.Got.TheVariants as got
use Rattle.host_values.specs.declared.answers.Put.{Put}
use Rattle.host_values.specs.declared.answers.Put.TheVariants as put
use Rattle.host_values.specs.declared.keys.Key.{Key}
use Rattle.host_values.specs.declared.keys.Key.TheVariants as keys
use Rattle.host_values.specs.declared.kinds.Callee.{Callee}
use Rattle.host_values.specs.declared.kinds.Callee.TheVariants as callees
use Rattle.host_values.specs.declared.kinds.Kind.{Kind}
use Rattle.host_values.specs.declared.kinds.Kind.TheVariants as kinds
use Rattle.host_values.specs.declared.values.ErrorClass.{ErrorClass}
use Rattle.host_values.specs.declared.values.ErrorClass.TheVariants as classes
use Rattle.host_values.specs.declared.values.HostValue.{HostValue}
use Rattle.host_values.specs.declared.values.HostValue.TheVariants as values

-- 2^53 - 1, the greatest whole number that a Number may be
abbrev pub greatest_number : ℕ
greatest_number = 9007199254740991

-- the elements of an Array, at most
abbrev pub most_elements : ℕ
most_elements = 1000000

-- values as the elements of an Array, the first of them at this index
abbrev pub elements_from : ℕ → List HostValue → List (Key × HostValue)
elements_from index [] = []
elements_from index (v ∷ rest) = (keys.Index index, v) ∷ elements_from (index + 1) rest

-- the elements of an Array of these values
abbrev pub elements_of : List HostValue → List (Key × HostValue)
elements_of vs = elements_from 0 vs

-- whether a key is this name
abbrev pub is_name : Key → List ℕ → Bool
is_name (keys.Name text) name = bytes_eq text name
is_name (keys.Index index) name = false

-- the UTF-16 code units that a byte of UTF-8 begins: two where it begins a scalar value above U+FFFF (ECMA-262, section 11.1.1)
abbrev pub units_of_byte : ℕ → ℕ
units_of_byte byte = if nat_lt byte 128 then 1 else if nat_lt byte 192 then 0 else if nat_lt byte 240 then 1 else 2

-- how many UTF-16 code units a text has (ECMA-262, section 22.1.4.1)
abbrev pub utf16_length : List ℕ → ℕ
utf16_length [] = 0
utf16_length (byte ∷ rest) = units_of_byte byte + utf16_length rest

-- a length as a Number
abbrev pub length_member : ℕ → Got
length_member n = if nat_le n greatest_number then got.Value (values.Number (pos n)) else got.Outside outside.Number

-- the names that plain objects inherit from Object.prototype (ECMA-262, sections 20.1.3 and B.2.2)
abbrev pub inherited_names : List (List ℕ)
inherited_names = codes "constructor" ∷ codes "hasOwnProperty" ∷ codes "isPrototypeOf" ∷ codes "propertyIsEnumerable" ∷ codes "toLocaleString" ∷ codes "toString" ∷ codes "valueOf" ∷ codes "__proto__" ∷ codes "__defineGetter__" ∷ codes "__defineSetter__" ∷ codes "__lookupGetter__" ∷ codes "__lookupSetter__" ∷ []

-- whether a key is one of them
abbrev pub is_inherited : Key → Bool
is_inherited k = list_any (is_name k) inherited_names

-- an own property, or what stands in for one that isn't there
abbrev pub own_or : Got → List (Key × HostValue) → Key → Got
own_or absent properties k = option_map_or (λ v. got.Value v) (lookup (same_key k) properties) absent

-- a member of a text
abbrev pub text_member : List ℕ → Key → Got
text_member text k = if is_name k (codes "length") then length_member (utf16_length text) else got.Outside outside.PrimitiveMember

-- a member of a plain object
abbrev pub plain_member : List (Key × HostValue) → Key → Got
plain_member properties k = own_or (if is_inherited k then got.Outside outside.Inherited else got.Value values.Undefined) properties k

-- a member of an exports object, which inherits nothing
abbrev pub exports_member : List (Key × HostValue) → Key → Got
exports_member properties k = own_or (got.Value values.Undefined) properties k

-- a member of an Array of so many elements that is no element: its length; `push` is a method and no value
abbrev pub array_name_member : ℕ → List ℕ → Got
array_name_member len name =
    if bytes_eq name (codes "length") then length_member len
    else if bytes_eq name (codes "push") then got.Outside outside.BuiltinValue
    else got.Outside outside.ArrayMember

-- a member of an Array: an element, or undefined where there is none, or another member
abbrev pub array_member : List (Key × HostValue) → Key → Got
array_member properties (keys.Index index) = own_or (got.Value values.Undefined) properties (keys.Index index)
array_member properties (keys.Name name) = array_name_member (length properties) name

-- the length of a function: its number of parameters
abbrev pub callee_length : Callee → Got
callee_length (callees.Script function parameters) = got.Value (values.Number (pos parameters))
callee_length callees.Print = got.Value (values.Number (pos 0))
callee_length (callees.Exported a) = got.Interface
callee_length (callees.Promising a) = got.Interface
callee_length (callees.Resolve pair) = got.Value (values.Number (pos 1))
callee_length (callees.Reject pair) = got.Value (values.Number (pos 1))

-- a member of a function
abbrev pub function_member : Callee → Key → Got
function_member callee k = if is_name k (codes "length") then callee_length callee else got.Outside outside.FunctionMember

-- a member of an error
abbrev pub error_member : ErrorClass → List ℕ → Key → Got
error_member class message k =
    if is_name k (codes "name") then got.Value (values.Text (class_name class))
    else if is_name k (codes "message") then got.Value (values.Text message)
    else got.Outside outside.ObjectMember

-- a member of a promise, whose methods aren't values
abbrev pub promise_member : Key → Got
promise_member k = if is_name k (codes "then") || is_name k (codes "catch") then got.Outside outside.BuiltinValue else got.Outside outside.ObjectMember

-- a member of an object
abbrev pub member_of : Kind → List (Key × HostValue) → Key → Got
member_of kinds.Plain properties k = plain_member properties k
member_of kinds.Exports properties k = exports_member properties k
member_of kinds.Array properties k = array_member properties k
member_of (kinds.Error class message) properties k = error_member class message k
member_of (kinds.Function callee) properties k = function_member callee k
member_of (kinds.Promise n) properties k = promise_member k
member_of (kinds.Buffer n) properties k = got.Interface
member_of (kinds.View buffer from len) properties k = got.Interface
member_of (kinds.Module a) properties k = got.Outside outside.ObjectMember
member_of (kinds.Instance exports) properties k = got.Interface
member_of (kinds.Memory a) properties k = got.Interface
member_of (kinds.Table a) properties k = got.Interface
member_of (kinds.Global a) properties k = got.Interface
member_of (kinds.Suspending o) properties k = got.Outside outside.ObjectMember

-- reading a member of a value
abbrev pub read_of : HostHeap → HostValue → Key → Got
read_of h values.Undefined k = got.Throw classes.TypeError
read_of h values.Null k = got.Throw classes.TypeError
read_of h (values.Bool b) k = got.Outside outside.PrimitiveMember
read_of h (values.Number z) k = got.Outside outside.PrimitiveMember
read_of h (values.BigInt z) k = got.Outside outside.PrimitiveMember
read_of h (values.Text text) k = text_member text k
read_of h (values.Object o) k = option_map_or (λ x. member_of x.kind x.properties k) (object_at h o) got.Interface

-- writing a member of a plain object
abbrev pub plain_write : Key → Put
plain_write k = if is_name k (codes "__proto__") then put.Outside outside.Inherited else put.Done

-- writing an element of an Array of so many elements: one that is there, or the next one up to the limit
abbrev pub element_write : ℕ → ℕ → Put
element_write len index =
    if nat_lt index len then put.Done
    else if nat_lt len index then put.Outside outside.ArrayHole
    else if nat_lt len most_elements then put.Done
    else put.Outside outside.ArraySize

-- writing a member of an Array with these elements
abbrev pub array_write : List (Key × HostValue) → Key → Put
array_write elements (keys.Index index) = element_write (length elements) index
array_write elements (keys.Name name) = put.Outside outside.ArrayMember

-- writing a member of an object
abbrev pub write_to : Kind → List (Key × HostValue) → Key → Put
write_to kinds.Plain properties k = plain_write k
write_to kinds.Exports properties k = put.Throw classes.TypeError
write_to kinds.Array properties k = array_write properties k
write_to (kinds.Global a) properties k = put.Interface
write_to (kinds.View buffer from len) properties k = put.Interface
write_to _ properties k = put.Outside outside.ObjectWrite

-- what writing a member of a value does
abbrev pub write_of : HostHeap → HostValue → Key → Put
write_of h values.Undefined k = put.Throw classes.TypeError
write_of h values.Null k = put.Throw classes.TypeError
write_of h (values.Object o) k = option_map_or (λ x. write_to x.kind x.properties k) (object_at h o) put.Interface
write_of h _ k = put.Outside outside.PrimitiveMember

-- the heap after a write that had this answer
abbrev pub after_write : Put → HostHeap → HostValue → Key → HostValue → HostHeap
after_write put.Done h (values.Object o) k v = with_property h o k v
after_write _ h o k v = h

-- the heap after a member of a value was written
abbrev pub written : HostHeap → HostValue → Key → HostValue → HostHeap
written h o k v = after_write (write_of h o k) h o k v
