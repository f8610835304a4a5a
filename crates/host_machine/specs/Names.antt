-- Names: what reading and writing one does (ECMA-262, sections 9.1.1.1 and 13.1.3).
use Rattle.std.specs.Prelude.{ℕ, Bool, false, Option, Some, None, slice_get, slice_set, if◌then◌else◌}
use Rattle.std.specs.Option.{is_some}
use Rattle.embed_base.specs.declared.outside.OutsideKind.TheVariants as outside
use Rattle.host_parser.specs.declared.binding.Binding.{Binding}
use Rattle.host_parser.specs.declared.binding.Binding.TheVariants as bindings
use Rattle.host_parser.specs.declared.predefined.Predefined.{Predefined}
use Rattle.host_parser.specs.declared.predefined.Predefined.TheVariants as predefined
use Rattle.host_values.specs.Heaps.{with_binding}
use Rattle.host_values.specs.declared.classes.Class.{Class}
use Rattle.host_values.specs.declared.classes.Class.TheVariants as classes
use Rattle.host_values.specs.declared.values.ErrorClass.TheVariants as errors
use Rattle.host_values.specs.declared.values.HostValue.{HostValue}
use Rattle.host_values.specs.declared.values.HostValue.TheVariants as values
use Rattle.host_machine.specs.declared.focus.Focus.TheVariants as focus
use Rattle.host_machine.specs.declared.reference.Reference.TheVariants as references
use Rattle.host_machine.specs.Terms.{State, Rewritten, now, goes, gives, refuses, throws}

-- the predefined object of a predefined name
abbrev pub class_of : Predefined → Class
class_of predefined.Print = classes.Print
class_of predefined.Readbuffer = classes.Readbuffer
class_of predefined.Utf8Text = classes.Utf8Text
class_of predefined.Object = classes.Object
class_of predefined.BigInt = classes.BigInt
class_of predefined.Number = classes.Number
class_of predefined.String = classes.String
class_of predefined.Promise = classes.Promise
class_of predefined.Uint8Array = classes.Uint8Array
class_of predefined.Error = classes.Error
class_of predefined.TypeError = classes.TypeError
class_of predefined.RangeError = classes.RangeError
class_of predefined.ReferenceError = classes.ReferenceError
class_of predefined.SyntaxError = classes.SyntaxError
class_of predefined.WebAssembly = classes.WebAssembly

-- the value of a binding in a list of bindings, where it is set
abbrev pub held : Option (Option HostValue) → Option HostValue
held None = None
held (Some v) = v

-- the value of a binding, where it is set
abbrev pub value_of : State → Binding → Option HostValue
value_of st (bindings.Global slot) = held (slice_get st.heap.bindings slot.number)
value_of st (bindings.Local slot) = held (slice_get st.locals slot.number)
value_of st _ = None

-- a binding with this value
abbrev pub with_value : State → Binding → HostValue → State
with_value st (bindings.Global slot) v = record { heap = with_binding st.heap slot.number v; locals = st.locals }
with_value st (bindings.Local slot) v = record { heap = st.heap; locals = slice_set st.locals slot.number (Some v) }
with_value st _ v = st

-- whether a binding is a constant
abbrev pub is_constant : Binding → Bool
is_constant (bindings.Global slot) = slot.constant
is_constant (bindings.Local slot) = slot.constant
is_constant _ = false

-- a predefined name that is read: of these `print` alone is a value, the first object of the heap
abbrev pub predefined_read : State → Predefined → ℕ → Rewritten
predefined_read st predefined.Print place = gives st (values.Object (record { 0 = 0 }))
predefined_read st p place = goes st (now (focus.Refers (references.Class (class_of p)) place))

-- a name that a declaration binds, or nothing does: its value, or a ReferenceError where it has none (GetBindingValue, 9.1.1.1.6)
abbrev pub value_read : State → Option HostValue → Rewritten
value_read st None = throws st errors.ReferenceError
value_read st (Some v) = gives st v

-- a name that is read
abbrev pub name_read : State → Binding → ℕ → Rewritten
name_read st (bindings.Predefined p) place = predefined_read st p place
name_read st b place = value_read st (value_of st b)

-- a name that is written, where it has a value already (SetMutableBinding, 9.1.1.1.5)
abbrev pub value_written : State → Binding → HostValue → Rewritten
value_written st b v = if is_constant b then throws st errors.TypeError else goes (with_value st b v) (now focus.Done)

-- a name that is written
abbrev pub name_written : State → Binding → ℕ → HostValue → Rewritten
name_written st (bindings.Predefined p) place v = refuses st outside.BuiltinWrite place
name_written st b place v = if is_some (value_of st b) then value_written st b v else throws st errors.ReferenceError
