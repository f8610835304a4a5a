-- Calls and `new`, after their arguments (ECMA-262, sections 13.3.5 and 13.3.6, in the profile).
use Rattle.std.specs.Prelude.{ℕ, Bool, true, false, List, [], ◌∷◌, ◌++◌, Option, Some, None, if◌then◌else◌}
use Rattle.embed_base.specs.declared.outside.OutsideKind.TheVariants as outside
use Rattle.host_values.specs.Heaps.{kind_at}
use Rattle.host_values.specs.Objects.{HostHeap}
use Rattle.host_values.specs.Shown.{shown_of}
use Rattle.host_values.specs.declared.classes.Class.{Class}
use Rattle.host_values.specs.declared.classes.Target.TheVariants as targets
use Rattle.host_values.specs.declared.kinds.Callee.{Callee}
use Rattle.host_values.specs.declared.kinds.Callee.TheVariants as callees
use Rattle.host_values.specs.declared.kinds.Kind.{Kind}
use Rattle.host_values.specs.declared.kinds.Kind.TheVariants as kinds
use Rattle.host_values.specs.declared.values.ErrorClass.TheVariants as errors
use Rattle.host_values.specs.declared.values.HostValue.{HostValue}
use Rattle.host_values.specs.declared.values.HostValue.TheVariants as values
use Rattle.host_values.specs.declared.values.ObjId.{ObjId}
use Rattle.host_builtins.specs.Calls.{Answer, call_of, construct_of, member_call_of, push_of}
use Rattle.host_builtins.specs.declared.replies.Reply.{Reply}
use Rattle.host_builtins.specs.declared.replies.Reply.TheVariants as replies
use Rattle.host_machine.specs.declared.effect.HostEffect.{HostEffect}
use Rattle.host_machine.specs.declared.effect.HostEffect.TheVariants as effects
use Rattle.host_machine.specs.declared.reference.Callable.{Callable}
use Rattle.host_machine.specs.declared.reference.Callable.TheVariants as callables
use Rattle.host_machine.specs.declared.reference.Reference.{Reference}
use Rattle.host_machine.specs.declared.reference.Reference.TheVariants as references
use Rattle.host_machine.specs.Terms.{State, Rewritten, gives, asks, refuses, throws}

-- the shown forms of more values, each behind a space
abbrev pub line_after : HostHeap → List HostValue → List ℕ
line_after h [] = []
line_after h (v ∷ rest) = (32 ∷ shown_of h v) ++ line_after h rest

-- the line that `print` writes: the shown forms of its arguments, joined by one space
abbrev pub line_of : HostHeap → List HostValue → List ℕ
line_of h [] = []
line_of h (v ∷ rest) = shown_of h v ++ line_after h rest

-- what is called where an object of this kind is, if it can be called (7.2.3)
abbrev pub callee_of : Option Kind → Option Callee
callee_of (Some (kinds.Function callee)) = Some callee
callee_of _ = None

-- a call of a function object
abbrev pub function_object_called : State → ObjId → List HostValue → ℕ → Callee → Rewritten
function_object_called st o args place callees.Print = asks st (effects.Print (line_of st.heap args)) place
function_object_called st o args place callee = asks st (effects.Call o args) place

abbrev pub callee_called : State → ObjId → List HostValue → ℕ → Option Callee → Rewritten
callee_called st o args place None = throws st errors.TypeError
callee_called st o args place (Some callee) = function_object_called st o args place callee

-- a call of a value: of all others than functions it throws
abbrev pub value_called : State → HostValue → List HostValue → ℕ → Rewritten
value_called st (values.Object o) args place = callee_called st o args place (callee_of (kind_at st.heap o))
value_called st v args place = throws st errors.TypeError

-- what a predefined object answered, which asks for this effect where it isn't for it to say
abbrev pub replied : State → HostEffect → ℕ → Reply → Rewritten
replied st e place (replies.Value v) = gives st v
replied st e place (replies.Throw class) = throws st class
replied st e place (replies.Outside kind) = refuses st kind place
replied st e place replies.Interface = asks st e place

abbrev pub answered : State → HostEffect → ℕ → Answer → Rewritten
answered st e place a = replied (record { heap = a.heap; locals = st.locals }) e place a.reply

-- a call of a predefined object itself
abbrev pub class_called : State → Class → List HostValue → ℕ → Rewritten
class_called st class args place = answered st (effects.Method (targets.Builtin class) [] args) place (call_of st.heap class args)

-- a call of one of its functions
abbrev pub function_called : State → Class → List ℕ → List HostValue → ℕ → Rewritten
function_called st class name args place =
    answered st (effects.Method (targets.Builtin class) name args) place (member_call_of st.heap class name args)

-- whether an object of this kind is an Array
abbrev pub is_array : Option Kind → Bool
is_array (Some kinds.Array) = true
is_array _ = false

-- a call of `push`, the one method of Arrays
abbrev pub pushed : State → ObjId → List ℕ → List HostValue → ℕ → Rewritten
pushed st o name args place = answered st (effects.Method (targets.Object o) name args) place (push_of st.heap o args)

-- a call of a method of an object
abbrev pub method_called : State → ObjId → List ℕ → List HostValue → ℕ → Rewritten
method_called st o name args place =
    if is_array (kind_at st.heap o) then pushed st o name args place else asks st (effects.Method (targets.Object o) name args) place

abbrev pub reference_called : State → Reference → List HostValue → ℕ → Rewritten
reference_called st (references.Class class) args place = class_called st class args place
reference_called st (references.Function class name) args place = function_called st class name args place
reference_called st (references.Method o name) args place = method_called st o name args place

-- a call (EvaluateCall, 13.3.6.2)
abbrev pub called : State → Callable → List HostValue → ℕ → Rewritten
called st (callables.Value v) args place = value_called st v args place
called st (callables.Reference r) args place = reference_called st r args place

-- `new` of a function, or of what can't be called: functions of the script and `print` construct nothing in the profile
abbrev pub callee_constructed : State → ℕ → Option Callee → Rewritten
callee_constructed st place (Some (callees.Script function length)) = refuses st outside.Construct place
callee_constructed st place (Some callees.Print) = refuses st outside.Construct place
callee_constructed st place _ = throws st errors.TypeError

abbrev pub value_constructed : State → HostValue → ℕ → Rewritten
value_constructed st (values.Object o) place = callee_constructed st place (callee_of (kind_at st.heap o))
value_constructed st v place = throws st errors.TypeError

abbrev pub reference_constructed : State → Reference → List HostValue → ℕ → Rewritten
reference_constructed st (references.Class class) args place = answered st (effects.New class args) place (construct_of st.heap class args)
reference_constructed st _ args place = refuses st outside.Construct place

-- `new` (EvaluateNew, 13.3.5.1.1)
abbrev pub constructed : State → Callable → List HostValue → ℕ → Rewritten
constructed st (callables.Value v) args place = value_constructed st v place
constructed st (callables.Reference r) args place = reference_constructed st r args place
