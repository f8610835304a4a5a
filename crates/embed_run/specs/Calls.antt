-- Calls from one side to the other, and back (WebAssembly JavaScript Interface, section 5.6, in the profile).
use Rattle.std.specs.Prelude.{ℕ, nat_le, nat_lt, length, List, [], ◌∷◌, Option, Some, None, if◌then◌else◌, Result, Ok, Err, drop}
use Rattle.embed_base.specs.declared.outside.OutsideKind.{OutsideKind}
use Rattle.embed_base.specs.declared.outside.OutsideKind.TheVariants as outside
use Rattle.host_parser.specs.Trees.{Tree}
use Rattle.host_convert.specs.declared.conv.Conv.{Conv}
use Rattle.host_convert.specs.declared.conv.Conv.TheVariants as conv
use Rattle.host_values.specs.Heaps.{next_object, with_object}
use Rattle.host_values.specs.Members.{elements_of, most_elements}
use Rattle.host_values.specs.declared.kinds.Callee.TheVariants as callees
use Rattle.host_values.specs.declared.kinds.Kind.{Kind}
use Rattle.host_values.specs.declared.kinds.Kind.TheVariants as kinds
use Rattle.host_values.specs.declared.values.ErrorClass.{ErrorClass}
use Rattle.host_values.specs.declared.values.ErrorClass.TheVariants as errors
use Rattle.host_values.specs.declared.values.HostValue.{HostValue}
use Rattle.host_values.specs.declared.values.HostValue.TheVariants as values
use Rattle.host_machine.specs.Frames.{call_frame}
use Rattle.host_machine.specs.Terms.{Frame, term_of}
use Rattle.wasm_syntax.specs.declared.types.ValType.{ValType}
use Rattle.wasm_syntax.specs.declared.value.Value.{Value}
use Rattle.wasm_syntax.specs.declared.addresses.FuncAddr.{FuncAddr}
use Rattle.wasm_store.specs.Store.{function_at, type_of}
use Rattle.wasm_machine.specs.Terms.{invoke}
use Rattle.iface_caches.specs.Conversions.{to_js, heap_with, caches_with, to_wasm, with_converted}
use Rattle.iface_objects.specs.declared.answer.Answer.{Answer}
use Rattle.iface_objects.specs.declared.answer.Answer.TheVariants as answers
use Rattle.iface_objects.specs.declared.realm.Realm.{Realm}
use Rattle.iface_objects.specs.Modules.{first_argument}
use Rattle.iface_objects.specs.Realms.{Answered, with_heap}
use Rattle.jspi_stacks.specs.Whole.{Whole, host, core, around, mark_round}
use Rattle.jspi_stacks.specs.declared.mark.Mark.TheVariants as marks

-- no more functions are running at once
abbrev pub most_activations : ℕ
most_activations = 10000

-- what an effect of the script comes to: its answer, or a call that is to be made first
pub data Reply : Type 0 where
  value : Realm → HostValue → Reply
  exception : Realm → HostValue → Reply
  -- the run ends here: at a byte of a module, or at the place of the effect
  refusal : Realm → OutsideKind → (module_place : Option ℕ) → Reply
  begins : Realm → Whole → Reply

-- a new error of this class, without a message, is thrown
abbrev pub error_in : Realm → ErrorClass → Realm
error_in r class = with_heap (with_object r.heap (kinds.Error class []) []) r

abbrev pub throws : Realm → ErrorClass → Reply
throws r class = exception (error_in r class) (values.Object (next_object r.heap))

-- what isn't built yet
abbrev pub lacks : Realm → Reply
lacks r = refusal r outside.NotYet None

-- ---- a call of a function of the script (ECMA-262, section 10.2.1)

abbrev pub running : Frame → Whole
running f = host f.locals (term_of f)

-- one function more may run, or not
abbrev pub call_script : Tree → Realm → (running : ℕ) → (function : ℕ) → List HostValue → Reply
call_script s r n k args = if nat_lt n most_activations then begins r (running (call_frame s k args)) else throws r errors.RangeError

-- ---- a call of an Exported Function: its arguments are converted in order, and missing ones are undefined

pub record Converted : Type 0 where
  pub realm : Realm
  pub values : List Value

-- an argument that was converted, before the others
abbrev pub converted_before : Value → Result Converted Reply → Result Converted Reply
converted_before v (Ok c) = Ok (record { realm = c.realm; values = v ∷ c.values })
converted_before v (Err e) = Err e

abbrev pub converted_with : Realm → Conv Value → (Value → Result Converted Reply) → Result Converted Reply
converted_with r (conv.Value v) more = more v
converted_with r (conv.Throw class) more = Err (throws r class)
converted_with r (conv.Outside kind) more = Err (refusal r kind None)

abbrev pub after_converted : HostValue → ValType → Realm → Realm
after_converted v t r = record r { caches = with_converted v t r.caches }

abbrev pub arguments_of : List ValType → List HostValue → Realm → Result Converted Reply
arguments_of [] args r = Ok (record { realm = r; values = [] })
arguments_of (t ∷ ts) args r =
    converted_with r (to_wasm r.heap r.caches (first_argument args) t) (λ v. converted_before v (arguments_of ts (drop 1 args) (after_converted (first_argument args) t r)))

-- the call stands in the place of the effect, and its results become the answer
abbrev pub call_with : FuncAddr → Result Converted Reply → Reply
call_with a (Ok c) = begins c.realm (around (mark_round marks.Call) (core (invoke a c.values)))
call_with a (Err e) = e

abbrev pub call_exported : Realm → FuncAddr → List HostValue → Reply
call_exported r a args = call_with a (arguments_of (type_of (function_at r.store a)).params args r)

-- ---- a call of an object

abbrev pub call_callee : Tree → Realm → (running : ℕ) → List HostValue → Option Kind → Reply
call_callee s r n args (Some (kinds.Function (callees.Script function parameters))) = call_script s r n function args
call_callee s r n args (Some (kinds.Function (callees.Exported a))) = call_exported r a args
call_callee s r n args _ = lacks r

-- ---- the interface's answers

abbrev pub reply_of : Realm → Answer → Reply
reply_of r (answers.Value v) = value r v
reply_of r (answers.Throw class) = throws r class
reply_of r (answers.Start f o) = begins r (around (mark_round (marks.Start o)) (core (invoke f [])))
reply_of r (answers.Outside kind place) = refusal r kind place

abbrev pub answered : Answered → Reply
answered a = reply_of a.realm a.answer

-- ---- results of an Exported Function as a value: none is undefined, and several are an Array

pub record Shown : Type 0 where
  pub realm : Realm
  pub values : List HostValue

abbrev pub shown_before : HostValue → Shown → Shown
shown_before v s = record { realm = s.realm; values = v ∷ s.values }

abbrev pub after_shown : Value → Realm → Realm
after_shown v r = record r { heap = heap_with r.caches v r.heap; caches = caches_with r.heap v r.caches }

abbrev pub shown : List Value → Realm → Shown
shown [] r = record { realm = r; values = [] }
shown (v ∷ vs) r = shown_before (to_js r.heap r.caches v) (shown vs (after_shown v r))

abbrev pub array_of : Shown → Reply
array_of s = value (with_heap (with_object s.realm.heap kinds.Array (elements_of s.values)) s.realm) (values.Object (next_object s.realm.heap))

abbrev pub results_as_value : Realm → List Value → Reply
results_as_value r [] = value r values.Undefined
results_as_value r (v ∷ []) = value (after_shown v r) (to_js r.heap r.caches v)
results_as_value r vs = if nat_le (length vs) most_elements then array_of (shown vs r) else refusal r outside.ArraySize None
