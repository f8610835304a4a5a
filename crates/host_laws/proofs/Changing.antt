-- What a step changes of the heap, rule by rule.
use Rattle.std.proofs.Common.{◌≡◌, inl, inr, ℕ, ◌+◌, Bool, true, false, List, [], ◌∷◌, ◌++◌, length, map, Option, Some, None, nat_le, nat_lt, slice_get, if◌then◌else◌, codes, sym, subst}
use Rattle.std.specs.Map.{keys_of}
use Rattle.std.specs.Option.{is_some, option_map_or}
use Rattle.std.specs.Str.{bytes_eq}
use Rattle.host_nodes.specs.declared.form.NodeId.{NodeId}
use Rattle.host_nodes.specs.declared.form.Operand.{Operand}
use Rattle.host_nodes.specs.declared.form.PrefixOperator.{PrefixOperator}
use Rattle.host_nodes.specs.declared.form.PrefixOperator.TheVariants as prefix
use Rattle.host_nodes.specs.declared.form.Property.{Property}
use Rattle.host_nodes.specs.declared.form.Declaration.{Declaration}
use Rattle.host_nodes.specs.declared.form.Form.{Form}
use Rattle.host_nodes.specs.declared.form.Form.TheVariants as forms
use Rattle.host_parser.specs.Trees.{Tree}
use Rattle.host_parser.specs.declared.binding.Binding.{Binding}
use Rattle.host_parser.specs.declared.binding.Binding.TheVariants as bindings
use Rattle.host_parser.specs.declared.predefined.Predefined.{Predefined}
use Rattle.host_parser.specs.declared.predefined.Predefined.TheVariants as predefined
use Rattle.host_values.specs.Heaps.{kind_at, next_object, properties_at, with_object}
use Rattle.host_values.specs.KeyOrder.{key_of, key_of_text, ordered_keys, text_of_key}
use Rattle.host_values.specs.Members.{elements_of, most_elements, read_of, write_of, written}
use Rattle.host_values.specs.Objects.{HostHeap}
use Rattle.host_values.specs.declared.answers.Got.{Got}
use Rattle.host_values.specs.declared.answers.Got.TheVariants as got
use Rattle.host_values.specs.declared.answers.Put.{Put}
use Rattle.host_values.specs.declared.answers.Put.TheVariants as put
use Rattle.host_values.specs.declared.classes.Class.{Class}
use Rattle.host_values.specs.declared.keys.Key.{Key}
use Rattle.host_values.specs.declared.keys.Key.TheVariants as keys
use Rattle.host_values.specs.declared.kinds.Callee.{Callee}
use Rattle.host_values.specs.declared.kinds.Callee.TheVariants as callees
use Rattle.host_values.specs.declared.kinds.Kind.TheVariants as kinds
use Rattle.host_values.specs.declared.values.ErrorClass.{ErrorClass}
use Rattle.host_values.specs.declared.values.ErrorClass.TheVariants as errors
use Rattle.host_values.specs.declared.values.HostValue.{HostValue}
use Rattle.host_values.specs.declared.values.HostValue.TheVariants as values
use Rattle.host_values.specs.declared.values.ObjId.{ObjId}
use Rattle.host_convert.specs.declared.conv.Conv.{Conv}
use Rattle.host_convert.specs.declared.conv.Conv.TheVariants as conv
use Rattle.host_builtins.specs.Calls as builtins
use Rattle.host_builtins.specs.Calls.{Answer}
use Rattle.host_builtins.specs.Predefined.{member_of}
use Rattle.host_builtins.specs.Replies.{error_class, first_argument, message_of, plain_call, plain_construct}
use Rattle.host_builtins.specs.declared.members.Member.{Member}
use Rattle.host_builtins.specs.declared.members.Member.TheVariants as members
use Rattle.host_builtins.specs.declared.replies.Reply.{Reply}
use Rattle.host_builtins.specs.declared.replies.Reply.TheVariants as replies
use Rattle.host_machine.specs.declared.completion.Completion.{Completion}
use Rattle.host_machine.specs.declared.completion.Completion.TheVariants as completions
use Rattle.host_machine.specs.declared.effect.HostEffect.{HostEffect}
use Rattle.host_machine.specs.declared.effect.HostEffect.TheVariants as effects
use Rattle.host_machine.specs.declared.focus.Focus.{Focus}
use Rattle.host_machine.specs.declared.focus.Focus.TheVariants as focus
use Rattle.host_machine.specs.declared.item.Item.{Item}
use Rattle.host_machine.specs.declared.item.Item.TheVariants as items
use Rattle.host_machine.specs.declared.item.Sequence.{Sequence}
use Rattle.host_machine.specs.declared.reference.Base.{Base}
use Rattle.host_machine.specs.declared.reference.Base.TheVariants as bases
use Rattle.host_machine.specs.declared.reference.Callable.{Callable}
use Rattle.host_machine.specs.declared.reference.Callable.TheVariants as callables
use Rattle.host_machine.specs.declared.reference.Reference.{Reference}
use Rattle.host_machine.specs.declared.reference.Reference.TheVariants as references
use Rattle.host_machine.specs.Terms.{HostTerm, at, round, State, now, Rewritten, goes, throws}
use Rattle.host_machine.specs.Nodes as nodes
use Rattle.host_machine.specs.Names as names
use Rattle.host_machine.specs.Operators as operators
use Rattle.host_machine.specs.Members as members_at
use Rattle.host_machine.specs.Calls as calls_at
use Rattle.host_machine.specs.Rewriting as rules
use Rattle.host_machine.specs.Rewriting.{Does, rewrites, gives_value, refers_to, ends, leaves, hole, does, rewrite}
use Rattle.host_machine.specs.Frames as frames
use Rattle.host_machine.specs.Frames.{Told, Freely, Later, end_of}
use Rattle.host_laws.specs.Changes.{Changes, StepsChange, nothing, made, wrote, bound, through}

-- a rule changes the heap only so
abbrev Keeps : State → Rewritten → Type 0
Keeps st w = Changes st.heap w.state.heap

-- the state with another heap
abbrev with_heap : State → HostHeap → State
with_heap st h = record { heap = h; locals = st.locals }

thrown : (st : State) (class : ErrorClass) → Keeps st (throws st class)
thrown st class = made st.heap (kinds.Error class []) [] tt

either : (st : State) (b : Bool) (v w : Rewritten) → Keeps st v → Keeps st w → Keeps st (if b then v else w)
either st true v w x y = x
either st false v w x y = y

-- ---- names

predefined_read : (st : State) (p : Predefined) (place : ℕ) → Keeps st (names.predefined_read st p place)
predefined_read st predefined.Print place = nothing st.heap
predefined_read st p place = nothing st.heap

value_read : (st : State) (v : Option HostValue) → Keeps st (names.value_read st v)
value_read st None = thrown st errors.ReferenceError
value_read st (Some v) = nothing st.heap

name_read : (st : State) (b : Binding) (place : ℕ) → Keeps st (names.name_read st b place)
name_read st (bindings.Predefined p) place = predefined_read st p place
name_read st (bindings.Global slot) place = value_read st (names.value_of st (bindings.Global slot))
name_read st (bindings.Local slot) place = value_read st (names.value_of st (bindings.Local slot))
name_read st bindings.Unknown place = value_read st (names.value_of st bindings.Unknown)

with_value : (st : State) (b : Binding) (v : HostValue) → Changes st.heap (names.with_value st b v).heap
with_value st (bindings.Global slot) v = bound st.heap slot.number v
with_value st (bindings.Local slot) v = nothing st.heap
with_value st (bindings.Predefined p) v = nothing st.heap
with_value st bindings.Unknown v = nothing st.heap

value_written : (st : State) (b : Binding) (v : HostValue) → Keeps st (names.value_written st b v)
value_written st b v = either st (names.is_constant b) (throws st errors.TypeError) (goes (names.with_value st b v) (now focus.Done)) (thrown st errors.TypeError) (with_value st b v)

value_set : (st : State) (b : Binding) (v : HostValue) → Keeps st (if is_some (names.value_of st b) then names.value_written st b v else throws st errors.ReferenceError)
value_set st b v = either st (is_some (names.value_of st b)) (names.value_written st b v) (throws st errors.ReferenceError) (value_written st b v) (thrown st errors.ReferenceError)

name_written : (st : State) (b : Binding) (place : ℕ) (v : HostValue) → Keeps st (names.name_written st b place v)
name_written st (bindings.Predefined p) place v = nothing st.heap
name_written st (bindings.Global slot) place v = value_set st (bindings.Global slot) v
name_written st (bindings.Local slot) place v = value_set st (bindings.Local slot) v
name_written st bindings.Unknown place v = value_set st bindings.Unknown v

-- ---- operators

chain_goes : (st : State) (form : Option Form) (n : NodeId) (next place : ℕ) (x : Conv HostValue) → Keeps st (operators.chain_goes st form n next place x)
chain_goes st form n next place (conv.Value v) = nothing st.heap
chain_goes st form n next place (conv.Throw class) = thrown st class
chain_goes st form n next place (conv.Outside kind) = nothing st.heap

operated_at : (st : State) (form : Option Form) (n : NodeId) (k : ℕ) (left right : HostValue) (o : Option Operand) → Keeps st (operators.operated_at st form n k left right o)
operated_at st form n k left right None = nothing st.heap
operated_at st form n k left right (Some o) = chain_goes st form n (k + 1) o.place (operators.applied o.operator left right)

converted : (st : State) (place : ℕ) (x : Conv HostValue) → Keeps st (operators.converted st place x)
converted st place (conv.Value v) = nothing st.heap
converted st place (conv.Throw class) = thrown st class
converted st place (conv.Outside kind) = nothing st.heap

-- ---- members

got_of : (st : State) (o : ObjId) (key : Key) (place : ℕ) (x : Got) → Keeps st (members_at.got_of st o key place x)
got_of st o key place (got.Value v) = nothing st.heap
got_of st o key place (got.Throw class) = thrown st class
got_of st o key place (got.Outside kind) = nothing st.heap
got_of st o key place got.Interface = nothing st.heap

object_read : (st : State) (o : ObjId) (key : Key) (place : ℕ) → Keeps st (members_at.object_read st o key place)
object_read st o key place = either st _ _ _ (nothing st.heap) (got_of st o key place (read_of st.heap (values.Object o) key))

primitive_got : (st : State) (place : ℕ) (x : Got) → Keeps st (members_at.primitive_got st place x)
primitive_got st place (got.Value v) = nothing st.heap
primitive_got st place (got.Throw class) = thrown st class
primitive_got st place (got.Outside kind) = nothing st.heap
primitive_got st place got.Interface = thrown st errors.TypeError

value_member : (st : State) (v : HostValue) (key : Key) (place : ℕ) → Keeps st (members_at.value_member st v key place)
value_member st (values.Object o) key place = object_read st o key place
value_member st v key place = primitive_got st place (read_of st.heap v key)

predefined_member : (st : State) (class : Class) (name : List ℕ) (place : ℕ) (m : Option Member) → Keeps st (members_at.predefined_member st class name place m)
predefined_member st class name place None = nothing st.heap
predefined_member st class name place (Some (members.Class inner)) = nothing st.heap
predefined_member st class name place (Some members.Function) = nothing st.heap

member_read : (st : State) (base : Base) (key : Key) (place : ℕ) → Keeps st (members_at.member_read st base key place)
member_read st (bases.Value v) key place = value_member st v key place
member_read st (bases.Class class) key place = predefined_member st class (text_of_key key) place (member_of class (text_of_key key))

keyed_read : (st : State) (base : Base) (place : ℕ) (key : Option Key) → Keeps st (members_at.keyed_read st base place key)
keyed_read st base place None = nothing st.heap
keyed_read st base place (Some key) = member_read st base key place

computed_read : (st : State) (base : Base) (v : HostValue) (place : ℕ) → Keeps st (members_at.computed_read st base v place)
computed_read st base v place = either st (members_at.is_nullish base) _ _ (thrown st errors.TypeError) (keyed_read st base place (key_of v))

put_of : (st : State) (o : HostValue) (key : Key) (v : HostValue) (place : ℕ) (x : Put) → Keeps st (members_at.put_of st o key v place x)
put_of st o key v place put.Done = wrote st.heap o key v
put_of st o key v place (put.Throw class) = thrown st class
put_of st o key v place (put.Outside kind) = nothing st.heap
put_of st (values.Object o) key v place put.Interface = nothing st.heap
put_of st o key v place put.Interface = thrown st errors.TypeError

member_written : (st : State) (base : Base) (key : Key) (v : HostValue) (place : ℕ) → Keeps st (members_at.member_written st base key v place)
member_written st (bases.Value o) key v place = put_of st o key v place (write_of st.heap o key)
member_written st (bases.Class class) key v place = nothing st.heap

keyed_written : (st : State) (base : Base) (v : HostValue) (place : ℕ) (key : Option Key) → Keeps st (members_at.keyed_written st base v place key)
keyed_written st base v place None = nothing st.heap
keyed_written st base v place (Some key) = member_written st base key v place

computed_written : (st : State) (base : Base) (k v : HostValue) (place : ℕ) → Keeps st (members_at.computed_written st base k v place)
computed_written st base k v place = either st (members_at.is_nullish base) _ _ (thrown st errors.TypeError) (keyed_written st base v place (key_of k))

-- ---- answers of predefined objects

abbrev Answers : HostHeap → Answer → Type 0
Answers h a = Changes h a.heap

either_answers : (h : HostHeap) (b : Bool) (x y : Answer) → Answers h x → Answers h y → Answers h (if b then x else y)
either_answers h true x y p q = p
either_answers h false x y p q = q

error_made : (h : HostHeap) (class : ErrorClass) (message : Conv (List ℕ)) → Answers h (builtins.error_made h class message)
error_made h class (conv.Value message) = made h (kinds.Error class message) [] tt
error_made h class (conv.Throw thrown) = nothing h
error_made h class (conv.Outside kind) = nothing h

error_or : (h : HostHeap) (r : Reply) (message : Conv (List ℕ)) (class : Option ErrorClass)
    → Answers h (option_map_or (λ (e : ErrorClass). builtins.error_made h e message) class (builtins.unchanged h r))
error_or h r message None = nothing h
error_or h r message (Some class) = error_made h class message

call_of : (h : HostHeap) (class : Class) (args : List HostValue) → Answers h (builtins.call_of h class args)
call_of h class args = error_or h (plain_call class args) (message_of args) (error_class class)

construct_of : (h : HostHeap) (class : Class) (args : List HostValue) → Answers h (builtins.construct_of h class args)
construct_of h class args = error_or h (plain_construct class) (message_of args) (error_class class)

texts_made : (h : HostHeap) (ks : List Key) → Answers h (builtins.texts_made h ks)
texts_made h ks = either_answers h (nat_le (length ks) most_elements) _ _ (made h kinds.Array (elements_of (map (λ k. values.Text (text_of_key k)) ks)) tt) (nothing h)

object_keys : (h : HostHeap) (o : ObjId) → Answers h (builtins.object_keys h o)
object_keys h o = either_answers h _ _ _ (texts_made h (ordered_keys (keys_of (properties_at h o)))) (nothing h)

keys_call : (h : HostHeap) (v : HostValue) → Answers h (builtins.keys_call h v)
keys_call h (values.Object o) = object_keys h o
keys_call h v = nothing h

member_call_of : (h : HostHeap) (class : Class) (name : List ℕ) (args : List HostValue) → Answers h (builtins.member_call_of h class name args)
member_call_of h class name args = either_answers h (builtins.is_object_keys class name) _ _ (keys_call h (first_argument args)) (nothing h)

pushed_one : (h : HostHeap) (o : ObjId) (len : ℕ) (v : HostValue) → Answers h (builtins.pushed h o len v)
pushed_one h o len v = either_answers h (nat_lt len most_elements) _ _ (wrote h (values.Object o) (keys.Index len) v) (nothing h)

push_of : (h : HostHeap) (o : ObjId) (args : List HostValue) → Answers h (builtins.push_of h o args)
push_of h o [] = nothing h
push_of h o (v ∷ []) = pushed_one h o (length (properties_at h o)) v
push_of h o (v ∷ w ∷ rest) = nothing h

-- ---- calls

function_object_called : (st : State) (o : ObjId) (args : List HostValue) (place : ℕ) (c : Callee) → Keeps st (calls_at.function_object_called st o args place c)
function_object_called st o args place callees.Print = nothing st.heap
function_object_called st o args place c = nothing st.heap

callee_called : (st : State) (o : ObjId) (args : List HostValue) (place : ℕ) (c : Option Callee) → Keeps st (calls_at.callee_called st o args place c)
callee_called st o args place None = thrown st errors.TypeError
callee_called st o args place (Some c) = function_object_called st o args place c

value_called : (st : State) (v : HostValue) (args : List HostValue) (place : ℕ) → Keeps st (calls_at.value_called st v args place)
value_called st (values.Object o) args place = callee_called st o args place (calls_at.callee_of (kind_at st.heap o))
value_called st v args place = thrown st errors.TypeError

replied : (st : State) (e : HostEffect) (place : ℕ) (r : Reply) → Keeps st (calls_at.replied st e place r)
replied st e place (replies.Value v) = nothing st.heap
replied st e place (replies.Throw class) = thrown st class
replied st e place (replies.Outside kind) = nothing st.heap
replied st e place replies.Interface = nothing st.heap

answered : (st : State) (e : HostEffect) (place : ℕ) (a : Answer) → Answers st.heap a → Keeps st (calls_at.answered st e place a)
answered st e place a x = through st.heap a.heap _ x (replied (with_heap st a.heap) e place a.reply)

method_called : (st : State) (o : ObjId) (name : List ℕ) (args : List HostValue) (place : ℕ) → Keeps st (calls_at.method_called st o name args place)
method_called st o name args place = either st (calls_at.is_array (kind_at st.heap o)) _ _ (answered st _ place (builtins.push_of st.heap o args) (push_of st.heap o args)) (nothing st.heap)

reference_called : (st : State) (r : Reference) (args : List HostValue) (place : ℕ) → Keeps st (calls_at.reference_called st r args place)
reference_called st (references.Class class) args place = answered st _ place (builtins.call_of st.heap class args) (call_of st.heap class args)
reference_called st (references.Function class name) args place = answered st _ place (builtins.member_call_of st.heap class name args) (member_call_of st.heap class name args)
reference_called st (references.Method o name) args place = method_called st o name args place

called : (st : State) (c : Callable) (args : List HostValue) (place : ℕ) → Keeps st (calls_at.called st c args place)
called st (callables.Value v) args place = value_called st v args place
called st (callables.Reference r) args place = reference_called st r args place

callee_constructed : (st : State) (place : ℕ) (c : Option Callee) → Keeps st (calls_at.callee_constructed st place c)
callee_constructed st place None = thrown st errors.TypeError
callee_constructed st place (Some (callees.Script function count)) = nothing st.heap
callee_constructed st place (Some callees.Print) = nothing st.heap
callee_constructed st place (Some c) = thrown st errors.TypeError

value_constructed : (st : State) (v : HostValue) (place : ℕ) → Keeps st (calls_at.value_constructed st v place)
value_constructed st (values.Object o) place = callee_constructed st place (calls_at.callee_of (kind_at st.heap o))
value_constructed st v place = thrown st errors.TypeError

reference_constructed : (st : State) (r : Reference) (args : List HostValue) (place : ℕ) → Keeps st (calls_at.reference_constructed st r args place)
reference_constructed st (references.Class class) args place = answered st _ place (builtins.construct_of st.heap class args) (construct_of st.heap class args)
reference_constructed st (references.Function class name) args place = nothing st.heap
reference_constructed st (references.Method o name) args place = nothing st.heap

constructed : (st : State) (c : Callable) (args : List HostValue) (place : ℕ) → Keeps st (calls_at.constructed st c args place)
constructed st (callables.Value v) args place = value_constructed st v place
constructed st (callables.Reference r) args place = reference_constructed st r args place

called_or_constructed : (st : State) (c : Callable) (args : List HostValue) (place : ℕ) (form : Option Form) → Keeps st (rules.calls st c args place form)
called_or_constructed st c args place None = called st c args place
called_or_constructed st c args place (Some (forms.New class arguments)) = constructed st c args place
called_or_constructed st c args place (Some form) = called st c args place

-- ---- statements and expressions that begin

listed : (st : State) (q : Sequence) (k outer : ℕ) (n : Option NodeId) → Keeps st (rules.listed st q k outer n)
listed st q k outer None = nothing st.heap
listed st q k outer (Some n) = nothing st.heap

element_next : (st : State) (n : NodeId) (done : List HostValue) (place : ℕ) (x : Option NodeId) → Keeps st (rules.element_next st n done place x)
element_next st n done place (Some x) = nothing st.heap
element_next st n done place None = either st (nat_le (length done) most_elements) _ _ (made st.heap kinds.Array (elements_of done) tt) (nothing st.heap)

element_of : (s : Tree) (st : State) (n : NodeId) (done : List HostValue) → Keeps st (rules.element_of s st n done)
element_of s st n done = element_next st n done (nodes.place_at s n) (slice_get (nodes.elements_of (nodes.form_at s n)) (length done))

property_next : (st : State) (n : NodeId) (k : ℕ) (o : ObjId) (p : Option Property) → Keeps st (rules.property_next st n k o p)
property_next st n k o None = nothing st.heap
property_next st n k o (Some p) = either st (bytes_eq (nodes.spelled p.key) (codes "__proto__")) _ _ (nothing st.heap) (nothing st.heap)

property_of : (s : Tree) (st : State) (n : NodeId) (k : ℕ) (o : ObjId) → Keeps st (rules.property_of s st n k o)
property_of s st n k o = property_next st n k o (slice_get (nodes.properties_of (nodes.form_at s n)) k)

object_begun : (s : Tree) (st : State) (n : NodeId) → Keeps st (rules.object_begun s st n)
object_begun s st n =
    let h = with_object st.heap kinds.Plain [] in
    through st.heap h _ (made st.heap kinds.Plain [] tt) (property_of s (with_heap st h) n 0 (next_object st.heap))

property_set : (s : Tree) (st : State) (n : NodeId) (k : ℕ) (o : ObjId) (v : HostValue) (p : Option Property) → Keeps st (rules.property_set s st n k o v p)
property_set s st n k o v None = nothing st.heap
property_set s st n k o v (Some p) =
    let key = key_of_text (nodes.spelled p.key) in
    let h = written st.heap (values.Object o) key v in
    through st.heap h _ (wrote st.heap (values.Object o) key v) (property_of s (with_heap st h) n (k + 1) o)

valued : (s : Tree) (st : State) (n : NodeId) (k : ℕ) (name : NodeId) (x : Option NodeId) → Keeps st (rules.valued s st n k name x)
valued s st n k name None = with_value st (nodes.binding_at s name) values.Undefined
valued s st n k name (Some x) = nothing st.heap

declared : (s : Tree) (st : State) (n : NodeId) (k : ℕ) (d : Option Declaration) → Keeps st (rules.declared s st n k d)
declared s st n k None = nothing st.heap
declared s st n k (Some d) = valued s st n k d.name d.value

initialised : (s : Tree) (st : State) (n : NodeId) (k : ℕ) (v : HostValue) (d : Option Declaration) → Keeps st (rules.initialised s st n k v d)
initialised s st n k v None = nothing st.heap
initialised s st n k v (Some d) = with_value st (nodes.binding_at s d.name) v

prefix_begun : (s : Tree) (st : State) (n : NodeId) (operator : PrefixOperator) (x : NodeId) → Keeps st (rules.prefix_begun s st n operator x)
prefix_begun s st n prefix.TypeOf x = either st (rules.is_unknown (nodes.form_at s x) (nodes.binding_at s x)) _ _ (nothing st.heap) (nothing st.heap)
prefix_begun s st n operator x = nothing st.heap

statement_begun : (s : Tree) (st : State) (n : NodeId) (form : Form) → Keeps st (rules.statement_begun s st n form)
statement_begun s st n (forms.Return None) = nothing st.heap
statement_begun s st n (forms.Return (Some x)) = nothing st.heap
statement_begun s st n form = nothing st.heap

form_begun : (s : Tree) (st : State) (n : NodeId) (form : Form) → Keeps st (rules.form_begun s st n form)
form_begun s st n (forms.Name text reference) = name_read st (nodes.binding_at s n) (nodes.place_at s n)
form_begun s st n (forms.Array xs) = element_of s st n []
form_begun s st n (forms.Object ps) = object_begun s st n
form_begun s st n (forms.Prefix operator x) = prefix_begun s st n operator x
form_begun s st n (forms.Return None) = nothing st.heap
form_begun s st n (forms.Return (Some x)) = nothing st.heap
form_begun s st n form = nothing st.heap

begun : (s : Tree) (st : State) (n : NodeId) (form : Option Form) → Keeps st (rules.begun s st n form)
begun s st n None = nothing st.heap
begun s st n (Some form) = form_begun s st n form

-- ---- results that items take

prefix_done : (st : State) (place : ℕ) (v : HostValue) (form : Option Form) → Keeps st (rules.prefix_done st place v form)
prefix_done st place v None = nothing st.heap
prefix_done st place v (Some (forms.Prefix operator x)) = converted st place (operators.prefixed st.heap operator v)
prefix_done st place v (Some form) = nothing st.heap

operand_taken : (s : Tree) (st : State) (i : Item) (v : HostValue) → Keeps st (rules.operand_taken s st i v)
operand_taken s st (items.Right n k left) v = operated_at st (nodes.form_at s n) n k left v (slice_get (nodes.operands_of (nodes.form_at s n)) k)
operand_taken s st (items.Prefix n) v = prefix_done st (nodes.place_at s n) v (nodes.form_at s n)
operand_taken s st (items.Elements n done) v = element_of s st n (done ++ v ∷ [])
operand_taken s st (items.Property n k o) v = property_set s st n k o v (slice_get (nodes.properties_of (nodes.form_at s n)) k)
operand_taken s st (items.Member n) v = member_read st (bases.Value v) (key_of_text (nodes.key_of_member (nodes.form_at s n))) (nodes.place_at s n)
operand_taken s st (items.IndexKey n base) v = computed_read st base v (nodes.place_at s n)
operand_taken s st i v = nothing st.heap

assignment_taken : (s : Tree) (st : State) (i : Item) (v : HostValue) → Keeps st (rules.assignment_taken s st i v)
assignment_taken s st (items.AssignName target) v = name_written st (nodes.binding_at s target) (nodes.place_at s target) v
assignment_taken s st (items.AssignObject n) v = nothing st.heap
assignment_taken s st (items.AssignKey n base) v = nothing st.heap
assignment_taken s st (items.AssignMember target base) v = member_written st base (key_of_text (nodes.key_of_member (nodes.form_at s target))) v (nodes.place_at s target)
assignment_taken s st (items.AssignElement target base key) v = computed_written st base key v (nodes.place_at s target)
assignment_taken s st i v = operand_taken s st i v

resumed : (s : Tree) (st : State) (i : Item) (v : HostValue) → Keeps st (rules.resumed s st i v)
resumed s st items.Expression v = nothing st.heap
resumed s st (items.If n) v = nothing st.heap
resumed s st (items.Test n) v = nothing st.heap
resumed s st items.Return v = nothing st.heap
resumed s st items.Throw v = nothing st.heap
resumed s st (items.Declare n k) v = initialised s st n k v (slice_get (nodes.declarations_of (nodes.form_at s n)) k)
resumed s st i v = assignment_taken s st i v

callee_referred : (s : Tree) (st : State) (n : NodeId) (r : Reference) (place : ℕ) (form : Option Form) → Keeps st (rules.callee_referred s st n r place form)
callee_referred s st n (references.Method o name) place (Some (forms.New class arguments)) = nothing st.heap
callee_referred s st n r place form = nothing st.heap

class_referred : (s : Tree) (st : State) (i : Item) (class : Class) (place : ℕ) → Keeps st (rules.class_referred s st i class place)
class_referred s st (items.Member n) class place = member_read st (bases.Class class) (key_of_text (nodes.key_of_member (nodes.form_at s n))) (nodes.place_at s n)
class_referred s st i class place = nothing st.heap

uncalled : (s : Tree) (st : State) (i : Item) (r : Reference) (place : ℕ) → Keeps st (rules.uncalled s st i r place)
uncalled s st i (references.Class class) place = class_referred s st i class place
uncalled s st i (references.Function class name) place = nothing st.heap
uncalled s st i (references.Method o name) place = nothing st.heap

referred : (s : Tree) (st : State) (i : Item) (r : Reference) (place : ℕ) → Keeps st (rules.referred s st i r place)
referred s st (items.Callee n) r place = callee_referred s st n r place (nodes.form_at s n)
referred s st i r place = uncalled s st i r place

ended : (s : Tree) (st : State) (i : Item) → Keeps st (rules.ended s st i)
ended s st (items.List q k outer) = listed st q k outer (slice_get (nodes.statements_of s q) k)
ended s st i = nothing st.heap

try_left : (s : Tree) (st : State) (c : Completion) (form : Option Form) → Keeps st (rules.try_left s st c form)
try_left s st (completions.Throw v) (Some (forms.Try body caught handler)) = nothing st.heap
try_left s st c form = nothing st.heap

left : (s : Tree) (st : State) (i : Item) (c : Completion) → Keeps st (rules.left s st i c)
left s st (items.Try n) c = try_left s st c (nodes.form_at s n)
left s st i c = nothing st.heap

-- ---- terms and steps

abbrev pub KeptBy : State → Does → Type 0
KeptBy st (rewrites e r u) = Changes st.heap r.heap
KeptBy st _ = Unit {0}

at_work : (s : Tree) (st : State) (f : Focus) → KeptBy st (rules.at_work s st f)
at_work s st (focus.Begin n) = begun s st n (nodes.form_at s n)
at_work s st (focus.Declares n k) = declared s st n k (slice_get (nodes.declarations_of (nodes.form_at s n)) k)
at_work s st (focus.Turn n) = nothing st.heap
at_work s st (focus.Calls n callee args) = called_or_constructed st callee args (nodes.place_at s n) (nodes.form_at s n)
at_work s st (focus.Value v) = tt
at_work s st (focus.Refers r place) = tt
at_work s st focus.Done = tt
at_work s st (focus.Leaves c) = tt
at_work s st (focus.Waits place) = tt

in_item : (s : Tree) (st : State) (i : Item) (d : Does) → KeptBy st d → KeptBy st (rules.in_item s st i d)
in_item s st i (rewrites e r u) k = k
in_item s st i (gives_value v) k = resumed s st i v
in_item s st i (refers_to r place) k = referred s st i r place
in_item s st i ends k = ended s st i
in_item s st i (leaves c) k = left s st i c
in_item s st i hole k = tt

pub rewritten : (s : Tree) (st : State) (t : HostTerm) → KeptBy st (rewrite s st t)
rewritten s st (at f) = at_work s st f
rewritten s st (round i t) = in_item s st i (rewrite s st t) (rewritten s st t)

one : (s : Tree) (st : State) (t : HostTerm) (e : HostEffect) (r : State) (u : HostTerm) → rewrite s st t ≡ rewrites e r u → Changes st.heap r.heap
one s st t e r u is = subst (KeptBy st) is (rewritten s st t)

told : (s : Tree) (st : State) (t : HostTerm) (e : HostEffect) (r : State) (u : HostTerm) → Told s st t e r u → Changes st.heap r.heap
told s st t e r u (inl is) = one s st t e r u is
told s st t e r u (inr is) = subst (λ (x : State). Changes st.heap x.heap) (sym is.1) (nothing st.heap)

freely : (s : Tree) (st : State) (t : HostTerm) (r : State) (u : HostTerm) → Freely s st t r u → Changes st.heap r.heap
freely s st t r u (frames.here s1 st1 t1) = nothing st.heap
freely s st t r u (frames.freely s1 st1 t1 m x q w before free is) = through st.heap m.heap r.heap (freely s st t m x before) (one s m x effects.Went r u is)

later : (s : Tree) (st : State) (t : HostTerm) (e : HostEffect) (r : State) (u : HostTerm) → Later s st t e r u → Changes st.heap r.heap
later s st t e r u l =
    through st.heap l.first_state.heap r.heap (one s st t effects.Went l.first_state l.first_term l.first)
    (through l.first_state.heap l.last_state.heap r.heap (freely s l.first_state l.first_term l.last_state l.last_term l.between)
    (told s l.last_state l.last_term e r u l.told))

pub steps_change : StepsChange
steps_change s st t e r u (inl a) = told s st t e r u a
steps_change s st t e r u (inr a) = later s st t e r u a
