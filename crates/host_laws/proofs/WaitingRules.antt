-- Where each rule leaves the place at work: with an effect that asks for an answer it waits, and else it goes on.
use Rattle.std.proofs.Common.{ℕ, ◌+◌, Bool, true, false, List, [], ◌∷◌, ◌++◌, length, Option, Some, None, nat_le, slice_get, if◌then◌else◌, codes}
use Rattle.std.specs.Option.{is_some, option_map_or}
use Rattle.std.specs.Str.{bytes_eq}
use Rattle.host_nodes.specs.declared.form.NodeId.{NodeId}
use Rattle.host_nodes.specs.declared.form.PrefixOperator.{PrefixOperator}
use Rattle.host_nodes.specs.declared.form.PrefixOperator.TheVariants as prefix
use Rattle.host_nodes.specs.declared.form.Operand.{Operand}
use Rattle.host_nodes.specs.declared.form.Property.{Property}
use Rattle.host_nodes.specs.declared.form.Declaration.{Declaration}
use Rattle.host_nodes.specs.declared.form.Form.{Form}
use Rattle.host_nodes.specs.declared.form.Form.TheVariants as forms
use Rattle.host_parser.specs.Trees.{Tree}
use Rattle.host_parser.specs.declared.binding.Binding.{Binding}
use Rattle.host_parser.specs.declared.binding.Binding.TheVariants as bindings
use Rattle.host_parser.specs.declared.predefined.Predefined.{Predefined}
use Rattle.host_parser.specs.declared.predefined.Predefined.TheVariants as predefined
use Rattle.host_values.specs.Heaps.{kind_at}
use Rattle.host_values.specs.KeyOrder.{key_of, key_of_text, text_of_key}
use Rattle.host_values.specs.Members.{most_elements, read_of, write_of}
use Rattle.host_values.specs.declared.answers.Got.{Got}
use Rattle.host_values.specs.declared.answers.Got.TheVariants as got
use Rattle.host_values.specs.declared.answers.Put.{Put}
use Rattle.host_values.specs.declared.answers.Put.TheVariants as put
use Rattle.host_values.specs.declared.classes.Class.{Class}
use Rattle.host_values.specs.declared.keys.Key.{Key}
use Rattle.host_values.specs.declared.kinds.Callee.{Callee}
use Rattle.host_values.specs.declared.kinds.Callee.TheVariants as callees
use Rattle.host_values.specs.declared.values.ErrorClass.TheVariants as errors
use Rattle.host_values.specs.declared.values.HostValue.{HostValue}
use Rattle.host_values.specs.declared.values.HostValue.TheVariants as values
use Rattle.host_values.specs.declared.values.ObjId.{ObjId}
use Rattle.host_convert.specs.Conversions.{to_boolean}
use Rattle.host_convert.specs.declared.conv.Conv.{Conv}
use Rattle.host_convert.specs.declared.conv.Conv.TheVariants as conv
use Rattle.host_builtins.specs.Calls as builtins
use Rattle.host_builtins.specs.Calls.{Answer}
use Rattle.host_builtins.specs.Predefined.{is_method, member_of}
use Rattle.host_builtins.specs.declared.members.Member.{Member}
use Rattle.host_builtins.specs.declared.members.Member.TheVariants as members
use Rattle.host_builtins.specs.declared.replies.Reply.{Reply}
use Rattle.host_builtins.specs.declared.replies.Reply.TheVariants as replies
use Rattle.host_machine.specs.declared.completion.Completion.{Completion}
use Rattle.host_machine.specs.declared.completion.Completion.TheVariants as completions
use Rattle.host_machine.specs.declared.effect.HostEffect.{HostEffect}
use Rattle.host_machine.specs.declared.focus.Focus.TheVariants as focus
use Rattle.host_machine.specs.declared.item.Item.{Item}
use Rattle.host_machine.specs.declared.item.Item.TheVariants as items
use Rattle.host_machine.specs.declared.item.Sequence.{Sequence}
use Rattle.host_machine.specs.declared.reference.Base.{Base}
use Rattle.host_machine.specs.declared.reference.Base.TheVariants as bases
use Rattle.host_machine.specs.declared.reference.Callable.{Callable}
use Rattle.host_machine.specs.declared.reference.Callable.TheVariants as callables
use Rattle.host_machine.specs.declared.reference.Reference.{Reference}
use Rattle.host_machine.specs.declared.reference.Reference.TheVariants as references
use Rattle.host_machine.specs.Terms.{State, Work, Rewritten, goes, throws}
use Rattle.host_machine.specs.Nodes as nodes
use Rattle.host_machine.specs.Names as names
use Rattle.host_machine.specs.Operators as operators
use Rattle.host_machine.specs.Members as members_at
use Rattle.host_machine.specs.Calls as calls_at
use Rattle.host_machine.specs.Rewriting as rules
use Rattle.host_machine.specs.Frames.{IsAtWork}
use Rattle.host_laws.specs.Waiting.{LeavesAt}

-- ---- what a rule gives

-- the place at work fits the effect
pub record Fits (w : Rewritten) : Type 0 where
  pub place : LeavesAt w.effect w.work.focus

-- what takes a term's place can go on
pub record IsWorking (w : Work) : Type 0 where
  pub place : IsAtWork w.focus

goes_fits : (st : State) (w : Work) → IsWorking w → Fits (goes st w)
goes_fits st w k = record { place = k.place }

either : (b : Bool) (v w : Rewritten) → Fits v → Fits w → Fits (if b then v else w)
either true v w x y = x
either false v w x y = y

work_either : (b : Bool) (v w : Work) → IsWorking v → IsWorking w → IsWorking (if b then v else w)
work_either true v w x y = x
work_either false v w x y = y

-- ---- names

predefined_read : (st : State) (p : Predefined) (place : ℕ) → Fits (names.predefined_read st p place)
predefined_read st predefined.Print place = record { place = tt }
predefined_read st p place = record { place = tt }

value_read : (st : State) (v : Option HostValue) → Fits (names.value_read st v)
value_read st None = record { place = tt }
value_read st (Some v) = record { place = tt }

name_read : (st : State) (b : Binding) (place : ℕ) → Fits (names.name_read st b place)
name_read st (bindings.Predefined p) place = predefined_read st p place
name_read st b place = value_read st (names.value_of st b)

value_written : (st : State) (b : Binding) (v : HostValue) → Fits (names.value_written st b v)
value_written st b v = either (names.is_constant b) _ _ (record { place = tt }) (record { place = tt })

value_set : (st : State) (b : Binding) (v : HostValue) → Fits (if is_some (names.value_of st b) then names.value_written st b v else throws st errors.ReferenceError)
value_set st b v = either (is_some (names.value_of st b)) _ _ (value_written st b v) (record { place = tt })

name_written : (st : State) (b : Binding) (place : ℕ) (v : HostValue) → Fits (names.name_written st b place v)
name_written st (bindings.Predefined p) place v = record { place = tt }
name_written st b place v = value_set st b v

-- ---- operators

chained_at : (form : Option Form) (n : NodeId) (k : ℕ) (v : HostValue) (o : Option Operand) → IsWorking (operators.chained_at form n k v o)
chained_at form n k v None = record { place = tt }
chained_at form n k v (Some o) = work_either (operators.decides o.operator v) _ _ (record { place = tt }) (record { place = tt })

chained : (form : Option Form) (n : NodeId) (k : ℕ) (v : HostValue) → IsWorking (operators.chained form n k v)
chained form n k v = chained_at form n k v (slice_get (nodes.operands_of form) k)

chain_goes : (st : State) (form : Option Form) (n : NodeId) (next place : ℕ) (x : Conv HostValue) → Fits (operators.chain_goes st form n next place x)
chain_goes st form n next place (conv.Value v) = goes_fits st _ (chained form n next v)
chain_goes st form n next place (conv.Throw class) = record { place = tt }
chain_goes st form n next place (conv.Outside kind) = record { place = tt }

operated_at : (st : State) (form : Option Form) (n : NodeId) (k : ℕ) (left right : HostValue) (o : Option Operand) → Fits (operators.operated_at st form n k left right o)
operated_at st form n k left right None = record { place = tt }
operated_at st form n k left right (Some o) = chain_goes st form n (k + 1) o.place (operators.applied o.operator left right)

converted : (st : State) (place : ℕ) (x : Conv HostValue) → Fits (operators.converted st place x)
converted st place (conv.Value v) = record { place = tt }
converted st place (conv.Throw class) = record { place = tt }
converted st place (conv.Outside kind) = record { place = tt }

-- ---- members

got_of : (st : State) (o : ObjId) (key : Key) (place : ℕ) (x : Got) → Fits (members_at.got_of st o key place x)
got_of st o key place (got.Value v) = record { place = tt }
got_of st o key place (got.Throw class) = record { place = tt }
got_of st o key place (got.Outside kind) = record { place = tt }
got_of st o key place got.Interface = record { place = tt }

object_read : (st : State) (o : ObjId) (key : Key) (place : ℕ) → Fits (members_at.object_read st o key place)
object_read st o key place =
    either (option_map_or (λ kind. is_method kind key) (kind_at st.heap o) false) _ _ (record { place = tt }) (got_of st o key place (read_of st.heap (values.Object o) key))

primitive_got : (st : State) (place : ℕ) (x : Got) → Fits (members_at.primitive_got st place x)
primitive_got st place (got.Value v) = record { place = tt }
primitive_got st place (got.Throw class) = record { place = tt }
primitive_got st place (got.Outside kind) = record { place = tt }
primitive_got st place got.Interface = record { place = tt }

value_member : (st : State) (v : HostValue) (key : Key) (place : ℕ) → Fits (members_at.value_member st v key place)
value_member st (values.Object o) key place = object_read st o key place
value_member st v key place = primitive_got st place (read_of st.heap v key)

predefined_member : (st : State) (class : Class) (name : List ℕ) (place : ℕ) (m : Option Member) → Fits (members_at.predefined_member st class name place m)
predefined_member st class name place None = record { place = tt }
predefined_member st class name place (Some (members.Class inner)) = record { place = tt }
predefined_member st class name place (Some members.Function) = record { place = tt }

member_read : (st : State) (base : Base) (key : Key) (place : ℕ) → Fits (members_at.member_read st base key place)
member_read st (bases.Value v) key place = value_member st v key place
member_read st (bases.Class class) key place = predefined_member st class (text_of_key key) place (member_of class (text_of_key key))

keyed_read : (st : State) (base : Base) (place : ℕ) (key : Option Key) → Fits (members_at.keyed_read st base place key)
keyed_read st base place None = record { place = tt }
keyed_read st base place (Some key) = member_read st base key place

computed_read : (st : State) (base : Base) (v : HostValue) (place : ℕ) → Fits (members_at.computed_read st base v place)
computed_read st base v place = either (members_at.is_nullish base) _ _ (record { place = tt }) (keyed_read st base place (key_of v))

put_of : (st : State) (o : HostValue) (key : Key) (v : HostValue) (place : ℕ) (x : Put) → Fits (members_at.put_of st o key v place x)
put_of st o key v place put.Done = record { place = tt }
put_of st o key v place (put.Throw class) = record { place = tt }
put_of st o key v place (put.Outside kind) = record { place = tt }
put_of st (values.Object o) key v place put.Interface = record { place = tt }
put_of st o key v place put.Interface = record { place = tt }

member_written : (st : State) (base : Base) (key : Key) (v : HostValue) (place : ℕ) → Fits (members_at.member_written st base key v place)
member_written st (bases.Value o) key v place = put_of st o key v place (write_of st.heap o key)
member_written st (bases.Class class) key v place = record { place = tt }

keyed_written : (st : State) (base : Base) (v : HostValue) (place : ℕ) (key : Option Key) → Fits (members_at.keyed_written st base v place key)
keyed_written st base v place None = record { place = tt }
keyed_written st base v place (Some key) = member_written st base key v place

computed_written : (st : State) (base : Base) (k v : HostValue) (place : ℕ) → Fits (members_at.computed_written st base k v place)
computed_written st base k v place = either (members_at.is_nullish base) _ _ (record { place = tt }) (keyed_written st base v place (key_of k))

-- ---- calls

function_object_called : (st : State) (o : ObjId) (args : List HostValue) (place : ℕ) (c : Callee) → Fits (calls_at.function_object_called st o args place c)
function_object_called st o args place callees.Print = record { place = tt }
function_object_called st o args place c = record { place = tt }

callee_called : (st : State) (o : ObjId) (args : List HostValue) (place : ℕ) (c : Option Callee) → Fits (calls_at.callee_called st o args place c)
callee_called st o args place None = record { place = tt }
callee_called st o args place (Some c) = function_object_called st o args place c

value_called : (st : State) (v : HostValue) (args : List HostValue) (place : ℕ) → Fits (calls_at.value_called st v args place)
value_called st (values.Object o) args place = callee_called st o args place (calls_at.callee_of (kind_at st.heap o))
value_called st v args place = record { place = tt }

-- what a predefined object answered, which asks for an effect that waits
replied : (st : State) (e : HostEffect) (place : ℕ) (r : Reply) → LeavesAt e (focus.Waits place) → Fits (calls_at.replied st e place r)
replied st e place (replies.Value v) l = record { place = tt }
replied st e place (replies.Throw class) l = record { place = tt }
replied st e place (replies.Outside kind) l = record { place = tt }
replied st e place replies.Interface l = record { place = l }

answered : (st : State) (e : HostEffect) (place : ℕ) (a : Answer) → LeavesAt e (focus.Waits place) → Fits (calls_at.answered st e place a)
answered st e place a l = replied (record { heap = a.heap; locals = st.locals }) e place a.reply l

method_called : (st : State) (o : ObjId) (name : List ℕ) (args : List HostValue) (place : ℕ) → Fits (calls_at.method_called st o name args place)
method_called st o name args place =
    either (calls_at.is_array (kind_at st.heap o)) _ _ (answered st _ place (builtins.push_of st.heap o args) tt) (record { place = tt })

reference_called : (st : State) (r : Reference) (args : List HostValue) (place : ℕ) → Fits (calls_at.reference_called st r args place)
reference_called st (references.Class class) args place = answered st _ place (builtins.call_of st.heap class args) tt
reference_called st (references.Function class name) args place = answered st _ place (builtins.member_call_of st.heap class name args) tt
reference_called st (references.Method o name) args place = method_called st o name args place

called : (st : State) (c : Callable) (args : List HostValue) (place : ℕ) → Fits (calls_at.called st c args place)
called st (callables.Value v) args place = value_called st v args place
called st (callables.Reference r) args place = reference_called st r args place

callee_constructed : (st : State) (place : ℕ) (c : Option Callee) → Fits (calls_at.callee_constructed st place c)
callee_constructed st place (Some (callees.Script function count)) = record { place = tt }
callee_constructed st place (Some callees.Print) = record { place = tt }
callee_constructed st place c = record { place = tt }

value_constructed : (st : State) (v : HostValue) (place : ℕ) → Fits (calls_at.value_constructed st v place)
value_constructed st (values.Object o) place = callee_constructed st place (calls_at.callee_of (kind_at st.heap o))
value_constructed st v place = record { place = tt }

reference_constructed : (st : State) (r : Reference) (args : List HostValue) (place : ℕ) → Fits (calls_at.reference_constructed st r args place)
reference_constructed st (references.Class class) args place = answered st _ place (builtins.construct_of st.heap class args) tt
reference_constructed st r args place = record { place = tt }

constructed : (st : State) (c : Callable) (args : List HostValue) (place : ℕ) → Fits (calls_at.constructed st c args place)
constructed st (callables.Value v) args place = value_constructed st v place
constructed st (callables.Reference r) args place = reference_constructed st r args place

pub calls : (st : State) (c : Callable) (args : List HostValue) (place : ℕ) (form : Option Form) → Fits (rules.calls st c args place form)
calls st c args place (Some (forms.New class arguments)) = constructed st c args place
calls st c args place form = called st c args place

-- ---- lists of statements and scopes

listed : (st : State) (q : Sequence) (k outer : ℕ) (n : Option NodeId) → Fits (rules.listed st q k outer n)
listed st q k outer None = record { place = tt }
listed st q k outer (Some n) = record { place = tt }

entered : (st : State) (block : NodeId) (count : ℕ) (caught : Option HostValue) (more : List Item) → Fits (rules.entered st block count caught more)
entered st block count caught more = record { place = tt }

handled : (s : Tree) (st : State) (handler : NodeId) (caught : Bool) (v : HostValue) → Fits (rules.handled s st handler caught v)
handled s st handler caught v = record { place = tt }

-- ---- parts in the order of the text

element_next : (st : State) (n : NodeId) (done : List HostValue) (place : ℕ) (x : Option NodeId) → Fits (rules.element_next st n done place x)
element_next st n done place (Some x) = record { place = tt }
element_next st n done place None = either (nat_le (length done) most_elements) _ _ (record { place = tt }) (record { place = tt })

element_of : (s : Tree) (st : State) (n : NodeId) (done : List HostValue) → Fits (rules.element_of s st n done)
element_of s st n done = element_next st n done (nodes.place_at s n) (slice_get (nodes.elements_of (nodes.form_at s n)) (length done))

property_next : (st : State) (n : NodeId) (k : ℕ) (o : ObjId) (p : Option Property) → Fits (rules.property_next st n k o p)
property_next st n k o None = record { place = tt }
property_next st n k o (Some p) = either (bytes_eq (nodes.spelled p.key) (codes "__proto__")) _ _ (record { place = tt }) (record { place = tt })

property_of : (s : Tree) (st : State) (n : NodeId) (k : ℕ) (o : ObjId) → Fits (rules.property_of s st n k o)
property_of s st n k o = property_next st n k o (slice_get (nodes.properties_of (nodes.form_at s n)) k)

property_set : (s : Tree) (st : State) (n : NodeId) (k : ℕ) (o : ObjId) (v : HostValue) (p : Option Property) → Fits (rules.property_set s st n k o v p)
property_set s st n k o v None = record { place = tt }
property_set s st n k o v (Some p) = property_of s _ n (k + 1) o

argument_next : (n : NodeId) (c : Callable) (done : List HostValue) (x : Option NodeId) → IsWorking (rules.argument_next n c done x)
argument_next n c done (Some x) = record { place = tt }
argument_next n c done None = record { place = tt }

argument_of : (s : Tree) (n : NodeId) (c : Callable) (done : List HostValue) → IsWorking (rules.argument_of s n c done)
argument_of s n c done = argument_next n c done (slice_get (nodes.arguments_of (nodes.form_at s n)) (length done))

valued : (s : Tree) (st : State) (n : NodeId) (k : ℕ) (name : NodeId) (x : Option NodeId) → Fits (rules.valued s st n k name x)
valued s st n k name None = record { place = tt }
valued s st n k name (Some x) = record { place = tt }

pub declared : (s : Tree) (st : State) (n : NodeId) (k : ℕ) (d : Option Declaration) → Fits (rules.declared s st n k d)
declared s st n k None = record { place = tt }
declared s st n k (Some d) = valued s st n k d.name d.value

initialised : (s : Tree) (st : State) (n : NodeId) (k : ℕ) (v : HostValue) (d : Option Declaration) → Fits (rules.initialised s st n k v d)
initialised s st n k v None = record { place = tt }
initialised s st n k v (Some d) = record { place = tt }

-- ---- statements and expressions that begin

assigns : (n target value : NodeId) (form : Option Form) → IsWorking (rules.assigns n target value form)
assigns n target value (Some (forms.Name text reference)) = record { place = tt }
assigns n target value (Some (forms.Member object key)) = record { place = tt }
assigns n target value (Some (forms.Index object key)) = record { place = tt }
assigns n target value form = record { place = tt }

prefix_begun : (s : Tree) (st : State) (n : NodeId) (operator : PrefixOperator) (x : NodeId) → Fits (rules.prefix_begun s st n operator x)
prefix_begun s st n prefix.TypeOf x = either (rules.is_unknown (nodes.form_at s x) (nodes.binding_at s x)) _ _ (record { place = tt }) (record { place = tt })
prefix_begun s st n operator x = record { place = tt }

statement_begun : (s : Tree) (st : State) (n : NodeId) (form : Form) → Fits (rules.statement_begun s st n form)
statement_begun s st n (forms.Assign target value) = goes_fits st _ (assigns n target value (nodes.form_at s target))
statement_begun s st n (forms.Return None) = record { place = tt }
statement_begun s st n (forms.Return (Some x)) = record { place = tt }
statement_begun s st n form = record { place = tt }

form_begun : (s : Tree) (st : State) (n : NodeId) (form : Form) → Fits (rules.form_begun s st n form)
form_begun s st n (forms.Name text reference) = name_read st (nodes.binding_at s n) (nodes.place_at s n)
form_begun s st n (forms.Array xs) = element_of s st n []
form_begun s st n (forms.Object ps) = property_of s _ n 0 _
form_begun s st n (forms.Prefix operator x) = prefix_begun s st n operator x
form_begun s st n (forms.Assign target value) = statement_begun s st n (forms.Assign target value)
form_begun s st n (forms.Return x) = statement_begun s st n (forms.Return x)
form_begun s st n form = record { place = tt }

pub begun : (s : Tree) (st : State) (n : NodeId) (form : Option Form) → Fits (rules.begun s st n form)
begun s st n None = record { place = tt }
begun s st n (Some form) = form_begun s st n form

turned_work : (n : NodeId) (form : Option Form) → IsWorking (rules.turned n form)
turned_work n (Some (forms.While test body)) = record { place = tt }
turned_work n form = record { place = tt }

pub turned : (st : State) (n : NodeId) (form : Option Form) → Fits (goes st (rules.turned n form))
turned st n form = goes_fits st _ (turned_work n form)

tests : (n : NodeId) (form : Option Form) → IsWorking (rules.tests n form)
tests n (Some (forms.While test body)) = record { place = tt }
tests n form = record { place = tt }

-- ---- results that items take

branched : (v : HostValue) (form : Option Form) → IsWorking (rules.branched v form)
branched v (Some (forms.If test first)) = work_either (to_boolean v) _ _ (record { place = tt }) (record { place = tt })
branched v (Some (forms.IfElse test first other)) = work_either (to_boolean v) _ _ (record { place = tt }) (record { place = tt })
branched v form = record { place = tt }

tested : (b : Bool) (n : NodeId) → IsAtWork (if b then focus.Turn n else focus.Done)
tested true n = tt
tested false n = tt

target_based : (n target value : NodeId) (base : Base) (form : Option Form) → IsWorking (rules.target_based n target value base form)
target_based n target value base (Some (forms.Index object key)) = record { place = tt }
target_based n target value base form = record { place = tt }

based : (s : Tree) (n : NodeId) (base : Base) (form : Option Form) → IsWorking (rules.based s n base form)
based s n base (Some (forms.Assign target value)) = target_based n target value base (nodes.form_at s target)
based s n base form = record { place = tt }

assign_keyed : (base : Base) (key : HostValue) (form : Option Form) → IsWorking (rules.assign_keyed base key form)
assign_keyed base key (Some (forms.Assign target value)) = record { place = tt }
assign_keyed base key form = record { place = tt }

keyed : (n : NodeId) (base : Base) (form : Option Form) → IsWorking (rules.keyed n base form)
keyed n base (Some (forms.Index object key)) = record { place = tt }
keyed n base form = record { place = tt }

prefix_done : (st : State) (place : ℕ) (v : HostValue) (form : Option Form) → Fits (rules.prefix_done st place v form)
prefix_done st place v (Some (forms.Prefix operator x)) = converted st place (operators.prefixed st.heap operator v)
prefix_done st place v form = record { place = tt }

operand_taken : (s : Tree) (st : State) (i : Item) (v : HostValue) → Fits (rules.operand_taken s st i v)
operand_taken s st (items.Left n) v = goes_fits st _ (chained (nodes.form_at s n) n 0 v)
operand_taken s st (items.Right n k left) v = operated_at st (nodes.form_at s n) n k left v (slice_get (nodes.operands_of (nodes.form_at s n)) k)
operand_taken s st (items.Prefix n) v = prefix_done st (nodes.place_at s n) v (nodes.form_at s n)
operand_taken s st (items.Elements n done) v = element_of s st n (done ++ v ∷ [])
operand_taken s st (items.Property n k o) v = property_set s st n k o v (slice_get (nodes.properties_of (nodes.form_at s n)) k)
operand_taken s st (items.Member n) v = member_read st (bases.Value v) (key_of_text (nodes.key_of_member (nodes.form_at s n))) (nodes.place_at s n)
operand_taken s st (items.IndexObject n) v = goes_fits st _ (keyed n (bases.Value v) (nodes.form_at s n))
operand_taken s st (items.IndexKey n base) v = computed_read st base v (nodes.place_at s n)
operand_taken s st (items.Callee n) v = goes_fits st _ (argument_of s n (callables.Value v) [])
operand_taken s st (items.Arguments n callee done) v = goes_fits st _ (argument_of s n callee (done ++ v ∷ []))
operand_taken s st i v = record { place = tt }

assignment_taken : (s : Tree) (st : State) (i : Item) (v : HostValue) → Fits (rules.assignment_taken s st i v)
assignment_taken s st (items.AssignName target) v = name_written st (nodes.binding_at s target) (nodes.place_at s target) v
assignment_taken s st (items.AssignObject n) v = goes_fits st _ (based s n (bases.Value v) (nodes.form_at s n))
assignment_taken s st (items.AssignKey n base) v = goes_fits st _ (assign_keyed base v (nodes.form_at s n))
assignment_taken s st (items.AssignMember target base) v =
    member_written st base (key_of_text (nodes.key_of_member (nodes.form_at s target))) v (nodes.place_at s target)
assignment_taken s st (items.AssignElement target base key) v = computed_written st base key v (nodes.place_at s target)
assignment_taken s st i v = operand_taken s st i v

pub resumed : (s : Tree) (st : State) (i : Item) (v : HostValue) → Fits (rules.resumed s st i v)
resumed s st items.Expression v = record { place = tt }
resumed s st (items.If n) v = goes_fits st _ (branched v (nodes.form_at s n))
resumed s st (items.Test n) v = record { place = tested (to_boolean v) n }
resumed s st items.Return v = record { place = tt }
resumed s st items.Throw v = record { place = tt }
resumed s st (items.Declare n k) v = initialised s st n k v (slice_get (nodes.declarations_of (nodes.form_at s n)) k)
resumed s st i v = assignment_taken s st i v

callee_referred : (s : Tree) (st : State) (n : NodeId) (r : Reference) (place : ℕ) (form : Option Form) → Fits (rules.callee_referred s st n r place form)
callee_referred s st n (references.Method o name) place (Some (forms.New class arguments)) = record { place = tt }
callee_referred s st n r place form = goes_fits st _ (argument_of s n (callables.Reference r) [])

class_referred : (s : Tree) (st : State) (i : Item) (class : Class) (place : ℕ) → Fits (rules.class_referred s st i class place)
class_referred s st (items.Member n) class place =
    member_read st (bases.Class class) (key_of_text (nodes.key_of_member (nodes.form_at s n))) (nodes.place_at s n)
class_referred s st (items.IndexObject n) class place = goes_fits st _ (keyed n (bases.Class class) (nodes.form_at s n))
class_referred s st (items.AssignObject n) class place = goes_fits st _ (based s n (bases.Class class) (nodes.form_at s n))
class_referred s st i class place = record { place = tt }

uncalled : (s : Tree) (st : State) (i : Item) (r : Reference) (place : ℕ) → Fits (rules.uncalled s st i r place)
uncalled s st i (references.Class class) place = class_referred s st i class place
uncalled s st i r place = record { place = tt }

pub referred : (s : Tree) (st : State) (i : Item) (r : Reference) (place : ℕ) → Fits (rules.referred s st i r place)
referred s st (items.Callee n) r place = callee_referred s st n r place (nodes.form_at s n)
referred s st i r place = uncalled s st i r place

pub ended : (s : Tree) (st : State) (i : Item) → Fits (rules.ended s st i)
ended s st (items.List q k outer) = listed st q k outer (slice_get (nodes.statements_of s q) k)
ended s st (items.Loop n) = goes_fits st _ (tests n (nodes.form_at s n))
ended s st i = record { place = tt }

loop_left : (n : NodeId) (c : Completion) (form : Option Form) → IsWorking (rules.loop_left n c form)
loop_left n completions.Break form = record { place = tt }
loop_left n completions.Continue form = tests n form
loop_left n c form = record { place = tt }

try_left : (s : Tree) (st : State) (c : Completion) (form : Option Form) → Fits (rules.try_left s st c form)
try_left s st (completions.Throw v) (Some (forms.Try body caught handler)) = handled s st handler caught v
try_left s st c form = record { place = tt }

pub left : (s : Tree) (st : State) (i : Item) (c : Completion) → Fits (rules.left s st i c)
left s st (items.List q k outer) c = record { place = tt }
left s st (items.Loop n) c = goes_fits st _ (loop_left n c (nodes.form_at s n))
left s st (items.Try n) c = try_left s st c (nodes.form_at s n)
left s st i c = record { place = tt }
