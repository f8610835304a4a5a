-- The one rewriting of a term, and what it takes of the budget. The place at work begins, or is a result that the item round it takes:
-- a value, something that is referred to, or the end of a statement.
use Rattle.std.specs.Prelude.{ℕ, ◌+◌, ◌-◌, Bool, true, false, List, [], ◌∷◌, ◌++◌, Option, Some, None, if◌then◌else◌, slice_get, take, length, replicate, pos, nat_le, codes}
use Rattle.std.specs.Str.{bytes_eq}
use Rattle.embed_base.specs.declared.outside.OutsideKind.TheVariants as outside
use Rattle.host_nodes.specs.declared.form.NodeId.{NodeId}
use Rattle.host_nodes.specs.declared.form.PrefixOperator.{PrefixOperator}
use Rattle.host_nodes.specs.declared.form.PrefixOperator.TheVariants as prefix
use Rattle.host_nodes.specs.declared.form.Property.{Property}
use Rattle.host_nodes.specs.declared.form.Declaration.{Declaration}
use Rattle.host_nodes.specs.declared.form.Form.{Form}
use Rattle.host_nodes.specs.declared.form.Form.TheVariants as forms
use Rattle.host_parser.specs.Trees.{Tree}
use Rattle.host_parser.specs.declared.binding.Binding.{Binding}
use Rattle.host_parser.specs.declared.binding.Binding.TheVariants as bindings
use Rattle.host_values.specs.Heaps.{next_object, with_object}
use Rattle.host_values.specs.KeyOrder.{key_of_text}
use Rattle.host_values.specs.Members.{elements_of, most_elements, written}
use Rattle.host_values.specs.declared.classes.Class.{Class}
use Rattle.host_values.specs.declared.kinds.Kind.TheVariants as kinds
use Rattle.host_values.specs.declared.values.HostValue.{HostValue}
use Rattle.host_values.specs.declared.values.HostValue.TheVariants as values
use Rattle.host_values.specs.declared.values.ObjId.{ObjId}
use Rattle.host_convert.specs.Conversions.{to_boolean}
use Rattle.host_machine.specs.declared.completion.Completion.{Completion}
use Rattle.host_machine.specs.declared.completion.Completion.TheVariants as completions
use Rattle.host_machine.specs.declared.effect.HostEffect.{HostEffect}
use Rattle.host_machine.specs.declared.focus.Focus.{Focus}
use Rattle.host_machine.specs.declared.focus.Focus.TheVariants as focus
use Rattle.host_machine.specs.declared.item.Item.{Item}
use Rattle.host_machine.specs.declared.item.Item.TheVariants as items
use Rattle.host_machine.specs.declared.item.Sequence.{Sequence}
use Rattle.host_machine.specs.declared.item.Sequence.TheVariants as sequences
use Rattle.host_machine.specs.declared.reference.Base.{Base}
use Rattle.host_machine.specs.declared.reference.Base.TheVariants as bases
use Rattle.host_machine.specs.declared.reference.Callable.{Callable}
use Rattle.host_machine.specs.declared.reference.Callable.TheVariants as callables
use Rattle.host_machine.specs.declared.reference.Reference.{Reference}
use Rattle.host_machine.specs.declared.reference.Reference.TheVariants as references
use Rattle.host_machine.specs.Terms.{HostTerm, at, round, close_items, State, Work, now, waits, Rewritten, goes, gives, refuses, throws_value}
use Rattle.host_machine.specs.Nodes as nodes
use Rattle.host_machine.specs.Names.{name_read, name_written, with_value}
use Rattle.host_machine.specs.Operators.{chained, operated, prefixed, converted}
use Rattle.host_machine.specs.Members.{member_read, computed_read, member_written, computed_written}
use Rattle.host_machine.specs.Calls.{called, constructed}

-- Lists of statements and scopes.

-- the next statement of a list, or its end, where the bindings of its block are left (14.2.2)
abbrev pub listed : State → Sequence → ℕ → ℕ → Option NodeId → Rewritten
listed st q k outer None = goes (record { heap = st.heap; locals = take outer st.locals }) (now focus.Done)
listed st q k outer (Some n) = goes st (waits (items.List q (k + 1) outer) n)

-- the bindings within a block: all names of its scope exist from its start, and are unset (14.2.3, BlockDeclarationInstantiation), but for
-- the first one of a `catch`
abbrev pub scope_of : List (Option HostValue) → ℕ → Option HostValue → List (Option HostValue)
scope_of locals names None = locals ++ replicate names None
scope_of locals names (Some v) = (locals ++ Some v ∷ []) ++ replicate (names - 1) None

-- a block is entered, with so many bindings outside of it
abbrev pub enters : NodeId → ℕ → List Item → Work
enters block outer more = record { items = items.List (sequences.Block block) 0 outer ∷ more; focus = focus.Done }

abbrev pub entered : State → NodeId → ℕ → Option HostValue → List Item → Rewritten
entered st block names caught more =
    goes (record { heap = st.heap; locals = scope_of st.locals names caught }) (enters block (length st.locals) more)

-- the handler of a `try`, for what was thrown (14.15.2, CatchClauseEvaluation)
abbrev pub handled : Tree → State → NodeId → Bool → HostValue → Rewritten
handled s st handler caught v = entered st handler (nodes.names_of (nodes.form_at s handler)) (if caught then Some v else None) []

-- Parts in the order of the text.

-- the next element of an array literal, or the Array (13.2.4.1)
abbrev pub element_next : State → NodeId → List HostValue → ℕ → Option NodeId → Rewritten
element_next st n done place (Some x) = goes st (waits (items.Elements n done) x)
element_next st n done place None =
    if nat_le (length done) most_elements then gives (record { heap = with_object st.heap kinds.Array (elements_of done); locals = st.locals }) (values.Object (next_object st.heap))
    else refuses st outside.ArraySize place

abbrev pub element_of : Tree → State → NodeId → List HostValue → Rewritten
element_of s st n done = element_next st n done (nodes.place_at s n) (slice_get (nodes.elements_of (nodes.form_at s n)) (length done))

-- the next property of an object literal, or the object (13.2.5.4)
abbrev pub property_next : State → NodeId → ℕ → ObjId → Option Property → Rewritten
property_next st n k o None = gives st (values.Object o)
property_next st n k o (Some p) =
    if bytes_eq (nodes.spelled p.key) (codes "__proto__") then refuses st outside.ProtoKey p.place else goes st (waits (items.Property n k o) p.value)

abbrev pub property_of : Tree → State → NodeId → ℕ → ObjId → Rewritten
property_of s st n k o = property_next st n k o (slice_get (nodes.properties_of (nodes.form_at s n)) k)

-- an object literal, whose object is made first
abbrev pub object_begun : Tree → State → NodeId → Rewritten
object_begun s st n = property_of s (record { heap = with_object st.heap kinds.Plain []; locals = st.locals }) n 0 (next_object st.heap)

-- a property of an object literal gets its value, and the next one begins
abbrev pub property_set : Tree → State → NodeId → ℕ → ObjId → HostValue → Option Property → Rewritten
property_set s st n k o v None = gives st (values.Object o)
property_set s st n k o v (Some p) =
    property_of s (record { heap = written st.heap (values.Object o) (key_of_text (nodes.spelled p.key)) v; locals = st.locals }) n (k + 1) o

-- the next argument, or the call (13.3.8.1)
abbrev pub argument_next : NodeId → Callable → List HostValue → Option NodeId → Work
argument_next n callee done (Some x) = waits (items.Arguments n callee done) x
argument_next n callee done None = now (focus.Calls n callee done)

abbrev pub argument_of : Tree → NodeId → Callable → List HostValue → Work
argument_of s n callee done = argument_next n callee done (slice_get (nodes.arguments_of (nodes.form_at s n)) (length done))

-- the next name of a `let` or `const`: it waits for its value, or is undefined (14.3.1.2)
abbrev pub valued : Tree → State → NodeId → ℕ → NodeId → Option NodeId → Rewritten
valued s st n k name None = goes (with_value st (nodes.binding_at s name) values.Undefined) (now (focus.Declares n (k + 1)))
valued s st n k name (Some x) = goes st (waits (items.Declare n k) x)

abbrev pub declared : Tree → State → NodeId → ℕ → Option Declaration → Rewritten
declared s st n k None = goes st (now focus.Done)
declared s st n k (Some d) = valued s st n k d.name d.value

-- a name that is declared gets its value, and the next one begins
abbrev pub initialised : Tree → State → NodeId → ℕ → HostValue → Option Declaration → Rewritten
initialised s st n k v None = goes st (now focus.Done)
initialised s st n k v (Some d) = goes (with_value st (nodes.binding_at s d.name) v) (now (focus.Declares n (k + 1)))

-- Statements and expressions that begin.

-- an assignment, by the form of its target (13.15.2)
abbrev pub assigns : NodeId → NodeId → NodeId → Option Form → Work
assigns n target value (Some (forms.Name text reference)) = waits (items.AssignName target) value
assigns n target value (Some (forms.Member object key)) = waits (items.AssignObject n) object
assigns n target value (Some (forms.Index object key)) = waits (items.AssignObject n) object
assigns n target value _ = now focus.Done

-- whether `typeof` is asked of a name that nothing binds (13.5.3.1)
abbrev pub is_unknown : Option Form → Binding → Bool
is_unknown (Some (forms.Name text reference)) bindings.Unknown = true
is_unknown _ b = false

-- an operator before its operand
abbrev pub prefix_begun : Tree → State → NodeId → PrefixOperator → NodeId → Rewritten
prefix_begun s st n prefix.TypeOf x =
    if is_unknown (nodes.form_at s x) (nodes.binding_at s x) then gives st (values.Text (codes "undefined")) else goes st (waits (items.Prefix n) x)
prefix_begun s st n operator x = goes st (waits (items.Prefix n) x)

-- a statement that begins
abbrev pub statement_begun : Tree → State → NodeId → Form → Rewritten
statement_begun s st n (forms.Block names list) = entered st n names None []
statement_begun s st n (forms.Expression x) = goes st (waits items.Expression x)
statement_begun s st n (forms.Assign target value) = goes st (assigns n target value (nodes.form_at s target))
statement_begun s st n (forms.If test first) = goes st (waits (items.If n) test)
statement_begun s st n (forms.IfElse test first other) = goes st (waits (items.If n) test)
statement_begun s st n (forms.While test body) = goes st (waits (items.Test n) test)
statement_begun s st n forms.Break = goes st (now (focus.Leaves completions.Break))
statement_begun s st n forms.Continue = goes st (now (focus.Leaves completions.Continue))
statement_begun s st n (forms.Return None) = goes st (now (focus.Leaves (completions.Return values.Undefined)))
statement_begun s st n (forms.Return (Some x)) = goes st (waits items.Return x)
statement_begun s st n (forms.Throw x) = goes st (waits items.Throw x)
statement_begun s st n (forms.Try body caught handler) = entered st body (nodes.names_of (nodes.form_at s body)) None (items.Try n ∷ [])
statement_begun s st n (forms.Let declarations) = goes st (now (focus.Declares n 0))
statement_begun s st n (forms.Const declarations) = goes st (now (focus.Declares n 0))
statement_begun s st n _ = goes st (now focus.Done)

-- a statement or expression that begins, by its form
abbrev pub form_begun : Tree → State → NodeId → Form → Rewritten
form_begun s st n forms.Undefined = gives st values.Undefined
form_begun s st n forms.Null = gives st values.Null
form_begun s st n (forms.Boolean b) = gives st (values.Bool b)
form_begun s st n (forms.Number z) = gives st (values.Number (pos z))
form_begun s st n (forms.BigInt z) = gives st (values.BigInt (pos z))
form_begun s st n (forms.Text text) = gives st (values.Text text)
form_begun s st n (forms.Name text reference) = name_read st (nodes.binding_at s n) (nodes.place_at s n)
form_begun s st n (forms.Array xs) = element_of s st n []
form_begun s st n (forms.Object ps) = object_begun s st n
form_begun s st n (forms.Member object key) = goes st (waits (items.Member n) object)
form_begun s st n (forms.Index object key) = goes st (waits (items.IndexObject n) object)
form_begun s st n (forms.Call callee arguments) = goes st (waits (items.Callee n) callee)
form_begun s st n (forms.New class arguments) = goes st (waits (items.Callee n) class)
form_begun s st n (forms.Prefix operator x) = prefix_begun s st n operator x
form_begun s st n (forms.Chain operands last) = goes st (waits (items.Left n) (nodes.operand_of (nodes.form_at s n) 0))
form_begun s st n form = statement_begun s st n form

abbrev pub begun : Tree → State → NodeId → Option Form → Rewritten
begun s st n None = goes st (now focus.Done)
begun s st n (Some form) = form_begun s st n form

-- a turn of a `while` (14.7.3.2)
abbrev pub turned : NodeId → Option Form → Work
turned n (Some (forms.While test body)) = waits (items.Loop n) body
turned n _ = now focus.Done

-- the test of a `while`, once more
abbrev pub tests : NodeId → Option Form → Work
tests n (Some (forms.While test body)) = waits (items.Test n) test
tests n _ = now focus.Done

-- a call or `new`, after its arguments
abbrev pub calls : State → Callable → List HostValue → ℕ → Option Form → Rewritten
calls st callee args place (Some (forms.New class arguments)) = constructed st callee args place
calls st callee args place _ = called st callee args place

-- Results that items take.

-- the branch of an `if` (14.6.2)
abbrev pub branched : HostValue → Option Form → Work
branched v (Some (forms.If test first)) = if to_boolean v then now (focus.Begin first) else now focus.Done
branched v (Some (forms.IfElse test first other)) = if to_boolean v then now (focus.Begin first) else now (focus.Begin other)
branched v _ = now focus.Done

-- what the member is asked of to which is assigned, then the value or the key
abbrev pub target_based : NodeId → NodeId → NodeId → Base → Option Form → Work
target_based n target value base (Some (forms.Index object key)) = waits (items.AssignKey n base) key
target_based n target value base _ = waits (items.AssignMember target base) value

abbrev pub based : Tree → NodeId → Base → Option Form → Work
based s n base (Some (forms.Assign target value)) = target_based n target value base (nodes.form_at s target)
based s n base _ = now focus.Done

-- the key of a computed member to which is assigned, then the value
abbrev pub assign_keyed : Base → HostValue → Option Form → Work
assign_keyed base key (Some (forms.Assign target value)) = waits (items.AssignElement target base key) value
assign_keyed base key _ = now focus.Done

-- what a computed member is asked of, then the key
abbrev pub keyed : NodeId → Base → Option Form → Work
keyed n base (Some (forms.Index object key)) = waits (items.IndexKey n base) key
keyed n base _ = now focus.Done

-- the value of an operator before its operand
abbrev pub prefix_done : State → ℕ → HostValue → Option Form → Rewritten
prefix_done st place v (Some (forms.Prefix operator x)) = converted st place (prefixed st.heap operator v)
prefix_done st place v _ = gives st v

-- a value that an expression takes
abbrev pub operand_taken : Tree → State → Item → HostValue → Rewritten
operand_taken s st (items.Left n) v = goes st (chained (nodes.form_at s n) n 0 v)
operand_taken s st (items.Right n k left) v = operated st (nodes.form_at s n) n k left v
operand_taken s st (items.Prefix n) v = prefix_done st (nodes.place_at s n) v (nodes.form_at s n)
operand_taken s st (items.Elements n done) v = element_of s st n (done ++ v ∷ [])
operand_taken s st (items.Property n k o) v = property_set s st n k o v (slice_get (nodes.properties_of (nodes.form_at s n)) k)
operand_taken s st (items.Member n) v = member_read st (bases.Value v) (key_of_text (nodes.key_of_member (nodes.form_at s n))) (nodes.place_at s n)
operand_taken s st (items.IndexObject n) v = goes st (keyed n (bases.Value v) (nodes.form_at s n))
operand_taken s st (items.IndexKey n base) v = computed_read st base v (nodes.place_at s n)
operand_taken s st (items.Callee n) v = goes st (argument_of s n (callables.Value v) [])
operand_taken s st (items.Arguments n callee done) v = goes st (argument_of s n callee (done ++ v ∷ []))
operand_taken s st _ v = goes st (now focus.Done)

-- a value that an assignment takes
abbrev pub assignment_taken : Tree → State → Item → HostValue → Rewritten
assignment_taken s st (items.AssignName target) v = name_written st (nodes.binding_at s target) (nodes.place_at s target) v
assignment_taken s st (items.AssignObject n) v = goes st (based s n (bases.Value v) (nodes.form_at s n))
assignment_taken s st (items.AssignKey n base) v = goes st (assign_keyed base v (nodes.form_at s n))
assignment_taken s st (items.AssignMember target base) v =
    member_written st base (key_of_text (nodes.key_of_member (nodes.form_at s target))) v (nodes.place_at s target)
assignment_taken s st (items.AssignElement target base key) v = computed_written st base key v (nodes.place_at s target)
assignment_taken s st item v = operand_taken s st item v

-- a value that an item takes
abbrev pub resumed : Tree → State → Item → HostValue → Rewritten
resumed s st items.Expression v = goes st (now focus.Done)
resumed s st (items.If n) v = goes st (branched v (nodes.form_at s n))
resumed s st (items.Test n) v = goes st (now (if to_boolean v then focus.Turn n else focus.Done))
resumed s st items.Return v = goes st (now (focus.Leaves (completions.Return v)))
resumed s st items.Throw v = throws_value st v
resumed s st (items.Declare n k) v = initialised s st n k v (slice_get (nodes.declarations_of (nodes.form_at s n)) k)
resumed s st item v = assignment_taken s st item v

-- what is called or constructed that is no value: a method is never constructed
abbrev pub callee_referred : Tree → State → NodeId → Reference → ℕ → Option Form → Rewritten
callee_referred s st n (references.Method o name) place (Some (forms.New class arguments)) = refuses st outside.BuiltinValue place
callee_referred s st n r place _ = goes st (argument_of s n (callables.Reference r) [])

-- a predefined object, of which an item may ask a member; else none is a value
abbrev pub class_referred : Tree → State → Item → Class → ℕ → Rewritten
class_referred s st (items.Member n) class place =
    member_read st (bases.Class class) (key_of_text (nodes.key_of_member (nodes.form_at s n))) (nodes.place_at s n)
class_referred s st (items.IndexObject n) class place = goes st (keyed n (bases.Class class) (nodes.form_at s n))
class_referred s st (items.AssignObject n) class place = goes st (based s n (bases.Class class) (nodes.form_at s n))
class_referred s st _ class place = refuses st outside.BuiltinValue place

-- what an item takes that an expression refers to and doesn't call: a function or method isn't a value either
abbrev pub uncalled : Tree → State → Item → Reference → ℕ → Rewritten
uncalled s st item (references.Class class) place = class_referred s st item class place
uncalled s st item r place = refuses st outside.BuiltinValue place

-- what an item takes that an expression refers to
abbrev pub referred : Tree → State → Item → Reference → ℕ → Rewritten
referred s st (items.Callee n) r place = callee_referred s st n r place (nodes.form_at s n)
referred s st item r place = uncalled s st item r place

-- the end of a statement that an item takes
abbrev pub ended : Tree → State → Item → Rewritten
ended s st (items.List q k outer) = listed st q k outer (slice_get (nodes.statements_of s q) k)
ended s st (items.Loop n) = goes st (tests n (nodes.form_at s n))
ended s st _ = goes st (now focus.Done)

-- a `while` whose body ended otherwise (14.7.1.1, LoopContinues)
abbrev pub loop_left : NodeId → Completion → Option Form → Work
loop_left n completions.Break form = now focus.Done
loop_left n completions.Continue form = tests n form
loop_left n c form = now (focus.Leaves c)

-- a `try` whose block ended otherwise (14.15.3)
abbrev pub try_left : Tree → State → Completion → Option Form → Rewritten
try_left s st (completions.Throw v) (Some (forms.Try body caught handler)) = handled s st handler caught v
try_left s st c form = goes st (now (focus.Leaves c))

-- a statement that ended otherwise leaves an item, or is taken by it
abbrev pub left : Tree → State → Item → Completion → Rewritten
left s st (items.List q k outer) c = goes (record { heap = st.heap; locals = take outer st.locals }) (now (focus.Leaves c))
left s st (items.Loop n) c = goes st (loop_left n c (nodes.form_at s n))
left s st (items.Try n) c = try_left s st c (nodes.form_at s n)
left s st _ c = goes st (now (focus.Leaves c))

-- Terms.

-- what a term does: it is rewritten; it is a result; or it is a hole
pub data Does : Type 0 where
  rewrites : HostEffect → State → HostTerm → Does
  gives_value : HostValue → Does
  refers_to : Reference → ℕ → Does
  ends : Does
  leaves : Completion → Does
  hole : Does

abbrev pub does : Rewritten → Does
does r = rewrites r.effect r.state (close_items r.work.items (at r.work.focus))

-- the place at work
abbrev pub at_work : Tree → State → Focus → Does
at_work s st (focus.Begin n) = does (begun s st n (nodes.form_at s n))
at_work s st (focus.Declares n k) = does (declared s st n k (slice_get (nodes.declarations_of (nodes.form_at s n)) k))
at_work s st (focus.Turn n) = does (goes st (turned n (nodes.form_at s n)))
at_work s st (focus.Calls n callee args) = does (calls st callee args (nodes.place_at s n) (nodes.form_at s n))
at_work s st (focus.Value v) = gives_value v
at_work s st (focus.Refers r place) = refers_to r place
at_work s st focus.Done = ends
at_work s st (focus.Leaves c) = leaves c
at_work s st (focus.Waits place) = hole

-- an item round what is at work
abbrev pub in_item : Tree → State → Item → Does → Does
in_item s st i (rewrites e r t) = rewrites e r (round i t)
in_item s st i (gives_value v) = does (resumed s st i v)
in_item s st i (refers_to r place) = does (referred s st i r place)
in_item s st i ends = does (ended s st i)
in_item s st i (leaves c) = does (left s st i c)
in_item s st i hole = hole

-- the one rewriting of a term
abbrev pub rewrite : Tree → State → HostTerm → Does
rewrite s st (at f) = at_work s st f
rewrite s st (round i t) = in_item s st i (rewrite s st t)

-- Charges: one unit for each statement that begins, each turn of a `while` after its test was true, and each call and `new` after its
-- arguments.

abbrev pub is_statement : Option Form → Bool
is_statement (Some forms.Empty) = true
is_statement (Some (forms.Block names list)) = true
is_statement (Some (forms.Expression x)) = true
is_statement (Some (forms.Assign target value)) = true
is_statement (Some (forms.If test first)) = true
is_statement (Some (forms.IfElse test first other)) = true
is_statement (Some (forms.While test body)) = true
is_statement (Some forms.Break) = true
is_statement (Some forms.Continue) = true
is_statement (Some (forms.Return value)) = true
is_statement (Some (forms.Throw x)) = true
is_statement (Some (forms.Try body caught handler)) = true
is_statement (Some (forms.Let declarations)) = true
is_statement (Some (forms.Const declarations)) = true
is_statement _ = false

abbrev pub charge_at : Tree → Focus → ℕ
charge_at s (focus.Begin n) = if is_statement (nodes.form_at s n) then 1 else 0
charge_at s (focus.Turn n) = 1
charge_at s (focus.Calls n callee args) = 1
charge_at s _ = 0

-- what the rewriting of a term takes of the budget
abbrev pub charge_of : Tree → HostTerm → ℕ
charge_of s (at f) = charge_at s f
charge_of s (round i t) = charge_of s t
