-- What is live stays so at each rule.
use Rattle.std.proofs.Common.{ℕ, ◌+◌, ◌-◌, Bool, true, false, ◌||◌, ℤ, pos, List, [], ◌∷◌, ◌++◌, length, Option, Some, None, nat_le, slice_get, take, replicate, if◌then◌else◌, codes}
use Rattle.std.specs.Prelude.{◌+ℤ◌, ◌-ℤ◌, ◌*ℤ◌, int_div, int_rem, neg_ℤ}
use Rattle.std.specs.Ordering.{int_eq}
use Rattle.std.specs.List.{AllByRecursion}
use Rattle.std.specs.Option.{IfSome, is_some}
use Rattle.std.specs.Str.{bytes_eq}
use Rattle.embed_base.specs.declared.outside.OutsideKind.{OutsideKind}
use Rattle.embed_base.specs.declared.outside.OutsideKind.TheVariants as outside
use Rattle.host_nodes.specs.declared.form.NodeId.{NodeId}
use Rattle.host_nodes.specs.declared.form.BinaryOperator.{BinaryOperator}
use Rattle.host_nodes.specs.declared.form.BinaryOperator.TheVariants as binary
use Rattle.host_nodes.specs.declared.form.Operand.{Operand}
use Rattle.host_nodes.specs.declared.form.PrefixOperator.{PrefixOperator}
use Rattle.host_nodes.specs.declared.form.PrefixOperator.TheVariants as prefix
use Rattle.host_nodes.specs.declared.form.Property.{Property}
use Rattle.host_nodes.specs.declared.form.Declaration.{Declaration}
use Rattle.host_nodes.specs.declared.form.Form.{Form}
use Rattle.host_nodes.specs.declared.form.Form.TheVariants as forms
use Rattle.host_parser.specs.Trees.{Tree}
use Rattle.host_parser.specs.declared.binding.Binding.{Binding}
use Rattle.host_parser.specs.declared.binding.Binding.TheVariants as bindings
use Rattle.host_parser.specs.declared.predefined.Predefined.{Predefined}
use Rattle.host_parser.specs.declared.predefined.Predefined.TheVariants as predefined
use Rattle.host_values.specs.Heaps.{IsLive, IsLiveValue, kind_at, next_object, with_binding, with_object}
use Rattle.host_values.specs.KeyOrder.{key_of, key_of_text, text_of_key}
use Rattle.host_values.specs.Members.{elements_of, most_elements, read_of, write_of, written}
use Rattle.host_values.specs.Objects.{HostHeap}
use Rattle.host_values.specs.declared.answers.Got.{Got}
use Rattle.host_values.specs.declared.answers.Got.TheVariants as got
use Rattle.host_values.specs.declared.answers.Put.{Put}
use Rattle.host_values.specs.declared.answers.Put.TheVariants as put
use Rattle.host_values.specs.declared.classes.Class.{Class}
use Rattle.host_values.specs.declared.classes.Target.{Target}
use Rattle.host_values.specs.declared.classes.Target.TheVariants as targets
use Rattle.host_values.specs.declared.keys.Key.{Key}
use Rattle.host_values.specs.declared.kinds.Callee.{Callee}
use Rattle.host_values.specs.declared.kinds.Callee.TheVariants as callees
use Rattle.host_values.specs.declared.kinds.Kind.{Kind}
use Rattle.host_values.specs.declared.kinds.Kind.TheVariants as kinds
use Rattle.host_values.specs.declared.values.ErrorClass.{ErrorClass}
use Rattle.host_values.specs.declared.values.ErrorClass.TheVariants as errors
use Rattle.host_values.specs.declared.values.HostValue.{HostValue}
use Rattle.host_values.specs.declared.values.HostValue.TheVariants as values
use Rattle.host_values.specs.declared.values.ObjId.{ObjId}
use Rattle.host_convert.specs.Conversions.{primitive_text, to_boolean}
use Rattle.host_convert.specs.Operators as arithmetic
use Rattle.host_convert.specs.declared.conv.Conv.{Conv}
use Rattle.host_convert.specs.declared.conv.Conv.TheVariants as conv
use Rattle.host_convert.specs.declared.numeric.Numeric.{Numeric}
use Rattle.host_convert.specs.declared.numeric.Numeric.TheVariants as numeric
use Rattle.host_convert.specs.declared.operators.Arith.{Arith}
use Rattle.host_convert.specs.declared.operators.Arith.TheVariants as ariths
use Rattle.host_convert.specs.declared.operators.Rel.TheVariants as rels
use Rattle.host_builtins.specs.Calls as builtins
use Rattle.host_builtins.specs.Calls.{Answer}
use Rattle.host_builtins.specs.Laws.{CallsAreSound, ConstructionsAreSound, IsLiveReply, IsSound, MemberCallsAreSound, PushesAreSound}
use Rattle.host_builtins.specs.Predefined.{member_of}
use Rattle.host_builtins.specs.declared.members.Member.{Member}
use Rattle.host_builtins.specs.declared.members.Member.TheVariants as members
use Rattle.host_builtins.specs.declared.replies.Reply.{Reply}
use Rattle.host_builtins.specs.declared.replies.Reply.TheVariants as replies
use Rattle.host_machine.specs.declared.completion.Completion.{Completion}
use Rattle.host_machine.specs.declared.completion.Completion.TheVariants as completions
use Rattle.host_machine.specs.declared.effect.HostEffect.{HostEffect}
use Rattle.host_machine.specs.declared.effect.HostEffect.TheVariants as effects
use Rattle.host_machine.specs.declared.focus.Focus.{Focus}
use Rattle.host_machine.specs.declared.focus.Focus.TheVariants as focus
use Rattle.host_machine.specs.declared.item.Item.{Item}
use Rattle.host_machine.specs.declared.item.Item.TheVariants as items
use Rattle.host_machine.specs.declared.item.Sequence.{Sequence}
use Rattle.host_machine.specs.declared.reference.Base.{Base}
use Rattle.host_machine.specs.declared.reference.Base.TheVariants as bases
use Rattle.host_machine.specs.declared.reference.Callable.{Callable}
use Rattle.host_machine.specs.declared.reference.Callable.TheVariants as callables
use Rattle.host_machine.specs.declared.reference.Reference.{Reference}
use Rattle.host_machine.specs.declared.reference.Reference.TheVariants as references
use Rattle.host_machine.specs.Terms.{State, Work, now, waits, Rewritten, goes, gives, asks, refuses, throws, throws_value}
use Rattle.host_machine.specs.Nodes as nodes
use Rattle.host_machine.specs.Names as names
use Rattle.host_machine.specs.Operators as operators
use Rattle.host_machine.specs.Members as members_at
use Rattle.host_machine.specs.Calls as calls_at
use Rattle.host_machine.specs.Rewriting as rules
use Rattle.host_laws.specs.Live.{AreLiveBindings, AreLiveValues, IsLiveBase, IsLiveCallable, IsLiveCompletion, IsLiveEffect, IsLiveFocus, IsLiveHeap, IsLiveItem, IsLiveReference, IsLiveState, IsLiveTarget}
use Rattle.host_laws.proofs.LiveHeaps.{Has, IsLiveGot, added_has, added_live, all_append, all_get, all_replicate, all_set, all_take, binding_has, binding_live, bindings_later, call_gives, construct_gives, elements_live, member_call_gives, next_live, push_gives, read_live, values_later, written_has, written_live}

-- ---- what a rule gives

-- what takes a term's place
abbrev IsLiveWork : HostHeap → Work → Type 0
IsLiveWork h w = AllByRecursion (IsLiveItem h) w.items × IsLiveFocus h w.focus

-- all that a rule gives is live
pub record IsLiveRewritten (w : Rewritten) : Type 0 where
  pub state : IsLiveState w.state
  pub effect : IsLiveEffect w.state.heap w.effect
  pub items : AllByRecursion (IsLiveItem w.state.heap) w.work.items
  pub focus : IsLiveFocus w.state.heap w.work.focus

-- the state with another heap
abbrev with_heap : State → HostHeap → State
with_heap st h = record { heap = h; locals = st.locals }

state_later : (st : State) (g : HostHeap) → Has st.heap g → IsLiveState st → IsLiveHeap g → IsLiveState (with_heap st g)
state_later st g m live l = record { heap = l; locals = bindings_later st.heap g m st.locals live.locals }

goes_live : (st : State) (w : Work) → IsLiveState st → IsLiveWork st.heap w → IsLiveRewritten (goes st w)
goes_live st w live l = record { state = live; effect = tt; items = l.0; focus = l.1 }

now_live : (st : State) (f : Focus) → IsLiveState st → IsLiveFocus st.heap f → IsLiveRewritten (goes st (now f))
now_live st f live l = record { state = live; effect = tt; items = tt; focus = l }

gives_live : (st : State) (v : HostValue) → IsLiveState st → IsLiveValue st.heap v → IsLiveRewritten (gives st v)
gives_live st v live l = now_live st (focus.Value v) live l

waits_live : (st : State) (i : Item) (n : NodeId) → IsLiveState st → IsLiveItem st.heap i → IsLiveRewritten (goes st (waits i n))
waits_live st i n live l = record { state = live; effect = tt; items = (l, tt); focus = tt }

asks_live : (st : State) (e : HostEffect) (place : ℕ) → IsLiveState st → IsLiveEffect st.heap e → IsLiveRewritten (asks st e place)
asks_live st e place live l = record { state = live; effect = l; items = tt; focus = tt }

refuses_live : (st : State) (kind : OutsideKind) (place : ℕ) → IsLiveState st → IsLiveRewritten (refuses st kind place)
refuses_live st kind place live = record { state = live; effect = tt; items = tt; focus = tt }

throws_value_live : (st : State) (v : HostValue) → IsLiveState st → IsLiveValue st.heap v → IsLiveRewritten (throws_value st v)
throws_value_live st v live l = now_live st (focus.Leaves (completions.Throw v)) live l

added_state : (st : State) (k : Kind) (ps : List (Key × HostValue)) → IsLiveState st → AllByRecursion (λ (p : Key × HostValue). IsLiveValue st.heap p.1) ps
    → IsLiveState (with_heap st (with_object st.heap k ps))
added_state st k ps live l = state_later st (with_object st.heap k ps) (added_has st.heap k ps) live (added_live st.heap k ps live.heap l)

written_state : (st : State) (o : HostValue) (k : Key) (v : HostValue) → IsLiveState st → IsLiveValue st.heap v → IsLiveState (with_heap st (written st.heap o k v))
written_state st o k v live l = state_later st (written st.heap o k v) (written_has st.heap o k v) live (written_live st.heap o k v live.heap l)

throws_live : (st : State) (class : ErrorClass) → IsLiveState st → IsLiveRewritten (throws st class)
throws_live st class live =
    throws_value_live (with_heap st (with_object st.heap (kinds.Error class []) [])) (values.Object (next_object st.heap)) (added_state st (kinds.Error class []) [] live tt)
    (next_live st.heap (kinds.Error class []) [])

either : (b : Bool) (v w : Rewritten) → IsLiveRewritten v → IsLiveRewritten w → IsLiveRewritten (if b then v else w)
either true v w x y = x
either false v w x y = y

work_either : (h : HostHeap) (b : Bool) (v w : Work) → IsLiveWork h v → IsLiveWork h w → IsLiveWork h (if b then v else w)
work_either h true v w x y = x
work_either h false v w x y = y

-- ---- names

predefined_read : (st : State) (p : Predefined) (place : ℕ) → IsLiveState st → IsLiveRewritten (names.predefined_read st p place)
predefined_read st predefined.Print place live = gives_live st (values.Object (record { 0 = 0 })) live live.heap.print
predefined_read st p place live = now_live st (focus.Refers (references.Class (names.class_of p)) place) live tt

value_read : (st : State) (v : Option HostValue) → IsLiveState st → IfSome v (IsLiveValue st.heap) → IsLiveRewritten (names.value_read st v)
value_read st None live l = throws_live st errors.ReferenceError live
value_read st (Some v) live l = gives_live st v live l

held_live : (h : HostHeap) (found : Option (Option HostValue)) → IfSome found (λ (b : Option HostValue). IfSome b (IsLiveValue h)) → IfSome (names.held found) (IsLiveValue h)
held_live h None l = tt
held_live h (Some b) l = l

value_of_live : (st : State) (b : Binding) → IsLiveState st → IfSome (names.value_of st b) (IsLiveValue st.heap)
value_of_live st (bindings.Global slot) live =
    held_live st.heap (slice_get st.heap.bindings slot.number) (all_get (λ (b : Option HostValue). IfSome b (IsLiveValue st.heap)) st.heap.bindings slot.number live.heap.bindings)
value_of_live st (bindings.Local slot) live =
    held_live st.heap (slice_get st.locals slot.number) (all_get (λ (b : Option HostValue). IfSome b (IsLiveValue st.heap)) st.locals slot.number live.locals)
value_of_live st (bindings.Predefined p) live = tt
value_of_live st bindings.Unknown live = tt

name_read : (st : State) (b : Binding) (place : ℕ) → IsLiveState st → IsLiveRewritten (names.name_read st b place)
name_read st (bindings.Predefined p) place live = predefined_read st p place live
name_read st (bindings.Global slot) place live = value_read st (names.value_of st (bindings.Global slot)) live (value_of_live st (bindings.Global slot) live)
name_read st (bindings.Local slot) place live = value_read st (names.value_of st (bindings.Local slot)) live (value_of_live st (bindings.Local slot) live)
name_read st bindings.Unknown place live = value_read st (names.value_of st bindings.Unknown) live tt

with_value : (st : State) (b : Binding) (v : HostValue) → IsLiveState st → IsLiveValue st.heap v → IsLiveState (names.with_value st b v)
with_value st (bindings.Global slot) v live l =
    record { heap = binding_live st.heap slot.number v live.heap l; locals = bindings_later st.heap (with_binding st.heap slot.number v) (binding_has st.heap slot.number v) st.locals live.locals }
with_value st (bindings.Local slot) v live l =
    record { heap = live.heap; locals = all_set (λ (b : Option HostValue). IfSome b (IsLiveValue st.heap)) st.locals slot.number (Some v) live.locals l }
with_value st (bindings.Predefined p) v live l = live
with_value st bindings.Unknown v live l = live

value_written : (st : State) (b : Binding) (v : HostValue) → IsLiveState st → IsLiveValue st.heap v → IsLiveRewritten (names.value_written st b v)
value_written st b v live l =
    either (names.is_constant b) (throws st errors.TypeError) (goes (names.with_value st b v) (now focus.Done)) (throws_live st errors.TypeError live)
    (now_live (names.with_value st b v) focus.Done (with_value st b v live l) tt)

value_set : (st : State) (b : Binding) (v : HostValue) → IsLiveState st → IsLiveValue st.heap v
    → IsLiveRewritten (if is_some (names.value_of st b) then names.value_written st b v else throws st errors.ReferenceError)
value_set st b v live l =
    either (is_some (names.value_of st b)) (names.value_written st b v) (throws st errors.ReferenceError) (value_written st b v live l) (throws_live st errors.ReferenceError live)

name_written : (st : State) (b : Binding) (place : ℕ) (v : HostValue) → IsLiveState st → IsLiveValue st.heap v → IsLiveRewritten (names.name_written st b place v)
name_written st (bindings.Predefined p) place v live l = refuses_live st outside.BuiltinWrite place live
name_written st (bindings.Global slot) place v live l = value_set st (bindings.Global slot) v live l
name_written st (bindings.Local slot) place v live l = value_set st (bindings.Local slot) v live l
name_written st bindings.Unknown place v live l = value_set st bindings.Unknown v live l

-- ---- operators

abbrev OfConv : HostHeap → Conv HostValue → Type 0
OfConv h (conv.Value v) = IsLiveValue h v
OfConv h _ = Unit {0}

-- what a conversion gave is live
pub record IsLiveConv (h : HostHeap) (x : Conv HostValue) : Type 0 where
  pub live : OfConv h x

value_in : (h : HostHeap) (v : HostValue) → IsLiveValue h v → IsLiveConv h (conv.Value v)
value_in h v l = record { live = l }

thrown_in : (h : HostHeap) (class : ErrorClass) → IsLiveConv h (conv.Throw class)
thrown_in h class = record { live = tt }

outside_in : (h : HostHeap) (kind : OutsideKind) → IsLiveConv h (conv.Outside kind)
outside_in h kind = record { live = tt }

conv_or : (h : HostHeap) (b : Bool) (x y : Conv HostValue) → IsLiveConv h x → IsLiveConv h y → IsLiveConv h (if b then x else y)
conv_or h true x y p q = p
conv_or h false x y p q = q

number_live : (h : HostHeap) (z : ℤ) → IsLiveConv h (arithmetic.number_of z)
number_live h z = conv_or h _ _ _ (value_in h (values.Number z) tt) (outside_in h outside.Number)

big_int_live : (h : HostHeap) (z : ℤ) → IsLiveConv h (arithmetic.big_int_of z)
big_int_live h z = conv_or h _ _ _ (value_in h (values.BigInt z) tt) (outside_in h outside.BigInt)

number_result_live : (h : HostHeap) (op : Arith) (a b : ℤ) → IsLiveConv h (arithmetic.number_result op a b)
number_result_live h ariths.Sub a b = number_live h (a -ℤ b)
number_result_live h ariths.Mul a b = number_live h (a *ℤ b)
number_result_live h ariths.Div a b =
    conv_or h (int_eq b (pos 0)) _ _ (outside_in h outside.Number)
    (conv_or h (int_eq (int_rem a b) (pos 0)) _ _ (number_live h (int_div a b)) (outside_in h outside.Number))
number_result_live h ariths.Rem a b = conv_or h (int_eq b (pos 0)) _ _ (outside_in h outside.Number) (number_live h (int_rem a b))

big_int_result_live : (h : HostHeap) (op : Arith) (a b : ℤ) → IsLiveConv h (arithmetic.big_int_result op a b)
big_int_result_live h ariths.Sub a b = big_int_live h (a -ℤ b)
big_int_result_live h ariths.Mul a b = big_int_live h (a *ℤ b)
big_int_result_live h ariths.Div a b = conv_or h (int_eq b (pos 0)) _ _ (thrown_in h errors.RangeError) (big_int_live h (int_div a b))
big_int_result_live h ariths.Rem a b = conv_or h (int_eq b (pos 0)) _ _ (thrown_in h errors.RangeError) (big_int_live h (int_rem a b))

numeric_live : (h : HostHeap) (F G : ℤ → ℤ → Conv HostValue) (a b : Numeric) → ((x y : ℤ) → IsLiveConv h (F x y)) → ((x y : ℤ) → IsLiveConv h (G x y))
    → IsLiveConv h (arithmetic.numeric_result F G a b)
numeric_live h F G (numeric.BigInt a) (numeric.BigInt b) f g = g a b
numeric_live h F G (numeric.BigInt a) (numeric.Number b) f g = thrown_in h errors.TypeError
numeric_live h F G (numeric.BigInt a) numeric.NaN f g = thrown_in h errors.TypeError
numeric_live h F G (numeric.Number a) (numeric.BigInt b) f g = thrown_in h errors.TypeError
numeric_live h F G (numeric.Number a) (numeric.Number b) f g = f a b
numeric_live h F G (numeric.Number a) numeric.NaN f g = outside_in h outside.Number
numeric_live h F G numeric.NaN (numeric.BigInt b) f g = thrown_in h errors.TypeError
numeric_live h F G numeric.NaN (numeric.Number b) f g = outside_in h outside.Number
numeric_live h F G numeric.NaN numeric.NaN f g = outside_in h outside.Number

arith_live : (h : HostHeap) (op : Arith) (a b : HostValue) → IsLiveConv h (arithmetic.arith_of op a b)
arith_live h op a b =
    conv_or h (arithmetic.is_object a || arithmetic.is_object b) _ _ (outside_in h outside.ToPrimitive)
    (conv_or h (arithmetic.is_text a || arithmetic.is_text b) _ _ (outside_in h outside.TextNumber)
    (numeric_live h (arithmetic.number_result op) (arithmetic.big_int_result op) (arithmetic.to_numeric a) (arithmetic.to_numeric b) (number_result_live h op) (big_int_result_live h op)))

sum_live : (h : HostHeap) (a b : HostValue) → IsLiveConv h (arithmetic.sum_of a b)
sum_live h a b =
    conv_or h (arithmetic.is_object a || arithmetic.is_object b) _ _ (outside_in h outside.ToPrimitive)
    (conv_or h (arithmetic.is_text a || arithmetic.is_text b) _ _
    (conv_or h (nat_le (length (primitive_text a ++ primitive_text b)) arithmetic.most_text_bytes) _ _ (value_in h (values.Text (primitive_text a ++ primitive_text b)) tt) (outside_in h outside.TextSize))
    (numeric_live h (λ x y. arithmetic.number_of (x +ℤ y)) (λ x y. arithmetic.big_int_of (x +ℤ y)) (arithmetic.to_numeric a) (arithmetic.to_numeric b)
    (λ x y. number_live h (x +ℤ y)) (λ x y. big_int_live h (x +ℤ y))))

negated_live : (h : HostHeap) (n : Numeric) → IsLiveConv h (arithmetic.negated n)
negated_live h numeric.NaN = outside_in h outside.Number
negated_live h (numeric.Number z) = number_live h (neg_ℤ z)
negated_live h (numeric.BigInt z) = big_int_live h (neg_ℤ z)

truth_live : (h : HostHeap) (x : Conv Bool) → IsLiveConv h (operators.truth x)
truth_live h (conv.Value b) = value_in h (values.Bool b) tt
truth_live h (conv.Throw class) = thrown_in h class
truth_live h (conv.Outside kind) = outside_in h kind

applied_live : (h : HostHeap) (op : BinaryOperator) (a b : HostValue) → IsLiveValue h b → IsLiveConv h (operators.applied op a b)
applied_live h binary.Times a b l = arith_live h ariths.Mul a b
applied_live h binary.Divided a b l = arith_live h ariths.Div a b
applied_live h binary.Remainder a b l = arith_live h ariths.Rem a b
applied_live h binary.Plus a b l = sum_live h a b
applied_live h binary.Minus a b l = arith_live h ariths.Sub a b
applied_live h binary.Less a b l = truth_live h (arithmetic.relation_of rels.Lt a b)
applied_live h binary.Greater a b l = truth_live h (arithmetic.relation_of rels.Gt a b)
applied_live h binary.LessEquals a b l = truth_live h (arithmetic.relation_of rels.Le a b)
applied_live h binary.GreaterEquals a b l = truth_live h (arithmetic.relation_of rels.Ge a b)
applied_live h binary.StrictEquals a b l = record { live = tt }
applied_live h binary.StrictNotEquals a b l = record { live = tt }
applied_live h binary.And a b l = value_in h b l
applied_live h binary.Or a b l = value_in h b l

prefixed_live : (h : HostHeap) (op : PrefixOperator) (v : HostValue) → IsLiveConv h (operators.prefixed h op v)
prefixed_live h prefix.Negative v =
    conv_or h (arithmetic.is_object v) _ _ (outside_in h outside.ToPrimitive)
    (conv_or h (arithmetic.is_text v) _ _ (outside_in h outside.TextNumber) (negated_live h (arithmetic.to_numeric v)))
prefixed_live h prefix.Not v = record { live = tt }
prefixed_live h prefix.TypeOf v = record { live = tt }

chained_at : (h : HostHeap) (form : Option Form) (n : NodeId) (k : ℕ) (v : HostValue) (o : Option Operand) → IsLiveValue h v → IsLiveWork h (operators.chained_at form n k v o)
chained_at h form n k v None l = (tt, l)
chained_at h form n k v (Some o) l =
    work_either h (operators.decides o.operator v) (now (focus.Value v)) (waits (items.Right n k v) (nodes.operand_of form (k + 1))) (tt, l) ((l, tt), tt)

chained : (h : HostHeap) (form : Option Form) (n : NodeId) (k : ℕ) (v : HostValue) → IsLiveValue h v → IsLiveWork h (operators.chained form n k v)
chained h form n k v l = chained_at h form n k v (slice_get (nodes.operands_of form) k) l

chain_goes : (st : State) (form : Option Form) (n : NodeId) (next place : ℕ) (x : Conv HostValue) → IsLiveState st → IsLiveConv st.heap x
    → IsLiveRewritten (operators.chain_goes st form n next place x)
chain_goes st form n next place (conv.Value v) live l = goes_live st (operators.chained form n next v) live (chained st.heap form n next v l.live)
chain_goes st form n next place (conv.Throw class) live l = throws_live st class live
chain_goes st form n next place (conv.Outside kind) live l = refuses_live st kind place live

operated_at : (st : State) (form : Option Form) (n : NodeId) (k : ℕ) (left right : HostValue) (o : Option Operand) → IsLiveState st → IsLiveValue st.heap right
    → IsLiveRewritten (operators.operated_at st form n k left right o)
operated_at st form n k left right None live l = gives_live st right live l
operated_at st form n k left right (Some o) live l =
    chain_goes st form n (k + 1) o.place (operators.applied o.operator left right) live (applied_live st.heap o.operator left right l)

converted : (st : State) (place : ℕ) (x : Conv HostValue) → IsLiveState st → IsLiveConv st.heap x → IsLiveRewritten (operators.converted st place x)
converted st place (conv.Value v) live l = gives_live st v live l.live
converted st place (conv.Throw class) live l = throws_live st class live
converted st place (conv.Outside kind) live l = refuses_live st kind place live

-- ---- members

got_of : (st : State) (o : ObjId) (key : Key) (place : ℕ) (x : Got) → IsLiveState st → IsLive st.heap o → IsLiveGot st.heap x → IsLiveRewritten (members_at.got_of st o key place x)
got_of st o key place (got.Value v) live lo l = gives_live st v live l
got_of st o key place (got.Throw class) live lo l = throws_live st class live
got_of st o key place (got.Outside kind) live lo l = refuses_live st kind place live
got_of st o key place got.Interface live lo l = asks_live st (effects.GetMember o key) place live lo

object_read : (st : State) (o : ObjId) (key : Key) (place : ℕ) → IsLiveState st → IsLive st.heap o → IsLiveRewritten (members_at.object_read st o key place)
object_read st o key place live lo =
    either _ (members_at.refers st (references.Method o (text_of_key key)) place) (members_at.got_of st o key place (read_of st.heap (values.Object o) key))
    (now_live st (focus.Refers (references.Method o (text_of_key key)) place) live lo)
    (got_of st o key place (read_of st.heap (values.Object o) key) live lo (read_live st.heap (values.Object o) key live.heap))

primitive_got : (st : State) (place : ℕ) (x : Got) → IsLiveState st → IsLiveGot st.heap x → IsLiveRewritten (members_at.primitive_got st place x)
primitive_got st place (got.Value v) live l = gives_live st v live l
primitive_got st place (got.Throw class) live l = throws_live st class live
primitive_got st place (got.Outside kind) live l = refuses_live st kind place live
primitive_got st place got.Interface live l = throws_live st errors.TypeError live

value_member : (st : State) (v : HostValue) (key : Key) (place : ℕ) → IsLiveState st → IsLiveValue st.heap v → IsLiveRewritten (members_at.value_member st v key place)
value_member st (values.Object o) key place live l = object_read st o key place live l
value_member st v key place live l = primitive_got st place (read_of st.heap v key) live (read_live st.heap v key live.heap)

predefined_member : (st : State) (class : Class) (name : List ℕ) (place : ℕ) (m : Option Member) → IsLiveState st → IsLiveRewritten (members_at.predefined_member st class name place m)
predefined_member st class name place None live = refuses_live st outside.BuiltinMember place live
predefined_member st class name place (Some (members.Class inner)) live = now_live st (focus.Refers (references.Class inner) place) live tt
predefined_member st class name place (Some members.Function) live = now_live st (focus.Refers (references.Function class name) place) live tt

member_read : (st : State) (base : Base) (key : Key) (place : ℕ) → IsLiveState st → IsLiveBase st.heap base → IsLiveRewritten (members_at.member_read st base key place)
member_read st (bases.Value v) key place live l = value_member st v key place live l
member_read st (bases.Class class) key place live l = predefined_member st class (text_of_key key) place (member_of class (text_of_key key)) live

keyed_read : (st : State) (base : Base) (place : ℕ) (key : Option Key) → IsLiveState st → IsLiveBase st.heap base → IsLiveRewritten (members_at.keyed_read st base place key)
keyed_read st base place None live l = refuses_live st outside.Key place live
keyed_read st base place (Some key) live l = member_read st base key place live l

computed_read : (st : State) (base : Base) (v : HostValue) (place : ℕ) → IsLiveState st → IsLiveBase st.heap base → IsLiveRewritten (members_at.computed_read st base v place)
computed_read st base v place live l =
    either (members_at.is_nullish base) (throws st errors.TypeError) (members_at.keyed_read st base place (key_of v)) (throws_live st errors.TypeError live)
    (keyed_read st base place (key_of v) live l)

put_of : (st : State) (o : HostValue) (key : Key) (v : HostValue) (place : ℕ) (x : Put) → IsLiveState st → IsLiveValue st.heap o → IsLiveValue st.heap v
    → IsLiveRewritten (members_at.put_of st o key v place x)
put_of st o key v place put.Done live lo l = now_live (with_heap st (written st.heap o key v)) focus.Done (written_state st o key v live l) tt
put_of st o key v place (put.Throw class) live lo l = throws_live st class live
put_of st o key v place (put.Outside kind) live lo l = refuses_live st kind place live
put_of st (values.Object o) key v place put.Interface live lo l = record { state = live; effect = (lo, l); items = (tt, tt); focus = tt }
put_of st o key v place put.Interface live lo l = throws_live st errors.TypeError live

member_written : (st : State) (base : Base) (key : Key) (v : HostValue) (place : ℕ) → IsLiveState st → IsLiveBase st.heap base → IsLiveValue st.heap v
    → IsLiveRewritten (members_at.member_written st base key v place)
member_written st (bases.Value o) key v place live lo l = put_of st o key v place (write_of st.heap o key) live lo l
member_written st (bases.Class class) key v place live lo l = refuses_live st outside.BuiltinWrite place live

keyed_written : (st : State) (base : Base) (v : HostValue) (place : ℕ) (key : Option Key) → IsLiveState st → IsLiveBase st.heap base → IsLiveValue st.heap v
    → IsLiveRewritten (members_at.keyed_written st base v place key)
keyed_written st base v place None live lo l = refuses_live st outside.Key place live
keyed_written st base v place (Some key) live lo l = member_written st base key v place live lo l

computed_written : (st : State) (base : Base) (k v : HostValue) (place : ℕ) → IsLiveState st → IsLiveBase st.heap base → IsLiveValue st.heap v
    → IsLiveRewritten (members_at.computed_written st base k v place)
computed_written st base k v place live lo l =
    either (members_at.is_nullish base) (throws st errors.TypeError) (members_at.keyed_written st base v place (key_of k)) (throws_live st errors.TypeError live)
    (keyed_written st base v place (key_of k) live lo l)

-- ---- calls

function_object_called : (st : State) (o : ObjId) (args : List HostValue) (place : ℕ) (c : Callee) → IsLiveState st → IsLive st.heap o → AreLiveValues st.heap args
    → IsLiveRewritten (calls_at.function_object_called st o args place c)
function_object_called st o args place callees.Print live lo la = asks_live st (effects.Print (calls_at.line_of st.heap args)) place live tt
function_object_called st o args place c live lo la = asks_live st (effects.Call o args) place live (lo, la)

callee_called : (st : State) (o : ObjId) (args : List HostValue) (place : ℕ) (c : Option Callee) → IsLiveState st → IsLive st.heap o → AreLiveValues st.heap args
    → IsLiveRewritten (calls_at.callee_called st o args place c)
callee_called st o args place None live lo la = throws_live st errors.TypeError live
callee_called st o args place (Some c) live lo la = function_object_called st o args place c live lo la

value_called : (st : State) (v : HostValue) (args : List HostValue) (place : ℕ) → IsLiveState st → IsLiveValue st.heap v → AreLiveValues st.heap args
    → IsLiveRewritten (calls_at.value_called st v args place)
value_called st (values.Object o) args place live lv la = callee_called st o args place (calls_at.callee_of (kind_at st.heap o)) live lv la
value_called st v args place live lv la = throws_live st errors.TypeError live

replied : (st : State) (e : HostEffect) (place : ℕ) (r : Reply) → IsLiveState st → IsLiveEffect st.heap e → IsLiveReply st.heap r → IsLiveRewritten (calls_at.replied st e place r)
replied st e place (replies.Value v) live le l = gives_live st v live l
replied st e place (replies.Throw class) live le l = throws_live st class live
replied st e place (replies.Outside kind) live le l = refuses_live st kind place live
replied st e place replies.Interface live le l = asks_live st e place live le

target_later : (h g : HostHeap) → Has h g → (t : Target) → IsLiveTarget h t → IsLiveTarget g t
target_later h g m (targets.Object o) l = m o l
target_later h g m (targets.Builtin class) l = tt

-- an answer to a call of a predefined object or a method
answered : (st : State) (e : HostEffect) (place : ℕ) (a : Answer) → ((g : HostHeap) → Has st.heap g → IsLiveEffect g e) → IsLiveState st → IsSound st.heap a → IsLiveHeap a.heap
    → IsLiveRewritten (calls_at.answered st e place a)
answered st e place a le live sound l =
    let m : Has st.heap a.heap = λ o lo. sound.later.live (values.Object o) lo in
    replied (with_heap st a.heap) e place a.reply (state_later st a.heap m live l) (le a.heap m) sound.live

method_effect : (h : HostHeap) (target : Target) (name : List ℕ) (args : List HostValue) → IsLiveTarget h target → AreLiveValues h args → (g : HostHeap) → Has h g
    → IsLiveEffect g (effects.Method target name args)
method_effect h target name args lt la g m = (target_later h g m target lt, values_later h g m args la)

callee_constructed : (st : State) (place : ℕ) (c : Option Callee) → IsLiveState st → IsLiveRewritten (calls_at.callee_constructed st place c)
callee_constructed st place None live = throws_live st errors.TypeError live
callee_constructed st place (Some (callees.Script function count)) live = refuses_live st outside.Construct place live
callee_constructed st place (Some callees.Print) live = refuses_live st outside.Construct place live
callee_constructed st place (Some c) live = throws_live st errors.TypeError live

value_constructed : (st : State) (v : HostValue) (place : ℕ) → IsLiveState st → IsLiveRewritten (calls_at.value_constructed st v place)
value_constructed st (values.Object o) place live = callee_constructed st place (calls_at.callee_of (kind_at st.heap o)) live
value_constructed st v place live = throws_live st errors.TypeError live

-- what follows of the laws of those answers
module _ (calls : CallsAreSound) (constructions : ConstructionsAreSound) (member_calls : MemberCallsAreSound) (pushes : PushesAreSound) where
  class_called : (st : State) (class : Class) (args : List HostValue) (place : ℕ) → IsLiveState st → AreLiveValues st.heap args → IsLiveRewritten (calls_at.class_called st class args place)
  class_called st class args place live la =
      answered st (effects.Method (targets.Builtin class) [] args) place (builtins.call_of st.heap class args) (method_effect st.heap (targets.Builtin class) [] args tt la) live
      (calls st.heap class args) (call_gives st.heap class args live.heap)

  function_called : (st : State) (class : Class) (name : List ℕ) (args : List HostValue) (place : ℕ) → IsLiveState st → AreLiveValues st.heap args
      → IsLiveRewritten (calls_at.function_called st class name args place)
  function_called st class name args place live la =
      answered st (effects.Method (targets.Builtin class) name args) place (builtins.member_call_of st.heap class name args) (method_effect st.heap (targets.Builtin class) name args tt la) live
      (member_calls st.heap class name args) (member_call_gives st.heap class name args live.heap)

  method_called : (st : State) (o : ObjId) (name : List ℕ) (args : List HostValue) (place : ℕ) → IsLiveState st → IsLive st.heap o → AreLiveValues st.heap args
      → IsLiveRewritten (calls_at.method_called st o name args place)
  method_called st o name args place live lo la =
      let e = effects.Method (targets.Object o) name args in
      either (calls_at.is_array (kind_at st.heap o)) (calls_at.pushed st o name args place) (asks st e place)
      (answered st e place (builtins.push_of st.heap o args) (method_effect st.heap (targets.Object o) name args lo la) live (pushes st.heap o args) (push_gives st.heap o args live.heap la))
      (asks_live st e place live (lo, la))

  reference_called : (st : State) (r : Reference) (args : List HostValue) (place : ℕ) → IsLiveState st → IsLiveReference st.heap r → AreLiveValues st.heap args
      → IsLiveRewritten (calls_at.reference_called st r args place)
  reference_called st (references.Class class) args place live lr la = class_called st class args place live la
  reference_called st (references.Function class name) args place live lr la = function_called st class name args place live la
  reference_called st (references.Method o name) args place live lr la = method_called st o name args place live lr la

  called : (st : State) (c : Callable) (args : List HostValue) (place : ℕ) → IsLiveState st → IsLiveCallable st.heap c → AreLiveValues st.heap args
      → IsLiveRewritten (calls_at.called st c args place)
  called st (callables.Value v) args place live lc la = value_called st v args place live lc la
  called st (callables.Reference r) args place live lc la = reference_called st r args place live lc la

  reference_constructed : (st : State) (r : Reference) (args : List HostValue) (place : ℕ) → IsLiveState st → AreLiveValues st.heap args
      → IsLiveRewritten (calls_at.reference_constructed st r args place)
  reference_constructed st (references.Class class) args place live la =
      answered st (effects.New class args) place (builtins.construct_of st.heap class args) (λ g m. values_later st.heap g m args la) live (constructions st.heap class args)
      (construct_gives st.heap class args live.heap)
  reference_constructed st (references.Function class name) args place live la = refuses_live st outside.Construct place live
  reference_constructed st (references.Method o name) args place live la = refuses_live st outside.Construct place live

  constructed : (st : State) (c : Callable) (args : List HostValue) (place : ℕ) → IsLiveState st → AreLiveValues st.heap args → IsLiveRewritten (calls_at.constructed st c args place)
  constructed st (callables.Value v) args place live la = value_constructed st v place live
  constructed st (callables.Reference r) args place live la = reference_constructed st r args place live la

  pub called_or_constructed : (st : State) (c : Callable) (args : List HostValue) (place : ℕ) (form : Option Form) → IsLiveState st → IsLiveCallable st.heap c → AreLiveValues st.heap args
      → IsLiveRewritten (rules.calls st c args place form)
  called_or_constructed st c args place None live lc la = called st c args place live lc la
  called_or_constructed st c args place (Some (forms.New class arguments)) live lc la = constructed st c args place live la
  called_or_constructed st c args place (Some form) live lc la = called st c args place live lc la

-- ---- statements and expressions that begin

taken_state : (st : State) (outer : ℕ) → IsLiveState st → IsLiveState (record { heap = st.heap; locals = take outer st.locals })
taken_state st outer live = record { heap = live.heap; locals = all_take (λ (b : Option HostValue). IfSome b (IsLiveValue st.heap)) outer st.locals live.locals }

listed : (st : State) (q : Sequence) (k outer : ℕ) (n : Option NodeId) → IsLiveState st → IsLiveRewritten (rules.listed st q k outer n)
listed st q k outer None live = now_live (record { heap = st.heap; locals = take outer st.locals }) focus.Done (taken_state st outer live) tt
listed st q k outer (Some n) live = waits_live st (items.List q (k + 1) outer) n live tt

scope_live : (h : HostHeap) (locals : List (Option HostValue)) (names : ℕ) (caught : Option HostValue) → AreLiveBindings h locals → IfSome caught (IsLiveValue h)
    → AreLiveBindings h (rules.scope_of locals names caught)
scope_live h locals names None a l =
    all_append (λ (b : Option HostValue). IfSome b (IsLiveValue h)) locals (replicate names None) a (all_replicate (λ (b : Option HostValue). IfSome b (IsLiveValue h)) names None tt)
scope_live h locals names (Some v) a l =
    all_append (λ (b : Option HostValue). IfSome b (IsLiveValue h)) (locals ++ Some v ∷ []) (replicate (names - 1) None)
    (all_append (λ (b : Option HostValue). IfSome b (IsLiveValue h)) locals (Some v ∷ []) a (l, tt))
    (all_replicate (λ (b : Option HostValue). IfSome b (IsLiveValue h)) (names - 1) None tt)

entered : (st : State) (block : NodeId) (names : ℕ) (caught : Option HostValue) (more : List Item) → IsLiveState st → IfSome caught (IsLiveValue st.heap)
    → AllByRecursion (IsLiveItem st.heap) more → IsLiveRewritten (rules.entered st block names caught more)
entered st block names caught more live l a =
    record { state = record { heap = live.heap; locals = scope_live st.heap st.locals names caught live.locals l }; effect = tt; items = (tt, a); focus = tt }

caught_live : (h : HostHeap) (b : Bool) (v : HostValue) → IsLiveValue h v → IfSome (if b then Some v else None) (IsLiveValue h)
caught_live h true v l = l
caught_live h false v l = tt

handled : (s : Tree) (st : State) (handler : NodeId) (caught : Bool) (v : HostValue) → IsLiveState st → IsLiveValue st.heap v → IsLiveRewritten (rules.handled s st handler caught v)
handled s st handler caught v live l = entered st handler (nodes.names_of (nodes.form_at s handler)) (if caught then Some v else None) [] live (caught_live st.heap caught v l) tt

element_next : (st : State) (n : NodeId) (done : List HostValue) (place : ℕ) (x : Option NodeId) → IsLiveState st → AreLiveValues st.heap done
    → IsLiveRewritten (rules.element_next st n done place x)
element_next st n done place (Some x) live a = waits_live st (items.Elements n done) x live a
element_next st n done place None live a =
    let g = with_object st.heap kinds.Array (elements_of done) in
    either (nat_le (length done) most_elements) (gives (with_heap st g) (values.Object (next_object st.heap))) (refuses st outside.ArraySize place)
    (gives_live (with_heap st g) (values.Object (next_object st.heap)) (added_state st kinds.Array (elements_of done) live (elements_live st.heap done a))
    (next_live st.heap kinds.Array (elements_of done))) (refuses_live st outside.ArraySize place live)

element_of : (s : Tree) (st : State) (n : NodeId) (done : List HostValue) → IsLiveState st → AreLiveValues st.heap done → IsLiveRewritten (rules.element_of s st n done)
element_of s st n done live a = element_next st n done (nodes.place_at s n) (slice_get (nodes.elements_of (nodes.form_at s n)) (length done)) live a

property_next : (st : State) (n : NodeId) (k : ℕ) (o : ObjId) (p : Option Property) → IsLiveState st → IsLive st.heap o → IsLiveRewritten (rules.property_next st n k o p)
property_next st n k o None live l = gives_live st (values.Object o) live l
property_next st n k o (Some p) live l =
    either (bytes_eq (nodes.spelled p.key) (codes "__proto__")) (refuses st outside.ProtoKey p.place) (goes st (waits (items.Property n k o) p.value))
    (refuses_live st outside.ProtoKey p.place live) (waits_live st (items.Property n k o) p.value live l)

property_of : (s : Tree) (st : State) (n : NodeId) (k : ℕ) (o : ObjId) → IsLiveState st → IsLive st.heap o → IsLiveRewritten (rules.property_of s st n k o)
property_of s st n k o live l = property_next st n k o (slice_get (nodes.properties_of (nodes.form_at s n)) k) live l

object_begun : (s : Tree) (st : State) (n : NodeId) → IsLiveState st → IsLiveRewritten (rules.object_begun s st n)
object_begun s st n live =
    property_of s (with_heap st (with_object st.heap kinds.Plain [])) n 0 (next_object st.heap) (added_state st kinds.Plain [] live tt) (next_live st.heap kinds.Plain [])

property_set : (s : Tree) (st : State) (n : NodeId) (k : ℕ) (o : ObjId) (v : HostValue) (p : Option Property) → IsLiveState st → IsLive st.heap o → IsLiveValue st.heap v
    → IsLiveRewritten (rules.property_set s st n k o v p)
property_set s st n k o v None live lo l = gives_live st (values.Object o) live lo
property_set s st n k o v (Some p) live lo l =
    let key = key_of_text (nodes.spelled p.key) in
    property_of s (with_heap st (written st.heap (values.Object o) key v)) n (k + 1) o (written_state st (values.Object o) key v live l)
    (written_has st.heap (values.Object o) key v o lo)

argument_next : (h : HostHeap) (n : NodeId) (c : Callable) (done : List HostValue) (x : Option NodeId) → IsLiveCallable h c → AreLiveValues h done
    → IsLiveWork h (rules.argument_next n c done x)
argument_next h n c done None lc a = (tt, (lc, a))
argument_next h n c done (Some x) lc a = (((lc, a), tt), tt)

argument_of : (h : HostHeap) (s : Tree) (n : NodeId) (c : Callable) (done : List HostValue) → IsLiveCallable h c → AreLiveValues h done → IsLiveWork h (rules.argument_of s n c done)
argument_of h s n c done lc a = argument_next h n c done (slice_get (nodes.arguments_of (nodes.form_at s n)) (length done)) lc a

valued : (s : Tree) (st : State) (n : NodeId) (k : ℕ) (name : NodeId) (x : Option NodeId) → IsLiveState st → IsLiveRewritten (rules.valued s st n k name x)
valued s st n k name None live =
    let b = nodes.binding_at s name in
    now_live (names.with_value st b values.Undefined) (focus.Declares n (k + 1)) (with_value st b values.Undefined live tt) tt
valued s st n k name (Some x) live = waits_live st (items.Declare n k) x live tt

pub declared : (s : Tree) (st : State) (n : NodeId) (k : ℕ) (d : Option Declaration) → IsLiveState st → IsLiveRewritten (rules.declared s st n k d)
declared s st n k None live = now_live st focus.Done live tt
declared s st n k (Some d) live = valued s st n k d.name d.value live

initialised : (s : Tree) (st : State) (n : NodeId) (k : ℕ) (v : HostValue) (d : Option Declaration) → IsLiveState st → IsLiveValue st.heap v
    → IsLiveRewritten (rules.initialised s st n k v d)
initialised s st n k v None live l = now_live st focus.Done live tt
initialised s st n k v (Some d) live l =
    let b = nodes.binding_at s d.name in
    now_live (names.with_value st b v) (focus.Declares n (k + 1)) (with_value st b v live l) tt

assigns : (h : HostHeap) (n target value : NodeId) (form : Option Form) → IsLiveWork h (rules.assigns n target value form)
assigns h n target value None = (tt, tt)
assigns h n target value (Some (forms.Name text reference)) = ((tt, tt), tt)
assigns h n target value (Some (forms.Member object key)) = ((tt, tt), tt)
assigns h n target value (Some (forms.Index object key)) = ((tt, tt), tt)
assigns h n target value (Some form) = (tt, tt)

prefix_begun : (s : Tree) (st : State) (n : NodeId) (operator : PrefixOperator) (x : NodeId) → IsLiveState st → IsLiveRewritten (rules.prefix_begun s st n operator x)
prefix_begun s st n prefix.TypeOf x live =
    either (rules.is_unknown (nodes.form_at s x) (nodes.binding_at s x)) (gives st (values.Text (codes "undefined"))) (goes st (waits (items.Prefix n) x))
    (gives_live st (values.Text (codes "undefined")) live tt) (waits_live st (items.Prefix n) x live tt)
prefix_begun s st n operator x live = waits_live st (items.Prefix n) x live tt

statement_begun : (s : Tree) (st : State) (n : NodeId) (form : Form) → IsLiveState st → IsLiveRewritten (rules.statement_begun s st n form)
statement_begun s st n (forms.Block names list) live = entered st n names None [] live tt tt
statement_begun s st n (forms.Expression x) live = waits_live st items.Expression x live tt
statement_begun s st n (forms.Assign target value) live = goes_live st _ live (assigns st.heap n target value (nodes.form_at s target))
statement_begun s st n (forms.If test first) live = waits_live st (items.If n) test live tt
statement_begun s st n (forms.IfElse test first other) live = waits_live st (items.If n) test live tt
statement_begun s st n (forms.While test body) live = waits_live st (items.Test n) test live tt
statement_begun s st n forms.Break live = now_live st (focus.Leaves completions.Break) live tt
statement_begun s st n forms.Continue live = now_live st (focus.Leaves completions.Continue) live tt
statement_begun s st n (forms.Return None) live = now_live st (focus.Leaves (completions.Return values.Undefined)) live tt
statement_begun s st n (forms.Return (Some x)) live = waits_live st items.Return x live tt
statement_begun s st n (forms.Throw x) live = waits_live st items.Throw x live tt
statement_begun s st n (forms.Try body caught handler) live = entered st body (nodes.names_of (nodes.form_at s body)) None (items.Try n ∷ []) live tt (tt, tt)
statement_begun s st n (forms.Let declarations) live = now_live st (focus.Declares n 0) live tt
statement_begun s st n (forms.Const declarations) live = now_live st (focus.Declares n 0) live tt
statement_begun s st n form live = now_live st focus.Done live tt

form_begun : (s : Tree) (st : State) (n : NodeId) (form : Form) → IsLiveState st → IsLiveRewritten (rules.form_begun s st n form)
form_begun s st n forms.Undefined live = gives_live st values.Undefined live tt
form_begun s st n forms.Null live = gives_live st values.Null live tt
form_begun s st n (forms.Boolean b) live = gives_live st (values.Bool b) live tt
form_begun s st n (forms.Number z) live = gives_live st (values.Number (pos z)) live tt
form_begun s st n (forms.BigInt z) live = gives_live st (values.BigInt (pos z)) live tt
form_begun s st n (forms.Text text) live = gives_live st (values.Text text) live tt
form_begun s st n (forms.Name text reference) live = name_read st (nodes.binding_at s n) (nodes.place_at s n) live
form_begun s st n (forms.Array xs) live = element_of s st n [] live tt
form_begun s st n (forms.Object ps) live = object_begun s st n live
form_begun s st n (forms.Member object key) live = waits_live st (items.Member n) object live tt
form_begun s st n (forms.Index object key) live = waits_live st (items.IndexObject n) object live tt
form_begun s st n (forms.Call callee arguments) live = waits_live st (items.Callee n) callee live tt
form_begun s st n (forms.New class arguments) live = waits_live st (items.Callee n) class live tt
form_begun s st n (forms.Prefix operator x) live = prefix_begun s st n operator x live
form_begun s st n (forms.Chain operands last) live = waits_live st (items.Left n) _ live tt
form_begun s st n form live = statement_begun s st n form live

pub begun : (s : Tree) (st : State) (n : NodeId) (form : Option Form) → IsLiveState st → IsLiveRewritten (rules.begun s st n form)
begun s st n None live = now_live st focus.Done live tt
begun s st n (Some form) live = form_begun s st n form live

turned_work : (h : HostHeap) (n : NodeId) (form : Option Form) → IsLiveWork h (rules.turned n form)
turned_work h n None = (tt, tt)
turned_work h n (Some (forms.While test body)) = ((tt, tt), tt)
turned_work h n (Some form) = (tt, tt)

pub turned : (st : State) (n : NodeId) (form : Option Form) → IsLiveState st → IsLiveRewritten (goes st (rules.turned n form))
turned st n form live = goes_live st (rules.turned n form) live (turned_work st.heap n form)

tests : (h : HostHeap) (n : NodeId) (form : Option Form) → IsLiveWork h (rules.tests n form)
tests h n None = (tt, tt)
tests h n (Some (forms.While test body)) = ((tt, tt), tt)
tests h n (Some form) = (tt, tt)

-- ---- results that items take

branched : (h : HostHeap) (v : HostValue) (form : Option Form) → IsLiveWork h (rules.branched v form)
branched h v None = (tt, tt)
branched h v (Some (forms.If test first)) = work_either h (to_boolean v) (now (focus.Begin first)) (now focus.Done) (tt, tt) (tt, tt)
branched h v (Some (forms.IfElse test first other)) = work_either h (to_boolean v) (now (focus.Begin first)) (now (focus.Begin other)) (tt, tt) (tt, tt)
branched h v (Some form) = (tt, tt)

test_focus : (h : HostHeap) (b : Bool) (n : NodeId) → IsLiveFocus h (if b then focus.Turn n else focus.Done)
test_focus h true n = tt
test_focus h false n = tt

target_based : (h : HostHeap) (n target value : NodeId) (base : Base) (form : Option Form) → IsLiveBase h base → IsLiveWork h (rules.target_based n target value base form)
target_based h n target value base None l = ((l, tt), tt)
target_based h n target value base (Some (forms.Index object key)) l = ((l, tt), tt)
target_based h n target value base (Some form) l = ((l, tt), tt)

based : (h : HostHeap) (s : Tree) (n : NodeId) (base : Base) (form : Option Form) → IsLiveBase h base → IsLiveWork h (rules.based s n base form)
based h s n base None l = (tt, tt)
based h s n base (Some (forms.Assign target value)) l = target_based h n target value base (nodes.form_at s target) l
based h s n base (Some form) l = (tt, tt)

assign_keyed : (h : HostHeap) (base : Base) (key : HostValue) (form : Option Form) → IsLiveBase h base → IsLiveValue h key → IsLiveWork h (rules.assign_keyed base key form)
assign_keyed h base key None l lk = (tt, tt)
assign_keyed h base key (Some (forms.Assign target value)) l lk = (((l, lk), tt), tt)
assign_keyed h base key (Some form) l lk = (tt, tt)

keyed : (h : HostHeap) (n : NodeId) (base : Base) (form : Option Form) → IsLiveBase h base → IsLiveWork h (rules.keyed n base form)
keyed h n base None l = (tt, tt)
keyed h n base (Some (forms.Index object key)) l = ((l, tt), tt)
keyed h n base (Some form) l = (tt, tt)

prefix_done : (st : State) (place : ℕ) (v : HostValue) (form : Option Form) → IsLiveState st → IsLiveValue st.heap v → IsLiveRewritten (rules.prefix_done st place v form)
prefix_done st place v None live l = gives_live st v live l
prefix_done st place v (Some (forms.Prefix operator x)) live l = converted st place (operators.prefixed st.heap operator v) live (prefixed_live st.heap operator v)
prefix_done st place v (Some form) live l = gives_live st v live l

one_more : (h : HostHeap) (done : List HostValue) (v : HostValue) → AreLiveValues h done → IsLiveValue h v → AreLiveValues h (done ++ v ∷ [])
one_more h done v a l = all_append (IsLiveValue h) done (v ∷ []) a (l, tt)

operand_taken : (s : Tree) (st : State) (i : Item) (v : HostValue) → IsLiveState st → IsLiveItem st.heap i → IsLiveValue st.heap v → IsLiveRewritten (rules.operand_taken s st i v)
operand_taken s st (items.Left n) v live li l = goes_live st _ live (chained st.heap (nodes.form_at s n) n 0 v l)
operand_taken s st (items.Right n k left) v live li l =
    operated_at st (nodes.form_at s n) n k left v (slice_get (nodes.operands_of (nodes.form_at s n)) k) live l
operand_taken s st (items.Prefix n) v live li l = prefix_done st (nodes.place_at s n) v (nodes.form_at s n) live l
operand_taken s st (items.Elements n done) v live li l = element_of s st n (done ++ v ∷ []) live (one_more st.heap done v li l)
operand_taken s st (items.Property n k o) v live li l = property_set s st n k o v (slice_get (nodes.properties_of (nodes.form_at s n)) k) live li l
operand_taken s st (items.Member n) v live li l = member_read st (bases.Value v) (key_of_text (nodes.key_of_member (nodes.form_at s n))) (nodes.place_at s n) live l
operand_taken s st (items.IndexObject n) v live li l = goes_live st _ live (keyed st.heap n (bases.Value v) (nodes.form_at s n) l)
operand_taken s st (items.IndexKey n base) v live li l = computed_read st base v (nodes.place_at s n) live li
operand_taken s st (items.Callee n) v live li l = goes_live st _ live (argument_of st.heap s n (callables.Value v) [] l tt)
operand_taken s st (items.Arguments n callee done) v live li l = goes_live st _ live (argument_of st.heap s n callee (done ++ v ∷ []) li.0 (one_more st.heap done v li.1 l))
operand_taken s st i v live li l = now_live st focus.Done live tt

assignment_taken : (s : Tree) (st : State) (i : Item) (v : HostValue) → IsLiveState st → IsLiveItem st.heap i → IsLiveValue st.heap v → IsLiveRewritten (rules.assignment_taken s st i v)
assignment_taken s st (items.AssignName target) v live li l = name_written st (nodes.binding_at s target) (nodes.place_at s target) v live l
assignment_taken s st (items.AssignObject n) v live li l = goes_live st _ live (based st.heap s n (bases.Value v) (nodes.form_at s n) l)
assignment_taken s st (items.AssignKey n base) v live li l = goes_live st _ live (assign_keyed st.heap base v (nodes.form_at s n) li l)
assignment_taken s st (items.AssignMember target base) v live li l =
    member_written st base (key_of_text (nodes.key_of_member (nodes.form_at s target))) v (nodes.place_at s target) live li l
assignment_taken s st (items.AssignElement target base key) v live li l = computed_written st base key v (nodes.place_at s target) live li.0 l
assignment_taken s st i v live li l = operand_taken s st i v live li l

pub resumed : (s : Tree) (st : State) (i : Item) (v : HostValue) → IsLiveState st → IsLiveItem st.heap i → IsLiveValue st.heap v → IsLiveRewritten (rules.resumed s st i v)
resumed s st items.Expression v live li l = now_live st focus.Done live tt
resumed s st (items.If n) v live li l = goes_live st _ live (branched st.heap v (nodes.form_at s n))
resumed s st (items.Test n) v live li l = now_live st (if to_boolean v then focus.Turn n else focus.Done) live (test_focus st.heap (to_boolean v) n)
resumed s st items.Return v live li l = now_live st (focus.Leaves (completions.Return v)) live l
resumed s st items.Throw v live li l = throws_value_live st v live l
resumed s st (items.Declare n k) v live li l = initialised s st n k v (slice_get (nodes.declarations_of (nodes.form_at s n)) k) live l
resumed s st i v live li l = assignment_taken s st i v live li l

callee_referred : (s : Tree) (st : State) (n : NodeId) (r : Reference) (place : ℕ) (form : Option Form) → IsLiveState st → IsLiveReference st.heap r
    → IsLiveRewritten (rules.callee_referred s st n r place form)
callee_referred s st n (references.Method o name) place (Some (forms.New class arguments)) live l = refuses_live st outside.BuiltinValue place live
callee_referred s st n r place form live l = goes_live st (rules.argument_of s n (callables.Reference r) []) live (argument_of st.heap s n (callables.Reference r) [] l tt)

class_referred : (s : Tree) (st : State) (i : Item) (class : Class) (place : ℕ) → IsLiveState st → IsLiveRewritten (rules.class_referred s st i class place)
class_referred s st (items.Member n) class place live =
    member_read st (bases.Class class) (key_of_text (nodes.key_of_member (nodes.form_at s n))) (nodes.place_at s n) live tt
class_referred s st (items.IndexObject n) class place live = goes_live st _ live (keyed st.heap n (bases.Class class) (nodes.form_at s n) tt)
class_referred s st (items.AssignObject n) class place live = goes_live st _ live (based st.heap s n (bases.Class class) (nodes.form_at s n) tt)
class_referred s st i class place live = refuses_live st outside.BuiltinValue place live

uncalled : (s : Tree) (st : State) (i : Item) (r : Reference) (place : ℕ) → IsLiveState st → IsLiveRewritten (rules.uncalled s st i r place)
uncalled s st i (references.Class class) place live = class_referred s st i class place live
uncalled s st i (references.Function class name) place live = refuses_live st outside.BuiltinValue place live
uncalled s st i (references.Method o name) place live = refuses_live st outside.BuiltinValue place live

pub referred : (s : Tree) (st : State) (i : Item) (r : Reference) (place : ℕ) → IsLiveState st → IsLiveReference st.heap r → IsLiveRewritten (rules.referred s st i r place)
referred s st (items.Callee n) r place live l = callee_referred s st n r place (nodes.form_at s n) live l
referred s st i r place live l = uncalled s st i r place live

pub ended : (s : Tree) (st : State) (i : Item) → IsLiveState st → IsLiveRewritten (rules.ended s st i)
ended s st (items.List q k outer) live = listed st q k outer (slice_get (nodes.statements_of s q) k) live
ended s st (items.Loop n) live = goes_live st _ live (tests st.heap n (nodes.form_at s n))
ended s st i live = now_live st focus.Done live tt

loop_left : (h : HostHeap) (n : NodeId) (c : Completion) (form : Option Form) → IsLiveCompletion h c → IsLiveWork h (rules.loop_left n c form)
loop_left h n completions.Break form l = (tt, tt)
loop_left h n completions.Continue form l = tests h n form
loop_left h n (completions.Return v) form l = (tt, l)
loop_left h n (completions.Throw v) form l = (tt, l)

try_left : (s : Tree) (st : State) (c : Completion) (form : Option Form) → IsLiveState st → IsLiveCompletion st.heap c → IsLiveRewritten (rules.try_left s st c form)
try_left s st (completions.Throw v) (Some (forms.Try body caught handler)) live l = handled s st handler caught v live l
try_left s st c form live l = now_live st (focus.Leaves c) live l

pub left : (s : Tree) (st : State) (i : Item) (c : Completion) → IsLiveState st → IsLiveCompletion st.heap c → IsLiveRewritten (rules.left s st i c)
left s st (items.List q k outer) c live l = now_live (record { heap = st.heap; locals = take outer st.locals }) (focus.Leaves c) (taken_state st outer live) l
left s st (items.Loop n) c live l = goes_live st _ live (loop_left st.heap n c (nodes.form_at s n) l)
left s st (items.Try n) c live l = try_left s st c (nodes.form_at s n) live l
left s st i c live l = now_live st (focus.Leaves c) live l
