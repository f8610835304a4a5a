-- Members that are read and written (ECMA-262, sections 13.3.2 and 13.15.2, in the profile).
use Rattle.std.specs.Prelude.{ℕ, Bool, true, false, List, [], ◌∷◌, Option, Some, None, if◌then◌else◌}
use Rattle.std.specs.Option.{option_map_or}
use Rattle.embed_base.specs.declared.outside.OutsideKind.TheVariants as outside
use Rattle.host_values.specs.Heaps.{kind_at}
use Rattle.host_values.specs.KeyOrder.{key_of, text_of_key}
use Rattle.host_values.specs.Members.{read_of, write_of, written}
use Rattle.host_values.specs.declared.answers.Got.{Got}
use Rattle.host_values.specs.declared.answers.Got.TheVariants as got
use Rattle.host_values.specs.declared.answers.Put.{Put}
use Rattle.host_values.specs.declared.answers.Put.TheVariants as put
use Rattle.host_values.specs.declared.classes.Class.{Class}
use Rattle.host_values.specs.declared.keys.Key.{Key}
use Rattle.host_values.specs.declared.values.ErrorClass.TheVariants as errors
use Rattle.host_values.specs.declared.values.HostValue.{HostValue}
use Rattle.host_values.specs.declared.values.HostValue.TheVariants as values
use Rattle.host_values.specs.declared.values.ObjId.{ObjId}
use Rattle.host_builtins.specs.Predefined.{member_of, is_method}
use Rattle.host_builtins.specs.declared.members.Member.{Member}
use Rattle.host_builtins.specs.declared.members.Member.TheVariants as members
use Rattle.host_machine.specs.declared.effect.HostEffect.TheVariants as effects
use Rattle.host_machine.specs.declared.focus.Focus.TheVariants as focus
use Rattle.host_machine.specs.declared.item.Item.TheVariants as items
use Rattle.host_machine.specs.declared.reference.Base.{Base}
use Rattle.host_machine.specs.declared.reference.Base.TheVariants as bases
use Rattle.host_machine.specs.declared.reference.Reference.{Reference}
use Rattle.host_machine.specs.declared.reference.Reference.TheVariants as references
use Rattle.host_machine.specs.Terms.{State, Rewritten, now, goes, gives, asks, refuses, throws}

-- something that an expression refers to
abbrev pub refers : State → Reference → ℕ → Rewritten
refers st r place = goes st (now (focus.Refers r place))

-- what reading a member of an object gave
abbrev pub got_of : State → ObjId → Key → ℕ → Got → Rewritten
got_of st o key place (got.Value v) = gives st v
got_of st o key place (got.Throw class) = throws st class
got_of st o key place (got.Outside kind) = refuses st kind place
got_of st o key place got.Interface = asks st (effects.GetMember o key) place

-- a member of an object: a method, which is called and is no value, or what the object has
abbrev pub object_read : State → ObjId → Key → ℕ → Rewritten
object_read st o key place =
    if option_map_or (λ kind. is_method kind key) (kind_at st.heap o) false then refers st (references.Method o (text_of_key key)) place
    else got_of st o key place (read_of st.heap (values.Object o) key)

-- what reading a member of a value gave that is no object
abbrev pub primitive_got : State → ℕ → Got → Rewritten
primitive_got st place (got.Value v) = gives st v
primitive_got st place (got.Throw class) = throws st class
primitive_got st place (got.Outside kind) = refuses st kind place
primitive_got st place got.Interface = throws st errors.TypeError

-- a member of a value
abbrev pub value_member : State → HostValue → Key → ℕ → Rewritten
value_member st (values.Object o) key place = object_read st o key place
value_member st v key place = primitive_got st place (read_of st.heap v key)

-- a member that a predefined object has, or lacks
abbrev pub predefined_member : State → Class → List ℕ → ℕ → Option Member → Rewritten
predefined_member st class name place None = refuses st outside.BuiltinMember place
predefined_member st class name place (Some (members.Class inner)) = refers st (references.Class inner) place
predefined_member st class name place (Some members.Function) = refers st (references.Function class name) place

-- a member of a predefined object
abbrev pub class_member : State → Class → List ℕ → ℕ → Rewritten
class_member st class name place = predefined_member st class name place (member_of class name)

-- a member of a value or a predefined object
abbrev pub member_read : State → Base → Key → ℕ → Rewritten
member_read st (bases.Value v) key place = value_member st v key place
member_read st (bases.Class class) key place = class_member st class (text_of_key key) place

-- whether a member is asked of undefined or null
abbrev pub is_nullish : Base → Bool
is_nullish (bases.Value values.Undefined) = true
is_nullish (bases.Value values.Null) = true
is_nullish _ = false

-- a computed member, by the key that its value is: a text or a Number
abbrev pub keyed_read : State → Base → ℕ → Option Key → Rewritten
keyed_read st base place None = refuses st outside.Key place
keyed_read st base place (Some key) = member_read st base key place

-- a computed member: undefined and null throw first
abbrev pub computed_read : State → Base → HostValue → ℕ → Rewritten
computed_read st base v place = if is_nullish base then throws st errors.TypeError else keyed_read st base place (key_of v)

-- what writing a member of a value did
abbrev pub put_of : State → HostValue → Key → HostValue → ℕ → Put → Rewritten
put_of st o key v place put.Done = goes (record { heap = written st.heap o key v; locals = st.locals }) (now focus.Done)
put_of st o key v place (put.Throw class) = throws st class
put_of st o key v place (put.Outside kind) = refuses st kind place
put_of st (values.Object o) key v place put.Interface =
    record { effect = effects.SetMember o key v; state = st; work = record { items = items.Expression ∷ []; focus = focus.Waits place } }
put_of st o key v place put.Interface = throws st errors.TypeError

-- a member that is written
abbrev pub member_written : State → Base → Key → HostValue → ℕ → Rewritten
member_written st (bases.Value o) key v place = put_of st o key v place (write_of st.heap o key)
member_written st (bases.Class class) key v place = refuses st outside.BuiltinWrite place

-- a computed member that is written
abbrev pub keyed_written : State → Base → HostValue → ℕ → Option Key → Rewritten
keyed_written st base v place None = refuses st outside.Key place
keyed_written st base v place (Some key) = member_written st base key v place

abbrev pub computed_written : State → Base → HostValue → HostValue → ℕ → Rewritten
computed_written st base k v place = if is_nullish base then throws st errors.TypeError else keyed_written st base v place (key_of k)
