-- The nodes of a script, as its frames read them.
use Rattle.std.specs.Prelude.{ℕ, List, [], Option, Some, slice_get}
use Rattle.std.specs.Option.{option_map, option_map_or, unwrap_or}
use Rattle.host_nodes.specs.declared.form.NodeId.{NodeId}
use Rattle.host_nodes.specs.declared.form.Key.{Key}
use Rattle.host_nodes.specs.declared.form.Key.TheVariants as keys
use Rattle.host_nodes.specs.declared.form.Operand.{Operand}
use Rattle.host_nodes.specs.declared.form.Property.{Property}
use Rattle.host_nodes.specs.declared.form.Declaration.{Declaration}
use Rattle.host_nodes.specs.declared.form.Form.{Form}
use Rattle.host_nodes.specs.declared.form.Form.TheVariants as forms
use Rattle.host_parser.specs.Trees.{Tree}
use Rattle.host_parser.specs.declared.binding.Binding.{Binding}
use Rattle.host_parser.specs.declared.binding.Binding.TheVariants as bindings
use Rattle.host_machine.specs.declared.item.Sequence.{Sequence}
use Rattle.host_machine.specs.declared.item.Sequence.TheVariants as sequences

-- the form of a node; a script names no node that isn't there
abbrev pub form_at : Tree → NodeId → Option Form
form_at s n = option_map (λ x. x.form) (slice_get s.nodes n.0)

-- its place
abbrev pub place_at : Tree → NodeId → ℕ
place_at s n = option_map_or (λ x. x.place) (slice_get s.nodes n.0) 0

-- what a node that is a name is bound to
abbrev pub bound_form : Tree → Option Form → Binding
bound_form s (Some (forms.Name text reference)) = unwrap_or (slice_get s.bindings reference.0) bindings.Unknown
bound_form s _ = bindings.Unknown

abbrev pub binding_at : Tree → NodeId → Binding
binding_at s n = bound_form s (form_at s n)

-- the statements of a block, and how many names it declares
abbrev pub items_of : Option Form → List NodeId
items_of (Some (forms.Block names items)) = items
items_of _ = []

abbrev pub names_of : Option Form → ℕ
names_of (Some (forms.Block names items)) = names
names_of _ = 0

abbrev pub statements_of : Tree → Sequence → List NodeId
statements_of s sequences.Top = s.top
statements_of s (sequences.Block n) = items_of (form_at s n)

-- the names of a `let` or `const`
abbrev pub declarations_of : Option Form → List Declaration
declarations_of (Some (forms.Let ds)) = ds
declarations_of (Some (forms.Const ds)) = ds
declarations_of _ = []

-- the elements of an array literal, the properties of an object literal, the arguments of a call or `new`
abbrev pub elements_of : Option Form → List NodeId
elements_of (Some (forms.Array xs)) = xs
elements_of _ = []

abbrev pub properties_of : Option Form → List Property
properties_of (Some (forms.Object ps)) = ps
properties_of _ = []

abbrev pub arguments_of : Option Form → List NodeId
arguments_of (Some (forms.Call callee xs)) = xs
arguments_of (Some (forms.New class xs)) = xs
arguments_of _ = []

-- the operands of a chain that an operator follows
abbrev pub operands_of : Option Form → List Operand
operands_of (Some (forms.Chain os last)) = os
operands_of _ = []

-- its last operand
abbrev pub last_of : Option Form → NodeId
last_of (Some (forms.Chain os last)) = last
last_of _ = record { 0 = 0 }

-- the operand behind so many operators
abbrev pub operand_of : Option Form → ℕ → NodeId
operand_of form k = option_map_or (λ o. o.node) (slice_get (operands_of form) k) (last_of form)

-- the key of `OBJECT.KEY`
abbrev pub key_of_member : Option Form → List ℕ
key_of_member (Some (forms.Member object key)) = key
key_of_member _ = []

-- the name that a key of an object literal spells
abbrev pub spelled : Key → List ℕ
spelled (keys.Word text) = text
spelled (keys.Text text) = text
spelled (keys.Alone text) = text
