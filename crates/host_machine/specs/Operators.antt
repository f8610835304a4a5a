-- Operators at work (ECMA-262, sections 13.5 to 13.13).
use Rattle.std.specs.Prelude.{ℕ, ◌+◌, Bool, false, not, Option, Some, None, slice_get, if◌then◌else◌, codes, List}
use Rattle.host_nodes.specs.declared.form.NodeId.{NodeId}
use Rattle.host_nodes.specs.declared.form.BinaryOperator.{BinaryOperator}
use Rattle.host_nodes.specs.declared.form.BinaryOperator.TheVariants as binary
use Rattle.host_nodes.specs.declared.form.PrefixOperator.{PrefixOperator}
use Rattle.host_nodes.specs.declared.form.PrefixOperator.TheVariants as prefix
use Rattle.host_nodes.specs.declared.form.Operand.{Operand}
use Rattle.host_nodes.specs.declared.form.Form.{Form}
use Rattle.host_values.specs.Heaps.{is_callable}
use Rattle.host_values.specs.Objects.{HostHeap}
use Rattle.host_values.specs.declared.values.HostValue.{HostValue}
use Rattle.host_values.specs.declared.values.HostValue.TheVariants as values
use Rattle.host_convert.specs.Conversions.{to_boolean}
use Rattle.host_convert.specs.Operators.{arith_of, sum_of, relation_of, is_strictly_equal, negation_of}
use Rattle.host_convert.specs.declared.conv.Conv.{Conv}
use Rattle.host_convert.specs.declared.conv.Conv.TheVariants as conv
use Rattle.host_convert.specs.declared.operators.Arith.TheVariants as ariths
use Rattle.host_convert.specs.declared.operators.Rel.TheVariants as rels
use Rattle.host_machine.specs.declared.focus.Focus.TheVariants as focus
use Rattle.host_machine.specs.declared.item.Item.TheVariants as items
use Rattle.host_machine.specs.Terms.{State, Work, Rewritten, now, waits, goes, gives, refuses, throws}
use Rattle.host_machine.specs.Nodes.{operands_of, operand_of}

-- a truth value as a value
abbrev pub truth : Conv Bool → Conv HostValue
truth (conv.Value b) = conv.Value (values.Bool b)
truth (conv.Throw class) = conv.Throw class
truth (conv.Outside kind) = conv.Outside kind

-- an operator between two values; of `&&` and `||`, whose left operand is known not to decide, the right one is the result
abbrev pub applied : BinaryOperator → HostValue → HostValue → Conv HostValue
applied binary.Times a b = arith_of ariths.Mul a b
applied binary.Divided a b = arith_of ariths.Div a b
applied binary.Remainder a b = arith_of ariths.Rem a b
applied binary.Plus a b = sum_of a b
applied binary.Minus a b = arith_of ariths.Sub a b
applied binary.Less a b = truth (relation_of rels.Lt a b)
applied binary.Greater a b = truth (relation_of rels.Gt a b)
applied binary.LessEquals a b = truth (relation_of rels.Le a b)
applied binary.GreaterEquals a b = truth (relation_of rels.Ge a b)
applied binary.StrictEquals a b = conv.Value (values.Bool (is_strictly_equal a b))
applied binary.StrictNotEquals a b = conv.Value (values.Bool (not (is_strictly_equal a b)))
applied binary.And a b = conv.Value b
applied binary.Or a b = conv.Value b

-- whether a left operand is the result, without the right one (13.13.1)
abbrev pub decides : BinaryOperator → HostValue → Bool
decides binary.And v = not (to_boolean v)
decides binary.Or v = to_boolean v
decides _ v = false

-- a chain whose value so far is this, before the operator with this number, if there is one
abbrev pub chained_at : Option Form → NodeId → ℕ → HostValue → Option Operand → Work
chained_at form n k v None = now (focus.Value v)
chained_at form n k v (Some o) = if decides o.operator v then now (focus.Value v) else waits (items.Right n k v) (operand_of form (k + 1))

abbrev pub chained : Option Form → NodeId → ℕ → HostValue → Work
chained form n k v = chained_at form n k v (slice_get (operands_of form) k)

-- what an operator gave, for its chain, before the operator with this number
abbrev pub chain_goes : State → Option Form → NodeId → ℕ → ℕ → Conv HostValue → Rewritten
chain_goes st form n next place (conv.Value v) = goes st (chained form n next v)
chain_goes st form n next place (conv.Throw class) = throws st class
chain_goes st form n next place (conv.Outside kind) = refuses st kind place

-- the operator with this number, between two values
abbrev pub operated_at : State → Option Form → NodeId → ℕ → HostValue → HostValue → Option Operand → Rewritten
operated_at st form n k left right None = gives st right
operated_at st form n k left right (Some o) = chain_goes st form n (k + 1) o.place (applied o.operator left right)

abbrev pub operated : State → Option Form → NodeId → ℕ → HostValue → HostValue → Rewritten
operated st form n k left right = operated_at st form n k left right (slice_get (operands_of form) k)

-- the type of a value, as `typeof` tells it (13.5.3.1)
abbrev pub type_name : HostHeap → HostValue → List ℕ
type_name h values.Undefined = codes "undefined"
type_name h values.Null = codes "object"
type_name h (values.Bool b) = codes "boolean"
type_name h (values.Number z) = codes "number"
type_name h (values.BigInt z) = codes "bigint"
type_name h (values.Text text) = codes "string"
type_name h (values.Object o) = if is_callable h (values.Object o) then codes "function" else codes "object"

-- an operator before a value
abbrev pub prefixed : HostHeap → PrefixOperator → HostValue → Conv HostValue
prefixed h prefix.Negative v = negation_of v
prefixed h prefix.Not v = conv.Value (values.Bool (not (to_boolean v)))
prefixed h prefix.TypeOf v = conv.Value (values.Text (type_name h v))

-- what a conversion or an operator gave, at this place
abbrev pub converted : State → ℕ → Conv HostValue → Rewritten
converted st place (conv.Value v) = gives st v
converted st place (conv.Throw class) = throws st class
converted st place (conv.Outside kind) = refuses st kind place
