-- Worked rewritings, by computation: `i = 1 + 2;` with a global `i` that is set, `a && b` that stops, a `while` that is left, and a throw that is caught.
use Rattle.std.proofs.Common.{◌≡◌, ℕ, true, false, pos, [], ◌∷◌, Some, refl}
use Rattle.host_nodes.specs.declared.form.NodeId.{NodeId}
use Rattle.host_nodes.specs.declared.form.Form.{Form}
use Rattle.host_nodes.specs.declared.form.Form.TheVariants as forms
use Rattle.host_nodes.specs.declared.form.BinaryOperator.TheVariants as binary
use Rattle.host_nodes.specs.declared.form.Node.{Node}
use Rattle.host_parser.specs.Trees.{Tree}
use Rattle.host_parser.specs.declared.binding.Binding.TheVariants as bindings
use Rattle.host_values.specs.Objects.{HostHeap}
use Rattle.host_values.specs.declared.values.HostValue.TheVariants as values
use Rattle.host_machine.specs.declared.completion.Completion.TheVariants as completions
use Rattle.host_machine.specs.declared.effect.HostEffect.TheVariants as effects
use Rattle.host_machine.specs.declared.focus.Focus.TheVariants as focus
use Rattle.host_machine.specs.declared.item.Item.TheVariants as items
use Rattle.host_machine.specs.declared.item.Sequence.TheVariants as sequences
use Rattle.host_machine.specs.Terms.{at, round, State}
use Rattle.host_machine.specs.Rewriting.{rewrites, rewrite, charge_of}

abbrev id : ℕ → NodeId
id n = record { 0 = n }

abbrev node : Form → ℕ → Node
node f p = record { form = f; place = p }

-- the nodes of `i = 1 + 2;`, `0 && 1`, `while (false) ;`, `break;` and `try {} catch (e) {}`, one after the other
abbrev script : Tree
script = record {
  functions = [];
  top = id 4 ∷ [];
  nodes = node (forms.Name [] (record { 0 = 0 })) 0 ∷ node (forms.Number 1) 4 ∷ node (forms.Number 2) 8
      ∷ node (forms.Chain (record { node = id 1; operator = binary.Plus; place = 6 } ∷ []) (id 2)) 6 ∷ node (forms.Assign (id 0) (id 3)) 0
      ∷ node (forms.Chain (record { node = id 1; operator = binary.And; place = 6 } ∷ []) (id 2)) 6
      ∷ node (forms.Boolean false) 0 ∷ node forms.Empty 0 ∷ node (forms.While (id 6) (id 7)) 0
      ∷ node (forms.Block 0 []) 0 ∷ node (forms.Block 1 []) 0 ∷ node (forms.Try (id 9) true (id 10)) 0 ∷ [];
  bindings = bindings.Global (record { number = 0; constant = false }) ∷ [];
  globals = 1;
  len = 10;
}

abbrev heap : ℕ → HostHeap
heap n = record { objects = []; bindings = Some (values.Number (pos n)) ∷ [] }

abbrev state : ℕ → State
state n = record { heap = heap n; locals = [] }

-- an assignment begins with its value, and takes one unit
assigns : rewrite script (state 0) (at (focus.Begin (id 4))) ≡ rewrites effects.Went (state 0) (round (items.AssignName (id 0)) (at (focus.Begin (id 3))))
assigns = refl

assigns_for_one : charge_of script (at (focus.Begin (id 4))) ≡ 1
assigns_for_one = refl

-- the left operand first, then the right one, then the sum, with no unit
left_first : rewrite script (state 0) (at (focus.Begin (id 3))) ≡ rewrites effects.Went (state 0) (round (items.Left (id 3)) (at (focus.Begin (id 1))))
left_first = refl

right_then : rewrite script (state 0) (round (items.Left (id 3)) (at (focus.Value (values.Number (pos 1)))))
    ≡ rewrites effects.Went (state 0) (round (items.Right (id 3) 0 (values.Number (pos 1))) (at (focus.Begin (id 2))))
right_then = refl

sum_then : rewrite script (state 0) (round (items.Right (id 3) 0 (values.Number (pos 1))) (at (focus.Value (values.Number (pos 2)))))
    ≡ rewrites effects.Went (state 0) (at (focus.Value (values.Number (pos 3))))
sum_then = refl

sum_for_none : charge_of script (round (items.Right (id 3) 0 (values.Number (pos 1))) (at (focus.Value (values.Number (pos 2))))) ≡ 0
sum_for_none = refl

-- the value is written
written_then : rewrite script (state 0) (round (items.AssignName (id 0)) (at (focus.Value (values.Number (pos 3))))) ≡ rewrites effects.Went (state 3) (at focus.Done)
written_then = refl

-- `&&` whose left operand is 0 stops
and_stops : rewrite script (state 0) (round (items.Left (id 5)) (at (focus.Value (values.Number (pos 0))))) ≡ rewrites effects.Went (state 0) (at (focus.Value (values.Number (pos 0))))
and_stops = refl

-- a `while` whose test is false ends; one whose test is true takes a unit for its turn; `break` leaves it, `continue` tests again
tests_false : rewrite script (state 0) (round (items.Test (id 8)) (at (focus.Value (values.Bool false)))) ≡ rewrites effects.Went (state 0) (at focus.Done)
tests_false = refl

tests_true : rewrite script (state 0) (round (items.Test (id 8)) (at (focus.Value (values.Bool true)))) ≡ rewrites effects.Went (state 0) (at (focus.Turn (id 8)))
tests_true = refl

turns_for_one : charge_of script (at (focus.Turn (id 8))) ≡ 1
turns_for_one = refl

breaks : rewrite script (state 0) (round (items.Loop (id 8)) (at (focus.Leaves completions.Break))) ≡ rewrites effects.Went (state 0) (at focus.Done)
breaks = refl

continues : rewrite script (state 0) (round (items.Loop (id 8)) (at (focus.Leaves completions.Continue)))
    ≡ rewrites effects.Went (state 0) (round (items.Test (id 8)) (at (focus.Begin (id 6))))
continues = refl

-- a throw leaves items one by one, and what catches it binds it within the handler
leaves_one : rewrite script (state 0) (round (items.Try (id 11)) (round (items.If (id 8)) (at (focus.Leaves (completions.Throw values.Null)))))
    ≡ rewrites effects.Went (state 0) (round (items.Try (id 11)) (at (focus.Leaves (completions.Throw values.Null))))
leaves_one = refl

caught : rewrite script (state 0) (round (items.Try (id 11)) (at (focus.Leaves (completions.Throw values.Null))))
    ≡ rewrites effects.Went (record { heap = heap 0; locals = Some values.Null ∷ [] }) (round (items.List (sequences.Block (id 10)) 0 0) (at focus.Done))
caught = refl

-- and the binding goes with the handler's block
scope_left : rewrite script (record { heap = heap 0; locals = Some values.Null ∷ [] }) (round (items.List (sequences.Block (id 10)) 0 0) (at focus.Done)) ≡ rewrites effects.Went (state 0) (at focus.Done)
scope_left = refl
