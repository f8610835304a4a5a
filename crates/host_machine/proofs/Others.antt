-- An item that is none of an assignment's.
use Rattle.std.proofs.Common.{◌≡◌, refl}
use Rattle.host_parser.specs.Trees.{Tree}
use Rattle.host_nodes.specs.declared.form.NodeId.{NodeId}
use Rattle.host_values.specs.declared.values.HostValue.{HostValue}
use Rattle.host_machine.specs.declared.item.Item.{Item}
use Rattle.host_machine.specs.declared.item.Item.TheVariants as items
use Rattle.host_machine.specs.declared.reference.Base.{Base}
use Rattle.host_machine.specs.Terms.{State}
use Rattle.host_machine.specs.Rewriting.{assignment_taken, operand_taken}

pub other_taken : (s : Tree) (st : State) (i : Item) (v : HostValue) → ((x : NodeId) → i ≡ items.AssignName x → ⊥) → ((x : NodeId) → i ≡ items.AssignObject x → ⊥)
    → ((x : NodeId) (b : Base) → i ≡ items.AssignKey x b → ⊥) → ((x : NodeId) (b : Base) → i ≡ items.AssignMember x b → ⊥)
    → ((x : NodeId) (b : Base) (k : HostValue) → i ≡ items.AssignElement x b k → ⊥) → assignment_taken s st i v ≡ operand_taken s st i v
other_taken s st (items.AssignName x) v a b c d e = absurd (a x refl)
other_taken s st (items.AssignObject x) v a b c d e = absurd (b x refl)
other_taken s st (items.AssignKey x y) v a b c d e = absurd (c x y refl)
other_taken s st (items.AssignMember x y) v a b c d e = absurd (d x y refl)
other_taken s st (items.AssignElement x y k) v a b c d e = absurd (e x y k refl)
other_taken s st i v a b c d e = refl
