-- A rewriting at the place of work is one of the whole term.
use Rattle.std.proofs.Common.{◌≡◌, List, [], ◌∷◌, ◌++◌, refl, sym, ap, ◌∙◌}
use Rattle.host_parser.specs.Trees.{Tree}
use Rattle.host_values.specs.Objects.{HostHeap}
use Rattle.host_machine.specs.declared.effect.HostEffect.{HostEffect}
use Rattle.host_machine.specs.declared.item.Item.{Item}
use Rattle.host_machine.specs.Terms.{HostTerm, at, round, close_items, Frame, State, Rewritten, state_of, term_of}
use Rattle.host_machine.specs.Rewriting.{rewrites, does, in_item, rewrite, charge_of}
use Rattle.host_machine.specs.Moves.{Moved}

-- a rewriting inside these items
pub rewrite_inside : (s : Tree) (st : State) (is : List Item) (t : HostTerm) (e : HostEffect) (r : State) (u : HostTerm) → rewrite s st t ≡ rewrites e r u
    → rewrite s st (close_items is t) ≡ rewrites e r (close_items is u)
rewrite_inside s st [] t e r u h = h
rewrite_inside s st (i ∷ is) t e r u h = rewrite_inside s st is (round i t) e r (round i u) (ap (in_item s st i) h)

-- items within items
pub close_append : (xs ys : List Item) (t : HostTerm) → close_items (xs ++ ys) t ≡ close_items ys (close_items xs t)
close_append [] ys t = refl
close_append (x ∷ xs) ys t = close_append xs ys (round x t)

-- the charge of a term is that of the place at work
pub charge_inside : (s : Tree) (is : List Item) (t : HostTerm) → charge_of s (close_items is t) ≡ charge_of s t
charge_inside s [] t = refl
charge_inside s (i ∷ is) t = charge_inside s is (round i t)

-- what a rewriting within these items makes of the frame that had them
pub moved : (s : Tree) (st : State) (t : HostTerm) (r : Rewritten) (old : Frame) (e : HostEffect) (h : HostHeap) (new : Frame) → rewrite s st t ≡ does r → Moved r old e h new
    → rewrite s st (close_items old.items t) ≡ rewrites e (state_of h new) (term_of new)
moved s st t r old e h new step m =
    rewrite_inside s st old.items t r.effect r.state (close_items r.work.items (at r.work.focus)) step
    ∙ ap (λ u. rewrites r.effect r.state u) (sym (close_append r.work.items old.items (at r.work.focus)))
    ∙ sym (ap (λ x. rewrites x (state_of h new) (term_of new)) m.0
    ∙ ap (λ x. rewrites r.effect (record { heap = x; locals = new.locals }) (term_of new)) m.1
    ∙ ap (λ x. rewrites r.effect (record { heap = r.state.heap; locals = x.locals }) (term_of x)) m.2)
