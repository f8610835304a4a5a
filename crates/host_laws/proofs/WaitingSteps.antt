-- Where a step leaves the place at work.
use Rattle.std.proofs.Common.{◌≡◌, List, [], ◌∷◌, Option, refl, sym, subst, inl, inr}
use Rattle.std.specs.Option.{IfSome}
use Rattle.host_parser.specs.Trees.{Tree}
use Rattle.host_machine.specs.declared.completion.Completion.TheVariants as completions
use Rattle.host_machine.specs.declared.effect.HostEffect.{HostEffect}
use Rattle.host_machine.specs.declared.focus.Focus.{Focus}
use Rattle.host_machine.specs.declared.focus.Focus.TheVariants as focus
use Rattle.host_machine.specs.declared.item.Item.{Item}
use Rattle.host_machine.specs.Terms.{HostTerm, at, round, close_items, State, Rewritten}
use Rattle.host_machine.specs.Nodes as nodes
use Rattle.host_machine.specs.Rewriting as rules
use Rattle.host_machine.specs.Rewriting.{Does, rewrites, gives_value, refers_to, ends, leaves, hole, does, rewrite}
use Rattle.host_machine.specs.Frames.{Told, end_of}
use Rattle.host_laws.specs.Waiting.{focus_in, LeavesAt, StepsWait, FocusIsOfFrame}
use Rattle.host_laws.proofs.WaitingRules.{Fits, begun, declared, turned, calls, resumed, referred, ended, left}

-- the place at work is the same within items
focus_inside : (is : List Item) (t : HostTerm) → focus_in (close_items is t) ≡ focus_in t
focus_inside [] t = refl
focus_inside (i ∷ is) t = focus_inside is (round i t)

pub focus_is_of_frame : FocusIsOfFrame
focus_is_of_frame f = focus_inside f.items (at f.focus)

-- a rewriting leaves the place at work where its effect has it
abbrev DoesLeave : Does → Type 0
DoesLeave (rewrites e r t) = LeavesAt e (focus_in t)
DoesLeave _ = Unit {0}

does_leave : (w : Rewritten) → Fits w → DoesLeave (does w)
does_leave w fits = subst (LeavesAt w.effect) (sym (focus_inside w.work.items (at w.work.focus))) fits.place

at_work : (s : Tree) (st : State) (f : Focus) → DoesLeave (rules.at_work s st f)
at_work s st (focus.Begin n) = does_leave _ (begun s st n (nodes.form_at s n))
at_work s st (focus.Declares n k) = does_leave _ (declared s st n k _)
at_work s st (focus.Turn n) = does_leave _ (turned st n (nodes.form_at s n))
at_work s st (focus.Calls n callee args) = does_leave _ (calls st callee args (nodes.place_at s n) (nodes.form_at s n))
at_work s st f = tt

in_item : (s : Tree) (st : State) (i : Item) (d : Does) → DoesLeave d → DoesLeave (rules.in_item s st i d)
in_item s st i (rewrites e r t) l = l
in_item s st i (gives_value v) l = does_leave _ (resumed s st i v)
in_item s st i (refers_to r place) l = does_leave _ (referred s st i r place)
in_item s st i ends l = does_leave _ (ended s st i)
in_item s st i (leaves c) l = does_leave _ (left s st i c)
in_item s st i hole l = tt

rewritten : (s : Tree) (st : State) (t : HostTerm) → DoesLeave (rewrite s st t)
rewritten s st (at f) = at_work s st f
rewritten s st (round i t) = in_item s st i (rewrite s st t) (rewritten s st t)

-- an end says nothing of it
end_leaves : (d : Does) (f : Focus) → IfSome (end_of d) (λ (e : HostEffect). LeavesAt e f)
end_leaves (leaves completions.Break) f = tt
end_leaves (leaves completions.Continue) f = tt
end_leaves (leaves (completions.Return v)) f = tt
end_leaves (leaves (completions.Throw v)) f = tt
end_leaves d f = tt

told : (s : Tree) (st : State) (t : HostTerm) (e : HostEffect) (r : State) (u : HostTerm) → Told s st t e r u → LeavesAt e (focus_in u)
told s st t e r u (inl is) = subst DoesLeave is (rewritten s st t)
told s st t e r u (inr is) = subst (λ (o : Option HostEffect). IfSome o (λ (x : HostEffect). LeavesAt x (focus_in u))) is.0 (end_leaves (rewrite s st t) (focus_in u))

pub steps_wait : StepsWait
steps_wait s st t e r u (inl one) = told s st t e r u one
steps_wait s st t e r u (inr more) = told s more.last_state more.last_term e r u more.told
