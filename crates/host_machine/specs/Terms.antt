-- Terms of a running script: a statement or expression that waits round another one, and so on inward to the one place at work
-- (ECMA-262, sections 13 to 15).
use Rattle.std.specs.Prelude.{ℕ, List, [], ◌∷◌, Option}
use Rattle.embed_base.specs.declared.outside.OutsideKind.{OutsideKind}
use Rattle.embed_base.specs.declared.outside.Place.TheVariants as places
use Rattle.host_nodes.specs.declared.form.NodeId.{NodeId}
use Rattle.host_values.specs.Objects.{HostHeap}
use Rattle.host_values.specs.Heaps.{next_object, with_object}
use Rattle.host_values.specs.declared.kinds.Kind.TheVariants as kinds
use Rattle.host_values.specs.declared.values.ErrorClass.{ErrorClass}
use Rattle.host_values.specs.declared.values.HostValue.{HostValue}
use Rattle.host_values.specs.declared.values.HostValue.TheVariants as values
use Rattle.host_machine.specs.declared.completion.Completion.TheVariants as completions
use Rattle.host_machine.specs.declared.effect.HostEffect.{HostEffect}
use Rattle.host_machine.specs.declared.effect.HostEffect.TheVariants as effects
use Rattle.host_machine.specs.declared.focus.Focus.{Focus}
use Rattle.host_machine.specs.declared.focus.Focus.TheVariants as focus
use Rattle.host_machine.specs.declared.item.Item.{Item}

-- the place at work, or an item round a term
pub data HostTerm : Type 0 where
  at : Focus → HostTerm
  round : Item → HostTerm → HostTerm

-- a term inside these items, the innermost first
abbrev pub close_items : List Item → HostTerm → HostTerm
close_items [] t = t
close_items (i ∷ is) t = close_items is (round i t)

-- a frame: its items, the innermost first, the place at work, and its own bindings
pub record Frame : Type 0 where
  pub items : List Item
  pub focus : Focus
  pub locals : List (Option HostValue)

-- the term for which it stands
abbrev pub term_of : Frame → HostTerm
term_of f = close_items f.items (at f.focus)

-- what a term runs on: the heap, with the global bindings, and the bindings of its frame
pub record State : Type 0 where
  pub heap : HostHeap
  pub locals : List (Option HostValue)

abbrev pub state_of : HostHeap → Frame → State
state_of h f = record { heap = h; locals = f.locals }

-- what takes the place of a term that is rewritten: another place at work within new items, the innermost first
pub record Work : Type 0 where
  pub items : List Item
  pub focus : Focus

abbrev pub now : Focus → Work
now f = record { items = []; focus = f }

-- an item that waits for what a node gives
abbrev pub waits : Item → NodeId → Work
waits i n = record { items = i ∷ []; focus = focus.Begin n }

-- what a rewriting does: its effect, the state after it, and what takes the term's place
pub record Rewritten : Type 0 where
  pub effect : HostEffect
  pub state : State
  pub work : Work

-- it goes on
abbrev pub goes : State → Work → Rewritten
goes st w = record { effect = effects.Went; state = st; work = w }

-- it gives a value
abbrev pub gives : State → HostValue → Rewritten
gives st v = goes st (now (focus.Value v))

-- it asks for this effect, and is a hole until that is answered
abbrev pub asks : State → HostEffect → ℕ → Rewritten
asks st e place = record { effect = e; state = st; work = now (focus.Waits place) }

-- the run ends with a named refusal
abbrev pub refuses : State → OutsideKind → ℕ → Rewritten
refuses st kind place = asks st (effects.Refused (record { kind = kind; place = places.Script place })) place

-- a value is thrown
abbrev pub throws_value : State → HostValue → Rewritten
throws_value st v = goes st (now (focus.Leaves (completions.Throw v)))

-- a new error of this class is thrown, without a message
abbrev pub throws : State → ErrorClass → Rewritten
throws st class =
    throws_value (record { heap = with_object st.heap (kinds.Error class []) []; locals = st.locals }) (values.Object (next_object st.heap))
