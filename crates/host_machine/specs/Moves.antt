-- Private: what a rewriting makes of a frame, as the functions of the code tell it.
use Rattle.std.specs.Prelude.{◌≡◌, ◌++◌, List, [], ◌∷◌, Option, Some, None}
use Rattle.host_values.specs.Objects.{HostHeap}
use Rattle.host_values.specs.declared.values.HostValue.{HostValue}
use Rattle.host_machine.specs.declared.effect.HostEffect.{HostEffect}
use Rattle.host_machine.specs.declared.item.Item.{Item}
use Rattle.host_machine.specs.Terms.{Frame, Work, Rewritten}

-- the frame with something else at work, and with these bindings
abbrev pub placed : List (Option HostValue) → Work → Frame → Frame
placed locals w f = record { items = w.items ++ f.items; focus = w.focus; locals = locals }

abbrev pub set_to : Work → Frame → Frame
set_to w f = placed f.locals w f

-- a rewriting within a frame, which had these items round it
abbrev pub Moved : Rewritten → Frame → HostEffect → HostHeap → Frame → Type 0
Moved r old e h new = (e ≡ r.effect) × (h ≡ r.state.heap) × (new ≡ placed r.state.locals r.work old)

-- a frame whose innermost item, if any, was taken off
abbrev pub Popped : Option Item → Frame → Frame → Type 0
Popped None old new = (old.items ≡ []) × (new ≡ old)
Popped (Some i) old new = old ≡ record { items = i ∷ new.items; focus = new.focus; locals = new.locals }
