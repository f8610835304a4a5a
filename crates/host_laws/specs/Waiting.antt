-- Which effects of a frame wait for an answer: where a step leaves the place at work.
use Rattle.std.specs.Prelude.{◌≡◌}
use Rattle.host_parser.specs.Trees.{Tree}
use Rattle.host_machine.specs.declared.effect.HostEffect.{HostEffect}
use Rattle.host_machine.specs.declared.effect.HostEffect.TheVariants as effects
use Rattle.host_machine.specs.declared.focus.Focus.{Focus}
use Rattle.host_machine.specs.Terms.{HostTerm, at, round, Frame, State, term_of}
use Rattle.host_machine.specs.Frames.{Makes, IsAtWork, IsWaiting}

-- the place at work of a term
abbrev pub focus_in : HostTerm → Focus
focus_in (at f) = f
focus_in (round i t) = focus_in t

-- where a step leaves a frame: one that went on goes on, and an effect that asks for an answer waits for it; of one that has ended nothing
-- is said
abbrev pub LeavesAt : HostEffect → Focus → Type 0
LeavesAt effects.Went f = IsAtWork f
LeavesAt (effects.Returned v) f = Unit {0}
LeavesAt (effects.Threw v) f = Unit {0}
LeavesAt (effects.Refused o) f = Unit {0}
LeavesAt _ f = IsWaiting f

-- a step leaves a frame so
abbrev pub StepsWait : Type 0
StepsWait = (s : Tree) (st : State) (t : HostTerm) (e : HostEffect) (r : State) (u : HostTerm) → Makes s st t e r u → LeavesAt e (focus_in u)

-- the place at work of the term for which a frame stands is the frame's
abbrev pub FocusIsOfFrame : Type 0
FocusIsOfFrame = (f : Frame) → focus_in (term_of f) ≡ f.focus
