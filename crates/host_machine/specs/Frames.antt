-- Frames: how one begins, what a step makes of the term for which it stands, and the answers that it takes.
use Rattle.std.specs.Prelude.{◌≡◌, ◌⊎◌, ℕ, ◌-◌, List, [], ◌∷◌, ◌++◌, map, Option, Some, None, slice_get, replicate}
use Rattle.std.specs.List.{range_with_len}
use Rattle.std.specs.Option.{option_map_or, unwrap_or}
use Rattle.embed_base.specs.declared.outside.OutsideKind.TheVariants as outside
use Rattle.embed_base.specs.declared.outside.Place.TheVariants as places
use Rattle.host_nodes.specs.declared.form.Function.{Function}
use Rattle.host_parser.specs.Trees.{Tree}
use Rattle.host_values.specs.declared.values.HostValue.{HostValue}
use Rattle.host_values.specs.declared.values.HostValue.TheVariants as values
use Rattle.host_machine.specs.declared.completion.Completion.TheVariants as completions
use Rattle.host_machine.specs.declared.effect.HostEffect.{HostEffect}
use Rattle.host_machine.specs.declared.effect.HostEffect.TheVariants as effects
use Rattle.host_machine.specs.declared.focus.Focus.{Focus}
use Rattle.host_machine.specs.declared.focus.Focus.TheVariants as focus
use Rattle.host_machine.specs.declared.item.Item.TheVariants as items
use Rattle.host_machine.specs.declared.item.Sequence.{Sequence}
use Rattle.host_machine.specs.declared.item.Sequence.TheVariants as sequences
use Rattle.host_machine.specs.Nodes.{form_at, names_of}
use Rattle.host_machine.specs.Terms.{HostTerm, Frame, State}
use Rattle.host_machine.specs.Rewriting.{Does, rewrites, gives_value, refers_to, ends, leaves, hole, rewrite, charge_of}

-- a list of statements before its first one, with these bindings
abbrev pub frame_of : Sequence → List (Option HostValue) → Frame
frame_of q locals = record { items = items.List q 0 0 ∷ []; focus = focus.Done; locals = locals }

-- the script itself
abbrev pub top_frame : Frame
top_frame = frame_of sequences.Top []

-- the bindings of so many parameters: an argument that is missing is undefined, and no more are taken
abbrev pub parameters : ℕ → List HostValue → List (Option HostValue)
parameters n args = map (λ k. Some (unwrap_or (slice_get args k) values.Undefined)) (range_with_len 0 n)

-- a function of the script that is called: its parameters are the first of the names that its body declares, and the others are unset
-- (ECMA-262, section 10.2.11)
abbrev pub function_frame : Tree → Function → List HostValue → Frame
function_frame s f args =
    frame_of (sequences.Block f.body) (parameters f.parameters args ++ replicate (names_of (form_at s f.body) - f.parameters) None)

-- the function with this number; a number of no function ends at once
abbrev pub call_frame : Tree → ℕ → List HostValue → Frame
call_frame s k args =
    option_map_or (λ f. function_frame s f args) (slice_get s.functions k) (record { items = []; focus = focus.Done; locals = [] })

-- how a term ends that is a result
abbrev pub end_of : Does → Option HostEffect
end_of (rewrites e st t) = None
end_of (gives_value v) = Some (effects.Returned v)
end_of (refers_to r place) = Some (effects.Refused (record { kind = outside.BuiltinValue; place = places.Script place }))
end_of ends = Some (effects.Returned values.Undefined)
end_of (leaves (completions.Return v)) = Some (effects.Returned v)
end_of (leaves (completions.Throw v)) = Some (effects.Threw v)
end_of (leaves c) = Some (effects.Returned values.Undefined)
end_of hole = None

-- one rewriting of a term, with its effect, or its end
abbrev pub Told : Tree → State → HostTerm → HostEffect → State → HostTerm → Type 0
Told s st t e r u = (rewrite s st t ≡ rewrites e r u) ⊎ ((end_of (rewrite s st t) ≡ Some e) × (r ≡ st))

-- some rewritings that take nothing of the budget, or none
pub data Freely : Tree → State → HostTerm → State → HostTerm → Type 0 where
  here : (s : Tree) (st : State) (t : HostTerm) → Freely s st t st t
  freely : (s : Tree) (st : State) (t : HostTerm) (r : State) (u : HostTerm) (q : State) (w : HostTerm) → Freely s st t r u → charge_of s u ≡ 0
      → rewrite s r u ≡ rewrites effects.Went q w → Freely s st t q w

-- a first rewriting that goes on, then some that take nothing, and one more that takes nothing and has this effect, or the end
pub record Later (s : Tree) (st : State) (t : HostTerm) (e : HostEffect) (r : State) (u : HostTerm) : Type 0 where
  pub first_state : State
  pub first_term : HostTerm
  pub first : rewrite s st t ≡ rewrites effects.Went first_state first_term
  pub last_state : State
  pub last_term : HostTerm
  pub between : Freely s first_state first_term last_state last_term
  pub free : charge_of s last_term ≡ 0
  pub told : Told s last_state last_term e r u

-- What a step makes of a term: one rewriting or more, of which only the first one may take of the budget. With an effect that waits for an
-- answer the term is then a hole where the effect was at work.
abbrev pub Makes : Tree → State → HostTerm → HostEffect → State → HostTerm → Type 0
Makes s st t e r u = Told s st t e r u ⊎ Later s st t e r u

-- whether a frame can go on: no effect waits for its answer
abbrev pub IsAtWork : Focus → Type 0
IsAtWork (focus.Waits place) = ⊥
IsAtWork _ = Unit {0}

-- whether an effect waits for its answer
abbrev pub IsWaiting : Focus → Type 0
IsWaiting (focus.Waits place) = Unit {0}
IsWaiting _ = ⊥

-- its place in the script
abbrev pub place_of : Focus → ℕ
place_of (focus.Waits place) = place
place_of _ = 0

-- a frame whose effect was answered: by a value, or by an exception
abbrev pub answered : Focus → Frame → Frame
answered f v = record { items = v.items; focus = f; locals = v.locals }

abbrev pub supplied : HostValue → Frame → Frame
supplied v f = answered (focus.Value v) f

abbrev pub thrown : HostValue → Frame → Frame
thrown v f = answered (focus.Leaves (completions.Throw v)) f
