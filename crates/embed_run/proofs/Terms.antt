-- Terms of frames: what fills their holes, and calls at work in them.
use Rattle.std.proofs.Common.{◌≡◌, ℕ, List, [], ◌∷◌, ◌++◌, refl, sym, ap, ◌∙◌}
use Rattle.std.specs.Prelude.{reverse}
use Rattle.host_machine.specs.declared.focus.Focus.{Focus}
use Rattle.host_machine.specs.declared.item.Item.{Item}
use Rattle.host_machine.specs.Frames.{answered, place_of}
use Rattle.host_machine.specs.Terms.{HostTerm, at, round, close_items, Frame as HostView, term_of as host_term_of}
use Rattle.wasm_store.specs.Store.{Store}
use Rattle.wasm_syntax.specs.declared.addresses.FuncAddr.{FuncAddr}
use Rattle.wasm_syntax.specs.declared.module.Module.{Module}
use Rattle.wasm_syntax.specs.declared.trap.Trap.{Trap}
use Rattle.wasm_syntax.specs.declared.value.Value.{Value}
use Rattle.wasm_machine.specs.Reduction.{calls, traps, in_level, reduce}
use Rattle.wasm_machine.specs.Terms.{FrameState, Level, Term, here, invoke, inside, with_form}
use Rattle.wasm_machine.specs.View.{View, Open, level_of, close, state_of, frame_level, term_round, module_for, values_of, with_values, term_of as core_term_of}
use Rattle.jspi_stacks.specs.Whole.{Whole, core_round, around}
use Rattle.embed_run.specs.Rules.{filled, place_in, in_caller, with_results}

-- ---- of the script

filled_close : (g : Focus) (is : List Item) (t : HostTerm) → filled g (close_items is t) ≡ close_items is (filled g t)
filled_close g [] t = refl
filled_close g (i ∷ is) t = filled_close g is (round i t)

pub filled_frame : (g : Focus) (f : HostView) → filled g (host_term_of f) ≡ host_term_of (answered g f)
filled_frame g f = filled_close g f.items (at f.focus)

place_close : (is : List Item) (t : HostTerm) → place_in (close_items is t) ≡ place_in t
place_close [] t = refl
place_close (i ∷ is) t = place_close is (round i t)

pub place_frame : (f : HostView) → place_in (host_term_of f) ≡ place_of f.focus
place_frame f = place_close f.items (at f.focus)

-- ---- of modules

results_close : (vs : List Value) (m : Module) (os : List Open) (k : Level) (u : Term) → with_results vs (close m os (inside k u)) ≡ close m os (with_results vs (inside k u))
results_close vs m [] k u = refl
results_close vs m (o ∷ os) k u = results_close vs m os (level_of m o) (inside k u)

results_under : (vs : List Value) (l : Level) (m : Module) (os : List Open) (k : Level) (u : Term)
    → with_results vs (inside l (close m os (inside k u))) ≡ inside l (with_results vs (close m os (inside k u)))
results_under vs l m [] k u = refl
results_under vs l m (o ∷ os) k u = results_under vs l m os (level_of m o) (inside k u)

pub results_frame : (vs : List Value) (s : Store) (v : View) → with_results vs (core_term_of s v) ≡ core_term_of s (with_values (reverse vs ++ values_of v) v)
results_frame vs s v =
    let m = module_for s v in
    results_under vs (frame_level v) m v.outer (level_of m v.top) here ∙ ap (inside (frame_level v)) (results_close vs m v.outer (level_of m v.top) here)

form_close : (u : Term) (m : Module) (os : List Open) (t : Term) → with_form u (close m os t) ≡ close m os (with_form u t)
form_close u m [] t = refl
form_close u m (o ∷ os) t = form_close u m os (inside (level_of m o) t)

-- a call's frame waits with a hole in its place
pub caller_frame : (m : Module) (v : View) (a : FuncAddr) (args : List Value) (w : Whole) → in_caller (term_round m v (invoke a args)) w ≡ around (core_round (term_round m v here)) w
caller_frame m v a args w = ap (λ t. around (core_round (inside (frame_level v) t)) w) (form_close here m (v.top ∷ v.outer) (invoke a args))

close_calls : (s : Store) (F : FrameState) (m : Module) (os : List Open) (t : Term) (a : FuncAddr) (args : List Value) → reduce s F t ≡ calls a args → reduce s F (close m os t) ≡ calls a args
close_calls s F m [] t a args e = e
close_calls s F m (o ∷ os) t a args e = close_calls s F m os (inside (level_of m o) t) a args (ap (in_level s F (level_of m o)) e)

-- a call at work in a frame is one of the frame
pub round_calls : (s : Store) (F : FrameState) (v : View) (a : FuncAddr) (args : List Value) → reduce s F (term_round (module_for s v) v (invoke a args)) ≡ calls a args
round_calls s F v a args =
    ap (in_level s F (frame_level v)) (close_calls s (state_of v) (module_for s v) (v.top ∷ v.outer) (invoke a args) a args refl)
