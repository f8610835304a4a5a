-- What a form does within entries that wait, and how many functions are running.
use Rattle.std.proofs.Common.{◌≡◌, ℕ, suc, ◌+◌, List, [], ◌∷◌, ◌++◌, refl, sym, ap, ◌∙◌, arith, Option, Some, None}
use Rattle.embed_base.specs.declared.outside.Outside.{Outside}
use Rattle.host_values.specs.declared.values.HostValue.{HostValue}
use Rattle.host_machine.specs.Terms.{HostTerm, Frame as HostView, term_of as host_term_of}
use Rattle.wasm_store.specs.Store.{Store}
use Rattle.wasm_syntax.specs.declared.module.Module.{Module}
use Rattle.wasm_machine.specs.Terms.{Term, here, inside}
use Rattle.wasm_machine.specs.View.{View, Open, level_of, close, frame_level, term_round, module_for, term_of as core_term_of}
use Rattle.iface_objects.specs.declared.realm.Realm.{Realm}
use Rattle.jspi_stacks.specs.declared.frame.Frame.{Frame}
use Rattle.jspi_stacks.specs.declared.frame.Frame.TheVariants as frames
use Rattle.jspi_stacks.specs.declared.mark.Mark.TheVariants as marks
use Rattle.jspi_stacks.specs.Stacks.{activations_of}
use Rattle.jspi_stacks.specs.Whole.{Form, host_round, core_round, mark_round, Whole, idle, hole, host, core, thrown, around, form_of, fold, at_work, whole_of}
use Rattle.embed_run.specs.Configurations.{Program}
use Rattle.embed_run.specs.Rules.{Does, goes, refuses, in_form, does, charge_of, functions_in, activations_in, frames_in}
use Rattle.embed_run.specs.Answering.{in_entries}

-- a term within entries does what the entries do round what it does
pub does_fold : (p : Program) (r : Realm) (n : ℕ) (s : Store) (es : List Frame) (w : Whole) → does p r n (fold s es w) ≡ in_entries s es (does p r n w)
does_fold p r n s [] w = refl
does_fold p r n s (e ∷ es) w = does_fold p r n s es (around (form_of s e) w)

-- a rewriting stays one
form_goes : (f : Form) (r : Realm) (ls : List (List ℕ)) (w : Whole) → in_form f (goes r ls w) ≡ goes r ls (around f w)
form_goes (host_round locals t) r ls w = refl
form_goes (core_round t) r ls w = refl
form_goes (mark_round marks.Call) r ls w = refl
form_goes (mark_round (marks.Promising p q)) r ls w = refl
form_goes (mark_round (marks.HostIn types)) r ls w = refl
form_goes (mark_round (marks.SuspendingIn types)) r ls w = refl
form_goes (mark_round (marks.Start o)) r ls w = refl
form_goes (mark_round (marks.Executor p q)) r ls w = refl
form_goes (mark_round (marks.Thenable q)) r ls w = refl
form_goes (mark_round (marks.Job d)) r ls w = refl

pub entries_go : (s : Store) (es : List Frame) (r : Realm) (ls : List (List ℕ)) (w : Whole) → in_entries s es (goes r ls w) ≡ goes r ls (fold s es w)
entries_go s [] r ls w = refl
entries_go s (e ∷ es) r ls w = ap (in_entries s es) (form_goes (form_of s e) r ls w) ∙ entries_go s es r ls (around (form_of s e) w)

form_refuses : (f : Form) (r : Realm) (o : Outside) → in_form f (refuses r o) ≡ refuses r o
form_refuses (host_round locals t) r o = refl
form_refuses (core_round t) r o = refl
form_refuses (mark_round marks.Call) r o = refl
form_refuses (mark_round (marks.Promising p q)) r o = refl
form_refuses (mark_round (marks.HostIn types)) r o = refl
form_refuses (mark_round (marks.SuspendingIn types)) r o = refl
form_refuses (mark_round (marks.Start i)) r o = refl
form_refuses (mark_round (marks.Executor p q)) r o = refl
form_refuses (mark_round (marks.Thenable q)) r o = refl
form_refuses (mark_round (marks.Job d)) r o = refl

-- so does a refusal
pub entries_refuse : (s : Store) (es : List Frame) (r : Realm) (o : Outside) → in_entries s es (refuses r o) ≡ refuses r o
entries_refuse s [] r o = refl
entries_refuse s (e ∷ es) r o = ap (in_entries s es) (form_refuses (form_of s e) r o) ∙ entries_refuse s es r o

-- the charge is that of the term at work
pub charge_fold : (p : Program) (s : Store) (es : List Frame) (w : Whole) → charge_of p (fold s es w) ≡ charge_of p w
charge_fold p s [] w = refl
charge_fold p s (e ∷ es) w = charge_fold p s es (around (form_of s e) w)

-- a term at work within entries is at work
abbrev pub IsWork : Whole → Type 0
IsWork idle = ⊥
IsWork _ = Unit {0}

pub work_fold : (s : Store) (es : List Frame) (w : Whole) → IsWork w → IsWork (fold s es w)
work_fold s [] w h = h
work_fold s (e ∷ es) w h = work_fold s es (around (form_of s e) w) tt

-- ---- functions that run

count_fold : (s : Store) (e : Frame) (es : List Frame) (w : Whole) → activations_in (fold s (e ∷ es) w) ≡ activations_of (e ∷ es) + functions_in w
count_fold s (frames.Host f) [] w = omega arith
count_fold s (frames.Wasm v) [] w = omega arith
count_fold s (frames.Mark m) [] w = omega arith
count_fold s (frames.Host f) (e ∷ es) w = omega (arith, count_fold s e es (around (form_of s (frames.Host f)) w))
count_fold s (frames.Wasm v) (e ∷ es) w = omega (arith, count_fold s e es (around (form_of s (frames.Wasm v)) w))
count_fold s (frames.Mark m) (e ∷ es) w = omega (arith, count_fold s e es (around (form_of s (frames.Mark m)) w))

pub count_host : (s : Store) (es : List Frame) (f : HostView) (locals : List (Option HostValue)) (t : HostTerm) → activations_in (fold s es (host locals t)) ≡ activations_of (frames.Host f ∷ es)
count_host s [] f locals t = refl
count_host s (e ∷ es) f locals t = omega (arith, count_fold s e es (host locals t))

-- a core term that is one frame
pub count_core : (s : Store) (es : List Frame) (v : View) (t : Term) → frames_in t ≡ 1 → activations_in (fold s es (core t)) ≡ activations_of (frames.Wasm v ∷ es)
count_core s [] v t h = h
count_core s (e ∷ es) v t h = omega (arith, h, count_fold s e es (core t))

-- a call that has no frame yet, above a mark
pub count_mark : (s : Store) (e : Frame) (es : List Frame) (w : Whole) → functions_in w ≡ 0 → activations_in (fold s (e ∷ es) w) ≡ activations_of (e ∷ es)
count_mark s e es w h = omega (arith, h, count_fold s e es w)

frames_close : (m : Module) (os : List Open) (t : Term) → frames_in (close m os t) ≡ frames_in t
frames_close m [] t = refl
frames_close m (o ∷ os) t = frames_close m os (inside (level_of m o) t)

pub frames_round : (m : Module) (v : View) (t : Term) → frames_in (term_round m v t) ≡ suc (frames_in t)
frames_round m v t = ap suc (frames_close m (v.top ∷ v.outer) t)
