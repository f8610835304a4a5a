-- The one rewriting of a configuration, and its charge. It is found from the outermost form inward.
use Rattle.std.specs.Prelude.{ℕ, suc, ◌-◌, nat_le, nat_lt, List, [], ◌∷◌, ◌++◌, Option, Some, None, if◌then◌else◌, reverse}
use Rattle.embed_base.specs.declared.outside.Outside.{Outside}
use Rattle.embed_base.specs.declared.outside.OutsideKind.{OutsideKind}
use Rattle.embed_base.specs.declared.outside.OutsideKind.TheVariants as outside
use Rattle.embed_base.specs.declared.outside.Place.TheVariants as places
use Rattle.host_values.specs.Heaps.{kind_at, next_object}
use Rattle.host_values.specs.Shown.{shown_of}
use Rattle.host_values.specs.declared.values.ErrorClass.TheVariants as errors
use Rattle.host_values.specs.declared.values.HostValue.{HostValue}
use Rattle.host_values.specs.declared.values.HostValue.TheVariants as values
use Rattle.host_values.specs.declared.values.ObjId.{ObjId}
use Rattle.host_machine.specs.declared.completion.Completion.TheVariants as completions
use Rattle.host_machine.specs.declared.effect.HostEffect.{HostEffect}
use Rattle.host_machine.specs.declared.effect.HostEffect.TheVariants as effects
use Rattle.host_machine.specs.declared.focus.Focus.{Focus}
use Rattle.host_machine.specs.declared.focus.Focus.TheVariants as focus
use Rattle.host_machine.specs.Frames.{end_of, place_of}
use Rattle.host_machine.specs.Rewriting as hosts
use Rattle.host_machine.specs.Terms.{HostTerm, at, round}
use Rattle.wasm_syntax.specs.declared.trap.Trap.{Trap}
use Rattle.wasm_syntax.specs.declared.value.Value.{Value}
use Rattle.wasm_syntax.specs.declared.addresses.FuncAddr.{FuncAddr}
use Rattle.wasm_machine.specs.Charges as core_charges
use Rattle.wasm_machine.specs.Reduction as cores
use Rattle.wasm_machine.specs.Terms.{FrameState, Kind, label, frame, Term, here, trap, inside, with_form}
use Rattle.iface_objects.specs.declared.realm.Realm.{Realm}
use Rattle.iface_objects.specs.Members.{constructed, method_called, member_read, member_written}
use Rattle.iface_objects.specs.Realms.{with_heap, with_store}
use Rattle.jspi_stacks.specs.Whole.{Form, host_round, core_round, mark_round, Whole, idle, hole, host, core, thrown, around}
use Rattle.jspi_stacks.specs.declared.mark.Mark.{Mark}
use Rattle.jspi_stacks.specs.declared.mark.Mark.TheVariants as marks
use Rattle.promise_jobs.specs.declared.job.Job.{Job}
use Rattle.embed_run.specs.declared.end.End.{End}
use Rattle.embed_run.specs.declared.end.End.TheVariants as ends
use Rattle.embed_run.specs.Configurations.{Program, Configuration}
use Rattle.embed_run.specs.Calls.{Reply, value, exception, refusal, begins, most_activations, error_in, call_callee, answered, results_as_value}

-- ---- how many functions are running; the script itself, which is the outermost form, isn't counted

abbrev pub under_level : Kind → ℕ → ℕ
under_level (label n next) k = k
under_level (frame n F) k = suc k

abbrev pub frames_in : Term → ℕ
frames_in (inside l t) = under_level l.kind (frames_in t)
frames_in _ = 0

abbrev pub with_form_count : Form → ℕ → ℕ
with_form_count (host_round locals t) k = suc k
with_form_count (core_round t) k = suc k
with_form_count (mark_round m) k = k

abbrev pub functions_in : Whole → ℕ
functions_in (host locals t) = 1
functions_in (core t) = frames_in t
functions_in (around f w) = with_form_count f (functions_in w)
functions_in _ = 0

abbrev pub activations_in : Whole → ℕ
activations_in (host locals t) = 0
activations_in (around (host_round locals t) w) = functions_in w
activations_in w = functions_in w

-- ---- what a form does in the one round it

pub data Does : Type 0 where
  -- one rewriting, which leaves this realm and has printed these lines
  goes : Realm → (lines : List (List ℕ)) → Whole → Does
  -- the form of one side has become a value, or an exception leaves it
  gives : Realm → HostValue → Does
  throws : Realm → HostValue → Does
  -- the form of the other side has become results, in their order, or a trap leaves it
  results : Realm → List Value → Does
  traps : Realm → Trap → Does
  -- the run ends with a named refusal at this place, or at the place of the call in whose place the form stands
  refuses : Realm → Outside → Does
  refuses_call : Realm → OutsideKind → Does

-- what isn't built yet
abbrev pub lacks : Realm → Does
lacks r = refuses_call r outside.NotYet

-- ---- the script at work

-- a host term with something else in the place at work
abbrev pub filled : Focus → HostTerm → HostTerm
filled f (at g) = at f
filled f (round i t) = round i (filled f t)

-- the place of the effect that is at work in it
abbrev pub place_in : HostTerm → ℕ
place_in (at f) = place_of f
place_in (round i t) = place_in t

abbrev pub with_answer : Realm → List (Option HostValue) → HostTerm → HostValue → Does
with_answer r locals t v = goes r [] (host locals (filled (focus.Value v) t))

abbrev pub with_exception : Realm → List (Option HostValue) → HostTerm → HostValue → Does
with_exception r locals t v = goes r [] (host locals (filled (focus.Leaves (completions.Throw v)) t))

abbrev pub refused : Realm → OutsideKind → ℕ → Option ℕ → Does
refused r kind place None = refuses r (record { kind = kind; place = places.Script place })
refused r kind place (Some byte) = refuses r (record { kind = kind; place = places.Module byte })

-- an effect is answered, or what it calls begins in its place
abbrev pub replied : List (Option HostValue) → HostTerm → Reply → Does
replied locals t (value r v) = with_answer r locals t v
replied locals t (exception r v) = with_exception r locals t v
replied locals t (refusal r kind place) = refused r kind (place_in t) place
replied locals t (begins r w) = goes r [] (around (host_round locals t) w)

abbrev pub by_effect : Program → Realm → ℕ → List (Option HostValue) → HostTerm → HostEffect → Does
by_effect p r n locals t effects.Went = goes r [] (host locals t)
by_effect p r n locals t (effects.Call callee args) = replied locals t (call_callee p.script r n args (kind_at r.heap callee))
by_effect p r n locals t (effects.New class args) = replied locals t (answered (constructed p.load r class args))
by_effect p r n locals t (effects.Method object name args) = replied locals t (answered (method_called r object name args))
by_effect p r n locals t (effects.GetMember object key) = replied locals t (answered (member_read r object key))
by_effect p r n locals t (effects.SetMember object key v) = replied locals t (answered (member_written r object key v))
by_effect p r n locals t (effects.Print text) = goes r (text ∷ []) (host locals (filled (focus.Value values.Undefined) t))
by_effect p r n locals t (effects.Returned v) = gives r v
by_effect p r n locals t (effects.Threw v) = throws r v
by_effect p r n locals t (effects.Refused o) = refuses r o

-- it has ended
abbrev pub by_end : Realm → Option HostEffect → Does
by_end r (Some (effects.Returned v)) = gives r v
by_end r (Some (effects.Threw v)) = throws r v
by_end r (Some (effects.Refused o)) = refuses r o
by_end r _ = lacks r

abbrev pub by_host : Program → Realm → ℕ → hosts.Does → Does
by_host p r n (hosts.rewrites e st t) = by_effect p (with_heap st.heap r) n st.locals t e
by_host p r n d = by_end r (end_of d)

-- ---- a module at work

-- no frame is round the term, so its rewriting reads none
abbrev pub outermost : FrameState
outermost = record { locals = []; «instance» = record { 0 = 0 } }

-- what a call becomes stands in its place: in the frame that calls, which waits, or alone
abbrev pub in_caller : Term → Whole → Whole
in_caller (inside l t) w = around (core_round (with_form here (inside l t))) w
in_caller _ w = w

-- a function of a module begins
abbrev pub entered : Realm → Term → Option Term → Does
entered r t None = lacks r
entered r t (Some body) = goes r [] (in_caller t (core body))

abbrev pub called : Realm → ℕ → Term → FuncAddr → List Value → Does
called r n t a args =
    if nat_lt n most_activations then entered r t (cores.frame_for r.store a args)
    else goes (error_in r errors.RangeError) [] (in_caller t (thrown (values.Object (next_object r.heap))))

abbrev pub by_core : Realm → ℕ → Term → cores.Does → Does
by_core r n t (cores.rewrites s F u) = goes (with_store s r) [] (core u)
by_core r n t (cores.gives vs []) = results r (reverse vs)
by_core r n t (cores.calls a args) = called r n t a args
by_core r n t (cores.traps cause) = traps r cause
by_core r n t _ = lacks r

-- results of a call go to the innermost list of the frame that waits for them
abbrev pub with_results : List Value → Term → Term
with_results vs (inside l here) = inside (record l { values = reverse vs ++ l.values }) here
with_results vs (inside l (inside k t)) = inside l (with_results vs (inside k t))
with_results vs t = t

-- ---- forms round another

-- the script waits
abbrev pub in_host : List (Option HostValue) → HostTerm → Does → Does
in_host locals t (goes r lines w) = goes r lines (around (host_round locals t) w)
in_host locals t (gives r v) = with_answer r locals t v
in_host locals t (throws r v) = with_exception r locals t v
in_host locals t (refuses r o) = refuses r o
in_host locals t (refuses_call r kind) = refused r kind (place_in t) None
in_host locals t (results r vs) = refused r outside.NotYet (place_in t) None
in_host locals t (traps r cause) = refused r outside.NotYet (place_in t) None

-- a function of a module waits: a trap or an exception leaves its frame with all labels
abbrev pub in_core : Term → Does → Does
in_core t (goes r lines w) = goes r lines (around (core_round t) w)
in_core t (results r vs) = goes r [] (core (with_results vs t))
in_core t (traps r cause) = goes r [] (core (trap cause))
in_core t (throws r v) = goes r [] (thrown v)
in_core t (refuses r o) = refuses r o
in_core t (refuses_call r kind) = refuses_call r kind
in_core t (gives r v) = lacks r

-- a trap is an exception of the script
abbrev pub trapped : Realm → Does
trapped r = throws (error_in r errors.RuntimeError) (values.Object (next_object r.heap))

-- what a reply is by itself
abbrev pub by_reply : Reply → Does
by_reply (value r v) = gives r v
by_reply (exception r v) = throws r v
by_reply (refusal r kind place) = refuses_call r kind
by_reply (begins r w) = lacks r

-- a call of an Exported Function ends
abbrev pub in_call : Does → Does
in_call (goes r lines w) = goes r lines (around (mark_round marks.Call) w)
in_call (results r vs) = by_reply (results_as_value r vs)
in_call (traps r cause) = trapped r
in_call (throws r v) = throws r v
in_call (refuses r o) = refuses r o
in_call (refuses_call r kind) = refuses_call r kind
in_call (gives r v) = lacks r

-- a start function ends: the instance is the value
abbrev pub in_start : ObjId → Does → Does
in_start o (goes r lines w) = goes r lines (around (mark_round (marks.Start o)) w)
in_start o (results r vs) = gives r (values.Object o)
in_start o (traps r cause) = trapped r
in_start o (throws r v) = throws r v
in_start o (refuses r q) = refuses r q
in_start o (refuses_call r kind) = refuses_call r kind
in_start o (gives r v) = lacks r

-- what isn't built yet
abbrev pub in_other : Mark → Does → Does
in_other m (goes r lines w) = goes r lines (around (mark_round m) w)
in_other m (refuses r o) = refuses r o
in_other m (gives r v) = lacks r
in_other m (throws r v) = lacks r
in_other m (results r vs) = lacks r
in_other m (traps r cause) = lacks r
in_other m (refuses_call r kind) = refuses_call r kind

abbrev pub in_mark : Mark → Does → Does
in_mark marks.Call d = in_call d
in_mark (marks.Start o) d = in_start o d
in_mark m d = in_other m d

abbrev pub in_form : Form → Does → Does
in_form (host_round locals t) d = in_host locals t d
in_form (core_round t) d = in_core t d
in_form (mark_round m) d = in_mark m d

-- what a term does, where so many functions are running
abbrev pub does : Program → Realm → (running : ℕ) → Whole → Does
does p r n idle = lacks r
does p r n hole = lacks r
does p r n (host locals t) = by_host p r n (hosts.rewrite p.script (record { heap = r.heap; locals = locals }) t)
does p r n (core t) = by_core r n t (cores.reduce r.store outermost t)
does p r n (thrown v) = throws r v
does p r n (around f w) = in_form f (does p r n w)

-- ---- charges

abbrev pub charge_of : Program → Whole → ℕ
charge_of p (host locals t) = hosts.charge_of p.script t
charge_of p (core t) = core_charges.charge_of t
charge_of p (around f w) = charge_of p w
charge_of p _ = 0

-- ---- configurations

-- the run has come to its end
abbrev pub ends_with : End → Configuration → Configuration
ends_with e c = record c { term = idle; ended = Some e }

abbrev pub with_realm : Realm → Configuration → Configuration
with_realm r c = record c { realm = r }

-- a refusal in no call is one at the end of the script's text
abbrev pub refused_at_end : Program → OutsideKind → End
refused_at_end p kind = ends.Refused (record { kind = kind; place = places.Script p.script.len })

abbrev pub not_yet : Program → End
not_yet p = refused_at_end p outside.NotYet

-- what comes of a configuration whose term does this
abbrev pub after : Program → Configuration → Does → Configuration
after p c (goes r lines w) = record c { realm = r; term = w; lines = c.lines ++ lines }
after p c (gives r v) = record c { realm = r; term = idle }
after p c (throws r v) = ends_with (ends.Uncaught (shown_of r.heap v)) (with_realm r c)
after p c (refuses r o) = ends_with (ends.Refused o) (with_realm r c)
after p c (results r vs) = ends_with (not_yet p) (with_realm r c)
after p c (traps r cause) = ends_with (not_yet p) (with_realm r c)
after p c (refuses_call r kind) = ends_with (refused_at_end p kind) (with_realm r c)

-- the script has ended: the next job is taken, and with none the run is done
abbrev pub with_job : Program → Configuration → List Job → Configuration
with_job p c [] = ends_with ends.Done c
with_job p c (job ∷ jobs) = ends_with (not_yet p) c

abbrev pub with_left : ℕ → Configuration → Configuration
with_left k c = record c { left = k }

abbrev pub by_term : Program → Configuration → Whole → Configuration
by_term p c idle = with_job p c c.promises.jobs
by_term p c w = after p c (does p c.realm (activations_in w) w)

-- after its charge, or the end where it isn't left
abbrev pub charged : Program → Configuration → ℕ → Configuration
charged p c needs = if nat_le needs c.left then by_term p (with_left (c.left - needs) c) c.term else record c { ended = Some (ends.Budget needs c.left) }

-- one rewriting; what has ended stays
abbrev pub next_of : Program → Configuration → Option End → Configuration
next_of p c (Some e) = c
next_of p c None = charged p c (charge_of p c.term)

abbrev pub next : Program → Configuration → Configuration
next p c = next_of p c c.ended
