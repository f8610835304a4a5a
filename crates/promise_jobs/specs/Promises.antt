-- Promises and their jobs (ECMA-262, sections 27.2.1 to 27.2.5 and 9.5.5).
use Rattle.std.specs.Prelude.{ℕ, ◌+◌, ◌<◌, Bool, true, false, List, [], ◌∷◌, ◌++◌, length, map, Option, Some, None, slice_get, slice_set, if◌then◌else◌, nat_eq, codes}
use Rattle.std.specs.Option.{option_map_or}
use Rattle.host_values.specs.Heaps.{is_callable, kind_at, next_object, with_object}
use Rattle.host_values.specs.Members.{read_of}
use Rattle.host_values.specs.Objects.{HostHeap}
use Rattle.host_values.specs.declared.answers.Got.{Got}
use Rattle.host_values.specs.declared.answers.Got.TheVariants as got
use Rattle.host_values.specs.declared.keys.Key.{Key}
use Rattle.host_values.specs.declared.keys.Key.TheVariants as keys
use Rattle.host_values.specs.declared.kinds.Kind.{Kind}
use Rattle.host_values.specs.declared.kinds.Kind.TheVariants as kinds
use Rattle.host_values.specs.declared.values.ErrorClass.TheVariants as classes
use Rattle.host_values.specs.declared.values.ObjId.{ObjId}
use Rattle.host_values.specs.declared.values.HostValue.{HostValue}
use Rattle.host_values.specs.declared.values.HostValue.TheVariants as values
use Rattle.promise_jobs.specs.declared.job.Handler.{Handler}
use Rattle.promise_jobs.specs.declared.job.Settled.{Settled}
use Rattle.promise_jobs.specs.declared.job.Settled.TheVariants as ends
use Rattle.promise_jobs.specs.declared.job.Job.{Job}
use Rattle.promise_jobs.specs.declared.job.Job.TheVariants as jobs
use Rattle.promise_jobs.specs.declared.state.Pair.{Pair}
use Rattle.promise_jobs.specs.declared.state.Reaction.{Reaction}
use Rattle.promise_jobs.specs.declared.state.State.{State}
use Rattle.promise_jobs.specs.declared.state.State.TheVariants as states
use Rattle.promise_jobs.specs.declared.thenable.ThenMember.{ThenMember}
use Rattle.promise_jobs.specs.declared.thenable.ThenMember.TheVariants as members
use Rattle.promise_jobs.specs.Records.{HostPromises}

-- whether a number is that of a promise, or of a pair
abbrev pub IsPromise : HostPromises → ℕ → Type 0
IsPromise ps p = p < length ps.promises

abbrev pub IsPair : HostPromises → ℕ → Type 0
IsPair ps k = k < length ps.pairs

-- no promise, no pair and no job
abbrev pub no_promises : HostPromises
no_promises = record { promises = []; pairs = []; jobs = [] }

-- ---- reactions

-- the handler for an end (27.2.1.2)
abbrev pub handler_for : Settled → Reaction → Handler
handler_for ends.Fulfilled r = r.ok
handler_for ends.Rejected r = r.err

-- NewPromiseReactionJob (27.2.2.1)
abbrev pub reaction_job : Settled → HostValue → Reaction → Job
reaction_job how v r = jobs.React (handler_for how r) how v r.derived

-- HostEnqueuePromiseJob (9.5.5): jobs are run in the order in which they were queued
abbrev pub queued : List Job → HostPromises → HostPromises
queued more ps = record ps { jobs = ps.jobs ++ more }

-- the reactions that wait for a promise
abbrev pub waiting_in : State → List Reaction
waiting_in (states.Pending reactions) = reactions
waiting_in (states.Settled how v) = []

-- FulfillPromise and RejectPromise (27.2.1.4 and 27.2.1.7) of a promise in this state, with TriggerPromiseReactions (27.2.1.8): each
-- reaction leaves the promise and is queued. A settled promise stays as it is.
abbrev pub settle_from : ℕ → Settled → HostValue → State → HostPromises → HostPromises
settle_from p how v (states.Pending reactions) ps = record ps { promises = slice_set ps.promises p (states.Settled how v); jobs = ps.jobs ++ map (reaction_job how v) reactions }
settle_from p how v (states.Settled before w) ps = ps

abbrev pub settle : ℕ → Settled → HostValue → HostPromises → HostPromises
settle p how v ps = option_map_or (λ state. settle_from p how v state ps) (slice_get ps.promises p) ps

-- ---- resolving functions

-- the pair has acted (its alreadyResolved is true)
abbrev pub act : ℕ → Pair → HostPromises → HostPromises
act k pair ps = record ps { pairs = slice_set ps.pairs k (record pair { acted = true }) }

-- the key `then`
abbrev pub then_key : Key
then_key = keys.Name (codes "then")

-- what Get(v, "then") found, as far as it can be called
abbrev pub callable_in : HostHeap → Got → ThenMember
callable_in h (got.Value (values.Object f)) = if is_callable h (values.Object f) then members.Callable f else members.Absent
callable_in h _ = members.Absent

-- the `then` of an object of a kind: plain and exports objects may have one of their own, promises have the built-in one
-- (27.2.5.4), and other objects have none
abbrev pub then_in : HostHeap → HostValue → Kind → ThenMember
then_in h v (kinds.Promise p) = members.BuiltIn
then_in h v kinds.Plain = callable_in h (read_of h v then_key)
then_in h v kinds.Exports = callable_in h (read_of h v then_key)
then_in h v _ = members.Absent

abbrev pub then_of : HostHeap → HostValue → ThenMember
then_of h (values.Object o) = option_map_or (then_in h (values.Object o)) (kind_at h o) members.Absent
then_of h _ = members.Absent

-- the promise that an object is
abbrev pub promise_in : Kind → Option ℕ
promise_in (kinds.Promise p) = Some p
promise_in _ = None

abbrev pub promise_of : HostHeap → HostValue → Option ℕ
promise_of h (values.Object o) = option_map_or promise_in (kind_at h o) None
promise_of h _ = None

-- whether a value is this promise itself
abbrev pub is_itself : HostHeap → ℕ → HostValue → Bool
is_itself h p v = option_map_or (λ q. nat_eq q p) (promise_of h v) false

-- the kind of a TypeError without message
abbrev pub type_error : Kind
type_error = kinds.Error classes.TypeError []

-- NewPromiseResolveThenableJob (27.2.2.2), with the pair that the job will hand to `then`
abbrev pub queue_thenable : ℕ → HostValue → Option ObjId → HostPromises → HostPromises
queue_thenable p v f ps = record ps { pairs = ps.pairs ++ record { promise = p; acted = false } ∷ []; jobs = ps.jobs ++ jobs.Thenable (length ps.pairs) v f ∷ [] }

-- the steps from 10 on: a value with a callable `then` is waited for, and any other fulfils the promise
abbrev pub resolve_by : ThenMember → ℕ → HostValue → HostPromises → HostPromises
resolve_by members.Absent p v ps = settle p ends.Fulfilled v ps
resolve_by members.BuiltIn p v ps = queue_thenable p v None ps
resolve_by (members.Callable f) p v ps = queue_thenable p v (Some f) ps

-- the steps from 7 on: a promise isn't resolved with itself
abbrev pub resolve_promise : HostHeap → ℕ → HostValue → HostPromises → HostPromises
resolve_promise h p v ps = if is_itself h p v then settle p ends.Rejected (values.Object (next_object h)) ps else resolve_by (then_of h v) p v ps

-- a promise resolve function (27.2.1.3.2)
abbrev pub resolve_from : HostHeap → ℕ → HostValue → Pair → HostPromises → HostPromises
resolve_from h k v pair ps = if pair.acted then ps else resolve_promise h pair.promise v (act k pair ps)

abbrev pub resolve : HostHeap → ℕ → HostValue → HostPromises → HostPromises
resolve h k v ps = option_map_or (λ pair. resolve_from h k v pair ps) (slice_get ps.pairs k) ps

-- the heap after that: with the TypeError of a promise that was resolved with itself
abbrev pub heap_of : HostHeap → ℕ → HostValue → HostHeap
heap_of h p v = if is_itself h p v then with_object h type_error [] else h

abbrev pub heap_from : HostHeap → HostValue → Pair → HostHeap
heap_from h v pair = if pair.acted then h else heap_of h pair.promise v

abbrev pub heap_after : HostHeap → ℕ → HostValue → HostPromises → HostHeap
heap_after h k v ps = option_map_or (heap_from h v) (slice_get ps.pairs k) h

-- a promise reject function (27.2.1.3.1)
abbrev pub reject_from : ℕ → HostValue → Pair → HostPromises → HostPromises
reject_from k v pair ps = if pair.acted then ps else settle pair.promise ends.Rejected v (act k pair ps)

abbrev pub reject : ℕ → HostValue → HostPromises → HostPromises
reject k v ps = option_map_or (λ pair. reject_from k v pair ps) (slice_get ps.pairs k) ps

-- ---- promises

-- NewPromiseCapability (27.2.1.5): a pending promise with its pair
abbrev pub with_promise : HostPromises → HostPromises
with_promise ps = record ps { promises = ps.promises ++ states.Pending [] ∷ []; pairs = ps.pairs ++ record { promise = length ps.promises; acted = false } ∷ [] }

-- its object
abbrev pub with_promise_object : HostHeap → HostPromises → HostHeap
with_promise_object h ps = with_object h (kinds.Promise (length ps.promises)) []

-- Private: a state with one reaction more, where it is pending
abbrev pub state_with : State → Reaction → State
state_with (states.Pending reactions) r = states.Pending (reactions ++ r ∷ [])
state_with (states.Settled how v) r = states.Settled how v

abbrev pub with_reaction : ℕ → Reaction → HostPromises → HostPromises
with_reaction p r ps = record ps { promises = option_map_or (λ state. slice_set ps.promises p (state_with state r)) (slice_get ps.promises p) ps.promises }

-- PerformPromiseThen (27.2.5.4.1) at a promise in this state: a reaction waits, or is queued at once
abbrev pub react : ℕ → Reaction → State → HostPromises → HostPromises
react p r (states.Pending reactions) ps = record ps { promises = slice_set ps.promises p (states.Pending (reactions ++ r ∷ [])) }
react p r (states.Settled how v) ps = queued (reaction_job how v r ∷ []) ps

abbrev pub perform_then : ℕ → Reaction → HostPromises → HostPromises
perform_then p r ps = option_map_or (λ state. react p r state ps) (slice_get ps.promises p) ps

-- PromiseResolve (27.2.4.7.1): a promise is itself, and any other value resolves a new one
abbrev pub promise_resolve_by : HostHeap → HostValue → Option ℕ → HostPromises → HostPromises
promise_resolve_by h v (Some p) ps = ps
promise_resolve_by h v None ps = resolve (with_promise_object h ps) (length ps.pairs) v (with_promise ps)

abbrev pub promise_resolve : HostHeap → HostValue → HostPromises → HostPromises
promise_resolve h v ps = promise_resolve_by h v (promise_of h v) ps

-- the heap after that
abbrev pub promise_heap_by : HostHeap → HostValue → Option ℕ → HostPromises → HostHeap
promise_heap_by h v (Some p) ps = h
promise_heap_by h v None ps = with_promise_object h ps

abbrev pub promise_heap : HostHeap → HostValue → HostPromises → HostHeap
promise_heap h v ps = promise_heap_by h v (promise_of h v) ps

-- the object that it gives
abbrev pub object_of : HostHeap → HostValue → Option ℕ → HostValue
object_of h v (Some p) = v
object_of h v None = values.Object (next_object h)

abbrev pub promise_object : HostHeap → HostValue → HostValue
promise_object h v = object_of h v (promise_of h v)

-- Private: a new promise that a value fulfilled, and one that waits for a value with a `then`
abbrev pub with_fulfilled : HostValue → HostPromises → HostPromises
with_fulfilled v ps = record ps { promises = ps.promises ++ states.Settled ends.Fulfilled v ∷ []; pairs = ps.pairs ++ record { promise = length ps.promises; acted = true } ∷ [] }

abbrev pub with_waiting : HostValue → Option ObjId → HostPromises → HostPromises
with_waiting v f ps = record { promises = ps.promises ++ states.Pending [] ∷ []; pairs = (ps.pairs ++ record { promise = length ps.promises; acted = true } ∷ []) ++ record { promise = length ps.promises; acted = false } ∷ []; jobs = ps.jobs ++ jobs.Thenable (length ps.pairs + 1) v f ∷ [] }

-- ---- jobs

-- the job that was queued first leaves the queue
abbrev pub taken_from : List Job → HostPromises → Option Job × HostPromises
taken_from [] ps = (None, ps)
taken_from (job ∷ rest) ps = (Some job, record ps { jobs = rest })

abbrev pub taken : HostPromises → Option Job × HostPromises
taken ps = taken_from ps.jobs ps
