-- What each call makes of promises, by cases.
use Rattle.std.proofs.Common.{◌≡◌, ℕ, List, [], ◌∷◌, ◌++◌, map, Bool, true, false, Option, Some, None, slice_get, slice_set, refl, cond}
use Rattle.std.specs.Option.{option_map_or}
use Rattle.host_values.specs.Heaps.{next_object}
use Rattle.host_values.specs.Objects.{HostHeap}
use Rattle.host_values.specs.declared.values.ObjId.{ObjId}
use Rattle.host_values.specs.declared.values.HostValue.{HostValue}
use Rattle.host_values.specs.declared.values.HostValue.TheVariants as values
use Rattle.promise_jobs.specs.declared.job.Settled.{Settled}
use Rattle.promise_jobs.specs.declared.job.Settled.TheVariants as ends
use Rattle.promise_jobs.specs.declared.state.Pair.{Pair}
use Rattle.promise_jobs.specs.declared.state.Reaction.{Reaction}
use Rattle.promise_jobs.specs.declared.state.State.{State}
use Rattle.promise_jobs.specs.declared.state.State.TheVariants as states
use Rattle.promise_jobs.specs.declared.thenable.ThenMember.{ThenMember}
use Rattle.promise_jobs.specs.declared.thenable.ThenMember.TheVariants as members
use Rattle.promise_jobs.specs.Records.{HostPromises}
use Rattle.promise_jobs.specs.Promises.{act, is_itself, perform_then, queue_thenable, queued, react, reaction_job, reject, reject_from, resolve, resolve_by, resolve_from, resolve_promise, settle, settle_from, then_of}

-- a promise that is settled where it is pending
abbrev pub settled_now : ℕ → Settled → HostValue → List Reaction → HostPromises → HostPromises
settled_now p how v reactions ps = record ps { promises = slice_set ps.promises p (states.Settled how v); jobs = ps.jobs ++ map (reaction_job how v) reactions }

settle_by : (Q : HostPromises → Type 0) (p : ℕ) (how : Settled) (v : HostValue) (ps : HostPromises) (state : Option State) → slice_get ps.promises p ≡ state
    → Q ps → ((reactions : List Reaction) → slice_get ps.promises p ≡ Some (states.Pending reactions) → Q (settled_now p how v reactions ps))
    → Q (option_map_or (λ s. settle_from p how v s ps) state ps)
settle_by Q p how v ps None is same pending = same
settle_by Q p how v ps (Some (states.Pending reactions)) is same pending = pending reactions is
settle_by Q p how v ps (Some (states.Settled before w)) is same pending = same

pub of_settle : (Q : HostPromises → Type 0) (p : ℕ) (how : Settled) (v : HostValue) (ps : HostPromises)
    → Q ps → ((reactions : List Reaction) → slice_get ps.promises p ≡ Some (states.Pending reactions) → Q (settled_now p how v reactions ps))
    → Q (settle p how v ps)
of_settle Q p how v ps same pending = settle_by Q p how v ps (slice_get ps.promises p) refl same pending

-- what a pair that is called does: a settled promise, or a job for a `then`
abbrev pub OfAct : (HostPromises → Type 0) → ℕ → HostPromises → Type 0
OfAct Q k ps = (pair : Pair) → slice_get ps.pairs k ≡ Some pair
    → ((p : ℕ) (how : Settled) (v : HostValue) → Q (settle p how v (act k pair ps))) × ((p : ℕ) (v : HostValue) (f : Option ObjId) → Q (queue_thenable p v f (act k pair ps)))

found_by : (Q : HostPromises → Type 0) (found : ThenMember) (p : ℕ) (v : HostValue) (ps : HostPromises)
    → ((how : Settled) → Q (settle p how v ps)) → ((f : Option ObjId) → Q (queue_thenable p v f ps)) → Q (resolve_by found p v ps)
found_by Q members.Absent p v ps settled queue = settled ends.Fulfilled
found_by Q members.BuiltIn p v ps settled queue = queue None
found_by Q (members.Callable f) p v ps settled queue = queue (Some f)

itself_by : (Q : HostPromises → Type 0) (itself : Bool) (a b : HostPromises) → Q a → Q b → Q (cond itself a b)
itself_by Q true a b p q = p
itself_by Q false a b p q = q

pair_by : (Q : HostPromises → Type 0) (h : HostHeap) (k : ℕ) (v : HostValue) (ps : HostPromises) (pair : Option Pair) → slice_get ps.pairs k ≡ pair → Q ps → OfAct Q k ps
    → Q (option_map_or (λ x. resolve_from h k v x ps) pair ps)
pair_by Q h k v ps None is same acted = same
pair_by Q h k v ps (Some pair) is same acted =
    itself_by Q pair.acted ps (resolve_promise h pair.promise v (act k pair ps)) same
    (itself_by Q (is_itself h pair.promise v) _ _ ((acted pair is).0 pair.promise ends.Rejected (values.Object (next_object h)))
    (found_by Q (then_of h v) pair.promise v (act k pair ps) (λ how. (acted pair is).0 pair.promise how v) (λ f. (acted pair is).1 pair.promise v f)))

pub of_resolve : (Q : HostPromises → Type 0) (h : HostHeap) (k : ℕ) (v : HostValue) (ps : HostPromises) → Q ps → OfAct Q k ps → Q (resolve h k v ps)
of_resolve Q h k v ps same acted = pair_by Q h k v ps (slice_get ps.pairs k) refl same acted

reject_by : (Q : HostPromises → Type 0) (k : ℕ) (v : HostValue) (ps : HostPromises) (pair : Option Pair) → slice_get ps.pairs k ≡ pair → Q ps → OfAct Q k ps → Q (option_map_or (λ x. reject_from k v x ps) pair ps)
reject_by Q k v ps None is same acted = same
reject_by Q k v ps (Some pair) is same acted = itself_by Q pair.acted ps _ same ((acted pair is).0 pair.promise ends.Rejected v)

pub of_reject : (Q : HostPromises → Type 0) (k : ℕ) (v : HostValue) (ps : HostPromises) → Q ps → OfAct Q k ps → Q (reject k v ps)
of_reject Q k v ps same acted = reject_by Q k v ps (slice_get ps.pairs k) refl same acted

-- a reaction that waits
abbrev pub waiting_now : ℕ → Reaction → List Reaction → HostPromises → HostPromises
waiting_now p r reactions ps = record ps { promises = slice_set ps.promises p (states.Pending (reactions ++ r ∷ [])) }

react_by : (Q : HostPromises → Type 0) (p : ℕ) (r : Reaction) (ps : HostPromises) (state : Option State) → slice_get ps.promises p ≡ state
    → (slice_get ps.promises p ≡ None → Q ps) → ((reactions : List Reaction) → slice_get ps.promises p ≡ Some (states.Pending reactions) → Q (waiting_now p r reactions ps))
    → ((how : Settled) (v : HostValue) → Q (queued (reaction_job how v r ∷ []) ps))
    → Q (option_map_or (λ s. react p r s ps) state ps)
react_by Q p r ps None is same pending settled = same is
react_by Q p r ps (Some (states.Pending reactions)) is same pending settled = pending reactions is
react_by Q p r ps (Some (states.Settled how v)) is same pending settled = settled how v

pub of_then : (Q : HostPromises → Type 0) (p : ℕ) (r : Reaction) (ps : HostPromises)
    → (slice_get ps.promises p ≡ None → Q ps) → ((reactions : List Reaction) → slice_get ps.promises p ≡ Some (states.Pending reactions) → Q (waiting_now p r reactions ps))
    → ((how : Settled) (v : HostValue) → Q (queued (reaction_job how v r ∷ []) ps))
    → Q (perform_then p r ps)
of_then Q p r ps same pending settled = react_by Q p r ps (slice_get ps.promises p) refl same pending settled
