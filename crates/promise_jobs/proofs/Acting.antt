-- That a pair acts before or after what it does to its promise is the same.
use Rattle.std.proofs.Common.{◌≡◌, ℕ, [], ◌∷◌, Bool, true, false, Option, Some, None, slice_get, refl, sym, ◌∙◌, cond}
use Rattle.std.proofs.lemmas.List.{set-append_left, length-set}
use Rattle.std.specs.Option.{option_map_or}
use Rattle.host_values.specs.Objects.{HostHeap}
use Rattle.host_values.specs.declared.values.ObjId.{ObjId}
use Rattle.host_values.specs.declared.values.HostValue.{HostValue}
use Rattle.promise_jobs.specs.declared.job.Settled.{Settled}
use Rattle.promise_jobs.specs.declared.job.Settled.TheVariants as ends
use Rattle.promise_jobs.specs.declared.state.Pair.{Pair}
use Rattle.promise_jobs.specs.declared.state.State.{State}
use Rattle.promise_jobs.specs.declared.state.State.TheVariants as states
use Rattle.promise_jobs.specs.declared.thenable.ThenMember.{ThenMember}
use Rattle.promise_jobs.specs.declared.thenable.ThenMember.TheVariants as members
use Rattle.promise_jobs.specs.Records.{HostPromises}
use Rattle.promise_jobs.specs.Promises.{IsPair, act, heap_after, heap_of, is_itself, queue_thenable, reject, resolve, resolve_by, resolve_promise, settle, settle_from, then_of}

by_state : (k p : ℕ) (pair : Pair) (how : Settled) (v : HostValue) (ps : HostPromises) (state : Option State)
    → act k pair (option_map_or (λ s. settle_from p how v s ps) state ps) ≡ option_map_or (λ s. settle_from p how v s (act k pair ps)) state (act k pair ps)
by_state k p pair how v ps None = refl
by_state k p pair how v ps (Some (states.Pending reactions)) = refl
by_state k p pair how v ps (Some (states.Settled before w)) = refl

pub act_settle : (k p : ℕ) (pair : Pair) (how : Settled) (v : HostValue) (ps : HostPromises) → act k pair (settle p how v ps) ≡ settle p how v (act k pair ps)
act_settle k p pair how v ps = by_state k p pair how v ps (slice_get ps.promises p)

act_queue : (k p : ℕ) (pair : Pair) (v : HostValue) (f : Option ObjId) (ps : HostPromises) → IsPair ps k → act k pair (queue_thenable p v f ps) ≡ queue_thenable p v f (act k pair ps)
act_queue k p pair v f ps within =
    rw (set-append_left ps.pairs (record { promise = p; acted = false } ∷ []) k (record pair { acted = true }) within, length-set ps.pairs k (record pair { acted = true })) refl

act_by : (found : ThenMember) (k p : ℕ) (pair : Pair) (v : HostValue) (ps : HostPromises) → IsPair ps k → act k pair (resolve_by found p v ps) ≡ resolve_by found p v (act k pair ps)
act_by members.Absent k p pair v ps within = act_settle k p pair ends.Fulfilled v ps
act_by members.BuiltIn k p pair v ps within = act_queue k p pair v None ps within
act_by (members.Callable f) k p pair v ps within = act_queue k p pair v (Some f) ps within

by_itself : (itself : Bool) (k : ℕ) (pair : Pair) (a b c d : HostPromises) → act k pair a ≡ c → act k pair b ≡ d → act k pair (cond itself a b) ≡ cond itself c d
by_itself true k pair a b c d p q = p
by_itself false k pair a b c d p q = q

pub act_resolve : (h : HostHeap) (k p : ℕ) (pair : Pair) (v : HostValue) (ps : HostPromises) → IsPair ps k → act k pair (resolve_promise h p v ps) ≡ resolve_promise h p v (act k pair ps)
act_resolve h k p pair v ps within = by_itself (is_itself h p v) k pair _ _ _ _ (act_settle k p pair ends.Rejected _ ps) (act_by (then_of h v) k p pair v ps within)

-- a pair that is there and hasn't acted
pub resolved : (h : HostHeap) (k : ℕ) (pair : Pair) (v : HostValue) (ps : HostPromises) → slice_get ps.pairs k ≡ Some pair → pair.acted ≡ false → IsPair ps k
    → act k pair (resolve_promise h pair.promise v ps) ≡ resolve h k v ps
resolved h k pair v ps is fresh within = act_resolve h k pair.promise pair v ps within ∙ sym (rw (is, fresh) refl)

pub heap_resolved : (h : HostHeap) (k : ℕ) (pair : Pair) (v : HostValue) (ps : HostPromises) → slice_get ps.pairs k ≡ Some pair → pair.acted ≡ false
    → heap_of h pair.promise v ≡ heap_after h k v ps
heap_resolved h k pair v ps is fresh = sym (rw (is, fresh) refl)

pub rejected : (k : ℕ) (pair : Pair) (v : HostValue) (ps : HostPromises) → slice_get ps.pairs k ≡ Some pair → pair.acted ≡ false → act k pair (settle pair.promise ends.Rejected v ps) ≡ reject k v ps
rejected k pair v ps is fresh = act_settle k pair.promise pair ends.Rejected v ps ∙ sym (rw (is, fresh) refl)

-- a pair that has acted
pub resolved_before : (h : HostHeap) (k : ℕ) (pair : Pair) (v : HostValue) (ps : HostPromises) → slice_get ps.pairs k ≡ Some pair → pair.acted ≡ true → ps ≡ resolve h k v ps
resolved_before h k pair v ps is acted = sym (rw (is, acted) refl)

pub heap_resolved_before : (h : HostHeap) (k : ℕ) (pair : Pair) (v : HostValue) (ps : HostPromises) → slice_get ps.pairs k ≡ Some pair → pair.acted ≡ true → h ≡ heap_after h k v ps
heap_resolved_before h k pair v ps is acted = sym (rw (is, acted) refl)

pub rejected_before : (k : ℕ) (pair : Pair) (v : HostValue) (ps : HostPromises) → slice_get ps.pairs k ≡ Some pair → pair.acted ≡ true → ps ≡ reject k v ps
rejected_before k pair v ps is acted = sym (rw (is, acted) refl)
