-- Laws of promises for callers. `src/laws.rt` has a function for each, whose contract is the law.
use Rattle.std.specs.Prelude.{◌≡◌, ℕ, ◌+◌, ◌≤◌, true, List, [], ◌∷◌, ◌++◌, length, Option, Some, None, slice_get, if◌then◌else◌, nat_eq}
use Rattle.host_values.specs.Objects.{HostHeap}
use Rattle.host_values.specs.declared.values.HostValue.{HostValue}
use Rattle.promise_jobs.specs.declared.job.Handler.{Handler}
use Rattle.promise_jobs.specs.declared.job.Handler.TheVariants as handlers
use Rattle.promise_jobs.specs.declared.job.Settled.{Settled}
use Rattle.promise_jobs.specs.declared.job.Job.{Job}
use Rattle.promise_jobs.specs.declared.job.Job.TheVariants as jobs
use Rattle.promise_jobs.specs.declared.state.Pair.{Pair}
use Rattle.promise_jobs.specs.declared.state.Reaction.{Reaction}
use Rattle.promise_jobs.specs.declared.state.State.{State}
use Rattle.promise_jobs.specs.declared.state.State.TheVariants as states
use Rattle.promise_jobs.specs.Records.{HostPromises}
use Rattle.promise_jobs.specs.Promises.{IsPromise, perform_then, promise_resolve, reject, resolve, taken, waiting_in, with_promise}

-- one call takes promises to others; taking a job is told apart
pub data IsCalled : HostPromises → HostPromises → Type 0 where
  made : (ps : HostPromises) → IsCalled ps (with_promise ps)
  resolved : (h : HostHeap) (k : ℕ) (v : HostValue) (ps : HostPromises) → IsCalled ps (resolve h k v ps)
  rejected : (k : ℕ) (v : HostValue) (ps : HostPromises) → IsCalled ps (reject k v ps)
  given : (h : HostHeap) (v : HostValue) (ps : HostPromises) → IsCalled ps (promise_resolve h v ps)
  reacted : (p : ℕ) (r : Reaction) (ps : HostPromises) → IsCalled ps (perform_then p r ps)

-- ---- what stays

-- promises and pairs keep their numbers
pub record IsLater (ps qs : HostPromises) : Type 0 where
  pub promises : length ps.promises ≤ length qs.promises
  pub pairs : length ps.pairs ≤ length qs.pairs

abbrev pub CallsAreLater : Type 0
CallsAreLater = (ps qs : HostPromises) → IsCalled ps qs → IsLater ps qs

-- a settled promise stays so, with its value (ECMA-262, section 27.2.1.4 and 27.2.1.7 take pending promises alone)
abbrev pub SettledStays : Type 0
SettledStays = (ps qs : HostPromises) → IsCalled ps qs → (p : ℕ) (how : Settled) (v : HostValue) → slice_get ps.promises p ≡ Some (states.Settled how v) → slice_get qs.promises p ≡ Some (states.Settled how v)

-- a pair keeps its promise, and one that has acted stays so
abbrev pub ActedStays : Type 0
ActedStays = (ps qs : HostPromises) → IsCalled ps qs → (k : ℕ) (pair : Pair) → slice_get ps.pairs k ≡ Some pair → pair.acted ≡ true → slice_get qs.pairs k ≡ Some pair

-- a pair acts once: after it was called it has acted, and then calling it does nothing
abbrev pub PairsActOnce : Type 0
PairsActOnce = (h : HostHeap) (k : ℕ) (v : HostValue) (ps : HostPromises) (pair : Pair) → slice_get ps.pairs k ≡ Some pair
    → (slice_get (resolve h k v ps).pairs k ≡ Some (record pair { acted = true }))
    × (slice_get (reject k v ps).pairs k ≡ Some (record pair { acted = true }))
    × (pair.acted ≡ true → (resolve h k v ps ≡ ps) × (reject k v ps ≡ ps))

-- ---- jobs are taken first in, first out

-- a call puts jobs behind those that wait
abbrev pub CallsQueueBehind : Type 0
CallsQueueBehind = (ps qs : HostPromises) → IsCalled ps qs → (more : List Job) × (qs.jobs ≡ ps.jobs ++ more)

-- the first one is taken, and all else stays
abbrev pub FirstIsTaken : Type 0
FirstIsTaken = (ps : HostPromises) (job : Job) (rest : List Job) → ps.jobs ≡ job ∷ rest → taken ps ≡ (Some job, record ps { jobs = rest })

-- ---- a computation is resumed once

-- the computation that a handler resumes
abbrev pub resumption : Handler → Option ℕ
resumption handlers.Pass = None
resumption (handlers.Call f) = None
resumption (handlers.Resume n) = Some n

-- a reaction resumes the same computation at both ends of its promise, or none
abbrev pub ResumesAlike : Reaction → Type 0
ResumesAlike r = resumption r.ok ≡ resumption r.err

abbrev pub AllResumeAlike : List Reaction → Type 0
AllResumeAlike [] = Unit {0}
AllResumeAlike (r ∷ rs) = ResumesAlike r × AllResumeAlike rs

abbrev pub AllStatesResumeAlike : List State → Type 0
AllStatesResumeAlike [] = Unit {0}
AllStatesResumeAlike (s ∷ ss) = AllResumeAlike (waiting_in s) × AllStatesResumeAlike ss

-- so does each reaction that waits
abbrev pub IsEven : HostPromises → Type 0
IsEven ps = AllStatesResumeAlike ps.promises

-- 1 where a handler resumes this computation, and else 0
abbrev pub is_number : ℕ → Option ℕ → ℕ
is_number n (Some m) = if nat_eq m n then 1 else 0
is_number n None = 0

abbrev pub in_handler : ℕ → Handler → ℕ
in_handler n h = is_number n (resumption h)

-- how many times the reactions of a list, of all promises, and the jobs resume a computation
abbrev pub in_reactions : ℕ → List Reaction → ℕ
in_reactions n [] = 0
in_reactions n (r ∷ rs) = in_handler n r.ok + in_reactions n rs

abbrev pub in_states : ℕ → List State → ℕ
in_states n [] = 0
in_states n (s ∷ ss) = in_reactions n (waiting_in s) + in_states n ss

abbrev pub in_job : ℕ → Job → ℕ
in_job n (jobs.React h how v derived) = in_handler n h
in_job n (jobs.Thenable pair v f) = 0

abbrev pub in_jobs : ℕ → List Job → ℕ
in_jobs n [] = 0
in_jobs n (job ∷ rest) = in_job n job + in_jobs n rest

-- in how many places a computation waits to be resumed: reactions of pending promises, and jobs
abbrev pub places : ℕ → HostPromises → ℕ
places n ps = in_states n ps.promises + in_jobs n ps.jobs

-- of a job that was taken
abbrev pub in_taken : ℕ → Option Job → ℕ
in_taken n None = 0
in_taken n (Some job) = in_job n job

-- a call keeps each computation in as many places, but for the reaction that it adds, and leaves the reactions even
abbrev pub CallsKeepPlaces : Type 0
CallsKeepPlaces = (h : HostHeap) (k : ℕ) (v : HostValue) (ps : HostPromises) (n : ℕ) → IsEven ps
    → ((IsEven (with_promise ps)) × (places n (with_promise ps) ≡ places n ps))
    × ((IsEven (resolve h k v ps)) × (places n (resolve h k v ps) ≡ places n ps))
    × ((IsEven (reject k v ps)) × (places n (reject k v ps) ≡ places n ps))
    × ((IsEven (promise_resolve h v ps)) × (places n (promise_resolve h v ps) ≡ places n ps))

abbrev pub ReactionsAddTheirs : Type 0
ReactionsAddTheirs = (p : ℕ) (r : Reaction) (ps : HostPromises) (n : ℕ) → IsEven ps → ResumesAlike r → IsPromise ps p
    → (IsEven (perform_then p r ps)) × (places n (perform_then p r ps) ≡ places n ps + in_handler n r.ok)

-- a job that is taken takes its place away
abbrev pub TakenLeavesTheQueue : Type 0
TakenLeavesTheQueue = (ps : HostPromises) (n : ℕ) → (IsEven ps → IsEven (taken ps).1) × (places n ps ≡ in_taken n (taken ps).0 + places n (taken ps).1)
