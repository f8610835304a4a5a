-- What stays at each call: numbers, settled promises, pairs that have acted, and the jobs that wait.
use Rattle.std.proofs.Common.{◌≡◌, ℕ, zero, suc, List, [], ◌∷◌, ◌++◌, length, map, true, false, Option, Some, None, slice_get, slice_set, refl, sym, ap, ◌∙◌, arith, append-nil, append_assoc}
use Rattle.std.proofs.lemmas.List.{length-append, length-set}
use Rattle.host_values.specs.Objects.{HostHeap}
use Rattle.host_values.specs.declared.values.ObjId.{ObjId}
use Rattle.host_values.specs.declared.values.HostValue.{HostValue}
use Rattle.promise_jobs.specs.declared.job.Settled.{Settled}
use Rattle.promise_jobs.specs.declared.job.Job.{Job}
use Rattle.promise_jobs.specs.declared.job.Job.TheVariants as jobs
use Rattle.promise_jobs.specs.declared.state.Pair.{Pair}
use Rattle.promise_jobs.specs.declared.state.Reaction.{Reaction}
use Rattle.promise_jobs.specs.declared.state.State.{State}
use Rattle.promise_jobs.specs.declared.state.State.TheVariants as states
use Rattle.promise_jobs.specs.Records.{HostPromises}
use Rattle.promise_jobs.specs.Promises.{act, promise_of, promise_resolve_by, queue_thenable, queued, reaction_job, reject, resolve, settle, with_promise, with_promise_object}
use Rattle.promise_jobs.specs.Laws as laws
use Rattle.promise_jobs.specs.Laws.{ActedStays, CallsAreLater, CallsQueueBehind, FirstIsTaken, IsCalled, IsLater, PairsActOnce, SettledStays}
use Rattle.promise_jobs.proofs.Elims.{OfAct, of_reject, of_resolve, of_settle, of_then, settled_now, waiting_now}

-- ---- what holds between promises before and after each call

-- a relation that calls keep but for those that add a reaction
pub record IsKept (R : HostPromises → HostPromises → Type 0) : Type 0 where
  pub same : (ps : HostPromises) → R ps ps
  pub then_more : (ps qs rs : HostPromises) → R ps qs → R qs rs → R ps rs
  pub new : (ps : HostPromises) → R ps (with_promise ps)
  pub acts : (k : ℕ) (pair : Pair) (ps : HostPromises) → slice_get ps.pairs k ≡ Some pair → R ps (act k pair ps)
  pub settles : (p : ℕ) (how : Settled) (v : HostValue) (reactions : List Reaction) (ps : HostPromises) → slice_get ps.promises p ≡ Some (states.Pending reactions) → R ps (settled_now p how v reactions ps)
  pub queues : (p : ℕ) (v : HostValue) (f : Option ObjId) (ps : HostPromises) → R ps (queue_thenable p v f ps)

-- and one that those keep too
pub record IsKeptByReactions (R : HostPromises → HostPromises → Type 0) : Type 0 where
  pub waits : (p : ℕ) (r : Reaction) (reactions : List Reaction) (ps : HostPromises) → slice_get ps.promises p ≡ Some (states.Pending reactions) → R ps (waiting_now p r reactions ps)
  pub puts : (job : Job) (ps : HostPromises) → R ps (queued (job ∷ []) ps)

settle_kept : (R : HostPromises → HostPromises → Type 0) → IsKept R → (p : ℕ) (how : Settled) (v : HostValue) (ps : HostPromises) → R ps (settle p how v ps)
settle_kept R k p how v ps = of_settle (λ qs. R ps qs) p how v ps (k.same ps) (λ reactions is. k.settles p how v reactions ps is)

act_kept : (R : HostPromises → HostPromises → Type 0) → IsKept R → (n : ℕ) (ps : HostPromises) → OfAct (λ qs. R ps qs) n ps
act_kept R k n ps = λ pair is. (
  (λ p how v. k.then_more ps (act n pair ps) (settle p how v (act n pair ps)) (k.acts n pair ps is) (settle_kept R k p how v (act n pair ps))),
  (λ p v f. k.then_more ps (act n pair ps) (queue_thenable p v f (act n pair ps)) (k.acts n pair ps is) (k.queues p v f (act n pair ps))),
)

pub resolve_kept : (R : HostPromises → HostPromises → Type 0) → IsKept R → (h : HostHeap) (n : ℕ) (v : HostValue) (ps : HostPromises) → R ps (resolve h n v ps)
resolve_kept R k h n v ps = of_resolve (λ qs. R ps qs) h n v ps (k.same ps) (act_kept R k n ps)

pub given_by : (R : HostPromises → HostPromises → Type 0) → IsKept R → (h : HostHeap) (v : HostValue) (ps : HostPromises) (promise : Option ℕ) → R ps (promise_resolve_by h v promise ps)
given_by R k h v ps (Some p) = k.same ps
given_by R k h v ps None =
    k.then_more ps (with_promise ps) (resolve (with_promise_object h ps) (length ps.pairs) v (with_promise ps)) (k.new ps) (resolve_kept R k (with_promise_object h ps) (length ps.pairs) v (with_promise ps))

pub reject_kept : (R : HostPromises → HostPromises → Type 0) → IsKept R → (n : ℕ) (v : HostValue) (ps : HostPromises) → R ps (reject n v ps)
reject_kept R k n v ps = of_reject (λ qs. R ps qs) n v ps (k.same ps) (act_kept R k n ps)

pub call_kept : (R : HostPromises → HostPromises → Type 0) → IsKept R → IsKeptByReactions R → (ps qs : HostPromises) → IsCalled ps qs → R ps qs
call_kept R k m ps qs (laws.made x) = k.new ps
call_kept R k m ps qs (laws.resolved h n v x) = resolve_kept R k h n v ps
call_kept R k m ps qs (laws.rejected n v x) = reject_kept R k n v ps
call_kept R k m ps qs (laws.given h v x) = given_by R k h v ps (promise_of h v)
call_kept R k m ps qs (laws.reacted p r x) = of_then (λ qs. R ps qs) p r ps (λ is. k.same ps) (λ reactions is. m.waits p r reactions ps is) (λ how v. m.puts (reaction_job how v r) ps)

-- ---- numbers

later : IsKept IsLater
later = record {
  same = λ ps. record { promises = omega arith; pairs = omega arith };
  then_more = λ ps qs rs a b. record { promises = omega (arith, a.promises, b.promises); pairs = omega (arith, a.pairs, b.pairs) };
  new = λ ps. record { promises = omega (arith, length-append ps.promises (states.Pending [] ∷ [])); pairs = omega (arith, length-append ps.pairs (record { promise = length ps.promises; acted = false } ∷ [])) };
  acts = λ k pair ps is. record { promises = omega arith; pairs = omega (arith, length-set ps.pairs k (record pair { acted = true })) };
  settles = λ p how v reactions ps is. record { promises = omega (arith, length-set ps.promises p (states.Settled how v)); pairs = omega arith };
  queues = λ p v f ps. record { promises = omega arith; pairs = omega (arith, length-append ps.pairs (record { promise = p; acted = false } ∷ [])) };
}

later_reaction : IsKeptByReactions IsLater
later_reaction = record {
  waits = λ p r reactions ps is. record { promises = omega (arith, length-set ps.promises p (states.Pending (reactions ++ r ∷ []))); pairs = omega arith };
  puts = λ job ps. record { promises = omega arith; pairs = omega arith };
}

pub calls_are_later : CallsAreLater
calls_are_later = λ ps qs called. call_kept IsLater later later_reaction ps qs called

-- ---- settled promises, and pairs that have acted

get_before : {X : Type 0} → (xs ys : List X) (i : ℕ) (x : X) → slice_get xs i ≡ Some x → slice_get (xs ++ ys) i ≡ Some x
get_before [] ys i x is = absurd cc
get_before (y ∷ xs) ys zero x is = is
get_before (y ∷ xs) ys (suc i) x is = get_before xs ys i x is

-- an element stays where another one is set, or where it is set to itself
get_set : {X : Type 0} → (xs : List X) (i j : ℕ) (a b y : X) → slice_get xs i ≡ Some a → slice_get xs j ≡ Some b → (a ≡ b → y ≡ b) → slice_get (slice_set xs i y) j ≡ Some b
get_set [] i j a b y p q same = absurd cc
get_set (x ∷ xs) zero zero a b y p q same = ap (λ z. Some z) (same cc)
get_set (x ∷ xs) zero (suc j) a b y p q same = q
get_set (x ∷ xs) (suc i) zero a b y p q same = q
get_set (x ∷ xs) (suc i) (suc j) a b y p q same = get_set xs i j a b y p q same

abbrev SettledIn : HostPromises → HostPromises → Type 0
SettledIn ps qs = (p : ℕ) (how : Settled) (v : HostValue) → slice_get ps.promises p ≡ Some (states.Settled how v) → slice_get qs.promises p ≡ Some (states.Settled how v)

pending_differs : (reactions : List Reaction) (how : Settled) (v : HostValue) (y : State) → states.Pending reactions ≡ states.Settled how v → y ≡ states.Settled how v
pending_differs reactions how v y e = absurd cc

settled : IsKept SettledIn
settled = record {
  same = λ ps p how v is. is;
  then_more = λ ps qs rs a b p how v is. b p how v (a p how v is);
  new = λ ps p how v is. get_before ps.promises (states.Pending [] ∷ []) p (states.Settled how v) is;
  acts = λ k pair ps at p how v is. is;
  settles = λ q other w reactions ps at p how v is. get_set ps.promises q p (states.Pending reactions) (states.Settled how v) (states.Settled other w) at is (pending_differs reactions how v (states.Settled other w));
  queues = λ q w f ps p how v is. is;
}

settled_reaction : IsKeptByReactions SettledIn
settled_reaction = record {
  waits = λ q r reactions ps at p how v is. get_set ps.promises q p (states.Pending reactions) (states.Settled how v) (states.Pending (reactions ++ r ∷ [])) at is (pending_differs reactions how v (states.Pending (reactions ++ r ∷ [])));
  puts = λ job ps p how v is. is;
}

pub settled_stays : SettledStays
settled_stays = λ ps qs called. call_kept SettledIn settled settled_reaction ps qs called

abbrev ActedIn : HostPromises → HostPromises → Type 0
ActedIn ps qs = (k : ℕ) (pair : Pair) → slice_get ps.pairs k ≡ Some pair → pair.acted ≡ true → slice_get qs.pairs k ≡ Some pair

acted_again : (before pair : Pair) → pair.acted ≡ true → before ≡ pair → record before { acted = true } ≡ pair
acted_again before pair is e = ap (λ (x : Pair). record x { acted = true }) e ∙ sym (ap (λ b. record pair { acted = b }) is)

acted : IsKept ActedIn
acted = record {
  same = λ ps k pair is a. is;
  then_more = λ ps qs rs a b k pair is t. b k pair (a k pair is t) t;
  new = λ ps k pair is t. get_before ps.pairs (record { promise = length ps.promises; acted = false } ∷ []) k pair is;
  acts = λ j before ps at k pair is t. get_set ps.pairs j k before pair (record before { acted = true }) at is (acted_again before pair t);
  settles = λ q other w reactions ps at k pair is t. is;
  queues = λ q w f ps k pair is t. get_before ps.pairs (record { promise = q; acted = false } ∷ []) k pair is;
}

acted_reaction : IsKeptByReactions ActedIn
acted_reaction = record { waits = λ q r reactions ps at k pair is t. is; puts = λ job ps k pair is t. is }

pub acted_stays : ActedStays
acted_stays = λ ps qs called. call_kept ActedIn acted acted_reaction ps qs called

-- ---- jobs

abbrev BehindIn : HostPromises → HostPromises → Type 0
BehindIn ps qs = (more : List Job) × (qs.jobs ≡ ps.jobs ++ more)

none_behind : (ps : HostPromises) → BehindIn ps ps
none_behind ps = ([], sym (append-nil ps.jobs))

behind : IsKept BehindIn
behind = record {
  same = none_behind;
  then_more = λ ps qs rs a b. (a.0 ++ b.0, b.1 ∙ ap (λ js. js ++ b.0) a.1 ∙ append_assoc ps.jobs a.0 b.0);
  new = λ ps. none_behind ps;
  acts = λ k pair ps is. none_behind ps;
  settles = λ p how v reactions ps is. (map (reaction_job how v) reactions, refl);
  queues = λ p v f ps. (jobs.Thenable (length ps.pairs) v f ∷ [], refl);
}

behind_reaction : IsKeptByReactions BehindIn
behind_reaction = record { waits = λ p r reactions ps is. none_behind ps; puts = λ job ps. (job ∷ [], refl) }

pub calls_queue_behind : CallsQueueBehind
calls_queue_behind = λ ps qs called. call_kept BehindIn behind behind_reaction ps qs called
