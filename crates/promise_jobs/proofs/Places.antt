-- In how many places a computation waits to be resumed.
use Rattle.std.proofs.Common.{◌≡◌, ℕ, zero, suc, ◌+◌, ◌<◌, List, [], ◌∷◌, ◌++◌, length, map, Some, None, slice_get, slice_set, refl, sym, ap, ◌∙◌, subst, arith}
use Rattle.host_values.specs.declared.values.HostValue.{HostValue}
use Rattle.promise_jobs.specs.declared.job.Settled.{Settled}
use Rattle.promise_jobs.specs.declared.job.Settled.TheVariants as ends
use Rattle.promise_jobs.specs.declared.job.Job.{Job}
use Rattle.promise_jobs.specs.declared.job.Job.TheVariants as jobs
use Rattle.promise_jobs.specs.declared.state.Reaction.{Reaction}
use Rattle.promise_jobs.specs.declared.state.State.{State}
use Rattle.promise_jobs.specs.declared.state.State.TheVariants as states
use Rattle.promise_jobs.specs.Records.{HostPromises}
use Rattle.promise_jobs.specs.Promises.{handler_for, promise_of, reaction_job, waiting_in}
use Rattle.promise_jobs.specs.Laws.{AllResumeAlike, AllStatesResumeAlike, CallsKeepPlaces, IsEven, ReactionsAddTheirs, ResumesAlike, in_handler, in_jobs, in_reactions, in_states, is_number, places}
use Rattle.promise_jobs.proofs.Elims.{of_then, settled_now}
use Rattle.promise_jobs.proofs.Staying.{IsKept, given_by, reject_kept, resolve_kept}

-- ---- lists that grow

jobs_append : (n : ℕ) (a b : List Job) → in_jobs n (a ++ b) ≡ in_jobs n a + in_jobs n b
jobs_append n [] b = omega arith
jobs_append n (job ∷ a) b = let h = jobs_append n a b in omega (arith, h)

reactions_append : (n : ℕ) (rs : List Reaction) (r : Reaction) → in_reactions n (rs ++ r ∷ []) ≡ in_reactions n rs + in_handler n r.ok
reactions_append n [] r = omega arith
reactions_append n (x ∷ rs) r = let h = reactions_append n rs r in omega (arith, h)

states_append : (n : ℕ) (ss : List State) → in_states n (ss ++ states.Pending [] ∷ []) ≡ in_states n ss
states_append n [] = refl
states_append n (s ∷ ss) = ap (λ k. in_reactions n (waiting_in s) + k) (states_append n ss)

states_set : (n : ℕ) (ss : List State) (p : ℕ) (s y : State) → slice_get ss p ≡ Some s
    → in_states n (slice_set ss p y) + in_reactions n (waiting_in s) ≡ in_states n ss + in_reactions n (waiting_in y)
states_set n [] p s y is = absurd cc
states_set n (x ∷ ss) zero s y is = let e : x ≡ s = cc in let f = ap (λ z. in_reactions n (waiting_in z)) e in omega (arith, f)
states_set n (x ∷ ss) (suc p) s y is = let h = states_set n ss p s y is in omega (arith, h)

-- ---- reactions that resume alike

alike_append : (ss : List State) → AllStatesResumeAlike ss → AllStatesResumeAlike (ss ++ states.Pending [] ∷ [])
alike_append [] h = (tt, tt)
alike_append (s ∷ ss) h = (h.0, alike_append ss h.1)

alike_reaction : (rs : List Reaction) (r : Reaction) → AllResumeAlike rs → ResumesAlike r → AllResumeAlike (rs ++ r ∷ [])
alike_reaction [] r h e = (e, tt)
alike_reaction (x ∷ rs) r h e = (h.0, alike_reaction rs r h.1 e)

alike_set : (ss : List State) (p : ℕ) (y : State) → AllStatesResumeAlike ss → AllResumeAlike (waiting_in y) → AllStatesResumeAlike (slice_set ss p y)
alike_set [] p y h e = h
alike_set (s ∷ ss) zero y h e = (e, h.1)
alike_set (s ∷ ss) (suc p) y h e = (h.0, alike_set ss p y h.1 e)

alike_at : (ss : List State) (p : ℕ) (rs : List Reaction) → AllStatesResumeAlike ss → slice_get ss p ≡ Some (states.Pending rs) → AllResumeAlike rs
alike_at [] p rs h is = absurd cc
alike_at (states.Pending xs ∷ ss) zero rs h is = let e : xs ≡ rs = cc in subst AllResumeAlike e h.0
alike_at (states.Settled how v ∷ ss) zero rs h is = absurd cc
alike_at (s ∷ ss) (suc p) rs h is = alike_at ss p rs h.1 is

by_end : (n : ℕ) (how : Settled) (r : Reaction) → ResumesAlike r → in_handler n (handler_for how r) ≡ in_handler n r.ok
by_end n ends.Fulfilled r e = refl
by_end n ends.Rejected r e = ap (is_number n) (sym e)

-- a reaction's job stands where it stood
jobs_of_reactions : (n : ℕ) (how : Settled) (v : HostValue) (rs : List Reaction) → AllResumeAlike rs → in_jobs n (map (reaction_job how v) rs) ≡ in_reactions n rs
jobs_of_reactions n how v [] h = refl
jobs_of_reactions n how v (r ∷ rs) h = let a = by_end n how r h.0 in let b = jobs_of_reactions n how v rs h.1 in omega (arith, a, b)

-- ---- calls

abbrev PlacesIn : ℕ → HostPromises → HostPromises → Type 0
PlacesIn n ps qs = IsEven ps → IsEven qs × (places n qs ≡ places n ps)

settled_places : (n p : ℕ) (how : Settled) (v : HostValue) (rs : List Reaction) (ps : HostPromises) → slice_get ps.promises p ≡ Some (states.Pending rs) → PlacesIn n ps (settled_now p how v rs ps)
settled_places n p how v rs ps is even =
    let a = states_set n ps.promises p (states.Pending rs) (states.Settled how v) is in
    let b = jobs_append n ps.jobs (map (reaction_job how v) rs) in
    let c = jobs_of_reactions n how v rs (alike_at ps.promises p rs even is) in
    (alike_set ps.promises p (states.Settled how v) even tt, omega (arith, a, b, c))

kept_places : (n : ℕ) → IsKept (PlacesIn n)
kept_places n = record {
  same = λ ps even. (even, refl);
  then_more = λ ps qs rs a b even. ((b (a even).0).0, (b (a even).0).1 ∙ (a even).1);
  new = λ ps even. (alike_append ps.promises even, ap (λ k. k + in_jobs n ps.jobs) (states_append n ps.promises));
  acts = λ k pair ps is even. (even, refl);
  settles = λ p how v reactions ps is even. settled_places n p how v reactions ps is even;
  queues = λ p v f ps even. (even, let h = jobs_append n ps.jobs (jobs.Thenable (length ps.pairs) v f ∷ []) in omega (arith, h));
}

pub calls_keep_places : CallsKeepPlaces
calls_keep_places = λ h k v ps n even. (
  (kept_places n).new ps even,
  resolve_kept (PlacesIn n) (kept_places n) h k v ps even,
  reject_kept (PlacesIn n) (kept_places n) k v ps even,
  given_by (PlacesIn n) (kept_places n) h v ps (promise_of h v) even,
)

not_there : {X : Type 0} → (xs : List X) (p : ℕ) → p < length xs → slice_get xs p ≡ None → ⊥
not_there [] p within is = omega (arith, within)
not_there (x ∷ xs) zero within is = absurd cc
not_there (x ∷ xs) (suc p) within is = not_there xs p (omega (arith, within)) is

abbrev AddedIn : ℕ → Reaction → HostPromises → HostPromises → Type 0
AddedIn n r ps qs = IsEven qs × (places n qs ≡ places n ps + in_handler n r.ok)

pub reactions_add_theirs : ReactionsAddTheirs
reactions_add_theirs = λ p r ps n even alike within. of_then (AddedIn n r ps) p r ps
    (λ is. absurd (not_there ps.promises p within is))
    (λ reactions is. (
      alike_set ps.promises p (states.Pending (reactions ++ r ∷ [])) even (alike_reaction reactions r (alike_at ps.promises p reactions even is) alike),
      let a = states_set n ps.promises p (states.Pending reactions) (states.Pending (reactions ++ r ∷ [])) is in
          let b = reactions_append n reactions r in
          omega (arith, a, b),
    ))
    (λ how v. (
      even,
      let a = jobs_append n ps.jobs (reaction_job how v r ∷ []) in
          let b = by_end n how r alike in
          omega (arith, a, b),
    ))
