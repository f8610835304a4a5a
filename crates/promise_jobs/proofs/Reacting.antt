-- A reaction at a promise whose state is known.
use Rattle.std.proofs.Common.{◌≡◌, ℕ, List, [], ◌∷◌, map, ◌++◌, Some, slice_get, refl, sym, ap, ◌∙◌, take, get_or, length, ◌<◌, ◌+◌}
use Rattle.std.proofs.lemmas.List.{take_more}
use Rattle.host_values.specs.declared.values.HostValue.{HostValue}
use Rattle.promise_jobs.specs.declared.job.Job.{Job}
use Rattle.promise_jobs.specs.declared.job.Settled.{Settled}
use Rattle.promise_jobs.specs.declared.state.Reaction.{Reaction}
use Rattle.promise_jobs.specs.declared.state.State.TheVariants as states
use Rattle.promise_jobs.specs.Records.{HostPromises}
use Rattle.promise_jobs.specs.Promises.{perform_then, queued, reaction_job, with_reaction}

pub reacted : (p : ℕ) (r : Reaction) (how : Settled) (v : HostValue) (ps : HostPromises) → slice_get ps.promises p ≡ Some (states.Settled how v) → queued (reaction_job how v r ∷ []) ps ≡ perform_then p r ps
reacted p r how v ps is = sym (rw is refl)

pub added : (p : ℕ) (r : Reaction) (reactions : List Reaction) (ps : HostPromises) → slice_get ps.promises p ≡ Some (states.Pending reactions) → with_reaction p r ps ≡ perform_then p r ps
added p r reactions ps is = rw is refl

-- one job more
made_append : (how : Settled) (v : HostValue) (xs : List Reaction) (x : Reaction) → map (reaction_job how v) (xs ++ x ∷ []) ≡ map (reaction_job how v) xs ++ reaction_job how v x ∷ []
made_append how v [] x = refl
made_append how v (y ∷ ys) x = ap (λ rest. reaction_job how v y ∷ rest) (made_append how v ys x)

pub made_more : (how : Settled) (v : HostValue) (reactions : List Reaction) (i : ℕ) (x : Reaction) (jobs : List Job) → i < length reactions → x ≡ get_or reactions i x → jobs ≡ map (reaction_job how v) (take i reactions)
    → jobs ++ reaction_job how v x ∷ [] ≡ map (reaction_job how v) (take (i + 1) reactions)
made_more how v reactions i x jobs within is so_far =
    ap (λ js. js ++ reaction_job how v x ∷ []) so_far ∙ ap (λ y. map (reaction_job how v) (take i reactions) ++ reaction_job how v y ∷ []) is
    ∙ sym (made_append how v (take i reactions) (get_or reactions i x)) ∙ ap (λ xs. map (reaction_job how v) xs) (sym (take_more reactions i x within))
