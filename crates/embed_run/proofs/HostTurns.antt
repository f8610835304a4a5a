-- A step of the script's frame on top is rewritings of the configuration.
use Rattle.std.proofs.Common.{◌≡◌, ◌⊎◌, inl, inr, ℕ, ◌≤◌, List, [], ◌∷◌, ◌++◌, refl, sym, ap, ◌∙◌, subst, arith, Option, Some, None}
use Rattle.host_values.specs.declared.values.HostValue.{HostValue}
use Rattle.host_machine.specs.declared.completion.Completion.TheVariants as completions
use Rattle.host_machine.specs.declared.effect.HostEffect.{HostEffect}
use Rattle.host_machine.specs.declared.effect.HostEffect.TheVariants as effects
use Rattle.host_machine.specs.Frames as hosts
use Rattle.host_machine.specs.Rewriting as rewriting
use Rattle.host_machine.specs.Terms.{HostTerm, State, Frame as HostView, state_of, term_of as host_term_of}
use Rattle.iface_objects.specs.declared.realm.Realm.{Realm}
use Rattle.iface_objects.specs.Realms.{with_heap}
use Rattle.jspi_stacks.specs.declared.frame.Frame.{Frame}
use Rattle.jspi_stacks.specs.declared.frame.Frame.TheVariants as frames
use Rattle.jspi_stacks.specs.Stacks.{activations_of}
use Rattle.jspi_stacks.specs.Whole.{Whole, host, fold}
use Rattle.embed_run.specs.declared.machine.Machine.{Machine}
use Rattle.embed_run.specs.Configurations.{Program, Configuration}
use Rattle.embed_run.specs.Rules.{Does, goes, does, by_host, activations_in, by_effect, after, next}
use Rattle.embed_run.specs.Outcomes.{Freely, stays, freely}
use Rattle.embed_run.specs.Answering.{in_entries}
use Rattle.embed_run.proofs.Folding.{entries_go, count_host}
use Rattle.embed_run.proofs.Nexts.{with_term, paid, next_within, free_first, went}

-- how a frame ends is told as an effect
end_is : (p : Program) (r : Realm) (n : ℕ) (locals : List (Option HostValue)) (t : HostTerm) (d : rewriting.Does) (e : HostEffect) → hosts.end_of d ≡ Some e → by_host p r n d ≡ by_effect p r n locals t e
end_is p r n locals t (rewriting.rewrites e0 st u) e h = absurd cc
end_is p r n locals t (rewriting.gives_value v) e h = let g : effects.Returned v ≡ e = cc in ap (by_effect p r n locals t) g
end_is p r n locals t (rewriting.refers_to q place) e h = let g : effects.Refused _ ≡ e = cc in ap (by_effect p r n locals t) g
end_is p r n locals t rewriting.ends e h = let g : effects.Returned _ ≡ e = cc in ap (by_effect p r n locals t) g
end_is p r n locals t (rewriting.leaves completions.Break) e h = let g : effects.Returned _ ≡ e = cc in ap (by_effect p r n locals t) g
end_is p r n locals t (rewriting.leaves completions.Continue) e h = let g : effects.Returned _ ≡ e = cc in ap (by_effect p r n locals t) g
end_is p r n locals t (rewriting.leaves (completions.Return v)) e h = let g : effects.Returned v ≡ e = cc in ap (by_effect p r n locals t) g
end_is p r n locals t (rewriting.leaves (completions.Throw v)) e h = let g : effects.Threw v ≡ e = cc in ap (by_effect p r n locals t) g
end_is p r n locals t rewriting.hole e h = absurd cc

module _ (p : Program) (m : Machine) (r : Realm) (es : List Frame) (lines : List (List ℕ)) (n : ℕ) (counts : (f : HostView) → activations_of (frames.Host f ∷ es) ≡ n) where
  -- the configuration with this term of the script at work
  abbrev at_term : Machine → State → HostTerm → Configuration
  at_term k st t = with_term k (with_heap st.heap r) (fold r.store es (host st.locals t)) lines

  -- what comes of an effect
  abbrev pub settled : Machine → HostEffect → State → HostTerm → Configuration
  settled k e st t = after p (at_term k st t) (in_entries r.store es (by_effect p (with_heap st.heap r) n st.locals t e))

  count : (locals : List (Option HostValue)) (t : HostTerm) (g : HostView) → activations_in (fold r.store es (host locals t)) ≡ n
  count locals t g = count_host r.store es g locals t ∙ counts g

  by_told : (st : State) (t : HostTerm) (e : HostEffect) (q : State) (u : HostTerm) → hosts.Told p.script st t e q u → by_host p (with_heap st.heap r) n (rewriting.rewrite p.script st t) ≡ by_effect p (with_heap q.heap r) n q.locals u e
  by_told st t e q u (inl h) = ap (by_host p (with_heap st.heap r) n) h
  by_told st t e q u (inr h) = end_is p (with_heap st.heap r) n q.locals u (rewriting.rewrite p.script st t) e h.0 ∙ ap (λ (x : State). by_effect p (with_heap x.heap r) n q.locals u e) (sym h.1)

  -- a rewriting that takes nothing and goes on, before others
  goes_first : (g : HostView) (st : State) (t : HostTerm) (q : State) (u : HostTerm) (end : Configuration) → rewriting.charge_of p.script t ≡ 0 → rewriting.rewrite p.script st t ≡ rewriting.rewrites effects.Went q u
      → Freely p (at_term m q u) end → Freely p (at_term m st t) end
  goes_first g st t q u end c h rest =
      free_first p m (with_heap st.heap r) r.store es (host st.locals t) lines n (goes (with_heap q.heap r) [] (host q.locals u)) (with_heap q.heap r) (host q.locals u) end tt c (count st.locals t g)
      (ap (by_host p (with_heap st.heap r) n) h)
      (subst (λ x. Freely p x end) (sym (ap (after p (with_term m (with_heap q.heap r) (host q.locals u) lines)) (entries_go r.store es (with_heap q.heap r) [] (host q.locals u)) ∙ went p m (with_heap q.heap r) (with_heap q.heap r) (fold r.store es (host q.locals u)) (host q.locals u) lines)) rest)

  freely_first : (g : HostView) (st : State) (t : HostTerm) (q : State) (u : HostTerm) (end : Configuration) → hosts.Freely p.script st t q u → Freely p (at_term m q u) end → Freely p (at_term m st t) end
  freely_first g st t q u end (hosts.here s st2 t2) rest = rest
  freely_first g st t q u end (hosts.freely s st0 t0 r0 u0 q0 w0 before c h) rest = freely_first g st t r0 u0 end before (goes_first g r0 u0 q0 w0 end c h rest)

  -- a step, after which an effect was told that takes nothing more
  free_told : (g : HostView) (st : State) (t : HostTerm) (e : HostEffect) (q : State) (u : HostTerm) (end : Configuration) → rewriting.charge_of p.script t ≡ 0 → hosts.Told p.script st t e q u
      → Freely p (settled m e q u) end → Freely p (at_term m st t) end
  free_told g st t e q u end c h rest =
      free_first p m (with_heap st.heap r) r.store es (host st.locals t) lines n (by_effect p (with_heap q.heap r) n q.locals u e) (with_heap q.heap r) (fold r.store es (host q.locals u)) end tt c (count st.locals t g)
      (by_told st t e q u h) rest

-- a step with its charge: its first rewriting may take of the budget
pub host_step : (p : Program) (m : Machine) (r : Realm) (es : List Frame) (lines : List (List ℕ)) (n : ℕ) (counts : (f : HostView) → activations_of (frames.Host f ∷ es) ≡ n) (g : HostView)
    → (st : State) (t : HostTerm) (e : HostEffect) (q : State) (u : HostTerm) (k : ℕ) (end : Configuration) → rewriting.charge_of p.script t ≡ k → k ≤ m.left → hosts.Makes p.script st t e q u
    → Freely p (settled p m r es lines n counts (paid k m) e q u) end → Freely p (next p (at_term p m r es lines n counts m st t)) end
host_step p m r es lines n counts g st t e q u k end c le (inl h) rest =
    subst (λ x. Freely p x end)
    (sym (next_within p m (with_heap st.heap r) r.store es (host st.locals t) lines k n (by_effect p (with_heap q.heap r) n q.locals u e) tt c le (count p m r es lines n counts st.locals t g) (by_told p m r es lines n counts st t e q u h) (with_heap q.heap r) (fold r.store es (host q.locals u)))) rest
host_step p m r es lines n counts g st t e q u k end c le (inr h) rest =
    let a = with_heap h.first_state.heap r in
    let w = host h.first_state.locals h.first_term in
    let first : next p (at_term p m r es lines n counts m st t) ≡ with_term (paid k m) a (fold r.store es w) lines =
    next_within p m (with_heap st.heap r) r.store es (host st.locals t) lines k n (goes a [] w) tt c le (count p m r es lines n counts st.locals t g) (ap (by_host p (with_heap st.heap r) n) h.first) a w
    ∙ ap (after p (with_term (paid k m) a w lines)) (entries_go r.store es a [] w) ∙ went p (paid k m) a a (fold r.store es w) w lines in
    subst (λ x. Freely p x end) (sym first)
    (freely_first p (paid k m) r es lines n counts g h.first_state h.first_term h.last_state h.last_term end h.between
    (free_told p (paid k m) r es lines n counts g h.last_state h.last_term e q u end h.free h.told rest))
