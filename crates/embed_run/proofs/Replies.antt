-- What replies make of a machine.
use Rattle.std.proofs.Common.{◌≡◌, ℕ, ◌≤◌, ◌<◌, List, [], ◌∷◌, ◌++◌, refl, sym, ap, ◌∙◌, subst, arith, Option, Some, None}
use Rattle.embed_base.specs.declared.outside.Outside.{Outside}
use Rattle.embed_base.specs.declared.outside.OutsideKind.{OutsideKind}
use Rattle.embed_base.specs.declared.outside.Place.TheVariants as places
use Rattle.host_values.specs.declared.values.HostValue.{HostValue}
use Rattle.host_machine.specs.declared.completion.Completion.TheVariants as completions
use Rattle.host_machine.specs.declared.focus.Focus.{Focus}
use Rattle.host_machine.specs.declared.focus.Focus.TheVariants as focus
use Rattle.host_machine.specs.Frames.{answered, supplied, thrown as thrown_frame, place_of}
use Rattle.host_machine.specs.Terms.{Frame as HostView, term_of as host_term_of}
use Rattle.iface_objects.specs.declared.realm.Realm.{Realm}
use Rattle.jspi_stacks.specs.declared.frame.Frame.{Frame}
use Rattle.jspi_stacks.specs.declared.frame.Frame.TheVariants as frames
use Rattle.jspi_stacks.specs.Stacks.{Supplied, Thrown}
use Rattle.jspi_stacks.specs.Whole.{Whole, host, around, host_round, fold, whole_of}
use Rattle.wasm_store.specs.Store.{Store}
use Rattle.embed_run.specs.declared.end.End.TheVariants as ends
use Rattle.embed_run.specs.declared.end.Turn.TheVariants as turns
use Rattle.embed_run.specs.declared.machine.Machine.{Machine}
use Rattle.embed_run.specs.Configurations.{Program, Configuration}
use Rattle.embed_run.specs.Calls.{Reply, value, exception, refusal, begins}
use Rattle.embed_run.specs.Rules.{Does, goes, refuses, replied, filled, place_in, refused, after}
use Rattle.embed_run.specs.Outcomes.{Freely}
use Rattle.embed_run.specs.Worlds.{configuration_of, IsOf, AreWaiting}
use Rattle.embed_run.specs.Answering.{in_entries, Shows, ShowsReply}
use Rattle.embed_run.proofs.Folding.{entries_go, entries_refuse}
use Rattle.embed_run.proofs.Terms.{filled_frame, place_frame}
use Rattle.embed_run.proofs.Nexts.{with_term, freely_is, went}

-- frames of the script alone don't look at the store
pub fold_waiting : (s q : Store) (es : List Frame) (w : Whole) → AreWaiting es → fold s es w ≡ fold q es w
fold_waiting s q [] w h = refl
fold_waiting s q (frames.Host f ∷ es) w h = fold_waiting s q es (around (host_round f.locals (host_term_of f)) w) h.1
fold_waiting s q (frames.Wasm v ∷ es) w h = absurd h
fold_waiting s q (frames.Mark m ∷ es) w h = absurd h

pub entries_waiting : (s q : Store) (es : List Frame) (d : Does) → AreWaiting es → in_entries s es d ≡ in_entries q es d
entries_waiting s q [] d h = refl
entries_waiting s q (frames.Host f ∷ es) d h = entries_waiting s q es _ h.1
entries_waiting s q (frames.Wasm v ∷ es) d h = absurd h
entries_waiting s q (frames.Mark m ∷ es) d h = absurd h

-- a rewriting that goes on, and nothing after it
pub shows_went : (m : Machine) (r : Realm) (st : List Frame) (d : Program → Does) (w : Whole) → ((p : Program) → d p ≡ goes r [] w) → whole_of r.store st ≡ w → Shows m d turns.Went (record m { realm = r; stack = st })
shows_went m r st d w e h p o lines =
    freely_is p _ _ (ap (after p (configuration_of m None lines)) (e p) ∙ went p m r m.realm w (whole_of m.realm.store m.stack) lines ∙ ap (λ x. with_term m r x lines) (sym h))

-- a refusal
pub shows_refused : (m : Machine) (r : Realm) (o : Outside) (d : Program → Does) → ((p : Program) → d p ≡ refuses r o) → Shows m d (turns.Ended (ends.Refused o)) (record m { realm = r; stack = [] })
shows_refused m r o d e p q lines = freely_is p _ _ (ap (after p (configuration_of m None lines)) (e p))

module _ (m : Machine) (f : HostView) (es : List Frame) where
  abbrev whole : Machine
  whole = record m { stack = frames.Host f ∷ es }

  answers : (g : Focus) (d : Program → Does) → ((p : Program) → d p ≡ in_entries m.realm.store es (goes m.realm [] (host f.locals (filled g (host_term_of f))))) → Shows whole d turns.Went (record m { stack = frames.Host (answered g f) ∷ es })
  answers g d e =
      shows_went whole m.realm (frames.Host (answered g f) ∷ es) d (fold m.realm.store es (host f.locals (filled g (host_term_of f))))
      (λ p. e p ∙ entries_go m.realm.store es m.realm [] (host f.locals (filled g (host_term_of f)))) (ap (λ t. fold m.realm.store es (host f.locals t)) (sym (filled_frame g f)))

  refuses_here : (kind : OutsideKind) (place : Option ℕ) (o : Outside) → refused m.realm kind (place_of f.focus) place ≡ refuses m.realm o
      → Shows whole (λ p. in_entries m.realm.store es (replied f.locals (host_term_of f) (refusal m.realm kind place))) (turns.Ended (ends.Refused o)) (record m { stack = [] })
  refuses_here kind place o e =
      shows_refused whole m.realm o _
      (λ p. ap (in_entries m.realm.store es) (ap (λ n. refused m.realm kind n place) (place_frame f) ∙ e) ∙ entries_refuse m.realm.store es m.realm o)

supplied_at : (m : Machine) (st st' : List Frame) (v : HostValue) → Supplied v st st' → ShowsReply (record m { stack = st }) (value m.realm v) turns.Went (record m { stack = st' })
supplied_at m [] st' v h = absurd h
supplied_at m (frames.Wasm w ∷ es) st' v h = absurd h
supplied_at m (frames.Mark k ∷ es) st' v h = absurd h
supplied_at m (frames.Host f ∷ es) st' v h =
    subst (λ x. ShowsReply (record m { stack = frames.Host f ∷ es }) (value m.realm v) turns.Went (record m { stack = x })) (sym h) (answers m f es (focus.Value v) _ (λ p. refl))

pub supplied_shows : (m : Machine) (st' : List Frame) (v : HostValue) → Supplied v m.stack st' → ShowsReply m (value m.realm v) turns.Went (record m { stack = st' })
supplied_shows m st' v h = supplied_at m m.stack st' v h

thrown_at : (m : Machine) (st st' : List Frame) (v : HostValue) → Thrown v st st' → ShowsReply (record m { stack = st }) (exception m.realm v) turns.Went (record m { stack = st' })
thrown_at m [] st' v h = absurd h
thrown_at m (frames.Wasm w ∷ es) st' v h = absurd h
thrown_at m (frames.Mark k ∷ es) st' v h = absurd h
thrown_at m (frames.Host f ∷ es) st' v h =
    subst (λ x. ShowsReply (record m { stack = frames.Host f ∷ es }) (exception m.realm v) turns.Went (record m { stack = x })) (sym h) (answers m f es (focus.Leaves (completions.Throw v)) _ (λ p. refl))

pub thrown_shows : (m : Machine) (st' : List Frame) (v : HostValue) → Thrown v m.stack st' → ShowsReply m (exception m.realm v) turns.Went (record m { stack = st' })
thrown_shows m st' v h = thrown_at m m.stack st' v h
