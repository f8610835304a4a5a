-- What is live stays so at each step.
use Rattle.std.proofs.Common.{◌≡◌, inl, inr, ℕ, List, [], ◌∷◌, map, Option, Some, None, slice_get, sym, subst}
use Rattle.std.specs.List.{AllByRecursion, range_with_len}
use Rattle.std.specs.Option.{IfSome, option_map_or, unwrap_or}
use Rattle.host_nodes.specs.declared.form.Function.{Function}
use Rattle.host_parser.specs.Trees.{Tree}
use Rattle.host_values.specs.Heaps.{IsLiveValue}
use Rattle.host_values.specs.Objects.{HostHeap}
use Rattle.host_values.specs.declared.values.HostValue.{HostValue}
use Rattle.host_values.specs.declared.values.HostValue.TheVariants as values
use Rattle.host_builtins.specs.Laws.{CallsAreSound, ConstructionsAreSound, MemberCallsAreSound, PushesAreSound}
use Rattle.host_machine.specs.declared.completion.Completion.{Completion}
use Rattle.host_machine.specs.declared.completion.Completion.TheVariants as completions
use Rattle.host_machine.specs.declared.effect.HostEffect.{HostEffect}
use Rattle.host_machine.specs.declared.effect.HostEffect.TheVariants as effects
use Rattle.host_machine.specs.declared.focus.Focus.{Focus}
use Rattle.host_machine.specs.declared.focus.Focus.TheVariants as focus
use Rattle.host_machine.specs.declared.item.Item.{Item}
use Rattle.host_machine.specs.declared.item.Item.TheVariants as items
use Rattle.host_machine.specs.declared.reference.Base.{Base}
use Rattle.host_machine.specs.declared.reference.Base.TheVariants as bases
use Rattle.host_machine.specs.declared.reference.Callable.{Callable}
use Rattle.host_machine.specs.declared.reference.Callable.TheVariants as callables
use Rattle.host_machine.specs.declared.reference.Reference.{Reference}
use Rattle.host_machine.specs.declared.reference.Reference.TheVariants as references
use Rattle.host_machine.specs.Terms.{HostTerm, at, round, close_items, State, Rewritten}
use Rattle.host_machine.specs.Nodes as nodes
use Rattle.host_machine.specs.Rewriting as rules
use Rattle.host_machine.specs.Rewriting.{Does, rewrites, gives_value, refers_to, ends, leaves, hole, does, rewrite}
use Rattle.host_machine.specs.Frames as frames
use Rattle.host_machine.specs.Frames.{Told, Freely, Later, end_of, function_frame, parameters}
use Rattle.host_laws.specs.Changes as changes
use Rattle.host_laws.specs.Changes.{Changes}
use Rattle.host_laws.specs.Live.{AnsweredFramesAreLive, AreLiveBindings, AreLiveValues, FramesBeginLive, IsLiveBase, IsLiveCallable, IsLiveCompletion, IsLiveEffect, IsLiveFocus, IsLiveItem, IsLiveReference, IsLiveState, IsLiveTerm, IsLiveUnlessEnded, LaterTermsAreLive, ObjectsStay, StepsStayLive}
use Rattle.host_laws.proofs.Changing.{KeptBy, rewritten}
use Rattle.host_laws.proofs.LiveHeaps.{Has, added_has, all_append, all_get, all_replicate, bindings_later, binding_has, value_later, values_later, written_has}
use Rattle.host_laws.proofs.LiveRules.{IsLiveRewritten, begun, called_or_constructed, declared, ended, left, referred, resumed, turned}

-- ---- later heaps

has : (h g : HostHeap) → Changes h g → Has h g
has h g (changes.nothing x) = λ o l. l
has h g (changes.made x k ps own) = added_has h k ps
has h g (changes.wrote x o k v) = written_has h o k v
has h g (changes.bound x n v) = binding_has h n v
has h g (changes.through x between y a b) = λ o l. has between g b o (has h between a o l)

pub objects_stay : ObjectsStay
objects_stay = has

reference_later : (h g : HostHeap) → Has h g → (r : Reference) → IsLiveReference h r → IsLiveReference g r
reference_later h g m (references.Method o name) l = m o l
reference_later h g m (references.Class class) l = tt
reference_later h g m (references.Function class name) l = tt

base_later : (h g : HostHeap) → Has h g → (b : Base) → IsLiveBase h b → IsLiveBase g b
base_later h g m (bases.Value v) l = value_later h g m v l
base_later h g m (bases.Class class) l = tt

callable_later : (h g : HostHeap) → Has h g → (c : Callable) → IsLiveCallable h c → IsLiveCallable g c
callable_later h g m (callables.Value v) l = value_later h g m v l
callable_later h g m (callables.Reference r) l = reference_later h g m r l

completion_later : (h g : HostHeap) → Has h g → (c : Completion) → IsLiveCompletion h c → IsLiveCompletion g c
completion_later h g m (completions.Return v) l = value_later h g m v l
completion_later h g m (completions.Throw v) l = value_later h g m v l
completion_later h g m completions.Break l = tt
completion_later h g m completions.Continue l = tt

item_later : (h g : HostHeap) → Has h g → (i : Item) → IsLiveItem h i → IsLiveItem g i
item_later h g m (items.AssignKey n base) l = base_later h g m base l
item_later h g m (items.AssignMember target base) l = base_later h g m base l
item_later h g m (items.AssignElement target base key) l = (base_later h g m base l.0, value_later h g m key l.1)
item_later h g m (items.Right n k left) l = value_later h g m left l
item_later h g m (items.Elements n done) l = values_later h g m done l
item_later h g m (items.Property n k o) l = m o l
item_later h g m (items.IndexKey n base) l = base_later h g m base l
item_later h g m (items.Arguments n callee done) l = (callable_later h g m callee l.0, values_later h g m done l.1)
item_later h g m i l = tt

focus_later : (h g : HostHeap) → Has h g → (f : Focus) → IsLiveFocus h f → IsLiveFocus g f
focus_later h g m (focus.Calls n callee args) l = (callable_later h g m callee l.0, values_later h g m args l.1)
focus_later h g m (focus.Value v) l = value_later h g m v l
focus_later h g m (focus.Refers r place) l = reference_later h g m r l
focus_later h g m (focus.Leaves c) l = completion_later h g m c l
focus_later h g m f l = tt

term_later : (h g : HostHeap) → Has h g → (t : HostTerm) → IsLiveTerm h t → IsLiveTerm g t
term_later h g m (at f) l = focus_later h g m f l
term_later h g m (round i t) l = (item_later h g m i l.0, term_later h g m t l.1)

pub later_terms_are_live : LaterTermsAreLive
later_terms_are_live h g m = (term_later h g m, bindings_later h g m)

-- ---- terms

close_live : (h : HostHeap) (is : List Item) (t : HostTerm) → AllByRecursion (IsLiveItem h) is → IsLiveTerm h t → IsLiveTerm h (close_items is t)
close_live h [] t a l = l
close_live h (i ∷ is) t a l = close_live h is (round i t) a.1 (a.0, l)

open_live : (h : HostHeap) (is : List Item) (t : HostTerm) → IsLiveTerm h (close_items is t) → AllByRecursion (IsLiveItem h) is × IsLiveTerm h t
open_live h [] t l = (tt, l)
open_live h (i ∷ is) t l = let r = open_live h is (round i t) l in ((r.1.0, r.0), r.1.1)

pub answered_frames_are_live : AnsweredFramesAreLive
answered_frames_are_live h f v l lv =
    let a = (open_live h f.items (at f.focus) l).0 in
    (close_live h f.items (at (focus.Value v)) a lv, close_live h f.items (at (focus.Leaves (completions.Throw v))) a lv)

argument_live : (h : HostHeap) (found : Option HostValue) → IfSome found (IsLiveValue h) → IsLiveValue h (unwrap_or found values.Undefined)
argument_live h None l = tt
argument_live h (Some v) l = l

arguments_live : (h : HostHeap) (args : List HostValue) (ks : List ℕ) → AreLiveValues h args
    → AreLiveBindings h (map (λ k. Some (unwrap_or (slice_get args k) values.Undefined)) ks)
arguments_live h args [] a = tt
arguments_live h args (k ∷ ks) a = (argument_live h (slice_get args k) (all_get (IsLiveValue h) args k a), arguments_live h args ks a)

function_live : (h : HostHeap) (s : Tree) (args : List HostValue) (found : Option Function) → AreLiveValues h args
    → let f = option_map_or (λ (f : Function). function_frame s f args) found (record { items = []; focus = focus.Done; locals = [] }) in
    IsLiveTerm h (close_items f.items (at f.focus)) × AreLiveBindings h f.locals
function_live h s args None a = (tt, tt)
function_live h s args (Some f) a = (
  (tt, tt),
  all_append (λ (b : Option HostValue). IfSome b (IsLiveValue h)) (parameters f.parameters args) _ (arguments_live h args (range_with_len 0 f.parameters) a)
      (all_replicate (λ (b : Option HostValue). IfSome b (IsLiveValue h)) _ None tt),
)

pub frames_begin_live : FramesBeginLive
frames_begin_live h s k args a = function_live h s args (slice_get s.functions k) a

-- ---- steps

-- what a term does is live
abbrev IsLiveDoes : State → Does → Type 0
IsLiveDoes st (rewrites e r u) = IsLiveState r × IsLiveEffect r.heap e × IsLiveTerm r.heap u
IsLiveDoes st (gives_value v) = IsLiveValue st.heap v
IsLiveDoes st (refers_to r place) = IsLiveReference st.heap r
IsLiveDoes st ends = Unit {0}
IsLiveDoes st (leaves c) = IsLiveCompletion st.heap c
IsLiveDoes st hole = Unit {0}

does_live : (st : State) (w : Rewritten) → IsLiveRewritten w → IsLiveDoes st (does w)
does_live st w l = (l.state, l.effect, close_live w.state.heap w.work.items (at w.work.focus) l.items l.focus)

-- an effect with which a step ends leaves no term
unless_ended : (h : HostHeap) (e : HostEffect) (u : HostTerm) → IsLiveTerm h u → IsLiveUnlessEnded h e u
unless_ended h (effects.Returned v) u l = tt
unless_ended h (effects.Threw v) u l = tt
unless_ended h (effects.Refused x) u l = tt
unless_ended h e u l = l

abbrev IsLiveAfter : State → HostEffect → HostTerm → Type 0
IsLiveAfter r e u = IsLiveState r × IsLiveEffect r.heap e × IsLiveUnlessEnded r.heap e u

end_after : (st : State) (d : Does) (u : HostTerm) → IsLiveState st → IsLiveDoes st d → IfSome (end_of d) (λ (e : HostEffect). IsLiveAfter st e u)
end_after st (rewrites e r t) u live l = tt
end_after st (gives_value v) u live l = (live, l, tt)
end_after st (refers_to r place) u live l = (live, tt, tt)
end_after st ends u live l = (live, tt, tt)
end_after st (leaves completions.Break) u live l = (live, tt, tt)
end_after st (leaves completions.Continue) u live l = (live, tt, tt)
end_after st (leaves (completions.Return v)) u live l = (live, l, tt)
end_after st (leaves (completions.Throw v)) u live l = (live, l, tt)
end_after st hole u live l = tt

end_live : (st : State) (d : Does) (e : HostEffect) (u : HostTerm) → IsLiveState st → IsLiveDoes st d → end_of d ≡ Some e → IsLiveAfter st e u
end_live st d e u live l is = subst (λ (o : Option HostEffect). IfSome o (λ (f : HostEffect). IsLiveAfter st f u)) is (end_after st d u live l)

module _ (calls : CallsAreSound) (constructions : ConstructionsAreSound) (member_calls : MemberCallsAreSound) (pushes : PushesAreSound) where
  at_work : (s : Tree) (st : State) (f : Focus) → IsLiveState st → IsLiveFocus st.heap f → IsLiveDoes st (rules.at_work s st f)
  at_work s st (focus.Begin n) live l = does_live st _ (begun s st n (nodes.form_at s n) live)
  at_work s st (focus.Declares n k) live l = does_live st _ (declared s st n k (slice_get (nodes.declarations_of (nodes.form_at s n)) k) live)
  at_work s st (focus.Turn n) live l = does_live st _ (turned st n (nodes.form_at s n) live)
  at_work s st (focus.Calls n callee args) live l =
      does_live st _ (called_or_constructed calls constructions member_calls pushes st callee args (nodes.place_at s n) (nodes.form_at s n) live l.0 l.1)
  at_work s st (focus.Value v) live l = l
  at_work s st (focus.Refers r place) live l = l
  at_work s st focus.Done live l = tt
  at_work s st (focus.Leaves c) live l = l
  at_work s st (focus.Waits place) live l = tt

  in_item : (s : Tree) (st : State) (i : Item) (d : Does) → KeptBy st d → IsLiveState st → IsLiveItem st.heap i → IsLiveDoes st d → IsLiveDoes st (rules.in_item s st i d)
  in_item s st i (rewrites e r u) kept live li l = (l.0, l.1, (item_later st.heap r.heap (has st.heap r.heap kept) i li, l.2))
  in_item s st i (gives_value v) kept live li l = does_live st _ (resumed s st i v live li l)
  in_item s st i (refers_to r place) kept live li l = does_live st _ (referred s st i r place live l)
  in_item s st i ends kept live li l = does_live st _ (ended s st i live)
  in_item s st i (leaves c) kept live li l = does_live st _ (left s st i c live l)
  in_item s st i hole kept live li l = tt

  rewritten_live : (s : Tree) (st : State) (t : HostTerm) → IsLiveState st → IsLiveTerm st.heap t → IsLiveDoes st (rewrite s st t)
  rewritten_live s st (at f) live l = at_work s st f live l
  rewritten_live s st (round i t) live l = in_item s st i (rewrite s st t) (rewritten s st t) live l.0 (rewritten_live s st t live l.1)

  one : (s : Tree) (st : State) (t : HostTerm) (e : HostEffect) (r : State) (u : HostTerm) → rewrite s st t ≡ rewrites e r u → IsLiveState st → IsLiveTerm st.heap t
      → IsLiveState r × IsLiveEffect r.heap e × IsLiveTerm r.heap u
  one s st t e r u is live l = subst (IsLiveDoes st) is (rewritten_live s st t live l)

  told : (s : Tree) (st : State) (t : HostTerm) (e : HostEffect) (r : State) (u : HostTerm) → Told s st t e r u → IsLiveState st → IsLiveTerm st.heap t → IsLiveAfter r e u
  told s st t e r u (inl is) live l = let a = one s st t e r u is live l in (a.0, a.1, unless_ended r.heap e u a.2)
  told s st t e r u (inr is) live l = subst (λ (x : State). IsLiveAfter x e u) (sym is.1) (end_live st (rewrite s st t) e u live (rewritten_live s st t live l) is.0)

  freely : (s : Tree) (st : State) (t : HostTerm) (r : State) (u : HostTerm) → Freely s st t r u → IsLiveState st → IsLiveTerm st.heap t → IsLiveState r × IsLiveTerm r.heap u
  freely s st t r u (frames.here s1 st1 t1) live l = (live, l)
  freely s st t r u (frames.freely s1 st1 t1 m x q w before free is) live l =
      let a = freely s st t m x before live l in
      let b = one s m x effects.Went r u is a.0 a.1 in
      (b.0, b.2)

  later : (s : Tree) (st : State) (t : HostTerm) (e : HostEffect) (r : State) (u : HostTerm) → Later s st t e r u → IsLiveState st → IsLiveTerm st.heap t → IsLiveAfter r e u
  later s st t e r u steps live l =
      let a = one s st t effects.Went steps.first_state steps.first_term steps.first live l in
      let b = freely s steps.first_state steps.first_term steps.last_state steps.last_term steps.between a.0 a.2 in
      told s steps.last_state steps.last_term e r u steps.told b.0 b.1

  pub steps_stay_live : StepsStayLive
  steps_stay_live s st t e r u (inl a) live l = told s st t e r u a live l
  steps_stay_live s st t e r u (inr a) live l = later s st t e r u a live l
