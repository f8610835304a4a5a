-- What is live: each object that a heap, a term or an effect names is one of the heap. Steps keep it so.
use Rattle.std.specs.Prelude.{ℕ, List, Option}
use Rattle.std.specs.List.{AllByRecursion}
use Rattle.std.specs.Option.{IfSome}
use Rattle.host_parser.specs.Trees.{Tree}
use Rattle.host_values.specs.Heaps.{IsLive, IsLiveValue, fresh_heap, with_binding, with_object}
use Rattle.host_values.specs.Members.{written}
use Rattle.host_values.specs.Objects.{HostObject, HostHeap}
use Rattle.host_values.specs.declared.classes.Target.{Target}
use Rattle.host_values.specs.declared.classes.Target.TheVariants as targets
use Rattle.host_values.specs.declared.keys.Key.{Key}
use Rattle.host_values.specs.declared.kinds.Kind.{Kind}
use Rattle.host_values.specs.declared.values.HostValue.{HostValue}
use Rattle.host_values.specs.declared.values.ObjId.{ObjId}
use Rattle.host_machine.specs.declared.completion.Completion.{Completion}
use Rattle.host_machine.specs.declared.completion.Completion.TheVariants as completions
use Rattle.host_machine.specs.declared.effect.HostEffect.{HostEffect}
use Rattle.host_machine.specs.declared.effect.HostEffect.TheVariants as effects
use Rattle.host_machine.specs.declared.focus.Focus.{Focus}
use Rattle.host_machine.specs.declared.focus.Focus.TheVariants as focus
use Rattle.host_machine.specs.declared.item.Item.{Item}
use Rattle.host_machine.specs.declared.item.Item.TheVariants as items
use Rattle.host_machine.specs.declared.reference.Base.{Base}
use Rattle.host_machine.specs.declared.reference.Base.TheVariants as bases
use Rattle.host_machine.specs.declared.reference.Callable.{Callable}
use Rattle.host_machine.specs.declared.reference.Callable.TheVariants as callables
use Rattle.host_machine.specs.declared.reference.Reference.{Reference}
use Rattle.host_machine.specs.declared.reference.Reference.TheVariants as references
use Rattle.host_machine.specs.Terms.{HostTerm, at, round, Frame, State, term_of}
use Rattle.host_machine.specs.Frames.{Makes, call_frame, supplied, thrown}
use Rattle.host_laws.specs.Changes.{Changes}

-- values, properties and bindings, of which an unset one has no value
abbrev pub AreLiveValues : HostHeap → List HostValue → Type 0
AreLiveValues h vs = AllByRecursion (IsLiveValue h) vs

abbrev pub AreLiveProperties : HostHeap → List (Key × HostValue) → Type 0
AreLiveProperties h ps = AllByRecursion (λ (p : Key × HostValue). IsLiveValue h p.1) ps

abbrev pub AreLiveBindings : HostHeap → List (Option HostValue) → Type 0
AreLiveBindings h bs = AllByRecursion (λ (b : Option HostValue). IfSome b (IsLiveValue h)) bs

-- a heap: its first object, `print`, is there, and its properties and bindings are live
pub record IsLiveHeap (h : HostHeap) : Type 0 where
  pub print : IsLive h (record { 0 = 0 })
  pub objects : AllByRecursion (λ (x : HostObject). AreLiveProperties h x.properties) h.objects
  pub bindings : AreLiveBindings h h.bindings

-- what a term runs on
pub record IsLiveState (st : State) : Type 0 where
  pub heap : IsLiveHeap st.heap
  pub locals : AreLiveBindings st.heap st.locals

abbrev pub IsLiveReference : HostHeap → Reference → Type 0
IsLiveReference h (references.Method o name) = IsLive h o
IsLiveReference h _ = Unit {0}

abbrev pub IsLiveBase : HostHeap → Base → Type 0
IsLiveBase h (bases.Value v) = IsLiveValue h v
IsLiveBase h (bases.Class class) = Unit {0}

abbrev pub IsLiveCallable : HostHeap → Callable → Type 0
IsLiveCallable h (callables.Value v) = IsLiveValue h v
IsLiveCallable h (callables.Reference r) = IsLiveReference h r

abbrev pub IsLiveCompletion : HostHeap → Completion → Type 0
IsLiveCompletion h (completions.Return v) = IsLiveValue h v
IsLiveCompletion h (completions.Throw v) = IsLiveValue h v
IsLiveCompletion h _ = Unit {0}

abbrev pub IsLiveItem : HostHeap → Item → Type 0
IsLiveItem h (items.AssignKey n base) = IsLiveBase h base
IsLiveItem h (items.AssignMember target base) = IsLiveBase h base
IsLiveItem h (items.AssignElement target base key) = IsLiveBase h base × IsLiveValue h key
IsLiveItem h (items.Right n k left) = IsLiveValue h left
IsLiveItem h (items.Elements n done) = AreLiveValues h done
IsLiveItem h (items.Property n k o) = IsLive h o
IsLiveItem h (items.IndexKey n base) = IsLiveBase h base
IsLiveItem h (items.Arguments n callee done) = IsLiveCallable h callee × AreLiveValues h done
IsLiveItem h _ = Unit {0}

abbrev pub IsLiveFocus : HostHeap → Focus → Type 0
IsLiveFocus h (focus.Calls n callee args) = IsLiveCallable h callee × AreLiveValues h args
IsLiveFocus h (focus.Value v) = IsLiveValue h v
IsLiveFocus h (focus.Refers r place) = IsLiveReference h r
IsLiveFocus h (focus.Leaves c) = IsLiveCompletion h c
IsLiveFocus h _ = Unit {0}

abbrev pub IsLiveTerm : HostHeap → HostTerm → Type 0
IsLiveTerm h (at f) = IsLiveFocus h f
IsLiveTerm h (round i t) = IsLiveItem h i × IsLiveTerm h t

abbrev pub IsLiveTarget : HostHeap → Target → Type 0
IsLiveTarget h (targets.Object o) = IsLive h o
IsLiveTarget h (targets.Builtin class) = Unit {0}

abbrev pub IsLiveEffect : HostHeap → HostEffect → Type 0
IsLiveEffect h (effects.Call o args) = IsLive h o × AreLiveValues h args
IsLiveEffect h (effects.New class args) = AreLiveValues h args
IsLiveEffect h (effects.Method target name args) = IsLiveTarget h target × AreLiveValues h args
IsLiveEffect h (effects.GetMember o key) = IsLive h o
IsLiveEffect h (effects.SetMember o key v) = IsLive h o × IsLiveValue h v
IsLiveEffect h (effects.Returned v) = IsLiveValue h v
IsLiveEffect h (effects.Threw v) = IsLiveValue h v
IsLiveEffect h _ = Unit {0}

-- the term that a step left, unless it is at its end
abbrev pub IsLiveUnlessEnded : HostHeap → HostEffect → HostTerm → Type 0
IsLiveUnlessEnded h (effects.Returned v) t = Unit {0}
IsLiveUnlessEnded h (effects.Threw v) t = Unit {0}
IsLiveUnlessEnded h (effects.Refused x) t = Unit {0}
IsLiveUnlessEnded h e t = IsLiveTerm h t

-- a step of what is live leaves it so, and its effect is live
abbrev pub StepsStayLive : Type 0
StepsStayLive = (s : Tree) (st : State) (t : HostTerm) (e : HostEffect) (r : State) (u : HostTerm) → Makes s st t e r u → IsLiveState st → IsLiveTerm st.heap t
    → IsLiveState r × IsLiveEffect r.heap e × IsLiveUnlessEnded r.heap e u

-- objects stay where the heap changes as steps change it
abbrev pub ObjectsStay : Type 0
ObjectsStay = (h g : HostHeap) → Changes h g → (o : ObjId) → IsLive h o → IsLive g o

-- what is live stays so in a heap that has the objects of an earlier one
abbrev pub LaterTermsAreLive : Type 0
LaterTermsAreLive = (h g : HostHeap) → ((o : ObjId) → IsLive h o → IsLive g o)
    → ((t : HostTerm) → IsLiveTerm h t → IsLiveTerm g t)
    × ((bs : List (Option HostValue)) → AreLiveBindings h bs → AreLiveBindings g bs)

-- a heap is live at the start
abbrev pub FreshHeapsAreLive : Type 0
FreshHeapsAreLive = (globals : ℕ) → IsLiveHeap (fresh_heap globals)

-- a live heap stays so where an object is made, a member is written or a binding is set with what is live
abbrev pub HeapsStayLive : Type 0
HeapsStayLive = (h : HostHeap) → IsLiveHeap h
    → ((k : Kind) (properties : List (Key × HostValue)) → AreLiveProperties h properties → IsLiveHeap (with_object h k properties))
    × ((o : HostValue) (k : Key) (v : HostValue) → IsLiveValue h v → IsLiveHeap (written h o k v))
    × ((n : ℕ) (v : HostValue) → IsLiveValue h v → IsLiveHeap (with_binding h n v))

-- a frame of a function that is called with live arguments is live
abbrev pub FramesBeginLive : Type 0
FramesBeginLive = (h : HostHeap) (s : Tree) (k : ℕ) (args : List HostValue) → AreLiveValues h args
    → IsLiveTerm h (term_of (call_frame s k args)) × AreLiveBindings h (call_frame s k args).locals

-- and so is one whose effect is answered by a live value
abbrev pub AnsweredFramesAreLive : Type 0
AnsweredFramesAreLive = (h : HostHeap) (f : Frame) (v : HostValue) → IsLiveTerm h (term_of f) → IsLiveValue h v
    → IsLiveTerm h (term_of (supplied v f)) × IsLiveTerm h (term_of (thrown v f))
