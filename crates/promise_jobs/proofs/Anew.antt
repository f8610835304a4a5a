-- A new promise that is resolved at once.
use Rattle.std.proofs.Common.{◌≡◌, ℕ, zero, suc, List, [], ◌∷◌, ◌++◌, length, true, false, Option, Some, None, slice_get, refl, sym, ap, ◌∙◌, cond, append-nil, nat_eq}
use Rattle.std.proofs.lemmas.List.{length-append}
use Rattle.std.specs.Option.{option_map, option_map_or}
use Rattle.host_values.specs.Heaps.{IsLive, IsLiveValue, is_callable, is_function, kind_at, next_object, object_at, with_object}
use Rattle.host_values.specs.Members.{member_of, read_of}
use Rattle.host_values.specs.Objects.{HostHeap, HostObject}
use Rattle.host_values.specs.declared.answers.Got.{Got}
use Rattle.host_values.specs.declared.answers.Got.TheVariants as got
use Rattle.host_values.specs.declared.kinds.Kind.{Kind}
use Rattle.host_values.specs.declared.kinds.Kind.TheVariants as kinds
use Rattle.host_values.specs.declared.values.ObjId.{ObjId}
use Rattle.host_values.specs.declared.values.HostValue.{HostValue}
use Rattle.host_values.specs.declared.values.HostValue.TheVariants as values
use Rattle.promise_jobs.specs.declared.job.Settled.TheVariants as ends
use Rattle.promise_jobs.specs.declared.state.Pair.{Pair}
use Rattle.promise_jobs.specs.declared.state.State.TheVariants as states
use Rattle.promise_jobs.specs.declared.thenable.ThenMember.TheVariants as members
use Rattle.promise_jobs.specs.Records.{HostPromises}
use Rattle.promise_jobs.specs.Promises.{act, callable_in, is_itself, promise_in, promise_of, promise_resolve, promise_resolve_by, queue_thenable, resolve, resolve_by, resolve_from, settle, settle_from, then_in, then_key, then_of, with_fulfilled, with_promise, with_promise_object, with_waiting}
use Rattle.promise_jobs.proofs.Slots.{get_front, get_end, set_end}

-- ---- the heap with one object more, which is no function

one_more : (h : HostHeap) (k : Kind) (o : ObjId) → IsLive h o → object_at (with_object h k []) o ≡ object_at h o
one_more h k o live = get_front h.objects _ o.0 live

-- the object of a number that was free is no function
no_function : (objects : List HostObject) (x : HostObject) (i : ℕ) → is_function x.kind ≡ false
    → option_map_or is_function (option_map (λ (y : HostObject). y.kind) (slice_get (objects ++ x ∷ []) i)) false ≡ option_map_or is_function (option_map (λ (y : HostObject). y.kind) (slice_get objects i)) false
no_function [] x zero is = is
no_function [] x (suc i) is = refl
no_function (y ∷ ys) x zero is = refl
no_function (y ∷ ys) x (suc i) is = no_function ys x i is

same_callable : (h : HostHeap) (k : Kind) (v : HostValue) → is_function k ≡ false → is_callable (with_object h k []) v ≡ is_callable h v
same_callable h k (values.Object o) is = no_function h.objects (record { kind = k; properties = [] }) o.0 is
same_callable h k values.Undefined is = refl
same_callable h k values.Null is = refl
same_callable h k (values.Bool b) is = refl
same_callable h k (values.Number z) is = refl
same_callable h k (values.BigInt z) is = refl
same_callable h k (values.Text t) is = refl

same_callable_in : (h : HostHeap) (k : Kind) (g : Got) → is_function k ≡ false → callable_in (with_object h k []) g ≡ callable_in h g
same_callable_in h k (got.Value (values.Object f)) is = ap (λ b. cond b (members.Callable f) members.Absent) (same_callable h k (values.Object f) is)
same_callable_in h k (got.Value values.Undefined) is = refl
same_callable_in h k (got.Value values.Null) is = refl
same_callable_in h k (got.Value (values.Bool b)) is = refl
same_callable_in h k (got.Value (values.Number z)) is = refl
same_callable_in h k (got.Value (values.BigInt z)) is = refl
same_callable_in h k (got.Value (values.Text t)) is = refl
same_callable_in h k (got.Throw c) is = refl
same_callable_in h k (got.Outside c) is = refl
same_callable_in h k got.Interface is = refl

same_read : (h : HostHeap) (k : Kind) (o : ObjId) → IsLive h o → read_of (with_object h k []) (values.Object o) then_key ≡ read_of h (values.Object o) then_key
same_read h k o live = ap (λ x. option_map_or (λ (y : HostObject). member_of y.kind y.properties then_key) x got.Interface) (one_more h k o live)

same_property : (h : HostHeap) (k : Kind) (o : ObjId) → is_function k ≡ false → IsLive h o
    → callable_in (with_object h k []) (read_of (with_object h k []) (values.Object o) then_key) ≡ callable_in h (read_of h (values.Object o) then_key)
same_property h k o is live = ap (callable_in (with_object h k [])) (same_read h k o live) ∙ same_callable_in h k (read_of h (values.Object o) then_key) is

same_then_in : (h : HostHeap) (k : Kind) (o : ObjId) (kind : Kind) → is_function k ≡ false → IsLive h o → then_in (with_object h k []) (values.Object o) kind ≡ then_in h (values.Object o) kind
same_then_in h k o kinds.Plain is live = same_property h k o is live
same_then_in h k o kinds.Exports is live = same_property h k o is live
same_then_in h k o kinds.Array is live = refl
same_then_in h k o (kinds.Error c t) is live = refl
same_then_in h k o (kinds.Function c) is live = refl
same_then_in h k o (kinds.Promise p) is live = refl
same_then_in h k o (kinds.Buffer b) is live = refl
same_then_in h k o (kinds.View b f l) is live = refl
same_then_in h k o (kinds.Module a) is live = refl
same_then_in h k o (kinds.Instance e) is live = refl
same_then_in h k o (kinds.Memory a) is live = refl
same_then_in h k o (kinds.Table a) is live = refl
same_then_in h k o (kinds.Global a) is live = refl
same_then_in h k o (kinds.Suspending f) is live = refl

by_kind : (h : HostHeap) (k : Kind) (o : ObjId) (kind : Option Kind) → is_function k ≡ false → IsLive h o
    → option_map_or (then_in (with_object h k []) (values.Object o)) kind members.Absent ≡ option_map_or (then_in h (values.Object o)) kind members.Absent
by_kind h k o None is live = refl
by_kind h k o (Some kind) is live = same_then_in h k o kind is live

same_kind : (h : HostHeap) (k : Kind) (o : ObjId) → IsLive h o → kind_at (with_object h k []) o ≡ kind_at h o
same_kind h k o live = ap (λ x. option_map (λ (y : HostObject). y.kind) x) (one_more h k o live)

same_then : (h : HostHeap) (k : Kind) (v : HostValue) → is_function k ≡ false → IsLiveValue h v → then_of (with_object h k []) v ≡ then_of h v
same_then h k (values.Object o) is live =
    ap (λ x. option_map_or (then_in (with_object h k []) (values.Object o)) x members.Absent) (same_kind h k o live) ∙ by_kind h k o (kind_at h o) is live
same_then h k values.Undefined is live = refl
same_then h k values.Null is live = refl
same_then h k (values.Bool b) is live = refl
same_then h k (values.Number z) is live = refl
same_then h k (values.BigInt z) is live = refl
same_then h k (values.Text t) is live = refl

same_promise : (h : HostHeap) (k : Kind) (v : HostValue) → IsLiveValue h v → promise_of (with_object h k []) v ≡ promise_of h v
same_promise h k (values.Object o) live = ap (λ x. option_map_or promise_in x None) (same_kind h k o live)
same_promise h k values.Undefined live = refl
same_promise h k values.Null live = refl
same_promise h k (values.Bool b) live = refl
same_promise h k (values.Number z) live = refl
same_promise h k (values.BigInt z) live = refl
same_promise h k (values.Text t) live = refl

-- ---- the new promise

abbrev first_pair : HostPromises → Pair
first_pair ps = record { promise = length ps.promises; acted = false }

abbrev acting : HostPromises → HostPromises
acting ps = act (length ps.pairs) (first_pair ps) (with_promise ps)

not_itself : (h : HostHeap) (ps : HostPromises) (v : HostValue) → IsLiveValue h v → promise_of h v ≡ None → is_itself (with_promise_object h ps) (length ps.promises) v ≡ false
not_itself h ps v live is = ap (λ x. option_map_or (λ q. nat_eq q (length ps.promises)) x false) (same_promise h (kinds.Promise (length ps.promises)) v live ∙ is)

-- the value's `then` decides how the new promise is resolved
resolved_anew : (h : HostHeap) (v : HostValue) (ps : HostPromises) → IsLiveValue h v → promise_of h v ≡ None
    → resolve (with_promise_object h ps) (length ps.pairs) v (with_promise ps) ≡ resolve_by (then_of h v) (length ps.promises) v (acting ps)
resolved_anew h v ps live is =
    let g = with_promise_object h ps in
    let n = length ps.promises in
    ap (λ x. option_map_or (λ pair. resolve_from g (length ps.pairs) v pair (with_promise ps)) x (with_promise ps)) (get_end ps.pairs (first_pair ps))
    ∙ ap (λ b. cond b (settle n ends.Rejected (values.Object (next_object g)) (acting ps)) (resolve_by (then_of g v) n v (acting ps))) (not_itself h ps v live is)
    ∙ ap (λ found. resolve_by found n v (acting ps)) (same_then h (kinds.Promise n) v refl live)

promise_resolved : (h : HostHeap) (v : HostValue) (ps after : HostPromises) → IsLiveValue h v → promise_of h v ≡ None
    → resolve_by (then_of h v) (length ps.promises) v (acting ps) ≡ after → after ≡ promise_resolve h v ps
promise_resolved h v ps after live is made = sym made ∙ sym (resolved_anew h v ps live is) ∙ sym (ap (λ o. promise_resolve_by h v o ps) is)

acting_pairs : (ps : HostPromises) → (acting ps).pairs ≡ ps.pairs ++ record { promise = length ps.promises; acted = true } ∷ []
acting_pairs ps = set_end ps.pairs (first_pair ps) (record { promise = length ps.promises; acted = true })

fulfilled_anew : (v : HostValue) (ps : HostPromises) → resolve_by members.Absent (length ps.promises) v (acting ps) ≡ with_fulfilled v ps
fulfilled_anew v ps =
    ap (λ x. option_map_or (λ s. settle_from (length ps.promises) ends.Fulfilled v s (acting ps)) x (acting ps)) (get_end ps.promises (states.Pending []))
    ∙ rw (acting_pairs ps, set_end ps.promises (states.Pending []) (states.Settled ends.Fulfilled v), append-nil ps.jobs) refl

waiting_anew : (v : HostValue) (f : Option ObjId) (ps : HostPromises) → queue_thenable (length ps.promises) v f (acting ps) ≡ with_waiting v f ps
waiting_anew v f ps = rw (acting_pairs ps, length-append ps.pairs (record { promise = length ps.promises; acted = true } ∷ [])) refl

-- what the code makes is what resolving gives
pub fulfilled : (h : HostHeap) (v : HostValue) (ps : HostPromises) → IsLiveValue h v → promise_of h v ≡ None → then_of h v ≡ members.Absent → with_fulfilled v ps ≡ promise_resolve h v ps
fulfilled h v ps live is found = promise_resolved h v ps (with_fulfilled v ps) live is (ap (λ m. resolve_by m (length ps.promises) v (acting ps)) found ∙ fulfilled_anew v ps)

pub waiting_for_promise : (h : HostHeap) (v : HostValue) (ps : HostPromises) → IsLiveValue h v → promise_of h v ≡ None → then_of h v ≡ members.BuiltIn → with_waiting v None ps ≡ promise_resolve h v ps
waiting_for_promise h v ps live is found = promise_resolved h v ps (with_waiting v None ps) live is (ap (λ m. resolve_by m (length ps.promises) v (acting ps)) found ∙ waiting_anew v None ps)

pub waiting_for : (h : HostHeap) (v : HostValue) (f : ObjId) (ps : HostPromises) → IsLiveValue h v → promise_of h v ≡ None → then_of h v ≡ members.Callable f → with_waiting v (Some f) ps ≡ promise_resolve h v ps
waiting_for h v f ps live is found = promise_resolved h v ps (with_waiting v (Some f) ps) live is (ap (λ m. resolve_by m (length ps.promises) v (acting ps)) found ∙ waiting_anew v (Some f) ps)
