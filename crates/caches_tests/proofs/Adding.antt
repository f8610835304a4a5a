-- Heap and caches after an object of no address was added, or refused.
use Rattle.std.proofs.Common.{◌≡◌, false, [], Result, Ok, Err, OnOk, OnErr, sym, subst}
use Rattle.host_values.specs.Objects.{HostHeap}
use Rattle.host_values.specs.Heaps.{with_object}
use Rattle.host_values.specs.declared.kinds.Kind.{Kind}
use Rattle.host_values.specs.declared.values.ObjId.{ObjId}
use Rattle.iface_caches.specs.Caches.{HostCaches}
use Rattle.iface_caches.specs.Agreement.{Agree}
use Rattle.iface_caches.specs.Whole.{is_cached_kind}
use Rattle.iface_caches.specs.Laws.{OtherObjectsAgree}

pub agree_after : {E : Type 0} (r : Result ObjId E) (h g : HostHeap) (c : HostCaches) (k : Kind) → OtherObjectsAgree → is_cached_kind k ≡ false → Agree h c
    → OnOk r (g ≡ with_object h k []) → OnErr r (g ≡ h) → Agree g c
agree_after (Ok o) h g c k law other agree ok err = subst (λ x. Agree x c) (sym ok) (law h c k [] other agree)
agree_after (Err e) h g c k law other agree ok err = subst (λ x. Agree x c) (sym err) agree
