use Rattle.std.proofs.Common.{ap, ◌∙◌, [], ◌∷◌, ◌++◌, List}
use Rattle.host_values.specs.declared.values.HostValue.{HostValue}
use Rattle.iface_caches.specs.Caches.{place_of}
use Rattle.iface_caches.proofs.Indexed.{indexed_after}
use Rattle.iface_caches.proofs.externs.Externs.add.Goals as goal

pub invariant_of-self-2 : goal.invariant_of-self-2
invariant_of-self-2 c =
    indexed_after _ _ _ _ c.args.key _ c.in_ok-value.value c.self.invariant (ap (place_of c.args.key.value) c.self.view_is ∙ c.requires)
    (c.len-place.ensures ∙ c.self.inside.values.ok.0) c.in_ok-value.ensures.cases
    (c.push_reserved.ensures.items ∙ ap (λ (xs : List HostValue). xs ++ c.in_ok-value.value ∷ []) c.in_ok-reserve.ensures.items) c.in_ok-insert.ensures.updates.0
