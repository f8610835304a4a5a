-- Private: the keys of the map that finds the addresses of values of the host.
use Rattle.std.specs.Prelude.{◌≡◌, ℕ, List}
use Rattle.std.specs.Ordering.{on, is_eq}
use Rattle.std.specs.declared.cmp.Ordering.{Ordering}
use Rattle.std.specs.Cmp.{IsTotalOrder}
use Rattle.std.specs.Map.{lookup}
use Rattle.std.proofs.lemmas.Cmp.{on_total}
use Rattle.host_values.specs.declared.values.HostValue.{HostValue}
use Rattle.iface_caches.specs.Caches.{AreDistinct, place_of}
use Rattle.iface_caches.specs.ValueOrder.{value_cmp, value_cmp_total}
use Rattle.iface_caches.specs.declared.extern_key.ExternKey.{ExternKey}

-- keys are ordered as their values
abbrev pub key_cmp : ExternKey → ExternKey → Ordering
key_cmp = on (λ k. k.value) value_cmp

pub key_cmp_total : IsTotalOrder key_cmp
key_cmp_total = on_total (λ k. k.value) value_cmp_total

-- the map has each value of the list at its place, and nothing else, and no two of them are strictly equal
pub record IsIndexed (entries : List (ExternKey × ℕ)) (externs : List HostValue) : Type 0 where
  pub places : (k : ExternKey) → lookup (λ q. is_eq (key_cmp k q)) entries ≡ place_of k.value externs
  pub distinct : AreDistinct externs
