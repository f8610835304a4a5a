-- A single argument.
use Rattle.std.proofs.Common.{◌≡◌, ℕ, ◌≤◌, ◌<◌, List, [], ◌∷◌, length, slice_index_or, sym, ap, ◌∙◌, arith}
use Rattle.host_values.specs.Heaps.{properties_at}
use Rattle.host_values.specs.Objects.{HostHeap}
use Rattle.host_values.specs.declared.values.HostValue.{HostValue}
use Rattle.host_values.specs.declared.values.ObjId.{ObjId}
use Rattle.host_builtins.specs.Calls.{push_of, pushed}

-- a list of one element is that element
one_argument : (args : List HostValue) (v : HostValue) → 1 ≤ length args → length args < 2 → v ≡ slice_index_or args 0 v → args ≡ v ∷ []
one_argument [] v low high e = absurd (omega (arith, low))
one_argument (x ∷ []) v low high e = ap (λ y. y ∷ []) (sym e)
one_argument (x ∷ y ∷ rest) v low high e = absurd (omega (arith, high))

pub pushed_one : (h : HostHeap) (o : ObjId) (args : List HostValue) (v : HostValue) (len : ℕ) → 1 ≤ length args → length args < 2 → v ≡ slice_index_or args 0 v
    → len ≡ length (properties_at h o) → pushed h o len v ≡ push_of h o args
pushed_one h o args v len low high e l = ap (λ n. pushed h o n v) l ∙ sym (ap (push_of h o) (one_argument args v low high e))
