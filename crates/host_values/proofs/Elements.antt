-- The elements of an Array have different indices.
use Rattle.std.proofs.Common.{◌≡◌, ℕ, ◌+◌, ◌<◌, nat_eq, false, List, [], ◌∷◌, arith}
use Rattle.std.specs.List.{AllByRecursion}
use Rattle.host_values.specs.Heaps.{HasDistinctKeys}
use Rattle.host_values.specs.Members.{elements_from}
use Rattle.host_values.specs.SameKeys.{same_key}
use Rattle.host_values.specs.declared.keys.Key.{Key}
use Rattle.host_values.specs.declared.keys.Key.TheVariants as keys
use Rattle.host_values.specs.declared.values.HostValue.{HostValue}

-- an index below those of other elements is none of theirs
below_apart : (i n : ℕ) (vs : List HostValue) → i < n → AllByRecursion (λ q. same_key (keys.Index i) q.0 ≡ false) (elements_from n vs)
below_apart i n [] h = tt
below_apart i n (v ∷ rest) h = (grind arith, below_apart i (n + 1) rest (omega (arith, h)))

pub elements_distinct : (n : ℕ) (vs : List HostValue) → HasDistinctKeys (elements_from n vs)
elements_distinct n [] = tt
elements_distinct n (v ∷ rest) = (below_apart n (n + 1) rest (omega arith), elements_distinct (n + 1) rest)
