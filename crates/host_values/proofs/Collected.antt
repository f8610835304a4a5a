-- Pairs with different keys, inserted one after the other.
use Rattle.std.proofs.Common.{◌≡◌, false, List, [], ◌∷◌, ◌++◌, refl, sym, ap, subst, ◌∙◌, append_assoc, append-nil}
use Rattle.std.specs.List.{AllByRecursion}
use Rattle.indexmap.specs.IndexMap.{insert_entry, insert_all}
use Rattle.host_values.specs.Heaps.{HasDistinctKeys}
use Rattle.host_values.specs.SameKeys.{same_key, same_key_equiv}
use Rattle.host_values.specs.declared.keys.Key.{Key}
use Rattle.host_values.specs.declared.values.HostValue.{HostValue}

abbrev pub Pairs : Type 0
Pairs = List (Key × HostValue)

-- what holds of all pairs holds of each
all_at : (P : Key × HostValue → Type 0) (earlier rest : Pairs) (p : Key × HostValue) → AllByRecursion P (earlier ++ p ∷ rest) → P p
all_at P [] rest p a = a.0
all_at P (e ∷ es) rest p a = all_at P es rest p a.1

-- a pair whose key differs from the earlier ones goes last
insert_last : (earlier rest : Pairs) (p : Key × HostValue) → HasDistinctKeys (earlier ++ p ∷ rest) → insert_entry same_key earlier p.0 p.1 ≡ earlier ++ p ∷ []
insert_last [] rest p d = refl
insert_last (e ∷ es) rest p d =
    let apart : same_key p.0 e.0 ≡ false = same_key_equiv.symm p.0 e.0 ∙ all_at (λ q. same_key e.0 q.0 ≡ false) es rest p d.0 in
    rw apart (ap (λ xs. e ∷ xs) (insert_last es rest p d.1))

-- so pairs with different keys come to stand in their order
insert_rest : (earlier rest : Pairs) → HasDistinctKeys (earlier ++ rest) → insert_all same_key earlier rest ≡ earlier ++ rest
insert_rest earlier [] d = sym (append-nil earlier)
insert_rest earlier (p ∷ rest) d =
    let regrouped : (earlier ++ p ∷ []) ++ rest ≡ earlier ++ p ∷ rest = append_assoc earlier (p ∷ []) rest in
    ap (λ es. insert_all same_key es rest) (insert_last earlier rest p d)
    ∙ insert_rest (earlier ++ p ∷ []) rest (subst HasDistinctKeys (sym regrouped) d)
    ∙ regrouped

pub collected : (pairs : Pairs) → HasDistinctKeys pairs → insert_all same_key [] pairs ≡ pairs
collected pairs d = insert_rest [] pairs d
