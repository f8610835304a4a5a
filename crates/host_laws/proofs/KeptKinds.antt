-- Kinds of objects where the heap changes as scripts change it.
use Rattle.std.proofs.Common.{◌≡◌, ◌⊎◌, inl, inr, ℕ, zero, suc, List, [], ◌∷◌, ◌++◌, Option, Some, slice_get, sym, subst, ◌∙◌}
use Rattle.std.specs.Option.{option_map}
use Rattle.host_values.specs.Heaps.{kind_at}
use Rattle.host_values.specs.Laws.{WritingKeepsKinds}
use Rattle.host_values.specs.Objects.{HostObject}
use Rattle.host_values.specs.declared.kinds.Kind.{Kind}
use Rattle.host_laws.specs.Changes as changes
use Rattle.host_laws.specs.Changes.{Changes, IsOwnKind, KindsStay, NewKindsAreOwn}

-- the kind of an object of a list
abbrev kind_in : List HostObject → ℕ → Option Kind
kind_in xs i = option_map (λ (x : HostObject). x.kind) (slice_get xs i)

-- after one was put at its end
kept_before : (xs ys : List HostObject) (i : ℕ) (k : Kind) → kind_in xs i ≡ Some k → kind_in (xs ++ ys) i ≡ Some k
kept_before [] ys i k e = absurd cc
kept_before (x ∷ xs) ys zero k e = e
kept_before (x ∷ xs) ys (suc i) k e = kept_before xs ys i k e

new_or_before : (xs : List HostObject) (y : HostObject) (i : ℕ) (k : Kind) → kind_in (xs ++ y ∷ []) i ≡ Some k → (kind_in xs i ≡ Some k) ⊎ (y.kind ≡ k)
new_or_before [] y zero k e = inr cc
new_or_before [] y (suc i) k e = absurd cc
new_or_before (x ∷ xs) y zero k e = inl e
new_or_before (x ∷ xs) y (suc i) k e = new_or_before xs y i k e

own_or_before : (before : Type 0) (j k : Kind) → IsOwnKind j → before ⊎ (j ≡ k) → before ⊎ IsOwnKind k
own_or_before before j k own (inl e) = inl e
own_or_before before j k own (inr e) = inr (subst IsOwnKind e own)

own_first : (first : Type 0) (own : Type 0) (between : Type 0) → (between → first ⊎ own) → between ⊎ own → first ⊎ own
own_first first own between f (inl e) = f e
own_first first own between f (inr e) = inr e

module _ (writing : WritingKeepsKinds) where
  pub kinds_stay : KindsStay
  kinds_stay h g (changes.nothing x) o k e = e
  kinds_stay h g (changes.made x j properties own) o k e = kept_before h.objects (record { kind = j; properties = properties } ∷ []) o.0 k e
  kinds_stay h g (changes.wrote x t key v) o k e = (writing h t key v o).1 ∙ e
  kinds_stay h g (changes.bound x n v) o k e = e
  kinds_stay h g (changes.through x between y a b) o k e = kinds_stay between g b o k (kinds_stay h between a o k e)

  pub new_kinds_are_own : NewKindsAreOwn
  new_kinds_are_own h g (changes.nothing x) o k e = inl e
  new_kinds_are_own h g (changes.made x j properties own) o k e =
      own_or_before (kind_at h o ≡ Some k) j k own (new_or_before h.objects (record { kind = j; properties = properties }) o.0 k e)
  new_kinds_are_own h g (changes.wrote x t key v) o k e = inl (sym (writing h t key v o).1 ∙ e)
  new_kinds_are_own h g (changes.bound x n v) o k e = inl e
  new_kinds_are_own h g (changes.through x between y a b) o k e =
      own_first (kind_at h o ≡ Some k) (IsOwnKind k) (kind_at between o ≡ Some k) (new_kinds_are_own h between a o k) (new_kinds_are_own between g b o k e)
