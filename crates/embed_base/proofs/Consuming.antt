-- What several reads consumed of known bytes.
use Rattle.std.proofs.Common.{ℕ, List, ◌++◌, Option, Some, None, sym, ap, ◌∙◌, append_assoc}
use Rattle.std.specs.Io.KnownBytes.{Consumes, Keeps}

pub consumed_more : (first middle last : Option (List ℕ)) → (a b : List ℕ) → Consumes first middle a → Consumes middle last b → Consumes first last (a ++ b)
consumed_more None middle last a b p q = p
consumed_more (Some xs) None last a b p q = absurd p
consumed_more (Some xs) (Some ys) None a b p q = absurd q
consumed_more (Some xs) (Some ys) (Some zs) a b p q = p ∙ ap (λ t. a ++ t) q ∙ sym (append_assoc a b zs)

pub consumed_no_more : (first middle last : Option (List ℕ)) → (a : List ℕ) → Consumes first middle a → Keeps middle last → Consumes first last a
consumed_no_more None middle last a p q = p
consumed_no_more (Some xs) None last a p q = absurd p
consumed_no_more (Some xs) (Some ys) None a p q = absurd q
consumed_no_more (Some xs) (Some ys) (Some zs) a p q = p ∙ ap (λ t. a ++ t) (sym q)
