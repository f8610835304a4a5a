-- Lists that grow by one.
use Rattle.std.proofs.Common.{◌≡◌, ℕ, ◌+◌, List, [], ◌∷◌, ◌++◌, Option, Some, None, sym, ap, ◌∙◌, replicate, slice_get, arith}
use Rattle.std.specs.Option.{unwrap_or}
use Rattle.std.proofs.lemmas.List.{append_assoc}
use Rattle.std.proofs.lemmas.List.FromFn.{map-range_with_len_more}
use Rattle.std.proofs.lemmas.Grind.{replicate_next}
use Rattle.host_values.specs.Objects.{HostHeap}
use Rattle.host_values.specs.Shown.{shown_of}
use Rattle.host_values.specs.declared.values.HostValue.{HostValue}
use Rattle.host_values.specs.declared.values.HostValue.TheVariants as values
use Rattle.host_machine.specs.Calls.{line_after}
use Rattle.host_machine.specs.Frames.{parameters}

-- one more binding that is unset
pub unset_more : (xs ys : List (Option HostValue)) (n : ℕ) → ys ≡ xs ++ replicate n None → ys ++ None ∷ [] ≡ xs ++ replicate (n + 1) None
unset_more xs ys n e = ap (λ zs. zs ++ None ∷ []) e ∙ append_assoc xs (replicate n None) (None ∷ []) ∙ sym (ap (λ zs. xs ++ zs) (replicate_next n None))

-- one more parameter
pub parameters_more : (args : List HostValue) (ys : List (Option HostValue)) (n : ℕ) (v : HostValue) → v ≡ unwrap_or (slice_get args n) values.Undefined → ys ≡ parameters n args
    → ys ++ Some v ∷ [] ≡ parameters (n + 1) args
parameters_more args ys n v found e =
    ap (λ zs. zs ++ Some v ∷ []) e
    ∙ ap (λ o. parameters n args ++ Some o ∷ []) found
    ∙ sym (map-range_with_len_more (λ k. Some (unwrap_or (slice_get args k) values.Undefined)) 0 n n (omega arith))

-- one more value in a line
pub line_more : (h : HostHeap) (line : List ℕ) (v : HostValue) (rest : List HostValue)
    → ((line ++ 32 ∷ []) ++ shown_of h v) ++ line_after h rest ≡ line ++ line_after h (v ∷ rest)
line_more h line v rest =
    append_assoc (line ++ 32 ∷ []) (shown_of h v) (line_after h rest) ∙ append_assoc line (32 ∷ []) (shown_of h v ++ line_after h rest)
