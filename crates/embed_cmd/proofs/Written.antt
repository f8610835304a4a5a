-- What an output holds after one piece more.
use Rattle.std.proofs.Common.{◌≡◌, ℕ, ◌+◌, List, ◌++◌, Option, Some, None, take, drop, refl, sym, ap, ◌∙◌, append_assoc}
use Rattle.std.proofs.Math.Seq.{take-add}
use Rattle.std.specs.Option.{option_map}
use Rattle.embed_cmd.specs.Headline.{with_more}

more_in : (before : Option (List ℕ)) (first second : List ℕ) → option_map (λ b. b ++ second) (with_more before first) ≡ with_more before (first ++ second)
more_in (Some b) first second = ap (λ x. Some x) (append_assoc b first second)
more_in None first second = refl

pub more_written : (before now after : Option (List ℕ)) (bytes rest : List ℕ) (at size : ℕ) → now ≡ with_more before (take at bytes) → rest ≡ drop at bytes
    → after ≡ option_map (λ b. b ++ take size rest) now → after ≡ with_more before (take (at + size) bytes)
more_written before now after bytes rest at size first is second =
    second ∙ ap (λ r. option_map (λ b. b ++ take size r) now) is ∙ ap (λ o. option_map (λ b. b ++ take size (drop at bytes)) o) first
    ∙ more_in before (take at bytes) (take size (drop at bytes)) ∙ sym (ap (with_more before) (take-add at size bytes))
