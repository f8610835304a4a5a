-- Words that are sorted one after the other.
use Rattle.std.proofs.Common.{◌≡◌, ℕ, ◌+◌, ◌<◌, List, [], ◌∷◌, ◌++◌, Option, Some, None, length, drop, get_or, string_bytes, refl, ap, ◌∙◌, append-nil, String, Global}
use Rattle.std.proofs.lemmas.List.{drop_more}
use Rattle.std.proofs.Math.Seq.{drop-length}
use Rattle.std.specs.Option.{option_map}
use Rattle.embed_cmd.specs.declared.sorting.Sorted.{Sorted}
use Rattle.embed_cmd.specs.declared.sorting.Next.{Next}
use Rattle.embed_cmd.specs.declared.sorting.Next.TheVariants as nexts
use Rattle.embed_cmd.specs.Words.{texts_of}
use Rattle.embed_cmd.specs.Sorting.{sorted_of, joined, sorted_after}

abbrev nothing : Sorted
nothing = record { positional = []; steps = []; modules = [] }

nothing_first : (o : Option Sorted) → o ≡ option_map (joined nothing) o
nothing_first None = refl
nothing_first (Some s) = refl

-- no word is sorted yet
pub begun : (words : List (String Global)) → sorted_of (texts_of words) ≡ sorted_after nexts.Word nothing (texts_of words)
begun words = nothing_first (sorted_of (texts_of words))

nothing_last : (done : Sorted) → joined done nothing ≡ done
nothing_last done =
    ap (λ xs. record { positional = xs; steps = done.steps ++ []; modules = done.modules ++ [] }) (append-nil done.positional)
    ∙ ap (λ xs. record { positional = done.positional; steps = xs; modules = done.modules ++ [] }) (append-nil done.steps)
    ∙ ap (λ xs. record { positional = done.positional; steps = done.steps; modules = xs }) (append-nil done.modules)

-- the next word is the first of those that are left
pub next_word : (words : List (String Global)) (i : ℕ) (d : String Global) (next after : Next) (done more : Sorted) → i < length words
    → sorted_of (texts_of words) ≡ sorted_after next done (texts_of (drop i words))
    → ((rest : List (List ℕ)) → sorted_after next done (string_bytes (get_or words i d) ∷ rest) ≡ sorted_after after more rest)
    → sorted_of (texts_of words) ≡ sorted_after after more (texts_of (drop (i + 1) words))
next_word words i d next after done more within so_far takes =
    so_far ∙ ap (λ ws. sorted_after next done (texts_of ws)) (drop_more words i d within) ∙ takes (texts_of (drop (i + 1) words))

-- no word is left
pub all_sorted : (words : List (String Global)) (i : ℕ) (next : Next) (done : Sorted) → i ≡ length words
    → sorted_of (texts_of words) ≡ sorted_after next done (texts_of (drop i words)) → sorted_of (texts_of words) ≡ sorted_after next done []
all_sorted words i next done at_end so_far = so_far ∙ ap (λ ws. sorted_after next done (texts_of ws)) (ap (λ j. drop j words) at_end ∙ drop-length words)

pub sorted_done : (done : Sorted) → sorted_after nexts.Word done [] ≡ Some done
sorted_done done = ap (λ s. Some s) (nothing_last done)
