-- The words that are left, after those that are sorted, give what all give.
use Rattle.std.proofs.Common.{◌≡◌, drop}
use Rattle.embed_cmd.specs.Words.{texts_of}
use Rattle.embed_cmd.specs.Sorting.{sorted_of, sorted_after}
use Rattle.embed_cmd.proofs.sorting.sort_words.Given as goal

abbrev pub invariant-loop-word : goal.invariant-loop-word
invariant-loop-word l = sorted_of (texts_of l.words) ≡ sorted_after l.next l.sorted (texts_of (drop l.word-index l.words))
