-- The words so far, and those of the parameters that are left.
use Rattle.std.proofs.Common.{◌≡◌, ◌-◌, drop}
use Rattle.embed_script.specs.Ends.{at_place}
use Rattle.embed_script.specs.Functions.{words_of}
use Rattle.embed_script.proofs.Arguments.{after_words}
use Rattle.embed_script.proofs.convert.words.Given as goal

abbrev pub invariant-loop-index : goal.invariant-loop-index
invariant-loop-index l = at_place l.place (words_of l.count l.values) ≡ after_words l.words.items (at_place l.place (words_of (l.count - l.index) (drop l.index l.values)))
