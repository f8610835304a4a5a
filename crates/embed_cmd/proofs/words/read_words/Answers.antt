use Rattle.std.proofs.Common.{◌≡◌, IfOk, Some, sym, ap, subst, ◌∙◌}
use Rattle.std.specs.Option.{option_and_then}
use Rattle.embed_cmd.specs.Words.{texts_of}
use Rattle.embed_cmd.specs.Sorting.{command_of_sorted}
use Rattle.embed_cmd.proofs.Parted.{command_is}
use Rattle.embed_cmd.proofs.words.read_words.Goals as goal

pub returns-in-Some : goal.returns-in-Some
returns-in-Some c =
    subst (λ x. IfOk c.asked_by.result (λ asked. asked ≡ x)) (ap (λ s. option_and_then command_of_sorted s) (sym c.in-Some.is ∙ c.in_ok-sorted.ensures) ∙ command_is (texts_of c.args.words.now)) c.asked_by.ensures

pub returns-in-None : goal.returns-in-None
returns-in-None c = ap (λ s. option_and_then command_of_sorted s) (sym c.in-None.is ∙ c.in_ok-sorted.ensures) ∙ command_is (texts_of c.args.words.now)
