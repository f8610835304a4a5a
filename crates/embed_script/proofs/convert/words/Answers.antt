use Rattle.std.proofs.Common.{arith}
use Rattle.std.proofs.lemmas.Result.{err_from_is_err_and}
use Rattle.embed_script.specs.Ends.{at_place}
use Rattle.embed_script.specs.Functions.{words_of}
use Rattle.embed_script.proofs.Arguments.{next_word, end_of_words}
use Rattle.embed_script.proofs.convert.words.Goals as goal

pub returns-in_err-word : goal.returns-in_err-word
returns-in_err-word c =
    let p = err_from_is_err_and c.from_residual.result c.from_residual.ensures.1 in
    rw (p.1, p.2) (end_of_words c.args.place (at_place c.args.place (words_of c.args.count c.args.values.now)) c.args.values.now c.args.count c.loop-index.index c.loop-index.words.items c.in_err-word.field-0.0
    (omega arith) c.loop-index.invariant c.in_err-word.ensures)

pub loop-index-preserved : goal.loop-index-preserved
loop-index-preserved c =
    next_word c.args.place (at_place c.args.place (words_of c.args.count c.args.values.now)) c.args.values.now c.args.count c.loop-index.index c.loop-index.words.items c.push.new.self.items c.in_ok-word.word
    (omega arith) c.loop-index.invariant c.in_ok-word.ensures c.in_ok-push.ensures.items
