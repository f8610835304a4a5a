use Rattle.std.proofs.Common.{◌∙◌, sym}
use Rattle.embed_cmd.specs.Words.{texts_of}
use Rattle.embed_cmd.proofs.Faults.{read_fault}
use Rattle.embed_cmd.proofs.main_run.command_transcript.Goals as goal

pub returns-in-Some-clause-read : goal.returns-in-Some-clause-read
returns-in-Some-clause-read g c =
    read_fault (texts_of c.args.words.now) (g.F.Files.absent c.args.files.now) (g.F.Files.content c.args.files.now) c.in-Some.asked (g.F.Files.faults c.args.files.now) (g.F.Files.faults c.asked_transcript.new.files) (g.F.Files.failed c.asked_transcript.new.files) c.asked_transcript.result
    (sym c.in_ok-read_words.ensures ∙ c.in-Some.is) c.asked_transcript.ensures.read_rose c.asked_transcript.ensures.read_named
