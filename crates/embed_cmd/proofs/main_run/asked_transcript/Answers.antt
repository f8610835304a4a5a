use Rattle.std.proofs.Common.{subst, sym, ap, ◌∙◌}
use Rattle.embed_script.specs.ModuleFiles.{AreDecodings}
use Rattle.embed_cmd.specs.Transcript.{IsTheScriptTranscript, too_long, files_of}
use Rattle.embed_cmd.specs.Headline.{OnTooLongStatus, IsTooLongOf, UnlessTooLong, AreReadableFiles}
use Rattle.embed_cmd.proofs.Readings.{read_all, refused_file, text_ends, not_too_long, not_long}
use Rattle.embed_cmd.proofs.AskedReads.{none_long, first_of, long_cause}
use Rattle.embed_cmd.proofs.main_run.asked_transcript.Goals as goal

pub returns-in_ok-transcript-in-Ok-clause-exact : goal.returns-in_ok-transcript-in-Ok-clause-exact
returns-in_ok-transcript-in-Ok-clause-exact g c = λ told.
    read_all c.args.asked.now (g.F.Files.content c.args.files.now) c.in-Ok.read.script.items c.in-Ok.read.modules.items c.in_ok-transcript-in-Ok.transcript (none_long (g.F.Files.absent c.args.files.now) (g.F.Files.content c.args.files.now) (files_of c.args.asked.now) c.in-Ok.ensures.readable) told c.in-Ok.ensures.script
    c.in-Ok.ensures.modules c.decodes_once.ensures.total
    (λ modules decoded. subst (λ x. IsTheScriptTranscript modules c.args.asked.now.budget x c.in_ok-transcript-in-Ok.transcript) c.as_slice.ensures.value
    (c.in_ok-transcript-in-Ok.ensures.exact modules (subst (λ fs. AreDecodings fs modules) (sym c.as_slice-modules.ensures.value) decoded)))

pub returns-in_ok-transcript-in-Ok-clause-end : goal.returns-in_ok-transcript-in-Ok-clause-end
returns-in_ok-transcript-in-Ok-clause-end g c = text_ends c.in_ok-transcript-in-Ok.transcript.status c.in_ok-transcript-in-Ok.ensures.end

pub returns-in_ok-transcript-in-Ok-clause-too_long : goal.returns-in_ok-transcript-in-Ok-clause-too_long
returns-in_ok-transcript-in-Ok-clause-too_long g c = not_too_long c.in_ok-transcript-in-Ok.transcript.status _ c.in_ok-transcript-in-Ok.ensures.end

pub returns-in_ok-too_long-in-Err-TooLong-clause-exact : goal.returns-in_ok-too_long-in-Err-TooLong-clause-exact
returns-in_ok-too_long-in-Err-TooLong-clause-exact g c = λ told.
    let long = rw c.in-Err-TooLong.field-0-is at c.in-Err-TooLong.ensures.too_long in
    refused_file c.args.asked.now (g.F.Files.content c.args.files.now) c.in-Err-TooLong.path c.in_ok-too_long-in-Err-TooLong.field-0
    (first_of (g.F.Files.absent c.args.files.now) (g.F.Files.content c.args.files.now) (g.F.Files.taken c.args.files.now) (g.F.Files.taken c.read_asked.new.files) c.in-Err-TooLong.path (files_of c.args.asked.now) told long)
    (c.in_ok-too_long-in-Err-TooLong.ensures ∙ ap too_long c.as_str.ensures)

pub returns-in_ok-too_long-in-Err-TooLong-clause-too_long : goal.returns-in_ok-too_long-in-Err-TooLong-clause-too_long
returns-in_ok-too_long-in-Err-TooLong-clause-too_long g c =
    let long = rw c.in-Err-TooLong.field-0-is at c.in-Err-TooLong.ensures.too_long in
    let cause = long_cause (g.F.Files.absent c.args.files.now) (g.F.Files.content c.args.files.now) (g.F.Files.taken c.args.files.now) (g.F.Files.taken c.read_asked.new.files) c.in-Err-TooLong.path (files_of c.args.asked.now) long in
    subst (λ t. OnTooLongStatus t.status (IsTooLongOf (files_of c.args.asked.now) (g.F.Files.absent c.args.files.now) (g.F.Files.content c.args.files.now) (g.F.Files.taken c.args.files.now) (g.F.Files.taken c.read_asked.new.files))) (sym c.in_ok-too_long-in-Err-TooLong.ensures) cause

pub returns-in_ok-too_long-in-Err-TooLong-clause-readable : goal.returns-in_ok-too_long-in-Err-TooLong-clause-readable
returns-in_ok-too_long-in-Err-TooLong-clause-readable g c =
    subst (λ t. UnlessTooLong t.status (AreReadableFiles (g.F.Files.absent c.args.files.now) (g.F.Files.content c.args.files.now) (files_of c.args.asked.now))) (sym c.in_ok-too_long-in-Err-TooLong.ensures) tt

pub returns-in_ok-transcript-in-Ok-clause-readable : goal.returns-in_ok-transcript-in-Ok-clause-readable
returns-in_ok-transcript-in-Ok-clause-readable g c =
    not_long c.in_ok-transcript-in-Ok.transcript.status _ c.in-Ok.ensures.readable
