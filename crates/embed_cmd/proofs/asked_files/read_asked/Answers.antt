use Rattle.std.proofs.Common.{subst}
use Rattle.embed_cmd.specs.Transcript.{module_files}
use Rattle.embed_cmd.specs.Headline.{AreReadableFiles}
use Rattle.embed_cmd.proofs.AskedReads.{script_readable, long_behind_script, failed_behind_script, long_script, all_same}
use Rattle.embed_cmd.proofs.asked_files.read_asked.Goals as goal

pub returns-in-Err-read_modules-clause-too_long : goal.returns-in-Err-read_modules-clause-too_long
returns-in-Err-read_modules-clause-too_long g c =
    let script = script_readable (g.F.Files.absent c.args.files.now) (g.F.Files.content c.args.files.now) c.args.asked.now c.as_str.result.now c.as_str.ensures c.in-Ok.ensures.there c.in-Ok.ensures.not_longer in
    long_behind_script (g.F.Files.absent c.args.files.now) (g.F.Files.absent c.read_file.new.files) (g.F.Files.content c.args.files.now) (g.F.Files.content c.read_file.new.files) c.in-Ok.ensures.absent_stays c.in-Ok.ensures.contents_stay
    c.in-Err-read_modules.unread c.args.asked.now c.as_slice.result.now (g.F.Files.taken c.args.files.now) (g.F.Files.taken c.read_file.new.files) (g.F.Files.taken c.read_modules.new.files) c.as_slice.ensures c.in-Ok.ensures.taken_stays
    script c.in-Err-read_modules.ensures.too_long

pub returns-in-Err-read_modules-clause-failed_named : goal.returns-in-Err-read_modules-clause-failed_named
returns-in-Err-read_modules-clause-failed_named g c =
    let script = script_readable (g.F.Files.absent c.args.files.now) (g.F.Files.content c.args.files.now) c.args.asked.now c.as_str.result.now c.as_str.ensures c.in-Ok.ensures.there c.in-Ok.ensures.not_longer in
    failed_behind_script (g.F.Files.absent c.args.files.now) (g.F.Files.absent c.read_file.new.files) (g.F.Files.content c.args.files.now) (g.F.Files.content c.read_file.new.files) c.in-Ok.ensures.absent_stays c.in-Ok.ensures.contents_stay
    c.in-Err-read_modules.unread (g.F.Files.failed c.read_modules.new.files) c.args.asked.now c.as_slice.result.now c.as_slice.ensures script c.in-Err-read_modules.ensures.failed_named

pub returns-in-Err-clause-too_long : goal.returns-in-Err-clause-too_long
returns-in-Err-clause-too_long g c =
    long_script c.in-Err.unread (g.F.Files.absent c.args.files.now) (g.F.Files.content c.args.files.now) c.args.asked.now c.as_str.result.now (g.F.Files.taken c.args.files.now) (g.F.Files.taken c.read_file.new.files)
    c.as_str.ensures c.in-Err.ensures.too_long

pub returns-in-Ok-read_modules-clause-readable : goal.returns-in-Ok-read_modules-clause-readable
returns-in-Ok-read_modules-clause-readable g c =
    let absent = g.F.Files.absent c.args.files.now in
    let told = g.F.Files.content c.args.files.now in
    let script = script_readable absent told c.args.asked.now c.as_str.result.now c.as_str.ensures c.in-Ok.ensures.there c.in-Ok.ensures.not_longer in
    let modules = all_same absent (g.F.Files.absent c.read_file.new.files) told (g.F.Files.content c.read_file.new.files) c.in-Ok.ensures.absent_stays c.in-Ok.ensures.contents_stay (module_files c.as_slice.result.now) c.in-Ok-read_modules.ensures.readable in
    (script, subst (λ ms. AreReadableFiles absent told (module_files ms)) c.as_slice.ensures modules)
