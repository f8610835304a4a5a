use Rattle.std.proofs.Common.{◌≡◌, get_or, ap, ◌∙◌, arith, rules}
use Rattle.embed_cmd.specs.Transcript.{most_module_bytes}
use Rattle.embed_cmd.specs.Headline.{IsReadable}
use Rattle.embed_cmd.proofs.AskedReads.{module_file, long_in_modules, failed_in_modules, readable_same, readable_more}
use Rattle.embed_cmd.proofs.FilesOf.{next_file}
use Rattle.embed_cmd.proofs.asked_files.read_modules.Goals as goal

pub returns-in-Err-clause-too_long : goal.returns-in-Err-clause-too_long
returns-in-Err-clause-too_long g c =
    let is : c.as_str.result.now ≡ (get_or c.args.modules.now c.loop-module.module-index c.module-item.result).1 = c.as_str.ensures ∙ ap (λ m. m.1) c.module-item.is in
    long_in_modules (g.F.Files.absent c.args.files.now) (g.F.Files.absent c.loop-module.files) (g.F.Files.content c.args.files.now) (g.F.Files.content c.loop-module.files) c.loop-module.invariant.absent c.loop-module.invariant.contents
    c.in-Err.unread c.args.modules.now c.loop-module.module-index c.module-item.result c.as_str.result.now (g.F.Files.taken c.args.files.now) (g.F.Files.taken c.loop-module.files) (g.F.Files.taken c.read_file.new.files)
    c.loop-module-test.true c.loop-module.invariant.taken is c.loop-module.invariant.readable c.in-Err.ensures.too_long

pub returns-in-Err-clause-failed_named : goal.returns-in-Err-clause-failed_named
returns-in-Err-clause-failed_named g c =
    let is : c.as_str.result.now ≡ (get_or c.args.modules.now c.loop-module.module-index c.module-item.result).1 = c.as_str.ensures ∙ ap (λ m. m.1) c.module-item.is in
    failed_in_modules c.in-Err.unread (g.F.Files.failed c.read_file.new.files) (g.F.Files.absent c.args.files.now) (g.F.Files.content c.args.files.now) c.args.modules.now c.loop-module.module-index c.module-item.result c.as_str.result.now
    c.loop-module-test.true is c.loop-module.invariant.readable c.in-Err.ensures.failed_named

pub loop-module-preserved : goal.loop-module-preserved
loop-module-preserved g c =
    let told = g.F.Files.content c.args.files.now in
    let absent = g.F.Files.absent c.args.files.now in
    let modules = c.args.modules.now in
    let i = c.loop-module.module-index in
    let is : c.as_str.result.now ≡ (get_or modules i c.module-item.result).1 = c.as_str.ensures ∙ ap (λ m. m.1) c.module-item.is in
    let here : IsReadable absent told (record { path = c.as_str.result.now; limit = most_module_bytes })
    = readable_same absent (g.F.Files.absent c.loop-module.files) told (g.F.Files.content c.loop-module.files) c.loop-module.invariant.absent c.loop-module.invariant.contents c.as_str.result.now most_module_bytes c.in-Ok.ensures.there c.in-Ok.ensures.not_longer in
    record {
      contents = λ name. c.in-Ok.ensures.contents_stay name ∙ c.loop-module.invariant.contents name;
      faults = search rules;
      failed = c.in-Ok.ensures.failed_stays ∙ c.loop-module.invariant.failed;
      taken = omega (arith, c.in-Ok.ensures.taken_stays, c.loop-module.invariant.taken);
      named = next_file told (g.F.Files.content c.loop-module.files) modules i c.module-item.result c.loop-module.read.items c.push.new.self.items _ c.as_str-in-Ok.result.now c.as_str.result.now
          c.loop-module-test.true c.module-item.is c.loop-module.invariant.named c.loop-module.invariant.contents c.as_str-in-Ok.ensures c.as_str.ensures c.in_ok-name-in-Ok.ensures c.in-Ok.ensures.whole c.in_ok-push-in-Ok.ensures.items;
      absent = λ name. c.in-Ok.ensures.absent_stays name ∙ c.loop-module.invariant.absent name;
      readable = readable_more absent told modules i c.module-item.result c.loop-module-test.true c.loop-module.invariant.readable (rw is at here);
    }
