use Rattle.std.proofs.Common.{◌≡◌, false}
use Rattle.std.specs.Str.{bytes_eq}
use Rattle.embed_script.specs.Functions.{decoded_of}
use Rattle.embed_script.proofs.Loads.{first_file, file_passed}
use Rattle.embed_script.proofs.instances.file_named.Goals as goal

pub loop-file-preserved : goal.loop-file-preserved
loop-file-preserved c = λ modules decoded.
    let other : bytes_eq c.file-item.result.name c.args.name.now ≡ false = cc in
    file_passed c.file-item.result _ (decoded_of modules c.args.name.now) c.args.name.now
    (first_file c.args.files.now c.loop-file.file-index c.file-item.result (decoded_of modules c.args.name.now) c.args.name.now c.loop-file-test.true c.file-item.is (c.loop-file.invariant modules decoded)) other
