-- What is found in the files that are left is what is found in all.
use Rattle.std.proofs.Common.{◌≡◌, drop}
use Rattle.embed_base.specs.Contents.{contents_of, content_of}
use Rattle.embed_base.proofs.memory_files.find.Given as goal

abbrev pub invariant-loop-file : goal.invariant-loop-file
invariant-loop-file l = content_of (contents_of (drop l.file-index l.files)) l.name ≡ content_of (contents_of l.files) l.name
