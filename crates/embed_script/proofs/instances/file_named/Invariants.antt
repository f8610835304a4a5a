-- What is found in the files that are left is what is found in all.
use Rattle.std.proofs.Common.{drop}
use Rattle.embed_script.specs.Functions.{Modules, decoded_of}
use Rattle.embed_script.specs.ModuleFiles.{AreDecodings}
use Rattle.embed_script.proofs.Loads.{FilesLeft}
use Rattle.embed_script.proofs.instances.file_named.Given as goal

abbrev pub invariant-loop-file : goal.invariant-loop-file
invariant-loop-file l = (modules : Modules) → AreDecodings l.files modules → FilesLeft (drop l.file-index l.files) (decoded_of modules l.name) l.name
