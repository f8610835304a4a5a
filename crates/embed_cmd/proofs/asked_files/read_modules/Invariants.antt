-- Each module so far could be read, and the files so far are those of the modules so far.
use Rattle.std.proofs.Common.{◌≡◌, ℕ, List, ◌≤◌, take}
use Rattle.embed_cmd.specs.Transcript.{module_files}
use Rattle.embed_cmd.specs.Headline.{AreReadableFiles}
use Rattle.embed_cmd.specs.AskedFiles.{AreFilesOf}
use Rattle.embed_cmd.proofs.asked_files.read_modules.Given as goal

abbrev pub invariant-loop-module : goal.invariant-loop-module
invariant-loop-module g l = record {
  contents : (name : List ℕ) → g.F.Files.content l.files name ≡ g.F.Files.content l.initial.files name;
  faults : g.F.Files.faults l.files ≡ g.F.Files.faults l.initial.files;
  failed : g.F.Files.failed l.files ≡ g.F.Files.failed l.initial.files;
  taken : g.F.Files.taken l.initial.files ≤ g.F.Files.taken l.files;
  named : AreFilesOf (g.F.Files.content l.initial.files) (take l.module-index l.modules) l.read.items;
  absent : (name : List ℕ) → g.F.Files.absent l.files name ≡ g.F.Files.absent l.initial.files name;
  readable : AreReadableFiles (g.F.Files.absent l.initial.files) (g.F.Files.content l.initial.files) (module_files (take l.module-index l.modules));
}
