-- What is found in the files that are left is what is found in all.
use Rattle.std.proofs.Common.{◌≡◌, drop}
use Rattle.iface_objects.specs.Modules.{file_named}
use Rattle.iface_objects.proofs.buffers.file_named.Given as goal

abbrev pub invariant-loop-file : goal.invariant-loop-file
invariant-loop-file l = file_named (drop l.file-index l.files) l.name ≡ file_named l.files l.name
