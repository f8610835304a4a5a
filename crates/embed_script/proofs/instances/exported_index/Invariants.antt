-- What is found in the exports that are left is what is found in all.
use Rattle.std.proofs.Common.{◌≡◌, drop}
use Rattle.embed_script.specs.Functions.{exported_index}
use Rattle.embed_script.proofs.instances.exported_index.Given as goal

abbrev pub invariant-loop-export : goal.invariant-loop-export
invariant-loop-export l = exported_index (drop l.export-index l.exports) l.name ≡ exported_index l.exports l.name
