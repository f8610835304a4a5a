-- The line so far has the shown forms so far.
use Rattle.std.proofs.Common.{◌≡◌, ◌++◌, take, string_bytes}
use Rattle.embed_script.specs.Outcome.{line_of}
use Rattle.embed_script.proofs.run.add_line.Given as goal

abbrev pub invariant-loop-index : goal.invariant-loop-index
invariant-loop-index l = string_bytes l.text ≡ string_bytes l.initial.text ++ line_of (take l.index l.values)
