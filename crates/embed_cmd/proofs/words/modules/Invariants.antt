-- The modules so far, and the values that are left.
use Rattle.std.proofs.Common.{drop}
use Rattle.embed_cmd.proofs.Modules.{ModulesLeft}
use Rattle.embed_cmd.proofs.words.modules.Given as goal

abbrev pub invariant-loop-value : goal.invariant-loop-value
invariant-loop-value l = ModulesLeft l.values (drop l.value-index l.values) l.modules
