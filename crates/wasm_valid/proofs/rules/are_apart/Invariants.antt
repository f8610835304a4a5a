use Rattle.std.proofs.Common.{◌≡◌, take, drop}
use Rattle.wasm_valid.specs.ModuleRules.{names_differ}
use Rattle.wasm_valid.proofs.NameLaws.{fresh, Knows}
use Rattle.wasm_valid.proofs.rules.are_apart.Given as goal

-- the set has the names so far, and those that are left are to differ from them and from each other
abbrev pub invariant-loop-export : goal.invariant-loop-export
invariant-loop-export l = record {
  left : names_differ l.exports ≡ fresh (take l.export-index l.exports) (drop l.export-index l.exports);
  known : Knows (take l.export-index l.exports) l.names.keys;
}
