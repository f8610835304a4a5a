-- The functions so far, and those of the types and code entries that are left, are all.
use Rattle.std.proofs.Common.{◌≡◌, ◌++◌, drop, reverse}
use Rattle.wasm_grammar.specs.Module.{funcs_of}
use Rattle.wasm_grammar.proofs.decoder.joined.Given as goal

abbrev pub invariant-loop-ty : goal.invariant-loop-ty
invariant-loop-ty l = l.funcs ++ funcs_of (drop l.ty-index l.types) (reverse l.left) ≡ funcs_of l.types l.fn.codes
