use Rattle.std.proofs.Common.{◌≡◌, ◌++◌, flat_map, take}
use Rattle.wasm_syntax.specs.Numbering.{nested_in}
use Rattle.wasm_valid.proofs.numbering.add_nested.Given as goal

abbrev pub invariant-loop-instr : goal.invariant-loop-instr
invariant-loop-instr l = l.pending.items ≡ l.fn.pending.items ++ flat_map nested_in (take l.instr-index l.code)
