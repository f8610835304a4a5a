use Rattle.std.proofs.Common.{take}
use Rattle.std.specs.List.{list_any}
use Rattle.wasm_valid.specs.Spaces.{refers_to}
use Rattle.wasm_valid.specs.Views.{Marks}
use Rattle.wasm_valid.proofs.spaces.mark_code.Given as goal

abbrev pub invariant-loop-instr : goal.invariant-loop-instr
invariant-loop-instr l = Marks l.fn.flags l.flags (λ x. list_any (refers_to x) (take l.instr-index l.code))
