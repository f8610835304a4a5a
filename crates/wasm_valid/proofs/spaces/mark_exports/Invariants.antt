use Rattle.std.proofs.Common.{take}
use Rattle.std.specs.List.{list_any}
use Rattle.wasm_syntax.specs.declared.module.Export.{Export}
use Rattle.wasm_valid.specs.Spaces.{is_export_of}
use Rattle.wasm_valid.specs.Views.{Marks}
use Rattle.wasm_valid.proofs.spaces.mark_exports.Given as goal

abbrev pub invariant-loop-export : goal.invariant-loop-export
invariant-loop-export l = Marks l.fn.flags l.flags (λ x. list_any (λ (export : Export). is_export_of x export.desc) (take l.export-index l.exports))
