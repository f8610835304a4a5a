use Rattle.std.proofs.Common.{take}
use Rattle.std.specs.List.{list_any}
use Rattle.wasm_syntax.specs.Blocks.{block_of}
use Rattle.wasm_syntax.specs.declared.module.GlobalDef.{GlobalDef}
use Rattle.wasm_valid.specs.Spaces.{refers_to}
use Rattle.wasm_valid.specs.Views.{Marks}
use Rattle.wasm_valid.proofs.spaces.mark_globals.Given as goal

abbrev pub invariant-loop-global : goal.invariant-loop-global
invariant-loop-global l =
    Marks l.fn.flags l.flags (λ x. list_any (λ (g : GlobalDef). list_any (refers_to x) (block_of l.«module» g.init)) (take l.global-index l.globals))
