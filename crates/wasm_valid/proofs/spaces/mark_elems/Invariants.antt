use Rattle.std.proofs.Common.{take}
use Rattle.std.specs.List.{list_any}
use Rattle.wasm_syntax.specs.Blocks.{block_of}
use Rattle.wasm_syntax.specs.declared.module.Elem.{Elem}
use Rattle.wasm_valid.specs.Spaces.{refers_to}
use Rattle.wasm_valid.specs.Views.{Marks}
use Rattle.wasm_valid.proofs.spaces.mark_elems.Given as goal

abbrev pub invariant-loop-elem : goal.invariant-loop-elem
invariant-loop-elem l =
    Marks l.fn.flags l.flags (λ x. list_any (λ (segment : Elem). list_any (λ item. list_any (refers_to x) (block_of l.«module» item)) segment.items) (take l.elem-index l.elems))
