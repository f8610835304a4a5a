use Rattle.std.proofs.Common.{◌∙◌, ◌-◌, ◌++◌, ap, sym, take, flat_map}
use Rattle.wasm_syntax.specs.declared.module.Elem.{Elem}
use Rattle.wasm_syntax.specs.Numbering.{offset_of}
use Rattle.wasm_valid.proofs.NumberLaws.{then_unfound, last_parts}
use Rattle.wasm_valid.proofs.numbering.found_elems.Goals as goal

pub returns-in-None : goal.returns-in-None
returns-in-None c =
    then_unfound c.args.«module».now c.args.from _ c.loop-at.left _
    (flat_map (λ (segment : Elem). offset_of segment.mode ++ segment.items) (take (c.loop-at.at - 1) c.args.elems.now))
    (offset_of c.index-elems-at.result.mode ++ c.index-elems-at.result.items) c.loop-at.invariant.leaves
    (last_parts (λ (segment : Elem). offset_of segment.mode ++ segment.items) c.args.elems.now c.loop-at.at c.index-elems-at.result c.loop-at-test.true c.loop-at.invariant.within
    ∙ ap (λ (segment : Elem). flat_map (λ (segment : Elem). offset_of segment.mode ++ segment.items) (take (c.loop-at.at - 1) c.args.elems.now) ++ (offset_of segment.mode ++ segment.items)) (sym c.index-elems-at.is))
    (rw c.in-None.is at c.in_ok-fewer.ensures)
