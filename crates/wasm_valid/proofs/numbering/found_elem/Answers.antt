use Rattle.wasm_valid.proofs.NumberLaws.{found_not, found_on}
use Rattle.wasm_valid.proofs.numbering.found_elem.Goals as goal

pub returns-in-Some : goal.returns-in-Some
returns-in-Some c = found_on c.args.«module».now c.args.from _ _ c.in-Some.left c.found_offset.result (rw (c.in-Some.is, c.as_slice.ensures) at c.in_ok-left.ensures) c.found_offset.ensures

pub returns-in-None : goal.returns-in-None
returns-in-None c = found_not c.args.«module».now c.args.from _ _ (rw (c.in-None.is, c.as_slice.ensures) at c.in_ok-left.ensures)
