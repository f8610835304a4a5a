use Rattle.std.proofs.Common.{refl}
use Rattle.wasm_valid.proofs.NumberLaws.{numbered_is, unnumbered_is}
use Rattle.wasm_valid.proofs.numbering.has_numbering.Goals as goal

pub returns-in-Some : goal.returns-in-Some
returns-in-Some c = numbered_is c.args.«module».now c.in-Some.left _ (rw c.in-Some.is at c.in_ok-left.ensures) refl

pub returns-in-None : goal.returns-in-None
returns-in-None c = unnumbered_is c.args.«module».now (rw c.in-None.is at c.in_ok-left.ensures)
