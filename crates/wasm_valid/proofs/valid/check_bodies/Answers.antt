use Rattle.wasm_valid.proofs.ValidLaws.{first_found}
use Rattle.wasm_valid.proofs.valid.check_bodies.Goals as goal

pub returns-in-None : goal.returns-in-None
returns-in-None c =
    rw c.as_slice-funcs.ensures at (first_found c.args.«module».now c.as_slice-funcs.result.now c.loop-index.index c.index-funcs-index.result c.loop-index-test.true c.index-funcs-index.is
    (rw c.in-None.is at c.in_ok-height.ensures) c.loop-index.invariant.first c.loop-index.invariant.all)
