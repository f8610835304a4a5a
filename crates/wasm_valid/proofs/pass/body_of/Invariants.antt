use Rattle.wasm_valid.specs.Places.{Reached, start_of, frame_of, left_work, place_of}
use Rattle.wasm_valid.proofs.pass.body_of.Given as goal

-- what is left tells what the whole body does
abbrev pub invariant-loop-pass : goal.invariant-loop-pass
invariant-loop-pass l = Reached l.«module» (frame_of l.«module» l.locals l.ty) (start_of l.fn.body l.ty) (place_of l.pass.operands l.pass.opens) l.pass.highest

abbrev pub decreases-loop-pass : goal.decreases-loop-pass
decreases-loop-pass l = left_work l.«module» (place_of l.pass.operands l.pass.opens)
