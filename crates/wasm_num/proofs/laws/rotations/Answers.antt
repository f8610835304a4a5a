use Rattle.wasm_num.proofs.LawLemmas.{left_then_right, right_then_left}
use Rattle.wasm_num.proofs.laws.rotations.Goals as goal

pub returns-clause-left_then_right : goal.returns-clause-left_then_right
returns-clause-left_then_right c = left_then_right

pub returns-clause-right_then_left : goal.returns-clause-right_then_left
returns-clause-right_then_left c = right_then_left
