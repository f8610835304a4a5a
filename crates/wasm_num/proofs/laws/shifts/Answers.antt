use Rattle.wasm_num.proofs.LawLemmas.{left_shift_multiplies, unsigned_shift_divides, signed_shift_divides}
use Rattle.wasm_num.proofs.laws.shifts.Goals as goal

pub returns-clause-left : goal.returns-clause-left
returns-clause-left c = left_shift_multiplies

pub returns-clause-unsigned_right : goal.returns-clause-unsigned_right
returns-clause-unsigned_right c = unsigned_shift_divides

pub returns-clause-signed_right : goal.returns-clause-signed_right
returns-clause-signed_right c = signed_shift_divides
