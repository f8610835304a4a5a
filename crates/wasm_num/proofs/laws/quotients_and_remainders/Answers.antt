use Rattle.wasm_num.proofs.LawLemmas.{unsigned_quotient_times_divisor, signed_quotient_times_divisor}
use Rattle.wasm_num.proofs.laws.quotients_and_remainders.Goals as goal

pub returns-clause-unsigned : goal.returns-clause-unsigned
returns-clause-unsigned c = unsigned_quotient_times_divisor

pub returns-clause-signed : goal.returns-clause-signed
returns-clause-signed c = signed_quotient_times_divisor
