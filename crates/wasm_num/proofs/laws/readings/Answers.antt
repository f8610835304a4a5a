use Rattle.wasm_num.proofs.LawLemmas.{digits_tell_number, reading_tells_number}
use Rattle.wasm_num.proofs.laws.readings.Goals as goal

pub returns-clause-digits : goal.returns-clause-digits
returns-clause-digits c = digits_tell_number

pub returns-clause-signed : goal.returns-clause-signed
returns-clause-signed c = reading_tells_number
