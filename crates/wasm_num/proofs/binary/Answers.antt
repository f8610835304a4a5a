use Rattle.wasm_num.proofs.Traps.{binary_divides_by_zero, binary_overflows, binary_no_other, binary_width}
use Rattle.wasm_num.proofs.binary.Goals as goal

pub returns-clause-width : goal.returns-clause-width
returns-clause-width c = rw c.binary_by_width.ensures (binary_width c.args.op c.args.a c.args.b)

pub returns-clause-divide_by_zero : goal.returns-clause-divide_by_zero
returns-clause-divide_by_zero c = rw c.binary_by_width.ensures (binary_divides_by_zero c.args.op c.args.a c.args.b)

pub returns-clause-overflow : goal.returns-clause-overflow
returns-clause-overflow c = rw c.binary_by_width.ensures (binary_overflows c.args.op c.args.a c.args.b c.requires)

pub returns-clause-no_other_trap : goal.returns-clause-no_other_trap
returns-clause-no_other_trap c = rw c.binary_by_width.ensures (binary_no_other c.args.op c.args.a c.args.b)
