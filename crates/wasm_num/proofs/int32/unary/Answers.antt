use Rattle.std.proofs.Common.{ap, sym, ◌∙◌}
use Rattle.std.proofs.Math.Nat.{mod-eq_of_lt}
use Rattle.std.specs.Int.Count.{ones}
use Rattle.wasm_num.specs.Integers.{integer_unary}
use Rattle.wasm_num.proofs.Counts.{leading, trailing, set_digits}
use Rattle.wasm_num.proofs.int32.unary.Goals as goal

pub returns-in-Clz : goal.returns-in-Clz
unfolding integer_unary
returns-in-Clz c = rw c.in-Clz.is (sym (leading 32 c.args.a c.ranges.a.fits))

pub returns-in-Ctz : goal.returns-in-Ctz
unfolding integer_unary
returns-in-Ctz c = rw c.in-Ctz.is (sym (trailing 32 c.args.a))

pub returns-in-Popcnt : goal.returns-in-Popcnt
unfolding integer_unary
returns-in-Popcnt c = rw c.in-Popcnt.is (sym (set_digits 32 c.args.a ∙ ap ones (mod-eq_of_lt c.ranges.a.fits)))
