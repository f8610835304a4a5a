use Rattle.wasm_num.specs.Integers.{integer_binary}
use Rattle.wasm_num.proofs.Digits.{and_is, or_is, xor_is}
use Rattle.wasm_num.proofs.int64.binary.Goals as goal

pub returns-in-And : goal.returns-in-And
unfolding integer_binary
returns-in-And c = let same = and_is 64 c.args.a c.args.b c.ranges.a.fits c.ranges.b.fits in rw c.in-And.is (cc)

pub returns-in-Or : goal.returns-in-Or
unfolding integer_binary
returns-in-Or c = let same = or_is 64 c.args.a c.args.b c.ranges.a.fits c.ranges.b.fits in rw c.in-Or.is (cc)

pub returns-in-Xor : goal.returns-in-Xor
unfolding integer_binary
returns-in-Xor c = let same = xor_is 64 c.args.a c.args.b c.ranges.a.fits c.ranges.b.fits in rw c.in-Xor.is (cc)
