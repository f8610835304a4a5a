use Rattle.std.proofs.Common.{lit<}
use Rattle.wasm_num.specs.Integers.{integer_binary}
use Rattle.wasm_num.proofs.Digits.{and_is, or_is, xor_is}
use Rattle.wasm_num.proofs.Shifts.{ishl_is, ishr_u_is, irotl_is, irotr_is}
use Rattle.wasm_num.proofs.int32.binary.Goals as goal

pub returns-in-And : goal.returns-in-And
unfolding integer_binary
returns-in-And c = let same = and_is 32 c.args.a c.args.b c.ranges.a.fits c.ranges.b.fits in rw c.in-And.is (cc)

pub returns-in-Or : goal.returns-in-Or
unfolding integer_binary
returns-in-Or c = let same = or_is 32 c.args.a c.args.b c.ranges.a.fits c.ranges.b.fits in rw c.in-Or.is (cc)

pub returns-in-Xor : goal.returns-in-Xor
unfolding integer_binary
returns-in-Xor c = let same = xor_is 32 c.args.a c.args.b c.ranges.a.fits c.ranges.b.fits in rw c.in-Xor.is (cc)

pub returns-in-Shl : goal.returns-in-Shl
unfolding integer_binary
returns-in-Shl c = let same = ishl_is 32 c.args.a c.args.b (lit< tt) in rw c.in-Shl.is (cc)

pub returns-in-ShrU : goal.returns-in-ShrU
unfolding integer_binary
returns-in-ShrU c = let same = ishr_u_is 32 c.args.a c.args.b (lit< tt) c.ranges.a.fits in rw c.in-ShrU.is (cc)

pub returns-in-Rotl : goal.returns-in-Rotl
unfolding integer_binary
returns-in-Rotl c = let same = irotl_is 32 c.args.a c.args.b (lit< tt) c.ranges.a.fits in rw c.in-Rotl.is (cc)

pub returns-in-Rotr : goal.returns-in-Rotr
unfolding integer_binary
returns-in-Rotr c = let same = irotr_is 32 c.args.a c.args.b (lit< tt) c.ranges.a.fits in rw c.in-Rotr.is (cc)
