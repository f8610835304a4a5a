use Rattle.std.proofs.Common.{arith, rules}
use Rattle.wasm_grammar.proofs.Groups.{none_left, none_more, last_group, next_group, group_fits, unit_more, unit_bounds}
use Rattle.wasm_grammar.proofs.numbers.leb_of.Goals as goal

pub returns-in_default-clause-gives : goal.returns-in_default-clause-gives
returns-in_default-clause-gives c = none_left _ _ _ _ _ _ c.loop.invariant.goes_on c.in_default.ensures.parts

pub overflow_mul-number : goal.overflow_mul-number
overflow_mul-number c = let b = unit_bounds c.loop.number c.loop.unit c.args.most c.loop.counter c.in-Some.byte c.loop.invariant.unit_is c.loop-test.true c.requires c.in-Some.ensures.byte in omega (arith, b.small, b.group)

pub overflow_add-number : goal.overflow_add-number
overflow_add-number c = let b = unit_bounds c.loop.number c.loop.unit c.args.most c.loop.counter c.in-Some.byte c.loop.invariant.unit_is c.loop-test.true c.requires c.in-Some.ensures.byte in omega (arith, b.small, b.group, c.loop.invariant.below)

pub overflow_mul-result : goal.overflow_mul-result
overflow_mul-result c = let b = unit_bounds c.loop.number c.loop.unit c.args.most c.loop.counter c.in-Some.byte c.loop.invariant.unit_is c.loop-test.true c.requires c.in-Some.ensures.byte in omega (arith, b.small)

pub returns-then-group-lt128-clause-gives : goal.returns-then-group-lt128-clause-gives
returns-then-group-lt128-clause-gives c = last_group _ _ _ _ _ _ c.loop.invariant.goes_on _ _ c.loop-test.true c.in-Some.ensures.parts c.if-group-lt128.true

pub returns-then-group-lt128-clause-fits : goal.returns-then-group-lt128-clause-fits
returns-then-group-lt128-clause-fits c = let b = unit_bounds c.loop.number c.loop.unit c.args.most c.loop.counter c.in-Some.byte c.loop.invariant.unit_is c.loop-test.true c.requires c.in-Some.ensures.byte in (group_fits _ _ _ c.loop.invariant.below c.if-group-lt128.true, omega (arith, b.small))

pub overflow_mul-number-in-loop : goal.overflow_mul-number-in-loop
overflow_mul-number-in-loop c = let b = unit_bounds c.loop.number c.loop.unit c.args.most c.loop.counter c.in-Some.byte c.loop.invariant.unit_is c.loop-test.true c.requires c.in-Some.ensures.byte in omega (arith, b.small, b.high)

pub overflow_add-number-in-loop : goal.overflow_add-number-in-loop
overflow_add-number-in-loop c = let b = unit_bounds c.loop.number c.loop.unit c.args.most c.loop.counter c.in-Some.byte c.loop.invariant.unit_is c.loop-test.true c.requires c.in-Some.ensures.byte in omega (arith, b.small, b.high, c.loop.invariant.below)

pub overflow_mul-unit : goal.overflow_mul-unit
overflow_mul-unit c = let b = unit_bounds c.loop.number c.loop.unit c.args.most c.loop.counter c.in-Some.byte c.loop.invariant.unit_is c.loop-test.true c.requires c.in-Some.ensures.byte in omega (arith, b.small)

pub loop-preserved : goal.loop-preserved
loop-preserved c =
    let b = unit_bounds c.loop.number c.loop.unit c.args.most c.loop.counter c.in-Some.byte c.loop.invariant.unit_is c.loop-test.true c.requires c.in-Some.ensures.byte in
    record {
      goes_on = next_group _ _ _ _ _ _ c.loop.invariant.goes_on _ _ c.loop-test.true c.in-Some.ensures.parts c.if-group-lt128.false;
      below = omega (arith, b.high, c.loop.invariant.below);
      unit_is = unit_more c.loop.unit c.loop.counter c.loop.invariant.unit_is;
      shorter = search rules;
    }

pub returns-clause-gives : goal.returns-clause-gives
returns-clause-gives c = none_more _ _ _ _ _ _ c.loop.invariant.goes_on c.loop-test.false
