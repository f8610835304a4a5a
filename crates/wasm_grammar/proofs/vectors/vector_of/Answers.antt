use Rattle.std.proofs.Common.{arith}
use Rattle.std.proofs.lemmas.Result.{err_from_is_err_and}
use Rattle.wasm_grammar.proofs.Loops.{next_item, no_item, last_item}
use Rattle.wasm_grammar.proofs.vectors.vector_of.Goals as goal

pub returns-in_err-item-clause-gives : goal.returns-in_err-item-clause-gives
returns-in_err-item-clause-gives g c =
    let p = err_from_is_err_and c.from_residual-in_err-item.result c.from_residual-in_err-item.ensures.1 in
    rw (p.1, p.2, c.in_ok-count.ensures.gives) (no_item g.T.Item.reading c.loop.items c.in_ok-count.count c.loop.counter c.loop.built c.args.after c.loop.rest.now _ c.loop.invariant.so_far c.loop-test.true c.in_err-item.field-0.0 c.in_err-item.ensures.gives)

pub loop-preserved : goal.loop-preserved
loop-preserved g c = record {
  room = omega (arith, c.in_ok-item.ensures.room, c.loop.invariant.room);
  so_far = rw c.in_ok-push.ensures.ok (next_item g.T.Item.reading c.loop.items c.in_ok-count.count c.loop.counter c.loop.built c.args.after c.loop.rest.now _ c.loop.invariant.so_far c.loop-test.true c.in_ok-item.item c.read.new.built c.in_ok-item.next.now c.in_ok-item.ensures.gives);
}

pub returns-clause-gives : goal.returns-clause-gives
returns-clause-gives g c = rw c.in_ok-count.ensures.gives (last_item g.T.Item.reading c.loop.items c.in_ok-count.count c.loop.counter c.loop.built c.args.after c.loop.rest.now _ c.loop.invariant.so_far c.loop-test.false)
