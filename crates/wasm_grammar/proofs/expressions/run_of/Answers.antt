use Rattle.std.proofs.Common.{length, sym, ◌∙◌, arith}
use Rattle.std.proofs.lemmas.Result.{err_from_is_err_and}
use Rattle.wasm_grammar.specs.Running.{state}
use Rattle.wasm_grammar.proofs.Passing.{goes_on, stops, no_token, no_step, cuts, run_out}
use Rattle.wasm_grammar.proofs.expressions.run_of.Goals as goal

pub returns-then-ends_entry-clause-gives : goal.returns-then-ends_entry-clause-gives
returns-then-ends_entry-clause-gives c =
    let whole = cuts c.args.in_code (length c.args.bytes.now) c.loop.counter c.loop-test.true (state c.loop.so_far c.loop.built) c.args.after c.loop.rest.now _ c.loop.invariant.goes_on (sym c.ends_entry.ensures ∙ c.if-ends_entry.true) in
    rw (c.cut-at_leaf.ensures.gives, c.end_of.ensures) whole

pub returns-in_err-token-clause-gives : goal.returns-in_err-token-clause-gives
returns-in_err-token-clause-gives c =
    let p = err_from_is_err_and c.from_residual.result c.from_residual.ensures.1 in
    rw (p.1, p.2) (no_token c.args.in_code (length c.args.bytes.now) c.loop.counter c.loop-test.true (state c.loop.so_far c.loop.built) c.args.after c.loop.rest.now _ c.loop.invariant.goes_on (sym c.ends_entry.ensures ∙ c.if-ends_entry.false) c.in_err-token.field-0.0 c.in_err-token.ensures.gives)

pub returns-then-ends_all-clause-gives : goal.returns-then-ends_all-clause-gives
returns-then-ends_all-clause-gives c =
    stops c.args.in_code (length c.args.bytes.now) c.loop.counter c.loop-test.true (state c.loop.so_far c.loop.built) c.args.after c.loop.rest.now _ c.loop.invariant.goes_on (sym c.ends_entry.ensures ∙ c.if-ends_entry.false) c.in_ok-token.token c.token_of.new.built c.in_ok-token.next.now c.in_ok-token.ensures.gives (sym c.ends_all.ensures ∙ c.if-ends_all.true)

pub returns-in_err-so_far-clause-gives : goal.returns-in_err-so_far-clause-gives
returns-in_err-so_far-clause-gives c =
    let p = err_from_is_err_and c.from_residual-in_err-so_far.result c.from_residual-in_err-so_far.ensures.1 in
    rw (p.1, p.2) (no_step c.args.in_code (length c.args.bytes.now) c.loop.counter c.loop-test.true (state c.loop.so_far c.loop.built) c.args.after c.loop.rest.now _ c.loop.invariant.goes_on (sym c.ends_entry.ensures ∙ c.if-ends_entry.false) c.in_ok-token.token c.token_of.new.built c.in_ok-token.next.now c.in_err-so_far.field-0.0 c.in_ok-token.ensures.gives (sym c.ends_all.ensures ∙ c.if-ends_all.false) c.in_err-so_far.ensures.gives)

pub loop-preserved : goal.loop-preserved
loop-preserved c = record {
  room = omega (arith, c.in_ok-token.ensures.room, c.in_ok-so_far.ensures.room, c.loop.invariant.room);
  goes_on = goes_on c.args.in_code (length c.args.bytes.now) c.loop.counter c.loop-test.true (state c.loop.so_far c.loop.built) c.args.after c.loop.rest.now _ c.loop.invariant.goes_on (sym c.ends_entry.ensures ∙ c.if-ends_entry.false) c.in_ok-token.token c.token_of.new.built c.in_ok-token.next.now (state c.in_ok-so_far.so_far c.taken.new.built) c.in_ok-token.ensures.gives (sym c.ends_all.ensures ∙ c.if-ends_all.false) c.in_ok-so_far.ensures.gives;
}

pub returns-clause-gives : goal.returns-clause-gives
returns-clause-gives c = run_out c.args.in_code (length c.args.bytes.now) c.loop.counter (state c.loop.so_far c.loop.built) c.args.after c.loop.rest.now _ c.loop-test.false c.loop.invariant.goes_on
