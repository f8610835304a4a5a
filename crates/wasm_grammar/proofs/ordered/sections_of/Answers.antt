use Rattle.std.proofs.Common.{◌≡◌, ◌<◌, length, sym, ◌∙◌, rules, arith}
use Rattle.std.proofs.lemmas.Bool.{eqb-false}
use Rattle.std.proofs.lemmas.Result.{err_from_is_err_and}
use Rattle.wasm_grammar.proofs.Following.{next_of, not_of, no_of, all_of, too_many}
use Rattle.wasm_grammar.proofs.ordered.sections_of.Goals as goal

pub returns-then-is_empty : goal.returns-then-is_empty
returns-then-is_empty c =
    let none : length c.loop.rest.now ≡ 0 = search rules in
    all_of c.loop.parts (length c.args.bytes.now) c.loop.counter c.loop.last c.loop.built c.loop.rest.now _ c.loop.invariant.so_far none

pub returns-in_err-held : goal.returns-in_err-held
returns-in_err-held c =
    let some : 0 < length c.loop.rest.now = search rules in
    let p = err_from_is_err_and c.from_residual.result c.from_residual.ensures.1 in
    rw (p.1, p.2) (no_of c.loop.parts (length c.args.bytes.now) c.loop.counter c.loop.last c.loop.built c.loop.rest.now _ c.loop.invariant.so_far c.loop-test.true some c.in_err-held.field-0.0 c.in_err-held.ensures.gives)

pub returns-then-not-follows : goal.returns-then-not-follows
returns-then-not-follows c =
    let some : 0 < length c.loop.rest.now = search rules in
    let not_next = rw c.place_of-place.ensures at (sym c.follows.ensures ∙ c.if-not-follows.true) in
    not_of c.loop.parts (length c.args.bytes.now) c.loop.counter c.loop.last c.loop.built c.loop.rest.now _ c.loop.invariant.so_far c.loop-test.true some c.in_ok-held.held c.section_of.new.built c.in_ok-held.next.now c.in_ok-held.ensures.gives not_next

pub loop-preserved : goal.loop-preserved
loop-preserved c =
    let some : 0 < length c.loop.rest.now = omega (arith, eqb-false (length c.loop.rest.now) 0 (sym c.is_empty.ensures ∙ c.if-is_empty.false)) in
    let is_next = rw c.place_of-place.ensures at (sym c.follows.ensures ∙ c.if-not-follows.false) in
    record {
      room = omega (arith, c.in_ok-held.ensures.room, c.loop.invariant.room);
      so_far = rw (c.with_held-parts.ensures, c.last_behind-last.ensures, c.place_of-place.ensures) (next_of c.loop.parts (length c.args.bytes.now) c.loop.counter c.loop.last c.loop.built c.loop.rest.now _ c.loop.invariant.so_far c.loop-test.true some c.in_ok-held.held c.section_of.new.built c.in_ok-held.next.now c.in_ok-held.ensures.gives is_next);
    }

pub returns-then-not-is_empty : goal.returns-then-not-is_empty
returns-then-not-is_empty c =
    let some : 0 < length c.loop.rest.now = search rules in
    too_many c.loop.parts (length c.args.bytes.now) c.loop.counter c.loop.last c.loop.built c.loop.rest.now _ c.loop.invariant.so_far c.loop-test.false some

pub returns : goal.returns
returns c =
    let none : length c.loop.rest.now ≡ 0 = search rules in
    all_of c.loop.parts (length c.args.bytes.now) c.loop.counter c.loop.last c.loop.built c.loop.rest.now _ c.loop.invariant.so_far none
