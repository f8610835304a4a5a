use Rattle.std.proofs.Common.{rules, ◌<◌, ◌^◌, ◌∙◌, sym, arith, length}
use Rattle.host_lexer.proofs.Numbered.{at_default}
use Rattle.host_lexer.proofs.Quoted.{quote_closes, bad_piece_at, never_closes, piece_step, piece_fits, has_piece_at, not_there, first_there, filled_first}
use Rattle.host_lexer.proofs.texts.read_text.Goals as goal

pub returns-then-chars-at-clause-found : goal.returns-then-chars-at-clause-found
returns-then-chars-at-clause-found c =
    let there = at_default c.args.chars.now c.loop-at.at 0 c.index-chars-at.result c.loop-at-test.true in
    rw (c.token.ensures.len, c.token.ensures.kind, c.token.ensures.line_end, c.from_string-text.ensures)
    (quote_closes c.index-chars-0.result c.args.chars.now c.loop-at.at _ (first_there c.args.chars.now c.index-chars-0.result c.requires c.index-chars-0.is) c.loop-at-test.true
    (there ∙ sym c.index-chars-at.is ∙ c.if-chars-at.true) c.loop-at.invariant.quoting)

pub returns-in_default-clause-refused : goal.returns-in_default-clause-refused
returns-in_default-clause-refused c =
    bad_piece_at c.index-chars-0.result c.args.chars.now c.loop-at.at c.index-chars-at.result _ (first_there c.args.chars.now c.index-chars-0.result c.requires c.index-chars-0.is)
    c.loop-at-test.true c.index-chars-0.is c.index-chars-at.is c.if-chars-at.false c.loop-at.invariant.quoting c.in_default.ensures

pub overflow_add-at-in-loop-at : goal.overflow_add-at-in-loop-at
overflow_add-at-in-loop-at c =
    let h = has_piece_at c.index-chars-0.result c.args.chars.now c.loop-at.at c.index-chars-at.result c.in-Some.field-0.len c.in-Some.field-0.code c.loop-at-test.true
    c.index-chars-at.is c.if-chars-at.false c.in-Some.ensures in
    let f = piece_fits c.index-chars-0.result c.args.chars.now c.loop-at.at c.in-Some.field-0.len c.in-Some.field-0.code c.loop-at-test.true h in
    let small : length c.args.chars.now < 2 ^ 64 = search rules in omega (arith, f, small)

pub loop-at-smaller : goal.loop-at-smaller
loop-at-smaller c =
    let h = has_piece_at c.index-chars-0.result c.args.chars.now c.loop-at.at c.index-chars-at.result c.in-Some.field-0.len c.in-Some.field-0.code c.loop-at-test.true
    c.index-chars-at.is c.if-chars-at.false c.in-Some.ensures in
    let f = piece_fits c.index-chars-0.result c.args.chars.now c.loop-at.at c.in-Some.field-0.len c.in-Some.field-0.code c.loop-at-test.true h in
    omega (arith, f, c.loop-at-test.true)

pub loop-at-preserved : goal.loop-at-preserved
loop-at-preserved c =
    let h = has_piece_at c.index-chars-0.result c.args.chars.now c.loop-at.at c.index-chars-at.result c.in-Some.field-0.len c.in-Some.field-0.code c.loop-at-test.true
    c.index-chars-at.is c.if-chars-at.false c.in-Some.ensures in
    record {
      within = (piece_fits c.index-chars-0.result c.args.chars.now c.loop-at.at c.in-Some.field-0.len c.in-Some.field-0.code c.loop-at-test.true h).1;
      quoting = rw c.in_ok-push.ensures.bytes (piece_step c.index-chars-0.result c.args.chars.now c.loop-at.at c.in-Some.field-0.len c.in-Some.field-0.code _ c.loop-at-test.true
          (not_there c.index-chars-0.result c.args.chars.now c.loop-at.at c.index-chars-at.result c.loop-at-test.true c.index-chars-at.is c.if-chars-at.false) h c.loop-at.invariant.quoting);
    }

pub returns-clause-refused : goal.returns-clause-refused
returns-clause-refused c =
    never_closes c.index-chars-0.result c.args.chars.now c.loop-at.at _ (first_there c.args.chars.now c.index-chars-0.result c.requires c.index-chars-0.is)
    (filled_first c.args.chars.now c.requires) c.loop-at-test.false c.index-chars-0.is c.loop-at.invariant.quoting
