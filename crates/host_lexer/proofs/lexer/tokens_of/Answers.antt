use Rattle.std.proofs.Common.{◌≡◌, ◌∙◌, ◌+◌, ap, subst, arith, take, drop}
use Rattle.std.proofs.lemmas.List.{take_rest}
use Rattle.host_lexer.specs.Steps.{Begins, Refuses, IsRefusal}
use Rattle.host_lexer.specs.Tokens.{size_of}
use Rattle.host_lexer.proofs.Reached.{step, refused, element_fits, place_there}
use Rattle.host_lexer.proofs.lexer.tokens_of.Goals as goal

pub refusal-requires-clause-small : goal.refusal-requires-clause-small
refusal-requires-clause-small c =
    let p = place_there c.args.chars.now c.loop-at.at c.loop-at.place c.loop-at.after_line c.loop-at.found.items c.loop-at.invariant.reached in
    let q = ap size_of (take_rest c.args.chars.now c.loop-at.at) in omega (arith, p, q, c.requires)

pub returns-in-Err : goal.returns-in-Err
returns-in-Err c =
    refused c.args.chars.now c.loop-at.at c.loop-at.place c.loop-at.after_line c.loop-at.found.items c.in-Err.failure c.refusal.result
    (subst (Refuses c.in-Err.failure) (take_rest c.args.chars.now c.loop-at.at) c.in-Err.ensures.refused)
    (subst (λ y. IsRefusal y c.loop-at.place c.in-Err.failure c.refusal.result) (take_rest c.args.chars.now c.loop-at.at) c.refusal.ensures) c.loop-at.invariant.reached

pub byte_len-requires : goal.byte_len-requires
byte_len-requires c =
    let b = subst (λ y. Begins y c.in-Ok.field-0.len c.in-Ok.field-0.kind c.in-Ok.field-0.line_end) (take_rest c.args.chars.now c.loop-at.at) c.in-Ok.ensures.found in
    let f = element_fits c.args.chars.now c.loop-at.at c.in-Ok.field-0.len c.in-Ok.field-0.kind c.in-Ok.field-0.line_end c.loop-at-test.true b in
    let p = place_there c.args.chars.now c.loop-at.at c.loop-at.place c.loop-at.after_line c.loop-at.found.items c.loop-at.invariant.reached in
    let q = ap (λ y. size_of (take c.in-Ok.field-0.len y)) (take_rest c.args.chars.now c.loop-at.at) in omega (arith, f, p, q, c.requires)

pub add-requires-clause-high : goal.add-requires-clause-high
add-requires-clause-high c =
    let b = subst (λ y. Begins y c.in-Ok.field-0.len c.in-Ok.field-0.kind c.in-Ok.field-0.line_end) (take_rest c.args.chars.now c.loop-at.at) c.in-Ok.ensures.found in
    let f = element_fits c.args.chars.now c.loop-at.at c.in-Ok.field-0.len c.in-Ok.field-0.kind c.in-Ok.field-0.line_end c.loop-at-test.true b in
    let p = place_there c.args.chars.now c.loop-at.at c.loop-at.place c.loop-at.after_line c.loop-at.found.items c.loop-at.invariant.reached in
    let q = ap (λ y. size_of (take c.in-Ok.field-0.len y)) (take_rest c.args.chars.now c.loop-at.at) in omega (arith, f, p, q, c.requires, c.byte_len.ensures)

pub overflow_add-to : goal.overflow_add-to
overflow_add-to c =
    let b = subst (λ y. Begins y c.in-Ok.field-0.len c.in-Ok.field-0.kind c.in-Ok.field-0.line_end) (take_rest c.args.chars.now c.loop-at.at) c.in-Ok.ensures.found in
    let f = element_fits c.args.chars.now c.loop-at.at c.in-Ok.field-0.len c.in-Ok.field-0.kind c.in-Ok.field-0.line_end c.loop-at-test.true b in
    let p = place_there c.args.chars.now c.loop-at.at c.loop-at.place c.loop-at.after_line c.loop-at.found.items c.loop-at.invariant.reached in
    let q = ap (λ y. size_of (take c.in-Ok.field-0.len y)) (take_rest c.args.chars.now c.loop-at.at) in omega (arith, f, p, q, c.requires, c.byte_len.ensures)

pub add-requires-clause-low : goal.add-requires-clause-low
add-requires-clause-low c =
    let p = place_there c.args.chars.now c.loop-at.at c.loop-at.place c.loop-at.after_line c.loop-at.found.items c.loop-at.invariant.reached in omega (arith, p, c.requires)

pub loop-at-preserved : goal.loop-at-preserved
loop-at-preserved c =
    let b = subst (λ y. Begins y c.in-Ok.field-0.len c.in-Ok.field-0.kind c.in-Ok.field-0.line_end) (take_rest c.args.chars.now c.loop-at.at) c.in-Ok.ensures.found in
    let f = element_fits c.args.chars.now c.loop-at.at c.in-Ok.field-0.len c.in-Ok.field-0.kind c.in-Ok.field-0.line_end c.loop-at-test.true b in
    let t : c.loop-at.place + c.byte_len.result ≡ c.loop-at.place + size_of (take c.in-Ok.field-0.len (drop c.loop-at.at c.args.chars.now)) =
    ap (λ n. c.loop-at.place + n) (c.byte_len.ensures ∙ ap (λ y. size_of (take c.in-Ok.field-0.len y)) (take_rest c.args.chars.now c.loop-at.at)) in
    record {
      within = f.1;
      reached = step c.args.chars.now c.loop-at.at c.loop-at.place c.loop-at.after_line c.loop-at.found.items c.in-Ok.field-0.len (c.loop-at.place + c.byte_len.result)
          c.in-Ok.field-0.kind c.in-Ok.field-0.line_end c.in_ok-after_line-in-Ok.after_line c.add.new.found.items b t c.in_ok-after_line-in-Ok.ensures.after
          (c.in_ok-after_line-in-Ok.ensures.token (size_of (take c.in-Ok.field-0.len (drop c.loop-at.at c.args.chars.now))) t) c.loop-at.invariant.reached;
    }
