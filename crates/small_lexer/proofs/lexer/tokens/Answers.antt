use Rattle.std.proofs.Common.{◌∙◌, sym, ap, subst, arith, ◌+◌, ◌∷◌, drop, false}
use Rattle.std.proofs.lemmas.List.{drop_more}
use Rattle.std.proofs.lemmas.Result.{err_from_is_err_and}
use Rattle.small_lexer.specs.Tokens.{HasTokens}
use Rattle.small_lexer.specs.Steps.{Reads, NoElement, OnNotYet}
use Rattle.small_lexer.proofs.Order.{in_order}
use Rattle.small_lexer.proofs.Reached.{Reached, step_space, step_line, step_token, found_all, only_these, refuses}
use Rattle.small_lexer.proofs.Spelled.{are_spelled}
use Rattle.small_lexer.proofs.lexer.tokens.Goals as goal

pub loop-at-preserved-in-32 : goal.loop-at-preserved-in-32
loop-at-preserved-in-32 c = record {
  within = omega arith;
  reached = step_space c.as_bytes-bytes.result.now c.loop-at.at c.loop-at.after_line c.loop-at.found.items c.loop-at-test.true
      (drop_more c.as_bytes-bytes.result.now c.loop-at.at 0 c.loop-at-test.true ∙ ap (λ x. x ∷ drop (c.loop-at.at + 1) c.as_bytes-bytes.result.now) c.in-32.is)
      c.loop-at.invariant.reached;
}

pub loop-at-preserved-in-10 : goal.loop-at-preserved-in-10
loop-at-preserved-in-10 c = record {
  within = omega arith;
  reached = step_line c.as_bytes-bytes.result.now c.loop-at.at c.loop-at.after_line c.loop-at.found.items c.loop-at-test.true
      (drop_more c.as_bytes-bytes.result.now c.loop-at.at 0 c.loop-at-test.true ∙ ap (λ x. x ∷ drop (c.loop-at.at + 1) c.as_bytes-bytes.result.now) c.in-10.is)
      c.loop-at.invariant.reached;
}

pub returns-in_err-kind-in_default-clause-only : goal.returns-in_err-kind-in_default-clause-only
returns-in_err-kind-in_default-clause-only c = λ ts h.
    let p = err_from_is_err_and c.from_residual.result c.from_residual.ensures.1 in
    rw (p.1, p.2) (refuses c.as_bytes-bytes.result.now c.loop-at.at c.loop-at.after_line c.loop-at.found.items c.in_err-kind-in_default.field-0.0 c.loop-at-test.true
    (subst (λ xs. OnNotYet c.in_err-kind-in_default.field-0.0 (NoElement xs c.loop-at.at)) (sym c.as_bytes-bytes.ensures.value) c.in_err-kind-in_default.ensures.refused)
    c.loop-at.invariant.reached ts (subst (λ xs. HasTokens xs ts) (sym c.as_bytes-bytes.ensures.value) h))

pub loop-at-preserved : goal.loop-at-preserved
loop-at-preserved c =
    let reads = subst (λ xs. Reads xs c.loop-at.at c.in_ok-kind-in_default.field-0.kind c.in_ok-kind-in_default.field-0.to) (sym c.as_bytes-bytes.ensures.value) c.in_ok-kind-in_default.ensures.found in
    record {
      within = reads.within;
      reached = subst (Reached c.as_bytes-bytes.result.now c.in_ok-kind-in_default.field-0.to false) (sym c.in_ok-add-in_default.ensures)
          (step_token c.as_bytes-bytes.result.now c.loop-at.at c.loop-at.after_line c.loop-at.found.items c.in_ok-kind-in_default.field-0.kind c.in_ok-kind-in_default.field-0.to c.loop-at-test.true reads c.loop-at.invariant.reached);
    }

pub returns-clause-found : goal.returns-clause-found
returns-clause-found c = subst (λ xs. HasTokens xs c.loop-at.found.items) c.as_bytes-bytes.ensures.value
    (found_all c.as_bytes-bytes.result.now c.loop-at.at c.loop-at.after_line c.loop-at.found.items c.loop-at-test.false c.loop-at.invariant.reached)

pub returns-clause-only : goal.returns-clause-only
returns-clause-only c = λ ts h. only_these c.as_bytes-bytes.result.now c.loop-at.at c.loop-at.after_line c.loop-at.found.items c.loop-at-test.false c.loop-at.invariant.reached ts
    (subst (λ xs. HasTokens xs ts) (sym c.as_bytes-bytes.ensures.value) h)

pub returns-clause-spans : goal.returns-clause-spans
returns-clause-spans c = in_order c.args.text.now c.loop-at.found.items (returns-clause-found c)

pub returns-clause-spelled : goal.returns-clause-spelled
returns-clause-spelled c = are_spelled c.args.text.now c.loop-at.found.items (returns-clause-found c)
