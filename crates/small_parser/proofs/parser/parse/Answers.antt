use Rattle.std.proofs.Common.{arith}
use Rattle.std.proofs.lemmas.Grind.{merely}
use Rattle.small_parser.proofs.Main.{one_more, refuses, all_read, found, gives, tree, keeps_none, ends_none}
use Rattle.small_parser.proofs.parser.parse.Goals as goal

pub loop-token-preserved : goal.loop-token-preserved
loop-token-preserved c = one_more c.args.tokens.now c.loop-token.token-index c.token-item.result c.loop-token.reader c.step.new.self (omega arith) c.token-item.is
    (rw c.if-not-went.false at c.in_ok-went.ensures) c.loop-token.invariant

pub returns-then-not-went-clause-only : goal.returns-then-not-went-clause-only
returns-then-not-went-clause-only c = λ d is. absurd (refuses c.args.tokens.now c.loop-token.token-index c.token-item.result c.loop-token.reader c.step.new.self (omega arith) c.token-item.is
    (rw c.if-not-went.true at c.in_ok-went.ensures) c.loop-token.invariant d is)

pub returns-then-not-keeps_names-clause-only : goal.returns-then-not-keeps_names-clause-only
returns-then-not-keeps_names-clause-only c = λ d is. absurd (keeps_none c.args.tokens.now c.loop-token.reader c.keeps_names.result c.keeps_names.ensures c.if-not-keeps_names.true (all_read c.args.tokens.now c.loop-token.token-index c.loop-token.reader (omega arith) c.loop-token.invariant) d is)

pub returns-in-Items-clause-found : goal.returns-in-Items-clause-found
returns-in-Items-clause-found c = found c.args.tokens.now c.loop-token.reader c.keeps_names.result c.in-Items.is c.keeps_names.ensures c.if-not-keeps_names.false (all_read c.args.tokens.now c.loop-token.token-index c.loop-token.reader (omega arith) c.loop-token.invariant)

pub returns-in-Items-clause-only : goal.returns-in-Items-clause-only
returns-in-Items-clause-only c = gives c.args.tokens.now c.loop-token.reader (all_read c.args.tokens.now c.loop-token.token-index c.loop-token.reader (omega arith) c.loop-token.invariant)

pub returns : goal.returns
returns c = record {
  found = tt;
  only = λ d is. absurd (ends_none c.args.tokens.now c.loop-token.reader c.in_default.not-Items (all_read c.args.tokens.now c.loop-token.token-index c.loop-token.reader (omega arith) c.loop-token.invariant) d is);
  len = tt;
}

pub invariant_of-result : goal.invariant_of-result
invariant_of-result c = record { tree = merely (tree c.args.tokens.now c.loop-token.reader c.keeps_names.result c.in-Items.is c.keeps_names.ensures c.if-not-keeps_names.false (all_read c.args.tokens.now c.loop-token.token-index c.loop-token.reader (omega arith) c.loop-token.invariant)) }
