use Rattle.host_lexer.proofs.Commented.{ends_in, never_ends}
use Rattle.host_lexer.proofs.comments.end_of_inside.Goals as goal

pub returns-then-chars-at-eq47 : goal.returns-then-chars-at-eq47
returns-then-chars-at-eq47 c =
    ends_in c.args.chars.now c.loop-at.at c.index-chars-at.result c.index-chars-at-then-chars-at-eq42.result c.loop-at-test.true c.loop-at.invariant.no_end c.index-chars-at.is
    c.if-chars-at-eq42.true c.index-chars-at-then-chars-at-eq42.is c.if-chars-at-eq47.true

pub returns : goal.returns
returns c = never_ends c.args.chars.now c.loop-at.at c.loop-at-test.false c.loop-at.invariant.no_end
