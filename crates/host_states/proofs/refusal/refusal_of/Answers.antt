use Rattle.std.proofs.Common.{arith}
use Rattle.host_states.proofs.Leads.{at_start, one_more, refuses, too_many, missing, whole}
use Rattle.host_states.proofs.refusal.refusal_of.Goals as goal

pub loop-token-init : goal.loop-token-init
loop-token-init c = at_start c.args.tokens.now c.new-reader.result c.new-reader.ensures

pub returns-in-Refused : goal.returns-in-Refused
returns-in-Refused c = refuses c.refusals_are_least.ensures.token c.depth_is_counted.ensures.refused c.args.tokens.now c.args.len c.loop-token.token-index c.token-item.result
    c.loop-token.reader c.step.new.self c.in_ok-step.field-0 c.in-Refused.is (omega arith) c.token-item.is c.in_ok-step.ensures c.loop-token.invariant

pub returns-in-TooDeep : goal.returns-in-TooDeep
returns-in-TooDeep c = too_many c.depth_is_counted.ensures.deep c.args.tokens.now c.args.len c.loop-token.token-index c.token-item.result
    c.loop-token.reader c.step.new.self c.in_ok-step.field-0 c.in-TooDeep.is (omega arith) c.token-item.is c.in_ok-step.ensures c.loop-token.invariant

pub loop-token-preserved : goal.loop-token-preserved
loop-token-preserved c = one_more c.states_go_on.ensures.next c.args.tokens.now c.loop-token.token-index c.token-item.result
    c.loop-token.reader c.step.new.self c.in_ok-step.field-0 c.in-Went.is (omega arith) c.token-item.is c.in_ok-step.ensures c.loop-token.invariant

pub returns-then-not-is_whole : goal.returns-then-not-is_whole
returns-then-not-is_whole c = missing c.refusals_are_least.ensures.missing c.depth_is_counted.ensures.refused c.args.tokens.now c.args.len c.loop-token.token-index
    c.loop-token.reader c.is_whole.result (omega arith) c.if-not-is_whole.true c.is_whole.ensures c.loop-token.invariant

pub returns : goal.returns
returns c = whole c.scripts_are_accepted.ensures.sound c.depth_is_counted.ensures.no_more c.args.tokens.now c.loop-token.token-index
    c.loop-token.reader c.is_whole.result (omega arith) c.if-not-is_whole.false c.is_whole.ensures c.loop-token.invariant
