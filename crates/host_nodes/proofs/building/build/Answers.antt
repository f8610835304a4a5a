use Rattle.std.proofs.Common.{◌∙◌, map}
use Rattle.host_grammar.specs.Printing.{seen}
use Rattle.host_nodes.proofs.Leading.{accepted, at_first, at_next, at_last, is_built, never_none}
use Rattle.host_nodes.proofs.building.build.Goals as goal

pub loop-token-init : goal.loop-token-init
loop-token-init c = at_first c.args.tokens.now c.in_ok-builder.builder c.in_ok-builder.ensures

pub loop-token-preserved : goal.loop-token-preserved
loop-token-preserved c = at_next c.args.tokens.now c.loop-token.token-index c.token-item.result c.loop-token.builder c.step.new.self c.requires.0 c.loop-token-test.true c.token-item.is
    (accepted c.args.tokens.now (c.scripts_are_accepted.ensures.complete (map seen c.args.tokens.now)) c.requires.0 c.requires.1) c.loop-token.invariant c.in_ok-step.ensures

pub unreachable-requires : goal.unreachable-requires
unreachable-requires c = never_none c.requires.0 c.finish.result
    (c.finish.ensures ∙ at_last c.args.tokens.now c.loop-token.token-index c.loop-token.builder c.ended.new.self c.requires.0 c.loop-token-test.false
    (accepted c.args.tokens.now (c.scripts_are_accepted.ensures.complete (map seen c.args.tokens.now)) c.requires.0 c.requires.1) c.loop-token.invariant c.in_ok-ended.ensures) c.in-None.is

pub returns : goal.returns
returns c = λ x k. is_built x c.finish.result c.in-Some.built
    (c.finish.ensures ∙ at_last c.args.tokens.now c.loop-token.token-index c.loop-token.builder c.ended.new.self x c.loop-token-test.false
    (accepted c.args.tokens.now (c.scripts_are_accepted.ensures.complete (map seen c.args.tokens.now)) x k) c.loop-token.invariant c.in_ok-ended.ensures) c.in-Some.is
