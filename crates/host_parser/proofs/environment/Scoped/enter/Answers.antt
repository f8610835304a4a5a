use Rattle.std.proofs.Common.{sym, ◌∙◌, ap, subst, take, get_or}
use Rattle.std.proofs.lemmas.List.{take_more}
use Rattle.host_parser.specs.Names as names
use Rattle.host_parser.specs.Scoping.{Holds}
use Rattle.host_parser.proofs.Maps.{entered_more}
use Rattle.host_parser.proofs.environment.Scoped.enter.Goals as goal

pub loop-one-preserved : goal.loop-one-preserved
loop-one-preserved c = λ e h. subst (λ z. Holds z c.declare.new.self)
    (sym (ap (λ z. names.enter z e) (take_more c.args.declared.now c.loop-one.one-index c.one-item.result c.loop-one-test.true)
    ∙ entered_more (take c.loop-one.one-index c.args.declared.now) (get_or c.args.declared.now c.loop-one.one-index c.one-item.result) e
    ∙ ap (λ x. names.enter_one x (names.enter (take c.loop-one.one-index c.args.declared.now) e)) (sym c.one-item.is)))
    (c.in_ok-declare.ensures (names.enter (take c.loop-one.one-index c.args.declared.now) e) (c.loop-one.invariant e h))
