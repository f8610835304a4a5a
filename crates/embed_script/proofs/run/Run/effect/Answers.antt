use Rattle.std.proofs.Common.{subst, sym}
use Rattle.small_parser.specs.declared.script.Form.TheVariants as forms
use Rattle.embed_script.specs.Runs.{Performs}
use Rattle.embed_script.specs.Tasks.{SumsShow}
use Rattle.embed_script.proofs.Effects.{statement_at, effect_declares, effect_binds, effect_prints}
use Rattle.embed_script.proofs.run.Run.effect.Goals as goal

pub returns-in-Let-clause-performs : goal.returns-in-Let-clause-performs
returns-in-Let-clause-performs c = λ modules decoded b lines is_bound printed s shows.
    let at = statement_at c.args.nodes.now s c.args.id c.index-nodes-id.result (forms.Let c.in-Let.name c.in-Let.value) c.index-nodes-id.is c.in-Let.is shows in
    let f = effect_declares modules b c.args.self.now.state lines c.args.nodes.now s c.in-Let.name c.in-Let.value c.index-nodes-id.result.place at.0 at.1 in
    subst (λ p. Performs c.declare.result p c.declare.new.self) (sym f.2) (c.declare.ensures.performs b lines is_bound printed f.0 f.1)

pub returns-in-Bind-clause-performs : goal.returns-in-Bind-clause-performs
returns-in-Bind-clause-performs c = λ modules decoded b lines is_bound printed s shows.
    let at = statement_at c.args.nodes.now s c.args.id c.index-nodes-id.result (forms.Bind c.in-Bind.name c.in-Bind.file c.in-Bind.export) c.index-nodes-id.is c.in-Bind.is shows in
    subst (λ p. Performs c.bind.result p c.bind.new.self)
    (sym (effect_binds modules b c.args.self.now.state lines c.args.nodes.now s c.in-Bind.name c.in-Bind.file c.in-Bind.export c.index-nodes-id.result.place at.0 at.1)) (c.bind.ensures.performs modules decoded b lines is_bound printed)

pub returns-in-Print-clause-performs : goal.returns-in-Print-clause-performs
returns-in-Print-clause-performs c = λ modules decoded b lines is_bound printed s shows.
    let at = statement_at c.args.nodes.now s c.args.id c.index-nodes-id.result (forms.Print c.in-Print.arguments) c.index-nodes-id.is c.in-Print.is shows in
    let f = effect_prints modules b c.args.self.now.state lines c.args.nodes.now s c.in-Print.arguments c.index-nodes-id.result.place at.0 at.1 in
    subst (λ p. Performs c.print.result p c.print.new.self) (sym f.2) (c.print.ensures.performs b lines is_bound printed f.0 (subst (λ ids. SumsShow c.args.nodes.now f.0 ids) (sym c.as_slice.ensures) f.1))
