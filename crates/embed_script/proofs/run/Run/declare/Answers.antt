use Rattle.std.proofs.Common.{◌≡◌, Ok, ◌∙◌, refl, sym, subst, string_bytes}
use Rattle.embed_script.specs.declared.value.Bound.TheVariants as bounds
use Rattle.embed_script.specs.Evaluation.{value, sum_value}
use Rattle.embed_script.specs.Outcome.{going, after, bound}
use Rattle.embed_script.specs.Runs.{Stands}
use Rattle.embed_script.proofs.Bound.{bound_more}
use Rattle.embed_script.proofs.Serving.{serves_more}
use Rattle.embed_script.proofs.run.Run.declare.Goals as goal

pub returns-clause-performs : goal.returns-clause-performs
returns-clause-performs c = λ b lines is_bound printed e shows.
    let is : sum_value b e c.args.self.now.state ≡ Ok (c.in_ok-value.value, c.evaluate.new.state) = c.in_ok-value.ensures.meets b is_bound e shows in
    let same : string_bytes c.in_ok-name.name ≡ c.args.name.now = c.in_ok-name.ensures.ok ∙ c.as_str.ensures in
    subst (λ r. Stands (after lines r (λ v. going (bound b c.args.name.now (value v.0)) v.1 lines)) (record { names = c.insert.new.self; state = c.evaluate.new.state; text = c.args.self.now.text })) (sym is)
    (bound_more b c.args.self.now.names c.insert.new.self c.in_ok-name.name c.args.name.now (bounds.Value c.in_ok-value.value) is_bound same c.in_ok-insert.ensures.updates, printed, refl)

pub returns-clause-serves : goal.returns-clause-serves
returns-clause-serves c =
    serves_more c.evaluate.new.state.store c.args.self.now.names c.insert.new.self c.in_ok-name.name (bounds.Value c.in_ok-value.value) c.in_ok-insert.ensures.updates tt c.in_ok-value.ensures.serves
