use Rattle.std.proofs.Common.{◌≡◌, Ok, ◌∙◌, ap, refl, sym, subst, string_bytes}
use Rattle.embed_script.specs.declared.value.Bound.TheVariants as bounds
use Rattle.embed_script.specs.Functions.{instance_of}
use Rattle.embed_script.specs.Evaluation.{function}
use Rattle.embed_script.specs.Outcome.{going, after, bound}
use Rattle.embed_script.specs.Runs.{Stands}
use Rattle.embed_script.proofs.Bound.{bound_more}
use Rattle.embed_script.proofs.Serving.{serves_more, serves_later}
use Rattle.embed_script.proofs.run.Run.bind.Goals as goal

pub returns-clause-performs : goal.returns-clause-performs
returns-clause-performs c = λ modules decoded b lines is_bound printed.
    let is : instance_of modules c.args.file.now c.args.export.now c.args.place c.args.self.now.state ≡ Ok (c.in_ok-function.function, c.instance.new.state) =
    ap (λ n. instance_of modules n c.args.export.now c.args.place c.args.self.now.state) (sym c.as_str.ensures)
    ∙ ap (λ n. instance_of modules c.as_str.result.now n c.args.place c.args.self.now.state) (sym c.as_str-2.ensures) ∙ c.in_ok-function.ensures.meets modules decoded in
    let same : string_bytes c.in_ok-name.name ≡ c.args.name.now = c.in_ok-name.ensures.ok ∙ c.as_str-3.ensures in
    subst (λ r. Stands (after lines r (λ f. going (bound b c.args.name.now (function f.0)) f.1 lines)) (record { names = c.insert.new.self; state = c.instance.new.state; text = c.args.self.now.text })) (sym is)
    (bound_more b c.args.self.now.names c.insert.new.self c.in_ok-name.name c.args.name.now (bounds.Function c.in_ok-function.function) is_bound same c.in_ok-insert.ensures.updates, printed, refl)

pub returns-clause-serves : goal.returns-clause-serves
returns-clause-serves c =
    serves_more c.instance.new.state.store c.args.self.now.names c.insert.new.self c.in_ok-name.name (bounds.Function c.in_ok-function.function) c.in_ok-insert.ensures.updates c.in_ok-function.ensures.callable.0
    (serves_later c.types_stay.ensures.functions c.args.self.now.names c.args.self.now.state.store c.instance.new.state.store c.in_ok-function.ensures.later c.in_ok-function.ensures.callable.1 c.requires)
