use Rattle.std.proofs.Common.{◌∙◌, ap, sym, subst, Ok, Some}
use Rattle.std.specs.Option.{option_map, option_copied}
use Rattle.std.specs.HashMap.{get_by_text}
use Rattle.embed_script.specs.Evaluation.{named}
use Rattle.embed_script.specs.Stops.{Ends}
use Rattle.embed_script.specs.Tasks.{binding_of}
use Rattle.embed_script.proofs.Bound.{found}
use Rattle.embed_script.proofs.evaluate.named_value.Goals as goal

pub returns-in_ok-clone-in-Some-Value : goal.returns-in_ok-clone-in-Some-Value
returns-in_ok-clone-in-Some-Value c = λ b bound.
    ap (named c.args.place) (found b c.args.names.now c.args.name.now (option_copied c.get.result) bound (c.get.ensures.value ∙ ap (get_by_text c.args.names.now) c.as_str.ensures))
    ∙ ap (λ r. named c.args.place (option_map binding_of (option_copied r))) c.in-Some-Value.is
    ∙ ap (λ x. named c.args.place (Some (binding_of x))) c.in-Some-Value.field-0-is
    ∙ ap (λ v. Ok v) (sym c.in_ok-clone-in-Some-Value.ensures.cases)

pub returns-in-Some-Function : goal.returns-in-Some-Function
returns-in-Some-Function c = λ b bound.
    subst (λ s. Ends s (named c.args.place (b c.args.name.now))) (sym c.refuse.ensures)
    (ap (named c.args.place) (found b c.args.names.now c.args.name.now (option_copied c.get.result) bound (c.get.ensures.value ∙ ap (get_by_text c.args.names.now) c.as_str.ensures))
    ∙ ap (λ r. named c.args.place (option_map binding_of (option_copied r))) c.in-Some-Function.is
    ∙ ap (λ x. named c.args.place (Some (binding_of x))) c.in-Some-Function.field-0-is)
