use Rattle.std.proofs.Common.{◌∙◌, ap, sym, subst, Some, List, ℕ, refl}
use Rattle.std.specs.Option.{option_map, option_copied}
use Rattle.std.specs.HashMap.{get_by_text}
use Rattle.embed_script.specs.Evaluation.{called}
use Rattle.embed_script.specs.Stops.{Ends, MeetsIn}
use Rattle.embed_script.specs.Tasks.{binding_of}
use Rattle.embed_script.proofs.Bound.{found}
use Rattle.embed_script.proofs.Serving.{callable_of}
use Rattle.embed_script.proofs.evaluate.call_named.Goals as goal

pub returns-in-Some-Function-clause-meets : goal.returns-in-Some-Function-clause-meets
returns-in-Some-Function-clause-meets c = λ b bound.
    let same = found b c.args.names.now c.args.name.now (option_copied c.get.result) bound (c.get.ensures.value ∙ ap (get_by_text c.args.names.now) c.as_str.ensures)
    ∙ ap (λ r. option_map binding_of (option_copied r)) c.in-Some-Function.is ∙ ap (λ x. Some (binding_of x)) c.in-Some-Function.field-0-is in
    subst (λ o. MeetsIn c.call.result c.call.new.state (called c.args.place o c.args.arguments.now c.args.state.now)) (sym same) c.call.ensures.meets

pub returns-in-Some-Value-clause-meets : goal.returns-in-Some-Value-clause-meets
returns-in-Some-Value-clause-meets c = λ b bound.
    let same = found b c.args.names.now c.args.name.now (option_copied c.get.result) bound (c.get.ensures.value ∙ ap (get_by_text c.args.names.now) c.as_str.ensures)
    ∙ ap (λ r. option_map binding_of (option_copied r)) c.in-Some-Value.is ∙ ap (λ x. Some (binding_of x)) c.in-Some-Value.field-0-is in
    subst (λ s. Ends s (called c.args.place (b c.args.name.now) c.args.arguments.now c.args.state.now)) (sym c.refuse.ensures)
    (ap (λ o. called c.args.place o c.args.arguments.now c.args.state.now) same)

pub call-requires-clause-callable : goal.call-requires-clause-callable
call-requires-clause-callable c =
    let b = λ (name : List ℕ). option_map binding_of (get_by_text c.args.names.now name) in
    let same = found b c.args.names.now c.args.name.now (option_copied c.get.result) (λ name. refl) (c.get.ensures.value ∙ ap (get_by_text c.args.names.now) c.as_str.ensures)
    ∙ ap (λ r. option_map binding_of (option_copied r)) c.in-Some-Function.is ∙ ap (λ x. Some (binding_of x)) c.in-Some-Function.field-0-is in
    callable_of c.args.names.now c.args.state.now.store c.args.name.now c.in-Some-Function.function c.requires same
