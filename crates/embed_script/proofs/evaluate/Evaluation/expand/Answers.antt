-- What the node's form tells of the expression that it shows.
use Rattle.std.proofs.Common.{rules, suc, ◌<◌, ◌+◌, ◌++◌, ◌∷◌, ap, ◌∙◌, length, refl, subst, sym, None, inl, inr, Vec, Global, pos, Ok}
use Rattle.std.proofs.lemmas.List.{length-reverse}
use Rattle.std.proofs.lemmas.Option.{slice_get_read}
use Rattle.embed_script.specs.declared.value.Value.TheVariants as values
use Rattle.embed_script.specs.declared.evaluate.Task.{Task}
use Rattle.embed_script.specs.Ends.{at_place, keeping}
use Rattle.embed_script.specs.Operators.{number_of}
use Rattle.embed_script.specs.Evaluation.{sum_value, named}
use Rattle.embed_script.specs.Tasks.{tasks_size, size_of, top_first, chain_tasks, call_tasks, perform}
use Rattle.embed_script.proofs.Steps.{on_ok, sum_in_range, read_form, unrolled_step, steps_of, chain_shrinks, call_shrinks, value_shrinks}
use Rattle.embed_script.proofs.evaluate.Evaluation.expand.Goals as goal

pub bounds-nodes-id : goal.bounds-nodes-id
bounds-nodes-id c = sum_in_range c.requires.0 c.args.nodes.now c.args.id.0 c.requires.1

pub offset_bounds-nodes-id : goal.offset_bounds-nodes-id
offset_bounds-nodes-id c = let within : c.args.id.0 < length c.args.nodes.now = sum_in_range c.requires.0 c.args.nodes.now c.args.id.0 c.requires.1 in search rules

pub unreachable-requires : goal.unreachable-requires
unreachable-requires c =
    elim c.in-Let.is [
      | inl w ↦ read_form (λ name. None) c.requires.0 c.args.nodes.now c.args.id.0 c.index-nodes-id.result _ c.requires.1 c.index-nodes-id.is w.2
      | inr w ↦ elim w [
        | inl u ↦ read_form (λ name. None) c.requires.0 c.args.nodes.now c.args.id.0 c.index-nodes-id.result _ c.requires.1 c.index-nodes-id.is u.3
        | inr u ↦ read_form (λ name. None) c.requires.0 c.args.nodes.now c.args.id.0 c.index-nodes-id.result _ c.requires.1 c.index-nodes-id.is u.1
      ]
    ]

pub returns-in_ok-push_chain-in-Chain-clause-steps : goal.returns-in_ok-push_chain-in-Chain-clause-steps
returns-in_ok-push_chain-in-Chain-clause-steps c = λ b left bound e shows ts todos fits.
    unrolled_step c.args.nodes.now b e ts (chain_tasks c.in-Chain.left c.in-Chain.last) (top_first c.args.self.now.tasks) (top_first c.push_chain.new.tasks) (top_first c.args.self.now.values) (length c.args.self.now.values.items) left
    (read_form b e c.args.nodes.now c.args.id.0 c.index-nodes-id.result _ shows c.index-nodes-id.is c.in-Chain.is).tasks todos fits (sym (length-reverse c.args.self.now.values.items))
    (c.in_ok-push_chain-in-Chain.ensures ∙ ap (λ l. chain_tasks l c.in-Chain.last ++ top_first c.args.self.now.tasks) c.as_slice.ensures)

pub returns-in_ok-push_chain-in-Chain-clause-smaller : goal.returns-in_ok-push_chain-in-Chain-clause-smaller
returns-in_ok-push_chain-in-Chain-clause-smaller c =
    chain_shrinks c.args.nodes.now (λ name. None) c.args.id.0 (sum_value (λ name. None) c.requires.0) c.index-nodes-id.result c.in-Chain.left c.in-Chain.last (top_first c.args.self.now.tasks) (top_first c.push_chain.new.tasks)
    (slice_get_read c.args.nodes.now (length c.args.nodes.now) c.args.id.0 c.index-nodes-id.result refl (sum_in_range c.requires.0 c.args.nodes.now c.args.id.0 c.requires.1) c.index-nodes-id.is)
    c.in-Chain.is (read_form (λ name. None) c.requires.0 c.args.nodes.now c.args.id.0 c.index-nodes-id.result _ c.requires.1 c.index-nodes-id.is c.in-Chain.is)
    (c.in_ok-push_chain-in-Chain.ensures ∙ ap (λ l. chain_tasks l c.in-Chain.last ++ top_first c.args.self.now.tasks) c.as_slice.ensures)

pub returns-in_ok-push_call-in-Call-clause-steps : goal.returns-in_ok-push_call-in-Call-clause-steps
returns-in_ok-push_call-in-Call-clause-steps c = λ b left bound e shows ts todos fits.
    unrolled_step c.args.nodes.now b e ts (call_tasks c.in-Call.arguments c.args.id) (top_first c.args.self.now.tasks) (top_first c.push_call.new.tasks) (top_first c.args.self.now.values) (length c.args.self.now.values.items) left
    (read_form b e c.args.nodes.now c.args.id.0 c.index-nodes-id.result _ shows c.index-nodes-id.is c.in-Call.is).tasks todos fits (sym (length-reverse c.args.self.now.values.items))
    (c.in_ok-push_call-in-Call.ensures ∙ ap (λ l. call_tasks l c.args.id ++ top_first c.args.self.now.tasks) c.as_slice-in-Call.ensures)

pub returns-in_ok-push_call-in-Call-clause-smaller : goal.returns-in_ok-push_call-in-Call-clause-smaller
returns-in_ok-push_call-in-Call-clause-smaller c =
    call_shrinks c.args.nodes.now (λ name. None) c.args.id.0 (sum_value (λ name. None) c.requires.0) c.index-nodes-id.result _ c.in-Call.arguments c.args.id (top_first c.args.self.now.tasks) (top_first c.push_call.new.tasks)
    (slice_get_read c.args.nodes.now (length c.args.nodes.now) c.args.id.0 c.index-nodes-id.result refl (sum_in_range c.requires.0 c.args.nodes.now c.args.id.0 c.requires.1) c.index-nodes-id.is)
    c.in-Call.is (read_form (λ name. None) c.requires.0 c.args.nodes.now c.args.id.0 c.index-nodes-id.result _ c.requires.1 c.index-nodes-id.is c.in-Call.is)
    (c.in_ok-push_call-in-Call.ensures ∙ ap (λ l. call_tasks l c.args.id ++ top_first c.args.self.now.tasks) c.as_slice-in-Call.ensures)

pub returns-in-Number-clause-steps : goal.returns-in-Number-clause-steps
returns-in-Number-clause-steps c = λ b left bound e shows ts todos fits.
    let answer = at_place c.index-nodes-id.result.place (number_of (pos c.in-Number.value)) in
    steps_of c.give.result c.args.nodes.now b (keeping left answer) (sum_value b e left) (λ v. perform b ts (v.0 ∷ top_first c.args.self.now.values) v.1) c.give.new.self.tasks c.give.new.self.values left
    (read_form b e c.args.nodes.now c.args.id.0 c.index-nodes-id.result _ shows c.index-nodes-id.is c.in-Number.is left)
    (c.give.ensures.steps c.args.nodes.now b left answer ts c.literal.ensures todos fits)

pub returns-in-Number-clause-smaller : goal.returns-in-Number-clause-smaller
returns-in-Number-clause-smaller c =
    let P = λ (xs : Vec Task Global). tasks_size c.args.nodes.now (top_first xs) < size_of c.args.nodes.now (suc c.args.id.0) c.args.id.0 + tasks_size c.args.nodes.now (top_first c.args.self.now.tasks) in
    on_ok c.give.result (subst P (sym c.give.ensures.kept) (value_shrinks c.args.nodes.now c.args.id.0 (top_first c.args.self.now.tasks)))

pub returns-in-Text-clause-steps : goal.returns-in-Text-clause-steps
returns-in-Text-clause-steps c = λ b left bound e shows ts todos fits.
    steps_of c.give-in-Text.result c.args.nodes.now b (keeping left (Ok (values.Text c.in-Text.text))) (sum_value b e left) (λ v. perform b ts (v.0 ∷ top_first c.args.self.now.values) v.1) c.give-in-Text.new.self.tasks c.give-in-Text.new.self.values left
    (read_form b e c.args.nodes.now c.args.id.0 c.index-nodes-id.result _ shows c.index-nodes-id.is c.in-Text.is left)
    (c.give-in-Text.ensures.steps c.args.nodes.now b left (Ok (values.Text c.in-Text.text)) ts c.text_value.ensures todos fits)

pub returns-in-Text-clause-smaller : goal.returns-in-Text-clause-smaller
returns-in-Text-clause-smaller c =
    let P = λ (xs : Vec Task Global). tasks_size c.args.nodes.now (top_first xs) < size_of c.args.nodes.now (suc c.args.id.0) c.args.id.0 + tasks_size c.args.nodes.now (top_first c.args.self.now.tasks) in
    on_ok c.give-in-Text.result (subst P (sym c.give-in-Text.ensures.kept) (value_shrinks c.args.nodes.now c.args.id.0 (top_first c.args.self.now.tasks)))

pub returns-in-Name-clause-steps : goal.returns-in-Name-clause-steps
returns-in-Name-clause-steps c = λ b left bound e shows ts todos fits.
    let answer = named c.index-nodes-id.result.place (b c.in-Name.name) in
    steps_of c.give-in-Name.result c.args.nodes.now b (keeping left answer) (sum_value b e left) (λ v. perform b ts (v.0 ∷ top_first c.args.self.now.values) v.1) c.give-in-Name.new.self.tasks c.give-in-Name.new.self.values left
    (read_form b e c.args.nodes.now c.args.id.0 c.index-nodes-id.result _ shows c.index-nodes-id.is c.in-Name.is left)
    (c.give-in-Name.ensures.steps c.args.nodes.now b left answer ts (c.named_value.ensures b bound) todos fits)

pub returns-in-Name-clause-smaller : goal.returns-in-Name-clause-smaller
returns-in-Name-clause-smaller c =
    let P = λ (xs : Vec Task Global). tasks_size c.args.nodes.now (top_first xs) < size_of c.args.nodes.now (suc c.args.id.0) c.args.id.0 + tasks_size c.args.nodes.now (top_first c.args.self.now.tasks) in
    on_ok c.give-in-Name.result (subst P (sym c.give-in-Name.ensures.kept) (value_shrinks c.args.nodes.now c.args.id.0 (top_first c.args.self.now.tasks)))
