use Rattle.std.proofs.Common.{◌≡◌, ◌∷◌, ◌++◌, [], ◌∙◌, ap, sym, List, ℕ, refl, reverse, vec_len, arith}
use Rattle.std.proofs.lemmas.List.{nil_from_length, reverse-append}
use Rattle.std.specs.Option.{option_to_list, option_map}
use Rattle.std.proofs.lemmas.Result.{err_from_is_err_and}
use Rattle.std.specs.HashMap.{get_by_text}
use Rattle.embed_script.specs.declared.evaluate.Task.TheVariants as tasks
use Rattle.embed_script.specs.Evaluation.{sum_value}
use Rattle.embed_script.specs.Tasks.{perform, top_first, last_value, binding_of}
use Rattle.embed_script.proofs.Steps.{begun, next, goes_on, ends_so, one_left}
use Rattle.embed_script.proofs.evaluate.evaluate.Goals as goal

pub loop-task-init : goal.loop-task-init
loop-task-init c = record {
  gives = λ b bound e shows.
      begun c.args.nodes.now b e c.args.id c.push.new.self.items c.new-2.result.items c.args.state.now shows
      (c.in_ok-push.ensures.items ∙ ap (λ xs. xs ++ tasks.Evaluate c.args.id ∷ []) c.new.ensures.items) c.new-2.ensures.items;
  serves = c.requires.serves;
}

pub step-requires-clause-shows : goal.step-requires-clause-shows
step-requires-clause-shows c =
    let b = λ (name : List ℕ). option_map binding_of (get_by_text c.args.names.now name) in
    let n = next c.args.nodes.now b (sum_value b c.requires.shows.0 c.args.state.now) c.in-Some.task c.loop-task.evaluation.tasks.items c.pop.new.self.items c.loop-task.evaluation.values.items c.loop-task.state
    (c.loop-task.invariant.gives b (λ name. refl) c.requires.shows.0 c.requires.shows.1) c.in-Some.ensures.items in
    (n.todo, n.rest, n.shown, n.fits)

pub loop-task-preserved : goal.loop-task-preserved
loop-task-preserved c = record {
  gives = λ b bound e shows.
      let n = next c.args.nodes.now b (sum_value b e c.args.state.now) c.in-Some.task c.loop-task.evaluation.tasks.items c.pop.new.self.items c.loop-task.evaluation.values.items c.loop-task.state
      (c.loop-task.invariant.gives b bound e shows) c.in-Some.ensures.items in
      goes_on c.args.nodes.now b (sum_value b e c.args.state.now) (perform b (n.todo ∷ n.rest) (top_first c.loop-task.evaluation.values) c.loop-task.state) (top_first c.step.new.self.tasks) (top_first c.step.new.self.values) c.step.new.state
      n.gives (c.in_ok-step.ensures.steps b bound n.todo n.rest n.shown n.fits);
  serves = c.in_ok-step.ensures.serves;
}

pub returns-in_err-step-clause-meets : goal.returns-in_err-step-clause-meets
returns-in_err-step-clause-meets c = λ b bound e shows.
    let p = err_from_is_err_and c.from_residual-in_err-step.result c.from_residual-in_err-step.ensures.1 in
    let n = next c.args.nodes.now b (sum_value b e c.args.state.now) c.in-Some.task c.loop-task.evaluation.tasks.items c.pop.new.self.items c.loop-task.evaluation.values.items c.loop-task.state
    (c.loop-task.invariant.gives b bound e shows) c.in-Some.ensures.items in
    rw (p.1, p.2) (ends_so c.in_err-step.field-0.0 (sum_value b e c.args.state.now) (perform b (n.todo ∷ n.rest) (top_first c.loop-task.evaluation.values) c.loop-task.state)
    n.gives (c.in_err-step.ensures.steps b bound n.todo n.rest n.shown n.fits))

pub unwrap-value-requires : goal.unwrap-value-requires
unwrap-value-requires c =
    let b = λ (name : List ℕ). option_map binding_of (get_by_text c.args.names.now name) in
    let tasks_none : vec_len c.loop-task.evaluation.tasks ≡ 0 = c.in_default.ensures.cases.0 in
    let none_left : c.loop-task.evaluation.tasks.items ≡ [] = nil_from_length c.loop-task.evaluation.tasks.items (sym c.loop-task.evaluation.tasks.ok.0 ∙ tasks_none) in
    let one = (one_left c.args.nodes.now b (sum_value b c.requires.shows.0 c.args.state.now) c.loop-task.evaluation.tasks.items c.loop-task.evaluation.values.items c.loop-task.state (c.loop-task.invariant.gives b (λ name. refl) c.requires.shows.0 c.requires.shows.1) none_left).0 in
    c.pop-2.ensures.variant.1 (omega (arith, one, c.loop-task.evaluation.values.ok.0))

pub returns-clause-meets : goal.returns-clause-meets
returns-clause-meets c = λ b bound e shows.
    let left = c.loop-task.state in
    let tasks_none : vec_len c.loop-task.evaluation.tasks ≡ 0 = c.in_default.ensures.cases.0 in
    let none_left : c.loop-task.evaluation.tasks.items ≡ [] = nil_from_length c.loop-task.evaluation.tasks.items (sym c.loop-task.evaluation.tasks.ok.0 ∙ tasks_none) in
    let is = (one_left c.args.nodes.now b (sum_value b e c.args.state.now) c.loop-task.evaluation.tasks.items c.loop-task.evaluation.values.items left (c.loop-task.invariant.gives b bound e shows) none_left).1 in
    let last : c.loop-task.evaluation.values.items ≡ c.pop-2.new.self.items ++ c.unwrap-value.result ∷ [] = c.pop-2.ensures.items ∙ ap (λ o. c.pop-2.new.self.items ++ option_to_list o) c.unwrap-value.ensures in
    is ∙ ap (λ vs. last_value (reverse vs) left) last ∙ ap (λ vs. last_value vs left) (reverse-append c.pop-2.new.self.items (c.unwrap-value.result ∷ []))
